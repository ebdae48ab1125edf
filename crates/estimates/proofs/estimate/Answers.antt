-- `estimate` counts who takes part and walks the path, where there is one. Assumes nothing.
use Rattle.std.proofs.Common.{rules}
use Rattle.rules.proofs.Routes.{all_routes, all_room}
use Rattle.rules.specs.Filling.{takes_part}
use Rattle.estimates.proofs.estimate.Goals as goal

pub loads_of-load-requires-clause-routes : goal.loads_of-load-requires-clause-routes
loads_of-load-requires-clause-routes c = all_routes c.requires.sound

pub loads_of-load-requires-clause-room : goal.loads_of-load-requires-clause-room
loads_of-load-requires-clause-room c = all_room c.requires.sound

pub path_share-share-requires-clause-right : goal.path_share-share-requires-clause-right
path_share-share-requires-clause-right c = c.loads_of-load.ensures takes_part (λ t b k. search rules)

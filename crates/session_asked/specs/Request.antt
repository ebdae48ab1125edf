-- What every line that was read keeps to. Definitions only.
use Rattle.std.specs.Prelude.{◌≤◌}
use Rattle.session_asked.specs.declared.Request.{Request}

-- A path has at most 128 numbers, and a lent buffer at most 1,024 places.
abbrev pub Within : Request → Type 0
Within r = (r.hops ≤ 128) × (r.places ≤ 1024)

-- `session_pages::Page::put_text` meets its contract: the part written has the text's length. Assumes nothing.
use Rattle.std.proofs.Common.{arith}
use Rattle.std.proofs.lemmas.Slice.{put_mid-paste}
use Rattle.session_pages.specs.Page.{with_text}
use Rattle.session_pages.proofs.Page.put_text.Goals as goal

pub returns-clause-written : goal.returns-clause-written
unfolding with_text
returns-clause-written c = put_mid-paste _ _ _ _ _ _ c.copy_from_slice.ensures.after (omega arith) (omega arith)

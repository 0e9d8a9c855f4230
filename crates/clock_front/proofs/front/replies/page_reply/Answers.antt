-- Proves the bytes of a reply from those of its page.
use Rattle.serde_json.specs.Written.{compact_text}
use Rattle.clock_front.proofs.PageLaws.{has_space, written_page}
use Rattle.clock_front.proofs.front.replies.page_reply.Goals as goal

pub written-requires : goal.written-requires
written-requires c = has_space c.in-Ok.text (compact_text c.requires.0) (rw c.in-Ok.is at c.requires.1)

pub returns-in-Ok : goal.returns-in-Ok
returns-in-Ok c = λ value is. written_page _ _ _ _ value c.written.ensures (rw c.in-Ok.is at is)

pub returns-in-Err : goal.returns-in-Err
returns-in-Err c = λ value is. rw c.in-Err.is at is

-- The value that the reader by bytes finds means the closing.
use Rattle.clock_bodies.specs.CloseBodies.{close_body}
use Rattle.clock_bodies.proofs.BodyScanLaws.{close_means}
use Rattle.clock_bodies.proofs.close_body.read_close.Goals as goal

pub returns-clause-ok : goal.returns-clause-ok
unfolding close_body
returns-clause-ok c = c.read_body.ensures.ok (λ body. close_means body.round body.increments body.ties)

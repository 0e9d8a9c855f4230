-- The value that the reader by bytes finds means the sheet.
use Rattle.clock_bodies.specs.Bodies.{put_body}
use Rattle.clock_bodies.proofs.BodyScanLaws.{put_means}
use Rattle.clock_bodies.proofs.put_body.read_put.Goals as goal

pub returns-clause-ok : goal.returns-clause-ok
unfolding put_body
returns-clause-ok c = c.read_body.ensures.ok put_means

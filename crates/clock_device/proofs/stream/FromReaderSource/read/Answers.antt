-- The kind of the error decides what is counted.
use Rattle.std.proofs.Common.{sym}
use Rattle.std.proofs.Math.Bool.{or-true}
use Rattle.clock_device.proofs.stream.FromReaderSource.read.Goals as goal

pub returns-in-Err-clause-interrupted : goal.returns-in-Err-clause-interrupted
returns-in-Err-clause-interrupted g c = c.saturating_add-self-in-Err.ensures

pub returns-in-Err-2-clause-failed : goal.returns-in-Err-2-clause-failed
returns-in-Err-2-clause-failed g c = sym (or-true c.args.self.now.has_failed)

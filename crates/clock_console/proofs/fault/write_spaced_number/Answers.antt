-- The space and then the number are written.
use Rattle.std.proofs.Common.{codes, decimal}
use Rattle.clock_device.proofs.Streams.{both_written, first_failed}
use Rattle.clock_console.proofs.fault.write_spaced_number.Goals as goal

pub returns-in_err-write_all-clause-bytes : goal.returns-in_err-write_all-clause-bytes
returns-in_err-write_all-clause-bytes g c = rw c.in-Some.is (first_failed _ _ _ (codes " ")
    (decimal c.in-Some.number) _ c.from_residual.ensures.1 c.in_err-write_all.ensures.bytes)

pub returns-clause-bytes : goal.returns-clause-bytes
returns-clause-bytes g c = rw c.in-Some.is (both_written _ _ _ (codes " ")
    (decimal c.in-Some.number) _ c.in_ok-write_all.ensures.bytes c.write_number.ensures.bytes)

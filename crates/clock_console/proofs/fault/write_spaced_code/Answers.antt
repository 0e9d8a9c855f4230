-- The space and then the code are written.
use Rattle.std.proofs.Common.{codes}
use Rattle.clock_device.proofs.Streams.{both_written, first_failed}
use Rattle.clock_api.specs.Codes.{code_text}
use Rattle.clock_console.proofs.fault.write_spaced_code.Goals as goal

pub returns-in_err-write_all-clause-bytes : goal.returns-in_err-write_all-clause-bytes
returns-in_err-write_all-clause-bytes g c = rw c.in-Some.is (first_failed _ _ _ (codes " ")
    (code_text c.in-Some.code) _ c.from_residual.ensures.1 c.in_err-write_all.ensures.bytes)

pub returns-clause-bytes : goal.returns-clause-bytes
returns-clause-bytes g c =
    rw c.in-Some.is (both_written _ _ _ (codes " ") (code_text c.in-Some.code) _ c.in_ok-write_all.ensures.bytes
    (rw (c.as_bytes.ensures.value, c.text.ensures) at c.write_all-2.ensures.bytes))

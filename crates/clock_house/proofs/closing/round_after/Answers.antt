-- Proves that the next number is small.
use Rattle.std.proofs.Common.{arith}
use Rattle.clock_house.proofs.closing.round_after.Goals as goal

pub overflow_add-result : goal.overflow_add-result
overflow_add-result c = omega (arith, c.requires)

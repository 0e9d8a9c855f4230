-- Proves that the parts are those of the closing.
use Rattle.std.proofs.Common.{ap}
use Rattle.clock_closing.specs.Prepared.{PreparedClosing}
use Rattle.clock_house.proofs.closing.parts_of.Goals as goal

pub returns-clause-closed : goal.returns-clause-closed
returns-clause-closed c = ap (λ (one : PreparedClosing). one.closed) c.prepared.view_is

pub returns-clause-consistent : goal.returns-clause-consistent
returns-clause-consistent c = c.prepared.invariant

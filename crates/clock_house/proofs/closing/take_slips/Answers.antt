-- Proves that no sheet is in force after the loop.
use Rattle.std.proofs.Common.{◌≡◌, length, arith}
use Rattle.std.specs.Prelude.{None}
use Rattle.std.proofs.lemmas.List.FromFn.{fill_by_all}
use Rattle.clock_house.proofs.closing.take_slips.Goals as goal

pub returns-clause-sheets : goal.returns-clause-sheets
returns-clause-sheets c =
    let done : c.loop-bidder.bidder ≡ length c.args.sheets.now = omega (arith, c.requires.sheets) in
    fill_by_all (λ bidder. None) c.loop-bidder.sheets (length c.args.sheets.now) None c.loop-bidder.invariant.sheets
    (λ k lt. c.loop-bidder.invariant.none k (omega (arith, lt, done)))

use Rattle.std.proofs.Common.{◌≡◌, ◌<◌, ◌⊎◌, arith, inl, inr, length, refl, rules, take}
use Rattle.std.proofs.lemmas.List.{length-take-le}
use Rattle.clock_journal.proofs.Compared.{ArePieces, differ, ends, further, next_pieces}
use Rattle.clock_journal.proofs.mirror.compare.Given.{Over}
use Rattle.clock_journal.proofs.mirror.compare.Goals.{After-common_of-common, then-count-here-via-then-count-here}
use Rattle.clock_journal.proofs.mirror.compare.Goals.{then-count-here-via-else-count-here+then-limit-there}
use Rattle.clock_journal.proofs.mirror.compare.Goals as goal

-- the next pieces of both
pieces : (g : Over) (c : After-common_of-common g) → ArePieces (g.S.Source.report c.args.one.now).left
    (g.S.Source.report c.fill.new.source).left (g.T.Source.report c.args.other.now).left
    (g.T.Source.report c.fill-in-loop-count.new.source).left c.loop-count.place c.common_of-common.result
    (take c.in-Ok.count c.fill.new.buffer) (take c.in-Ok-fill.limit c.fill-in-loop-count.new.buffer)
    c.in-Ok.count c.in-Ok-fill.limit
pieces g c =
    next_pieces _ (g.S.Source.report c.loop-count.one).left _ _ (g.T.Source.report c.loop-count.other).left
    _ _ _ _ _ _ _ c.loop-count.invariant.2 c.in-Ok.ensures.bytes c.in-Ok-fill.ensures.bytes c.common_of-common.ensures
    (length-take-le c.in-Ok.count c.fill.new.buffer c.in-Ok.ensures.within)
    (length-take-le c.in-Ok-fill.limit c.fill-in-loop-count.new.buffer c.in-Ok-fill.ensures.within)

pub returns-then-common-min-clause-err : goal.returns-then-common-min-clause-err
returns-then-common-min-clause-err g c =
    differ (pieces g (goal.at.returns-then-common-min-clause-err g c).After-common_of-common)
    (omega (arith, c.if-common-min.true, c.min.ensures))

pub returns-then-count-here-clause-ok : goal.returns-then-count-here-clause-ok
returns-then-count-here-clause-ok g c =
    let whole = length c.fill.new.buffer in
    let alike : whole ≡ length c.fill-in-loop-count.new.buffer = search rules in
    let some : (c.in-Ok.count < whole) ⊎ (c.in-Ok-fill.limit < whole) = elim c.then-count-here.branch [
      | then-count-here-via-then-count-here w ↦ inl w.if-count-here.true
      | then-count-here-via-else-count-here+then-limit-there w ↦ inr (omega (arith, w.if-limit-there.true, alike))
    ] in
    ends (pieces g (goal.at.returns-then-count-here-clause-ok g c).After-common_of-common) whole
    (omega (arith, c.if-common-min.false, c.min.ensures)) some c.in-Ok.ensures.out
    (λ few. c.in-Ok-fill.ensures.out (omega (arith, few, alike)))

pub loop-count-preserved : goal.loop-count-preserved
loop-count-preserved g c =
    let alike : length c.fill.new.buffer ≡ length c.fill-in-loop-count.new.buffer = search rules in
    let many = c.in-Ok.ensures.within in
    let others_many = c.in-Ok-fill.ensures.within in (
      alike,
      search rules,
      further (pieces g (goal.at.loop-count-preserved g c).After-common_of-common) _ (length c.fill.new.buffer) refl
          (omega (arith, c.if-count-here.false)) (omega (arith, c.if-limit-there.false, alike)) (omega (arith, many))
          (omega (arith, others_many, alike)) (omega (arith, c.if-common-min.false, c.min.ensures)),
    )

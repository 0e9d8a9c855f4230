-- The loop moves the start of each later group down by one. None is 0, since the removed entry is before it.
use Rattle.std.proofs.Common.{◌≡◌, ◌∙◌, ◌-◌, List, ℕ, ap, length, arith, subst, sym}
use Rattle.std.specs.Prelude.{slice_index}
use Rattle.clock_terms.specs.inside.Rows.{AreStarts}
use Rattle.clock_terms.proofs.StartLaws.{rewritten, some_before, starts_taken}
use Rattle.clock_terms.proofs.held_list.take_out.Goals as goal

pub overflow_sub-starts : goal.overflow_sub-starts
overflow_sub-starts c =
    let same = c.as_mut_slice-starts.ensures.value in
    let group = c.loop-group.group in
    let within = c.loop-group-test.true in
    let some = some_before c.args.held.now.items c.args.place c.args.product c.args.starts.now.items group
    c.requires.place c.requires.starts (omega (arith, within, ap length same)) c.loop-group.auto.group in
    let same_here = ap (λ (list : List ℕ). slice_index list group) same in
    omega (arith, some, c.loop-group.invariant.ahead group (omega arith), same_here)

pub returns-clause-starts : goal.returns-clause-starts
returns-clause-starts c =
    let loop = c.loop-group.invariant in
    let same = c.as_mut_slice-starts.ensures.value in
    let same_at : (group : ℕ) → slice_index c.as_mut_slice-starts.result.now group
    ≡ slice_index c.args.starts.now.items group = λ group. ap (λ (list : List ℕ). slice_index list group) same in
    let count = sym (loop.kept ∙ c.as_mut_slice-starts.ensures.len) in
    subst (AreStarts c.remove.new.self.items) (sym (rewritten c.args.starts.now.len c.loop-group.starts
    c.args.starts.now.items count))
    (starts_taken c.args.held.now.items c.remove.new.self.items c.requires.order.0 c.args.place c.args.product
    c.args.starts.now.items c.loop-group.starts c.remove.ensures.items c.requires.order.1 c.requires.place
    c.requires.starts (loop.kept ∙ ap length same) (λ group own. loop.below group own ∙ same_at group)
    (λ group behind within.
    loop.moved group behind (omega (arith, within, c.loop-group-test.false, loop.kept))
    ∙ ap (λ (start : ℕ). start - 1) (same_at group)))

-- The loop moves the start of each later group up by one, as an inserted entry requires.
use Rattle.std.proofs.Common.{◌≡◌, ◌∙◌, ◌+◌, List, ℕ, ap, insert, length, arith, rules, subst, sym}
use Rattle.std.specs.Prelude.{slice_index}
use Rattle.clock_terms.specs.inside.Rows.{AreStarts}
use Rattle.clock_terms.proofs.StartLaws.{rewritten, starts_put}
use Rattle.clock_terms.proofs.held_list.put_in.Goals as goal

pub returns-clause-starts : goal.returns-clause-starts
returns-clause-starts c =
    let loop = c.loop-group.invariant in
    let put : c.insert.new.self.items ≡ insert c.args.held.now.items c.args.place c.args.one = search rules in
    let same = c.as_mut_slice-starts.ensures.value in
    let same_at : (group : ℕ) → slice_index c.as_mut_slice-starts.result.now group
    ≡ slice_index c.args.starts.now.items group = λ group. ap (λ (list : List ℕ). slice_index list group) same in
    let count = sym (loop.kept ∙ c.as_mut_slice-starts.ensures.len) in
    subst (AreStarts c.insert.new.self.items) (sym (rewritten c.args.starts.now.len c.loop-group.starts
    c.args.starts.now.items count))
    (starts_put c.args.held.now.items c.insert.new.self.items c.args.one c.args.place c.args.starts.now.items
    c.loop-group.starts put c.requires.place c.requires.starts (loop.kept ∙ ap length same)
    (λ group own. loop.below group own ∙ same_at group) (λ group behind within.
    loop.moved group behind (omega (arith, within, c.loop-group-test.false, loop.kept))
    ∙ ap (λ (start : ℕ). start + 1) (same_at group)))

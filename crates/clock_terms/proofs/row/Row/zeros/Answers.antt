-- Without entries each demand is 0 and each group starts at index 0.
use Rattle.std.proofs.Common.{◌≡◌, ◌+◌, ◌/◌, ℕ, List, length, replicate, ap, ◌∙◌, arith, rules}
use Rattle.std.proofs.lemmas.List.{length-replicate}
use Rattle.clock_terms.specs.declared.held_list.PositiveDemand.{PositiveDemand}
use Rattle.clock_terms.specs.HeldDemands.{demands_of}
use Rattle.clock_terms.specs.inside.Rows.{group_size}
use Rattle.clock_terms.proofs.HeldLaws.{none_held, order_none}
use Rattle.clock_terms.proofs.StartLaws.{starts_none}
use Rattle.clock_terms.proofs.row.Row.zeros.Goals as goal

pub invariant_of-result : goal.invariant_of-result
invariant_of-result c =
    let groups = c.args.products / group_size + 1 in
    let held = c.in_ok-with_capacity in
    let zeros : c.in_ok-vec.field-0.items ≡ replicate groups 0 = search rules in
    let count = ap (λ (list : List ℕ). length list) zeros ∙ length-replicate {A = ℕ} groups 0 in
    record {
      few = c.requires;
      order = order_none held.field-0.items c.args.products held.ensures.items;
      room = omega (arith, held.ensures.capacity);
      searched = omega (arith, count);
      groups = omega (arith, count, c.requires);
      starts = starts_none held.field-0.items c.in_ok-vec.field-0.items groups held.ensures.items zeros;
    }

pub returns : goal.returns
returns c = ap (λ (held : List PositiveDemand). demands_of c.args.products held) c.in_ok-with_capacity.ensures.items
    ∙ none_held c.args.products

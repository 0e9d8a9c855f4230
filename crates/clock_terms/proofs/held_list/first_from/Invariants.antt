use Rattle.std.specs.Prelude.{◌<◌}
use Rattle.std.specs.List.{AllWithin}
use Rattle.clock_terms.proofs.held_list.first_from.Given as goal

-- all entries so far are for lower products
abbrev pub invariant-loop-place : goal.invariant-loop-place
invariant-loop-place l = AllWithin (λ one. one.product < l.product) l.held 0 l.place

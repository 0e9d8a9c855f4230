-- The rows that passed are the grid.
use Rattle.std.proofs.Common.{◌≡◌, None, true, List, ℕ, zip, sym, subst, ◌∙◌}
use Rattle.clock_terms.specs.Faults.{first_fault, in_turn}
use Rattle.clock_setup.specs.OpeningDocument.{has_counts, row_checks}
use Rattle.clock_setup.proofs.OpeningLaws.{opened}
use Rattle.clock_setup.proofs.opening_scan.accepted_grid.Goals as goal

pub returns-clause-ok : goal.returns-clause-ok
returns-clause-ok c =
    let setup = c.args.setup.now in
    let passes = c.if-not-are_accepted.false in
    let counts = subst (λ (rows : List (List ℕ)). has_counts setup rows ≡ true) c.as_slice.ensures.value
    (c.are_accepted.ensures.counts passes) in
    let passed = subst (λ (rows : List (List ℕ)). first_fault (in_turn (row_checks setup.products) 0
    (zip setup.bidders rows)) ≡ None) c.as_slice.ensures.value (c.are_accepted.ensures.passed passes) in
    opened setup c.args.demands.items c.args.increment c.in_ok-grid.grid c.in_ok-grid.ensures counts passed
    (sym c.is_within.ensures ∙ c.if-not-is_within.false)

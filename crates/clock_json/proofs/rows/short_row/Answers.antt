use Rattle.std.proofs.Common.{◌≡◌, ◌<◌, ◌≤◌, ℕ, List, length, map, get_or, refl, sym, ◌∙◌, arith, rules}
use Rattle.std.proofs.lemmas.List.{length-map, ext_get_or, get_or-map}
use Rattle.std.proofs.lemmas.Grind.{common_steps}
use Rattle.clock_json.specs.Rows.{shortened}
use Rattle.clock_json.proofs.rows.short_row.Goals as goal

-- places that have the numbers, each shortened
written : (places numbers : List ℕ) → length places ≡ length numbers → ((k : ℕ) → k < length numbers
    → get_or places k 0 ≡ shortened (get_or numbers k 0)) → places ≡ map shortened numbers
written places numbers same each =
    ext_get_or 0 places (map shortened numbers) (same ∙ sym (length-map numbers shortened))
    (λ k lt. each k (omega (arith, same)) ∙ sym (get_or-map shortened numbers k 0 0 (omega (arith, same))))

-- numbers that are short are as they are shortened
unchanged : (numbers : List ℕ) → ((k : ℕ) → k < length numbers → get_or numbers k 0 ≤ 65535)
    → map shortened numbers ≡ numbers
unchanged numbers short = sym (written numbers numbers refl (λ k lt. omega (arith, short k lt)))

pub returns-clause-row : goal.returns-clause-row
returns-clause-row c =
    let held : c.loop-place.row.items ≡ map shortened c.args.numbers.now = written c.loop-place.row.items
    c.args.numbers.now (grind (arith, common_steps)) (λ k lt. c.loop-place.invariant.written k (omega arith)) in
    c.from_vec.ensures ∙ held

pub returns-clause-same : goal.returns-clause-same
returns-clause-same c =
    λ none. unchanged c.args.numbers.now (λ k lt. c.loop-place.invariant.short (search rules) k (omega arith))

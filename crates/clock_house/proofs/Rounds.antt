-- Proves what the fault of a request for a round says of the request.
use Rattle.std.proofs.Common.{◌≡◌, ℕ, List, [], ◌∷◌, Bool, true, false, not, ◌==◌, refl, ap, sym, ◌∙◌}
use Rattle.std.specs.Prelude.{Option, Some, None}
use Rattle.std.specs.Bool.{then_some}
use Rattle.std.proofs.lemmas.Bool.{eqb-true}
use Rattle.std.proofs.lemmas.Option.{none-some}
use Rattle.clock_terms.specs.Faults.{first_fault}
use Rattle.clock_house.specs.PublicState.{PublicState}
use Rattle.clock_house.specs.inside.Rounds.{IsCurrent, round_fault}

-- The fault from the stored end and number, which are those of the auction.
module _ {F : Type 0} (late : F) (other : ℕ → F) (now : PublicState) (round : ℕ) (ended : Bool) (number : ℕ)
    (ended_is : ended ≡ now.ended) (round_is : number ≡ now.round) where
  abbrev by : Bool → Bool → ℕ → Option F
  by end current n = first_fault ((late, not end) ∷ (other n, current) ∷ [])

  stored : by ended (round == number) number ≡ round_fault late other now round
  stored = ap (λ (end : Bool). by end (round == number) number) ended_is
      ∙ ap (λ (n : ℕ). by now.ended (round == n) n) round_is

  -- After the end, any request is late.
  pub late_fault : ended ≡ true → Some late ≡ round_fault late other now round
  late_fault after = sym (ap (λ (end : Bool). by end (round == number) number) after) ∙ stored

  tested : (current : Bool) → then_some (not current) (other number) ≡ by false current number
  tested true = refl
  tested false = refl

  -- Before it, a request for another round has a fault.
  pub other_fault : ended ≡ false
      → then_some (not (round == number)) (other number) ≡ round_fault late other now round
  other_fault going =
      tested (round == number) ∙ sym (ap (λ (end : Bool). by end (round == number) number) going) ∙ stored

module _ {F : Type 0} (late : F) (other : ℕ → F) (now : PublicState) (round : ℕ) where
  abbrev checks : Bool → Bool → List (F × Bool) → List (F × Bool)
  checks ended current more = (late, not ended) ∷ (other now.round, current) ∷ more

  passed : (ended current : Bool) → first_fault (checks ended current []) ≡ None → (ended ≡ false) × (current ≡ true)
  passed true current e = absurd (none-some _ (sym e))
  passed false false e = absurd (none-some _ (sym e))
  passed false true e = (refl, refl)

  -- A request without such a fault is for the current round.
  pub current_of : round_fault late other now round ≡ None → IsCurrent now round
  current_of none =
      let tests = passed now.ended (round == now.round) none in
      record { going = tests.0; number = eqb-true round now.round tests.1 }

  found : (ended current : Bool) (fault : F) (more : List (F × Bool))
      → first_fault (checks ended current []) ≡ Some fault → first_fault (checks ended current more) ≡ Some fault
  found true current fault more e = e
  found false false fault more e = e
  found false true fault more e = absurd (none-some _ e)

  -- Such a fault is the first one, whatever checks come after.
  pub first_of_more : (fault : F) (more : List (F × Bool)) → round_fault late other now round ≡ Some fault
      → first_fault ((late, not now.ended) ∷ (other now.round, round == now.round) ∷ more) ≡ Some fault
  first_of_more fault more is = found now.ended (round == now.round) fault more is

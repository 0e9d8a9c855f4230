-- Proves that the list of what each bidder has is the list of eligibilities and the list of demands, joined.
use Rattle.std.proofs.Common.{◌≡◌, ℕ, zero, suc, ◌<◌, List, [], ◌∷◌, refl, ap, ◌∙◌, arith, get_or, length}
use Rattle.std.specs.Prelude.{map}
use Rattle.std.proofs.lemmas.List.{length-map}
use Rattle.clock_terms.specs.Demands.{row_of}
use Rattle.clock_closing.specs.Holdings.{Holding, holdings_of}
use Rattle.clock_closing.specs.OpenRound.{holding_at}

-- The joined list gives back the two lists.
pub held_eligibilities : (eligibilities : List ℕ) (demands : List (List ℕ)) → length demands ≡ length eligibilities →
    eligibilities ≡ map (λ (held : Holding). held.eligibility) (holdings_of eligibilities demands)
held_eligibilities [] demands many = refl
held_eligibilities (own ∷ eligibilities) [] many = absurd (omega (arith, many))
held_eligibilities (own ∷ eligibilities) (row ∷ demands) many =
    ap (λ (rest : List ℕ). own ∷ rest) (held_eligibilities eligibilities demands (omega (arith, many)))

pub held_demands : (eligibilities : List ℕ) (demands : List (List ℕ)) → length demands ≡ length eligibilities →
    demands ≡ map (λ (held : Holding). held.demands) (holdings_of eligibilities demands)
held_demands [] [] many = refl
held_demands [] (row ∷ demands) many = absurd (omega (arith, many))
held_demands (own ∷ eligibilities) [] many = absurd (omega (arith, many))
held_demands (own ∷ eligibilities) (row ∷ demands) many =
    ap (λ (rest : List (List ℕ)). row ∷ rest) (held_demands eligibilities demands (omega (arith, many)))

-- The two lists of a joined list give that list back.
pub held_again : (held : List Holding) →
    holdings_of (map (λ (own : Holding). own.eligibility) held) (map (λ (own : Holding). own.demands) held) ≡ held
held_again [] = refl
held_again (own ∷ held) = ap (λ (rest : List Holding). own ∷ rest) (held_again held)

-- The joined list is as long as the list of eligibilities.
pub held_many : (eligibilities : List ℕ) (demands : List (List ℕ)) → length demands ≡ length eligibilities →
    length eligibilities ≡ length (holdings_of eligibilities demands)
held_many eligibilities demands many =
    ap length (held_eligibilities eligibilities demands many)
    ∙ length-map (holdings_of eligibilities demands) (λ (held : Holding). held.eligibility)

-- A bidder's entry in the joined list is its entry in each.
pub held_at : (eligibilities : List ℕ) (demands : List (List ℕ)) (bidder : ℕ) → length demands ≡ length eligibilities
    → bidder < length eligibilities
    → record { eligibility = get_or eligibilities bidder 0; demands = row_of demands bidder }
    ≡ holding_at (holdings_of eligibilities demands) bidder
held_at [] demands bidder many lt = absurd (omega (arith, lt))
held_at (own ∷ eligibilities) [] bidder many lt = absurd (omega (arith, many))
held_at (own ∷ eligibilities) (row ∷ demands) zero many lt = refl
held_at (own ∷ eligibilities) (row ∷ demands) (suc bidder) many lt =
    held_at eligibilities demands bidder (omega (arith, many)) (omega (arith, lt))

-- One step of the loop that checks a list of tie-breaking numbers: the map has the earlier entries, so it decides
-- whether the next one repeats a pair.
use Rattle.std.proofs.Common.{◌≡◌, ℕ, ◌+◌, ◌<◌, List, [], ◌∷◌, ◌++◌, Bool, true, false, not, map, take, drop}
use Rattle.std.proofs.Common.{length, Option, Some, None, is_some, if◌then◌else◌, refl, sym, ap, ◌∙◌}
use Rattle.std.specs.List.{slice_index_or, list_any}
use Rattle.std.specs.Map.{lookup}
use Rattle.std.proofs.lemmas.List.{take_more, map-append, get_or_default}
use Rattle.clock_terms.specs.Faults.{first_fault, in_turn}
use Rattle.clock_terms.proofs.FaultLaws.{turn_passed, turn_failed}
use Rattle.clock_order.specs.declared.ties.Tie.{Tie}
use Rattle.clock_order.specs.declared.ties.TieFault.{TieFault}
use Rattle.clock_order.specs.declared.ties.TieFault.TheVariants.{Range, Repeated}
use Rattle.clock_order.specs.Entries.{tie_of}
use Rattle.clock_order.specs.Ties.{is_tie_of, tie_checks}
use Rattle.clock_order.specs.inside.TieTests.{is_in_range, is_new, checks_of_ties}
use Rattle.clock_order.proofs.Listed.{is_key, list_any-entries}

-- the entry at index i
abbrev pub tie_at : List Tie → ℕ → Tie
tie_at ties i = slice_index_or ties i (record { bidder = 0; product = 0; number = 0 })

-- the map with one more entry at the end
pub listed_more : (ties : List Tie) (i : ℕ) (entries : List ((ℕ × ℕ) × ℕ)) → i < length ties
    → map tie_of entries ≡ take i ties → map tie_of
    (entries ++ (((tie_at ties i).bidder, (tie_at ties i).product), (tie_at ties i).number) ∷ []) ≡ take (i + 1) ties
listed_more ties i entries lt same =
    map-append tie_of entries ((((tie_at ties i).bidder, (tie_at ties i).product), (tie_at ties i).number) ∷ [])
    ∙ ap (λ l. l ++ tie_at ties i ∷ []) same
    ∙ sym (take_more ties i (record { bidder = 0; product = 0; number = 0 }) lt)

module _ (bidders products : ℕ) (ties : List Tie) where
  -- the entries from index i on decide the first fault of the list
  abbrev pub AreAhead : ℕ → Type 0
  AreAhead i = first_fault (in_turn (λ i tie. tie_checks bidders products (take i ties) i tie) i (drop i ties))
      ≡ first_fault (checks_of_ties bidders products ties)

  abbrev earlier_fault : ℕ → Bool → Bool → Option TieFault
  earlier_fault i within fresh = if within then (if fresh then None else Some (Repeated i)) else Some (Range i)

  -- the map has the pair of the entry at index i exactly if an earlier entry has it
  pair_listed : (i : ℕ) (entries : List ((ℕ × ℕ) × ℕ)) → map tie_of entries ≡ take i ties
      → is_some (lookup (is_key (tie_at ties i).bidder (tie_at ties i).product) entries)
      ≡ list_any (is_tie_of (tie_at ties i).bidder (tie_at ties i).product) (take i ties)
  pair_listed i entries same =
      list_any-entries (tie_at ties i).bidder (tie_at ties i).product entries
      ∙ ap (list_any (is_tie_of (tie_at ties i).bidder (tie_at ties i).product)) same

  fails : (i : ℕ) (fault : TieFault) → i < length ties → AreAhead i → first_fault (tie_checks bidders products
      (take i ties) i (tie_at ties i)) ≡ Some fault → first_fault (checks_of_ties bidders products ties) ≡ Some fault
  fails i fault within ahead is =
      sym ahead
      ∙ turn_failed (λ i tie. tie_checks bidders products (take i ties) i tie) ties i (tie_at ties i) fault within
      (get_or_default ties i (record { bidder = 0; product = 0; number = 0 }) (tie_at ties i) within) is

  -- the entry at index i has the first fault: its bidder or product does not exist
  pub range_first : (i : ℕ) → i < length ties → AreAhead i → false ≡ is_in_range bidders products (tie_at ties i)
      → first_fault (checks_of_ties bidders products ties) ≡ Some (Range i)
  range_first i within ahead out =
      fails i (Range i) within ahead (ap (λ b. earlier_fault i b (is_new (take i ties) (tie_at ties i))) (sym out))

  -- the first fault of the entry at index i, if its bidder and product exist
  in_range_at : (i : ℕ) (entries : List ((ℕ × ℕ) × ℕ)) (old : Option ℕ) → map tie_of entries ≡ take i ties
      → true ≡ is_in_range bidders products (tie_at ties i)
      → old ≡ lookup (is_key (tie_at ties i).bidder (tie_at ties i).product) entries → first_fault
      (tie_checks bidders products (take i ties) i (tie_at ties i)) ≡ earlier_fault i true (not (is_some old))
  in_range_at i entries old same range was =
      ap (λ b. earlier_fault i b (is_new (take i ties) (tie_at ties i))) (sym range)
      ∙ ap (λ b. earlier_fault i true (not b)) (sym (ap is_some was ∙ pair_listed i entries same))

  -- the entry at index i has the first fault: an earlier entry has its pair
  pub repeated_first : (i : ℕ) (entries : List ((ℕ × ℕ) × ℕ)) (old : Option ℕ) → i < length ties → AreAhead i
      → map tie_of entries ≡ take i ties → true ≡ is_in_range bidders products (tie_at ties i)
      → old ≡ lookup (is_key (tie_at ties i).bidder (tie_at ties i).product) entries → true ≡ is_some old
      → first_fault (checks_of_ties bidders products ties) ≡ Some (Repeated i)
  repeated_first i entries old within ahead same range was some = fails i (Repeated i) within ahead
      (in_range_at i entries old same range was ∙ ap (λ b. earlier_fault i true (not b)) (sym some))

  -- the entry at index i has no fault
  pub ahead_more : (i : ℕ) (entries : List ((ℕ × ℕ) × ℕ)) (old : Option ℕ) → i < length ties → AreAhead i
      → map tie_of entries ≡ take i ties → true ≡ is_in_range bidders products (tie_at ties i) → old
      ≡ lookup (is_key (tie_at ties i).bidder (tie_at ties i).product) entries → false ≡ is_some old → AreAhead (i + 1)
  ahead_more i entries old within ahead same range was none =
      sym (turn_passed (λ i tie. tie_checks bidders products (take i ties) i tie) ties i (tie_at ties i) within
      (get_or_default ties i (record { bidder = 0; product = 0; number = 0 }) (tie_at ties i) within)
      (in_range_at i entries old same range was ∙ ap (λ b. earlier_fault i true (not b)) (sym none)))
      ∙ ahead

-- an option without a value is `None`
pub none_from_test : {A : Type 0} (o : Option A) → false ≡ is_some o → o ≡ None
none_from_test None e = refl
none_from_test (Some a) e = let bad : false ≡ true = e in cc

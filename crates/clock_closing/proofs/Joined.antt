-- Proves facts about all bidders' requests from facts about the requests of each, which are joined bidder after bidder.
use Rattle.std.proofs.Common.{◌≡◌, ℕ, zero, suc, ◌+◌, ◌<◌, ◌≤◌, List, [], ◌∷◌, ◌++◌, ap, ◌∙◌, arith, All}
use Rattle.std.specs.Prelude.{flat_map}
use Rattle.std.specs.List.{range_with_len, AllPairs}
use Rattle.std.proofs.lemmas.Grind.{flat_map-append}
use Rattle.std.proofs.lemmas.List.{append-nil}
use Rattle.std.proofs.lemmas.List.Elements.{All-append, All-nil, All-weaker}
use Rattle.clock_device.proofs.Pairs.{AllPairs-append}
use Rattle.clock_terms.specs.declared.change.Change.{Change}
use Rattle.clock_terms.specs.Requests.{AreApart}

module _ (requests_by : ℕ → List Change) (bidders : ℕ) where
  -- A property of each bidder's requests is one of all requests.
  pub all_joined : (P : Change → Type 0) (a n : ℕ) → ((bidder : ℕ) → a ≤ bidder → bidder < bidders
      → All P (requests_by bidder)) → a + n ≤ bidders → All P (flat_map requests_by (range_with_len a n))
  all_joined P a zero each within = All-nil P
  all_joined P a (suc n) each within = All-append P (requests_by a) (flat_map requests_by (range_with_len (a + 1) n))
      (each a (omega arith) (omega (arith, within)))
      (all_joined P (a + 1) n (λ bidder from to. each bidder (omega (arith, from)) to) (omega (arith, within)))

  -- No two requests have the same bidder, product, and index in the chain.
  pub apart_joined : ((bidder : ℕ) → bidder < bidders → All (λ (change : Change). change.bidder ≡ bidder)
      (requests_by bidder)) → ((bidder : ℕ) → bidder < bidders → AllPairs AreApart (requests_by bidder)) → (a n : ℕ)
      → a + n ≤ bidders → AllPairs AreApart (flat_map requests_by (range_with_len a n))
  apart_joined own apart a zero within = λ i j d before in_range. absurd (omega (arith, in_range))
  apart_joined own apart a (suc n) within =
      let rest : List Change = flat_map requests_by (range_with_len (a + 1) n) in
      let later : All (λ (change : Change). a + 1 ≤ change.bidder) rest =
      all_joined (λ (change : Change). a + 1 ≤ change.bidder) (a + 1) n (λ bidder from to.
      All-weaker (λ (change : Change). change.bidder ≡ bidder) (λ (change : Change). a + 1 ≤ change.bidder)
      (λ change is. omega (arith, is, from)) (requests_by bidder) (own bidder to)) (omega (arith, within)) in
      let mine : All (λ (change : Change). change.bidder ≡ a) (requests_by a) = own a (omega (arith, within)) in
      AllPairs-append AreApart (requests_by a) rest (apart a (omega (arith, within)))
      (apart_joined own apart (a + 1) n (omega (arith, within)))
      (λ i d i_in j e j_in bidder product place. omega (arith, mine i d i_in, later j e j_in, bidder))

-- A range that is longer by one ends with its next number.
range_more : (a n j : ℕ) → a + n ≡ j → range_with_len a (n + 1) ≡ range_with_len a n ++ j ∷ []
range_more a zero j e = let here : a ≡ j = omega (arith, e) in ap (λ k. k ∷ []) here
range_more a (suc n) j e =
    let next : suc n + 1 ≡ suc (n + 1) = omega arith in
    ap (range_with_len a) next ∙ ap (λ xs. a ∷ xs) (range_more (a + 1) n j (omega (arith, e)))

-- The requests of one more bidder come after the others.
pub flat_map-range_more : {A : Type 0} (f : ℕ → List A) (n : ℕ)
    → flat_map f (range_with_len 0 (n + 1)) ≡ flat_map f (range_with_len 0 n) ++ f n
flat_map-range_more f n =
    ap (flat_map f) (range_more 0 n n (omega arith)) ∙ flat_map-append f (range_with_len 0 n) (n ∷ [])
    ∙ ap (λ xs. flat_map f (range_with_len 0 n) ++ xs) (append-nil (f n))

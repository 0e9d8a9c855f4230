-- The requests of all bidders, in any order, meet the condition of `settle`.
use Rattle.std.proofs.Common.{◌≡◌, ℕ, zero, suc, ◌+◌, ◌*◌, ◌<◌, ◌≤◌, inl, inr, List, [], ◌∷◌, ◌++◌, cond, refl, ap, sym}
use Rattle.std.proofs.Common.{◌∙◌, arith, length, ne_eqb, All}
use Rattle.std.specs.Prelude.{flat_map}
use Rattle.std.specs.List.{range_with_len}
use Rattle.std.specs.List.Sorted.{IsPermutation}
use Rattle.std.proofs.Common.{length-append}
use Rattle.std.proofs.lemmas.List.Sums.{sum_by-cons, sum_by-append}
use Rattle.std.proofs.lemmas.List.Sorted.{sum_by-IsPermutation, length_permutation, All-permutation}
use Rattle.std.proofs.lemmas.Bool.{cases_eq, cases_lt}
use Rattle.std.proofs.lemmas.List.Elements.{All-append, All-head, All-tail, All-weaker, All-nil}
use Rattle.clock_terms.specs.declared.setup.Product.{Product}
use Rattle.clock_terms.specs.declared.prices.PricePair.{PricePair}
use Rattle.clock_terms.specs.Limits.{most_products, most_bidders, most_bids}
use Rattle.clock_terms.specs.Demands.{row_of}
use Rattle.clock_terms.specs.declared.change.Change.{Change}
use Rattle.clock_terms.specs.declared.change.Kind.{Kind}
use Rattle.clock_terms.specs.declared.change.Kind.TheVariants.{Increase, Reduction}
use Rattle.clock_terms.specs.Requests.{same_kind, is_request_of, asked_of, IsChangeOf, KeepWithinCap, AreChangesOf}
use Rattle.clock_processor.specs.Board.{new_board}
use Rattle.clock_processor.specs.Requests.{IsRequest, CanSettle}
use Rattle.clock_processor.proofs.CapsKept.{first_fails}

-- what a request adds to the blocks asked for
abbrev part : Kind → ℕ → ℕ → Change → ℕ
part kind b p change = cond (is_request_of kind b p change) change.amount 0

-- the order of the requests does not matter
pub asked_of-permutation : (kind : Kind) (b p : ℕ) (changes list : List Change) → IsPermutation changes list →
    asked_of kind b p list ≡ asked_of kind b p changes
asked_of-permutation kind b p changes list same = sum_by-IsPermutation (part kind b p) changes list same

pub asked_of-append : (kind : Kind) (b p : ℕ) (changes more : List Change) →
    asked_of kind b p (changes ++ more) ≡ asked_of kind b p changes + asked_of kind b p more
asked_of-append kind b p changes more = sum_by-append (part kind b p) changes more

-- requests of other bidders add nothing
pub asked_of-other : (kind : Kind) (b p owner : ℕ) (changes : List Change) → (owner ≡ b → ⊥) →
    All (λ (change : Change). change.bidder ≡ owner) changes → asked_of kind b p changes ≡ 0
asked_of-other kind b p owner [] differ all = refl
asked_of-other kind b p owner (x ∷ xs) differ all =
    let first : x.bidder ≡ owner = All-head (λ (change : Change). change.bidder ≡ owner) x xs all in
    let none : part kind b p x ≡ 0 =
    first_fails (same_kind kind x.kind) _ _ x.amount (ne_eqb x.bidder b (λ e. differ (sym first ∙ e))) in
    omega (
      arith,
      sum_by-cons (part kind b p) x xs,
      none,
      asked_of-other kind b p owner xs differ
          (All-tail (λ (change : Change). change.bidder ≡ owner) x xs all),
    )

-- a number at least as great as one that it does not equal is above it
above : (a b : ℕ) → a ≤ b → (a ≡ b → ⊥) → a + 1 ≤ b
above a b most differ = elim (cases_lt a b) as
    (λ _. a + 1 ≤ b) [ inl below ↦ omega (arith, below) | inr over ↦ absurd (differ (omega (arith, most, over))) ]

module _ (requests_of : ℕ → List Change) (bidders : ℕ) (own : (bidder : ℕ) → bidder < bidders →
    All (λ (change : Change). change.bidder ≡ bidder) (requests_of bidder)) (kind : Kind) (b p : ℕ) where
  -- bidders with higher numbers add nothing
  asked_of-later : (a n : ℕ) → a + n ≤ bidders → b < a
      → asked_of kind b p (flat_map requests_of (range_with_len a n)) ≡ 0
  asked_of-later a zero within later = refl
  asked_of-later a (suc n) within later =
      omega (
        arith,
        asked_of-append kind b p (requests_of a) (flat_map requests_of (range_with_len (a + 1) n)),
        asked_of-other kind b p a (requests_of a) (λ e. omega (arith, e, later)) (own a (omega (arith, within))),
        asked_of-later (a + 1) n (omega (arith, within)) (omega (arith, later)),
      )

  -- of all requests, only the bidder's own count
  pub asked_of-all : (a n : ℕ) → a + n ≤ bidders → a ≤ b → b < a + n →
      asked_of kind b p (flat_map requests_of (range_with_len a n)) ≡ asked_of kind b p (requests_of b)
  asked_of-all a zero within from to = absurd (omega (arith, from, to))
  asked_of-all a (suc n) within from to =
      let parts : asked_of kind b p (flat_map requests_of (range_with_len a (suc n)))
      ≡ asked_of kind b p (requests_of a) + asked_of kind b p (flat_map requests_of (range_with_len (a + 1) n)) =
      asked_of-append kind b p (requests_of a) (flat_map requests_of (range_with_len (a + 1) n)) in
      elim (cases_eq a b) as
      (λ _. asked_of kind b p (flat_map requests_of (range_with_len a (suc n))) ≡ asked_of kind b p (requests_of b)) [
        | inl same ↦ omega (
          arith,
          parts,
          asked_of-later (a + 1) n (omega (arith, within)) (omega (arith, same)),
          ap (λ one. asked_of kind b p (requests_of one)) same,
        )
        | inr differ ↦ omega (
          arith,
          parts,
          asked_of-other kind b p a (requests_of a) differ (own a (omega (arith, within))),
          asked_of-all (a + 1) n (omega (arith, within)) (above a b from differ) (omega (arith, to)),
        )
      ]

module _ (requests_of : ℕ → List Change) (bidders : ℕ) where
  length_all : (most a n : ℕ) → ((bidder : ℕ) → bidder < bidders → length (requests_of bidder) ≤ most) → a + n ≤ bidders
      → length (flat_map requests_of (range_with_len a n)) ≤ most * n
  length_all most a zero few within = omega arith
  length_all most a (suc n) few within =
      omega (
        arith,
        length-append (requests_of a) (flat_map requests_of (range_with_len (a + 1) n)),
        few a (omega (arith, within)),
        length_all most (a + 1) n few (omega (arith, within)),
      )

  All-all : (P : Change → Type 0) (a n : ℕ) → ((bidder : ℕ) → bidder < bidders → All P (requests_of bidder))
      → a + n ≤ bidders → All P (flat_map requests_of (range_with_len a n))
  All-all P a zero each within = All-nil P
  All-all P a (suc n) each within =
      All-append P (requests_of a) (flat_map requests_of (range_with_len (a + 1) n)) (each a (omega (arith, within)))
      (All-all P (a + 1) n each (omega (arith, within)))

-- If each bidder's requests are those of a good sheet, bid processing can take all of them in any order.
module _ (products : List Product) (prices : List PricePair) (eligibilities : List ℕ) (grid : List (List ℕ))
    (requests_of : ℕ → List Change) (bidders : ℕ) (few : bidders ≤ most_bidders) (rows : length grid ≡ bidders)
    (each : length eligibilities ≡ bidders) (asked : (bidder : ℕ) → bidder < bidders
    → AreChangesOf products prices (row_of grid bidder) bidder (requests_of bidder)) where
  own_requests : (bidder : ℕ) → bidder < bidders
      → All (λ (change : Change). change.bidder ≡ bidder) (requests_of bidder)
  own_requests bidder lt = All-weaker (IsChangeOf products prices bidder) (λ (change : Change). change.bidder ≡ bidder)
      (λ change is. is.bidder) (requests_of bidder) (asked bidder lt).all

  limited : (bidder : ℕ) → bidder < bidders
      → All (IsRequest (length eligibilities) (length products)) (requests_of bidder)
  limited bidder lt =
      All-weaker (IsChangeOf products prices bidder) (IsRequest (length eligibilities) (length products)) (λ change is.
      record { bidder = omega (arith, is.bidder, lt, each); product = is.product; least = is.least; most = is.most })
      (requests_of bidder) (asked bidder lt).all

  pub can_settle_all : (list : List Change) → IsPermutation (flat_map requests_of (range_with_len 0 bidders)) list →
      CanSettle (new_board products eligibilities grid) list
  can_settle_all list same =
      let all : List Change = flat_map requests_of (range_with_len 0 bidders) in
      record {
        applied = refl;
        tests = refl;
        count = omega (
          arith,
          few,
          length_permutation all list same,
          length_all requests_of bidders (most_bids + most_products) 0 bidders
              (λ bidder lt. (asked bidder lt).count) (omega arith),
        );
        requests = All-permutation (IsRequest (length eligibilities) (length products)) all list same (All-all
            requests_of bidders (IsRequest (length eligibilities) (length products)) 0 bidders limited (omega arith));
        caps = λ b p b_in p_in.
            (let lt : b < bidders = omega (arith, b_in, rows) in
            let keep : KeepWithinCap products (row_of grid b) b (requests_of b) p = (asked b lt).capped p p_in in
            let total : (kind : Kind) → asked_of kind b p list ≡ asked_of kind b p (requests_of b) =
            λ kind. asked_of-permutation kind b p all list same ∙ asked_of-all requests_of bidders own_requests kind b p
            0 bidders (omega arith) (omega arith) (omega (arith, lt)) in
            record {
              raised = omega (arith, keep.raised, total Increase);
              reduced = omega (arith, keep.reduced, total Reduction);
            });
      }

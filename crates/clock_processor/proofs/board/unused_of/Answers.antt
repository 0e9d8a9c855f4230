-- The list has one more entry: what the bidder's activity leaves of its eligibility.
use Rattle.std.proofs.Common.{◌≡◌, ℕ, ◌+◌, ◌∷◌, [], ◌++◌, ◌<◌, List, length, get_or, length-append, inl, inr, ap}
use Rattle.std.proofs.Common.{subst, ◌∙◌, arith}
use Rattle.std.proofs.lemmas.Bool.{cases_lt}
use Rattle.std.proofs.lemmas.List.{get_or_append_left, get_or_push}
use Rattle.clock_terms.specs.Demands.{row_of}
use Rattle.clock_terms.specs.Eligibility.{activity}
use Rattle.clock_processor.proofs.board.unused_of.Goals as goal

one_more : (taken : ℕ → ℕ) (old new eligibilities : List ℕ) (n unused : ℕ) → new ≡ old ++ unused ∷ []
    → length old ≡ n → unused + taken n ≡ get_or eligibilities n 0
    → ((k : ℕ) → k < n → get_or old k 0 + taken k ≡ get_or eligibilities k 0)
    → (k : ℕ) → k < n + 1 → get_or new k 0 + taken k ≡ get_or eligibilities k 0
one_more taken old new eligibilities n unused is count here before k below =
    elim (cases_lt k n) as (λ _. get_or new k 0 + taken k ≡ get_or eligibilities k 0) [
      | inl less ↦
          omega (
            arith,
            before k less,
            ap (λ (list : List ℕ). get_or list k 0) is,
            get_or_append_left old (unused ∷ []) 0 k (omega (arith, less, count)),
          )
      | inr more ↦
          let last : n ≡ k = omega (arith, more, below) in
          subst (λ j. get_or new j 0 + taken j ≡ get_or eligibilities j 0) last (omega (
            arith,
            here,
            ap (λ (list : List ℕ). get_or list n 0) is,
            get_or_push old unused 0 n count,
          ))
    ]

pub loop-bidder-preserved : goal.loop-bidder-preserved
loop-bidder-preserved c =
    let products = c.args.products.now in
    let bidder = c.loop-bidder.bidder in
    let taken = λ (k : ℕ). activity products (row_of c.args.grid.now k) in
    let is : c.units_held-taken.result ≡ taken bidder =
    c.units_held-taken.ensures.exact ∙ ap (activity products) c.row.ensures in
    record {
      lengths = ap (λ (list : List ℕ). length list) c.push.ensures.items ∙ length-append c.loop-bidder.unused.items _
          ∙ ap (λ n. n + 1) c.loop-bidder.invariant.lengths;
      room = omega (arith, c.loop-bidder.invariant.room, c.push.ensures.room);
      sums = one_more taken c.loop-bidder.unused.items c.push.new.self.items c.args.eligibilities.now bidder _
          c.push.ensures.items c.loop-bidder.invariant.lengths
          (omega (
            arith,
            is,
            c.requires.within.within bidder
                (omega (arith, c.loop-bidder-test.true, c.requires.within.bidders)),
          )) c.loop-bidder.invariant.sums;
    }

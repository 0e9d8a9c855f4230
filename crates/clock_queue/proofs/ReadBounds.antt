-- The lists that one read of each request makes, and the bound on the reads.
use Rattle.std.proofs.Common.{◌≡◌, ℕ, ◌+◌, ◌*◌, ◌<◌, ◌≤◌, ◌++◌, ◌∷◌, [], List, map, take, get_or, length, All, ap, sym}
use Rattle.std.proofs.Common.{subst, ◌∙◌, arith}
use Rattle.std.proofs.Math.Nat.{mul-le-mul_left}
use Rattle.std.proofs.lemmas.List.{map-append, take_more}
use Rattle.std.proofs.lemmas.List.Elements.{All-push, All-weaker}
use Rattle.clock_terms.specs.declared.change.Change.{Change}
use Rattle.clock_processor.specs.Board.{one_more}
use Rattle.clock_processor.specs.Settling.{no_change}
use Rattle.clock_processor.specs.Settlement.{SettledFields}
use Rattle.clock_queue.specs.declared.queue.Queue.{Queue}
use Rattle.clock_queue.specs.inside.Lines.{HasLines}
use Rattle.clock_queue.specs.inside.Queue.{IsAppliedWhole, StaysWithinReads}
use Rattle.clock_queue.specs.Bound.{IsWithinReads, IsWithinTests, most_woken}

-- the blocks that a request asks for
abbrev amount_of : Change → ℕ
amount_of change = change.amount

module _ (changes : List Change) (place : ℕ) (change : Change) (lt : place < length changes)
    (is : change ≡ get_or changes place no_change) where
  one_longer : take (place + 1) changes ≡ take place changes ++ change ∷ []
  one_longer =
      take_more changes place no_change lt ∙ ap (λ (one : Change). take place changes ++ one ∷ []) (sym is)

  -- the amounts of the requests so far, with one more
  pub amounts_more : (amounts new : List ℕ) → amounts ≡ map amount_of (take place changes)
      → new ≡ amounts ++ change.amount ∷ [] → new ≡ map amount_of (take (place + 1) changes)
  amounts_more amounts new so_far new_is = new_is ∙ ap (λ list. list ++ change.amount ∷ []) so_far
      ∙ sym (map-append amount_of (take place changes) (change ∷ [])) ∙ ap (map amount_of) (sym one_longer)

  -- the lines of the requests so far, with those of one more
  pub lines_more : (count more : ℕ) → All (HasLines count) (take place changes) → count ≤ more → HasLines more change
      → All (HasLines more) (take (place + 1) changes)
  lines_more count more so_far most enough = subst (All (HasLines more)) (sym one_longer) (All-push (HasLines more)
      (take place changes) change (All-weaker (HasLines count) (HasLines more) (λ one has. record {
        product = omega (arith, most, has.product);
        bidder = omega (arith, most, has.bidder);
      }) (take place changes) so_far) enough)

module _ (changes : List Change) where
  -- a read before an application is within the bound, which the application raises
  pub reads_applied : (place : ℕ) (old new : Queue) (before after : ℕ) → IsAppliedWhole changes place old new
      → StaysWithinReads changes old before → after ≡ one_more before → StaysWithinReads changes new after
  reads_applied place old new before after applied within read = omega (
    arith,
    within,
    read,
    applied.tests,
    ap (λ on. on.admitted) applied.applied,
    ap (λ on. on.applied) applied.applied,
  )

  -- at the end, all requests are admitted, and the tests are within their bound
  pub reads_at_end : (end : SettledFields) (reads : ℕ) → IsWithinTests changes end
      → reads ≤ length changes + length changes + end.tests + end.applied → IsWithinReads changes end reads
  reads_at_end end reads tests within =
      let two : end.applied * most_woken changes ≤ end.applied * 2 = mul-le-mul_left end.applied (omega arith) in
      omega (arith, tests, within, two)

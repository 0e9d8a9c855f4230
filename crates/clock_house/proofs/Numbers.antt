-- Proves that closed rounds are numbered from 1, and are complete: each closing adds the current round, one higher than
-- the last.
use Rattle.std.proofs.Common.{◌≡◌, ℕ, suc, ◌+◌, List, [], ◌∷◌, ◌++◌, false, cond, length, refl, ap, ◌∙◌, arith}
use Rattle.std.specs.Prelude.{Result, Ok, Err, reverse}
use Rattle.std.proofs.lemmas.List.FromFn.{length-map-range_with_len}
use Rattle.std.proofs.lemmas.List.{reverse-append}
use Rattle.clock_terms.specs.declared.increments.Increments.{Increments}
use Rattle.clock_terms.specs.Limits.{SetupFields, public_setup}
use Rattle.clock_order.specs.declared.ties.Tie.{Tie}
use Rattle.clock_closing.specs.declared.fault.CloseFault.{CloseFault}
use Rattle.clock_house.specs.Command.{Command, put, close, other}
use Rattle.clock_house.specs.History.{ClosedRound, Auction, public_state, closing_of, after_closing, history}
use Rattle.clock_house.specs.inside.OpenRounds.{open_round}
use Rattle.clock_house.specs.Laws.{AreNumbered}
use Rattle.clock_closing.proofs.Closings.{IsClosing, closing_passed}

module _ (setup : SetupFields) where
  -- Before the end, the current round is one more than the number of closed rounds.
  pub round-closed : (closed : List ClosedRound) → AreNumbered (length setup.bidders) (length setup.products) closed
      → (public_state setup.products closed).ended ≡ false
      → (public_state setup.products closed).round ≡ suc (length closed)
  round-closed [] all going = refl
  round-closed (last ∷ rounds) all going =
      ap (λ ended. cond ended last.sheet.round (last.sheet.round + 1)) going ∙ omega (arith, all.0)

  -- The prices of round 1 are the opening prices.
  pub first_prices : (closed : List ClosedRound) → (public_state setup.products closed).round ≡ suc (length closed)
      → (public_state setup.products closed).round ≡ 1
      → (public_state setup.products closed).prices ≡ (public_state setup.products []).prices
  first_prices [] number one = refl
  first_prices (last ∷ rounds) number one = absurd (omega (arith, number, one))

  numbered_closing : (auction : Auction) (round : ℕ) (increments : Increments) (ties : List Tie)
      (answer : Result ClosedRound CloseFault) → closing_of setup auction round increments ties ≡ answer
      → AreNumbered (length setup.bidders) (length setup.products) auction.closed → AreNumbered (length setup.bidders)
      (length setup.products) (after_closing auction (close round increments ties) answer).closed
  numbered_closing auction round increments ties (Ok done) e all =
      let is : IsClosing (public_setup setup) (open_round setup auction) round increments ties done
      = closing_passed (public_setup setup) (open_round setup auction) round increments ties done e in
      let number : (public_state setup.products auction.closed).round ≡ suc (length auction.closed) =
      round-closed auction.closed all is.going in
      let bidders : length (open_round setup auction).holdings ≡ length setup.bidders =
      length-map-range_with_len _ 0 (length setup.bidders) in (
        ap (λ one. one.sheet.round) is.made ∙ number,
        ap (λ one. length one.slips) is.made ∙ length-map-range_with_len _ 0 _
            ∙ bidders,
        ap (λ one. length one.sheet.lines) is.made ∙ length-map-range_with_len _ 0 _,
        all,
      )
  numbered_closing auction round increments ties (Err fault) e all = all

  -- After every list of commands, the closed rounds are numbered from 1.
  pub numbered : (commands : List Command)
      → AreNumbered (length setup.bidders) (length setup.products) (history setup commands).closed
  numbered [] = tt
  numbered (put author round bids ∷ earlier) = numbered earlier
  numbered (close round increments ties ∷ earlier) = numbered_closing (history setup earlier) round increments ties
      (closing_of setup (history setup earlier) round increments ties) refl (numbered earlier)
  numbered (other ∷ earlier) = numbered earlier

module _ {A : Type 0} where
  pub reverse_cons : (x : A) (xs : List A) → reverse (x ∷ xs) ≡ reverse xs ++ x ∷ []
  reverse_cons x xs = reverse-append (x ∷ []) xs

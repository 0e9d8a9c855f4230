-- Proves the invariant of a house from the laws of the history, since the house stands for a list of commands.
use Rattle.std.proofs.Common.{◌≡◌, ℕ, zero, suc, List, [], ◌∷◌, Bool, false, length, ap, sym, subst, ◌∙◌, All}
use Rattle.std.specs.Prelude.{Option, Some, reverse}
use Rattle.std.proofs.lemmas.Option.{none-some, slice_get_within, get_or_from_slice_get}
use Rattle.std.proofs.lemmas.List.Elements.{All-nil, All-cons, All-head, All-tail, All-append}
use Rattle.std.proofs.lemmas.List.FromFn.{length-map-range_with_len}
use Rattle.clock_terms.specs.declared.prices.PricePair.{PricePair}
use Rattle.clock_terms.specs.Limits.{IsSetup, public_setup}
use Rattle.clock_bids.specs.declared.sheet.Bid.{Bid}
use Rattle.clock_house.specs.Command.{Command}
use Rattle.clock_terms.specs.Prices.{opening_prices}
use Rattle.clock_closing.specs.OpenRound.{OpenRound, IsOpenRound}
use Rattle.clock_house.specs.History.{ClosedRound, round_at, history, public_state, holding, for_each_bidder}
use Rattle.clock_house.specs.inside.OpenRounds.{open_round, open_round_in}
use Rattle.clock_house.specs.inside.Stored.{AgreesWithRounds}
use Rattle.clock_house.specs.House.{HouseFields, StandsFor, state_in, holding_in}
use Rattle.clock_house.specs.Laws.{AreNumbered, IsSound, IsOpen}
use Rattle.clock_house.proofs.Sound.{sound, open_sound}
use Rattle.clock_house.proofs.Numbers.{numbered, round-closed, first_prices, reverse_cons}

module _ (house : HouseFields) (commands : List Command) (stands : StandsFor commands house) where
  -- Its closed rounds are numbered from 1.
  pub stands_numbered : AreNumbered (length house.setup.bidders) (length house.setup.products) house.closed
  stands_numbered = subst (AreNumbered (length house.setup.bidders) (length house.setup.products)) (sym stands.closed)
      (numbered house.setup commands)

  -- It stores a sheet or none for each bidder.
  pub stands_sheets : length house.sheets ≡ length house.setup.bidders
  stands_sheets = ap length stands.sheets ∙ length-map-range_with_len _ 0 (length house.setup.bidders)

  -- The input of its next closing is that of the commands.
  pub stands_open : open_round_in house ≡ open_round house.setup (history house.setup commands)
  stands_open =
      let at = λ (closed : List ClosedRound) (sheets : List (Option (List Bid))). let round : OpenRound = record {
        public_state = public_state house.setup.products closed;
        holdings = for_each_bidder house.setup (holding house.setup closed);
        sheets = sheets;
      } in round in
      ap (λ (closed : List ClosedRound). at closed house.sheets) stands.closed
      ∙ ap (at (history house.setup commands).closed) stands.sheets

All-reverse : {A : Type 0} (P : A → Type 0) (xs : List A) → All P xs → All P (reverse xs)
All-reverse P [] all = All-nil P
All-reverse P (x ∷ xs) all = subst (All P) (sym (reverse_cons x xs)) (All-append P (reverse xs) (x ∷ [])
    (All-reverse P xs (All-tail P x xs all)) (All-cons P x [] (All-head P x xs all) (All-nil P)))

-- A property of all closed rounds is one of the round with a number.
found_all : (P : ClosedRound → Type 0) (n : ℕ) (closed : List ClosedRound) (one : ClosedRound) → All P closed
    → round_at n closed ≡ Some one → P one
found_all P zero closed one all e = absurd (none-some one e)
found_all P (suc k) closed one all e = subst P (get_or_from_slice_get (reverse closed) k one one e)
    (All-reverse P closed all k one (slice_get_within (reverse closed) k one e))

-- A closed round has results for each bidder, and a line for each product.
abbrev IsWhole : ℕ → ℕ → ClosedRound → Type 0
IsWhole bidders products one = (length one.slips ≡ bidders) × (length one.sheet.lines ≡ products)

all_whole : (bidders products : ℕ) (closed : List ClosedRound) → AreNumbered bidders products closed
    → All (IsWhole bidders products) closed
all_whole bidders products [] all = All-nil (IsWhole bidders products)
all_whole bidders products (round ∷ rounds) all =
    All-cons (IsWhole bidders products) round rounds (all.1, all.2) (all_whole bidders products rounds all.3)

-- So has the round with a number.
pub numbered_whole : (bidders products n : ℕ) (closed : List ClosedRound) (one : ClosedRound) → AreNumbered bidders
    products closed → round_at n closed ≡ Some one → (length one.slips ≡ bidders) × (length one.sheet.lines ≡ products)
numbered_whole bidders products n closed one all e =
    found_all (IsWhole bidders products) n closed one (all_whole bidders products closed all) e

-- The auction of a house that stands for a list of commands is sound.
module _ (house : HouseFields) (limits : IsSetup house.setup) (commands : List Command)
    (stands : StandsFor commands house) where
  pub stands_sound : IsSound house.setup
      (record { closed = house.closed; since = (history house.setup commands).since })
  stands_sound =
      let P = λ (closed : List ClosedRound). IsSound house.setup
      (record { closed = closed; since = (history house.setup commands).since }) in
      let all : IsSound house.setup (history house.setup commands) = sound house.setup limits commands in
      subst P (sym stands.closed) (record {
        numbered = all.numbered;
        within = all.within;
        priced = all.priced;
        supplied = all.supplied;
        count = all.count;
      })

  pub stands_going : (state_in house).ended ≡ false → IsOpen (public_setup house.setup) (open_round_in house)
  stands_going going =
      subst (IsOpen (public_setup house.setup)) (sym (stands_open house commands stands)) (open_sound house.setup limits
      (history house.setup commands) (sound house.setup limits commands) (ap (λ (closed : List ClosedRound).
      (public_state house.setup.products closed).ended) (sym stands.closed) ∙ going))

  -- The first round has the opening prices.
  stands_opening : (state_in house).ended ≡ false → (state_in house).round ≡ 1
      → (state_in house).prices ≡ opening_prices house.setup.products
  stands_opening going first = first_prices house.setup house.closed
      (round-closed house.setup house.closed (stands_numbered house commands stands) going) first

  -- If the auction has not ended, the house has an open round.
  pub stands_open_round : (state_in house).ended ≡ false
      → IsOpenRound (record { setup = house.setup; before = open_round_in house })
  stands_open_round going = record {
    holdings = length-map-range_with_len (holding_in house) 0 (length house.setup.bidders);
    sheets = stands_sheets house commands stands;
    sound = stands_going going;
    opening = stands_opening going;
  }

-- The invariant of a house does not depend on its memory for further rounds.
pub stored_in_room : (house : HouseFields) (spare : ℕ) (ended : Bool) (round : ℕ) (prices : List PricePair)
    (eligibilities : List ℕ) (demands : List (List ℕ)) → AgreesWithRounds house ended round prices eligibilities demands
    → AgreesWithRounds (record { setup = house.setup; closed = house.closed; sheets = house.sheets; spare = spare })
    ended round prices eligibilities demands
stored_in_room house spare ended round prices eligibilities demands stored = record {
  limits = stored.limits;
  commands = stored.commands;
  stands = record { closed = stored.stands.closed; sheets = stored.stands.sheets };
  ended_is = stored.ended_is;
  round_is = stored.round_is;
  prices_are = stored.prices_are;
  eligibilities_are = stored.eligibilities_are;
  demands_are = stored.demands_are;
}

-- Proves that committing a prepared closing does the closing that was asked for, since preparing it changed only
-- allocated memory. Also that a request which is no command changes nothing.
use Rattle.std.proofs.Common.{◌≡◌, ℕ, List, Option, Result, Ok, refl, sym, ◌∙◌, ap, subst}
use Rattle.clock_terms.specs.Limits.{SetupFields}
use Rattle.clock_terms.specs.declared.increments.Increments.{Increments}
use Rattle.clock_bids.specs.declared.sheet.Bid.{Bid}
use Rattle.clock_order.specs.declared.ties.Tie.{Tie}
use Rattle.clock_house.specs.Command.{Command, close, other}
use Rattle.clock_closing.specs.declared.closed_round.ClosedRound.{ClosedRound}
use Rattle.clock_closing.specs.declared.fault.CloseFault.{CloseFault}
use Rattle.clock_house.specs.House.{HouseFields, IsUnchanged, IsFollowedBy, StandsForTheSame, closing_in}
use Rattle.clock_house.specs.Prepared.{PreparedClosing, FitsClosing}
use Rattle.clock_front.specs.Outcomes.{close_outcome, done}
use Rattle.clock_views.specs.OperatorPages.{closed_value}

abbrev closing_by : ℕ → Increments → List Tie → SetupFields → List ClosedRound → List (Option (List Bid))
    → Result ClosedRound CloseFault
closing_by round increments ties setup closed sheets =
    closing_in (record { setup = setup; closed = closed; sheets = sheets; spare = 0 }) round increments ties

-- Memory allocated for further rounds does not change any closing.
same_closing : (old mid : HouseFields) (round : ℕ) (increments : Increments) (ties : List Tie) → IsUnchanged old mid
    → closing_in mid round increments ties ≡ closing_in old round increments ties
same_closing old mid round increments ties same =
    ap (λ setup. closing_by round increments ties setup mid.closed mid.sheets) same.setup
    ∙ ap (λ closed. closing_by round increments ties old.setup closed mid.sheets) same.closed
    ∙ ap (closing_by round increments ties old.setup old.closed) same.sheets

-- A prepared closing is the round that the closing asked for adds.
pub closing_fits : (prepared : PreparedClosing) (old mid : HouseFields) (round : ℕ) (increments : Increments)
    (ties : List Tie) → prepared.round ≡ round → prepared.increments ≡ increments → prepared.ties ≡ ties
    → FitsClosing prepared mid → IsUnchanged old mid → closing_in old round increments ties ≡ Ok prepared.closed
closing_fits prepared old mid round increments ties r i t fits same = sym (same_closing old mid round increments ties
    same) ∙ sym (ap (λ n. closing_in mid n prepared.increments prepared.ties) r
    ∙ ap (λ list. closing_in mid round list prepared.ties) i ∙ ap (closing_in mid round increments) t) ∙ fits

-- The reply by the prepared closing is the reply to the closing that was asked for.
pub closed_outcome : (prepared : PreparedClosing) (old mid : HouseFields) (round : ℕ) (increments : Increments)
    (ties : List Tie) → prepared.round ≡ round → prepared.increments ≡ increments → prepared.ties ≡ ties
    → FitsClosing prepared mid → IsUnchanged old mid
    → done (closed_value round prepared.closed.sheet.ended) ≡ close_outcome round (closing_in old round increments ties)
closed_outcome prepared old mid round increments ties r i t fits same =
    ap (close_outcome round) (sym (closing_fits prepared old mid round increments ties r i t fits same))

abbrev followed_by : HouseFields → HouseFields → ℕ → Increments → List Tie → Type 0
followed_by old new round increments ties = IsFollowedBy (close round increments ties) old new

-- A step that changes nothing, followed by a command, does that command.
still_then : (command : Command) (old mid new : HouseFields) → StandsForTheSame old mid → IsFollowedBy command mid new
    → IsFollowedBy command old new
still_then command old mid new still followed = record {
  setup = followed.setup ∙ still.setup;
  stands = λ commands stood. followed.stands commands (still.stands commands stood);
}

-- The closing that was committed is the one that was asked for.
pub closing_followed : (prepared : PreparedClosing) (old mid new : HouseFields) (round : ℕ) (increments : Increments)
    (ties : List Tie) → prepared.round ≡ round → prepared.increments ≡ increments → prepared.ties ≡ ties
    → StandsForTheSame old mid → IsFollowedBy (close prepared.round prepared.increments prepared.ties) mid new
    → IsFollowedBy (close round increments ties) old new
closing_followed prepared old mid new round increments ties r i t still followed = still_then (close round increments
    ties) old mid new still (subst (followed_by mid new round increments) t (subst (λ list. followed_by mid new round
    list prepared.ties) i (subst (λ n. followed_by mid new n prepared.increments prepared.ties) r followed)))

-- ---- requests that are no commands

-- A request that is no command changes nothing.
pub other_followed : (house : HouseFields) → IsFollowedBy other house house
other_followed house = record {
  setup = refl;
  stands = λ commands stood. record { closed = stood.closed; sheets = stood.sheets };
}

pub none_followed : (command : Command) (house : HouseFields) → command ≡ other → IsFollowedBy command house house
none_followed command house is = subst (λ c. IsFollowedBy c house house) (sym is) (other_followed house)

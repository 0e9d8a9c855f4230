-- Two laws about the definitions, from which the privacy of each reply is proved.
--     IsAnsweredFromView      the right reply to an own request is the one computed from the view
--     IsIsolated      a bidder who sees the same gets the same reply
use Rattle.std.specs.Prelude.{◌≡◌, ◌<◌, ℕ, true, List, length}
use Rattle.clock_terms.specs.Limits.{SetupFields, public_setup}
use Rattle.clock_house.specs.History.{bidder_at}
use Rattle.clock_front.specs.Callers.{HasOwnTokens}
use Rattle.clock_front.specs.Fronts.{reply}
use Rattle.clock_front.specs.Views.{is_own, text_view, answer}
use Rattle.clock_front.specs.Headline.{SeesTheSame}

-- The right reply to an own request is the one computed from the bidder's view, without any rival.
abbrev pub IsAnsweredFromView : Type 0
IsAnsweredFromView = (setup : SetupFields) (bidder : ℕ) (past : List (List ℕ)) (text : List ℕ)
    → HasOwnTokens setup → bidder < length setup.bidders
    → is_own (bidder_at setup bidder) text ≡ true → reply setup past text
    ≡ answer (public_setup setup) (bidder_at setup bidder) (text_view setup bidder past) text

-- If a bidder sees the same in two runs, the right reply to its request is the same in both.
abbrev pub IsIsolated : Type 0
IsIsolated = (one two : SetupFields) (bidder other_number : ℕ) (past other_past : List (List ℕ))
    (text : List ℕ) → HasOwnTokens one → HasOwnTokens two → bidder < length one.bidders
    → other_number < length two.bidders → SeesTheSame one two bidder other_number past other_past
    → is_own (bidder_at one bidder) text ≡ true → reply one past text ≡ reply two other_past text

-- The requests of scripted bidders and of the operator in a state of an auction.
--     scripted_sheet script now held      the sheet that a script gives in a round
--     scripted_put setup closed bidder script      the request by which the bidder puts it
--     scripted_close setup closed closing      the request by which the operator closes the round
use Rattle.std.specs.Prelude.{ℕ, ◌-◌, List, Option, Some, None, option_map, slice_index_or}
use Rattle.clock_terms.specs.Limits.{SetupFields}
use Rattle.clock_bids.specs.declared.sheet.Bid.{Bid}
use Rattle.clock_house.specs.PublicState.{PublicState, Holding}
use Rattle.clock_house.specs.History.{public_state, holding, bidder_at}
use Rattle.clock_closing.specs.declared.closed_round.ClosedRound.{ClosedRound}
use Rattle.clock_replays.specs.declared.replay.Script.{Script}
use Rattle.clock_replays.specs.declared.replay.Script.TheVariants.{Literal, Sincere}
use Rattle.clock_replays.specs.declared.replay.Closing.{Closing}
use Rattle.clock_scripts.specs.Sincere.{sincere_sheet}
use Rattle.clock_scripts.specs.RequestTexts.{put_text, close_text}

-- a literal script has a sheet or none for each round from 1 on, and none past its list; a sincere
-- one always has one
abbrev pub scripted_sheet : Script → PublicState → Holding → Option (List Bid)
scripted_sheet (Literal sheets) now held = slice_index_or sheets (now.round - 1) None
scripted_sheet (Sincere limits) now held =
    Some (sincere_sheet now.round now.prices held.demands limits)

-- the bidder puts that sheet for the current round, if there is one
unfoldable pub scripted_put : SetupFields → List ClosedRound → ℕ → Script → Option (List ℕ)
scripted_put setup closed bidder script =
    option_map (put_text (bidder_at setup bidder).token (public_state setup.products closed).round)
    (scripted_sheet script (public_state setup.products closed) (holding setup closed bidder))

-- the operator closes the current round
unfoldable pub scripted_close : SetupFields → List ClosedRound → Closing → List ℕ
scripted_close setup closed closing = close_text setup.operator
    (public_state setup.products closed).round closing.increments closing.ties

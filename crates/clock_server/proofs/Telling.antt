-- Each text closes the next round or none.
use Rattle.std.proofs.Common.{◌≡◌, ◌==◌, ◌+◌, ℕ, true, suc, List, ◌∷◌, Option, Some, None}
use Rattle.std.proofs.Common.{Result, Ok, Err}
use Rattle.std.proofs.Common.{length, refl, arith}
use Rattle.clock_terms.specs.declared.increments.Increments.{Increments}
use Rattle.clock_terms.specs.Limits.{SetupFields, public_setup}
use Rattle.clock_order.specs.declared.ties.Tie.{Tie}
use Rattle.clock_closing.proofs.Closings.{IsClosing, closing_passed}
use Rattle.clock_closing.specs.declared.closed_round.ClosedRound.{ClosedRound}
use Rattle.clock_closing.specs.declared.fault.CloseFault.{CloseFault}
use Rattle.clock_house.specs.Command.{Command, put, close, other}
use Rattle.clock_house.specs.History.{after_closing, after_command, closing_of, history, public_state}
use Rattle.clock_house.specs.House.{put_fault_in}
use Rattle.clock_house.specs.declared.fault.PutFault.{PutFault}
use Rattle.clock_house.specs.inside.OpenRounds.{open_round}
use Rattle.clock_house.proofs.Numbers.{numbered, round-closed}
use Rattle.clock_front.specs.Effects.{close_effect, effect, effect_in, put_effect}
use Rattle.clock_front.specs.Fronts.{commands_of, house_after, text_command}
use Rattle.clock_front.specs.declared.front.response.Effect.{Effect}
use Rattle.clock_front.specs.declared.front.response.Effect.TheVariants.{Nothing, Sheet, Closing}

-- a closing closes the next round, and nothing else closes any
abbrev pub CountsOn : Effect → ℕ → ℕ → Type 0
CountsOn Nothing before after = after ≡ before
CountsOn Sheet before after = after ≡ before
CountsOn (Closing round) before after = (round ≡ before + 1) × (after ≡ before + 1)

counts_put : (fault : Option PutFault) (count : ℕ) → CountsOn (put_effect fault) count count
counts_put None count = refl
counts_put (Some fault) count = refl

counts_closing : (setup : SetupFields) (commands : List Command) (round : ℕ) (increments : Increments) (ties : List Tie)
    (result : Result ClosedRound CloseFault) → closing_of setup (history setup commands) round increments ties ≡ result
    → CountsOn (close_effect round result) (length (history setup commands).closed)
    (length (after_closing (history setup commands) (close round increments ties) result).closed)
counts_closing setup commands round increments ties (Ok closed) is =
    let auction = history setup commands in
    let passed : IsClosing (public_setup setup) (open_round setup auction) round increments ties closed =
    closing_passed (public_setup setup) (open_round setup auction) round increments ties closed is in
    let number : (public_state setup.products auction.closed).round ≡ suc (length auction.closed) =
    round-closed setup auction.closed (numbered setup commands) passed.going in
    let same : (round == (public_state setup.products auction.closed).round) ≡ true = passed.current in
    let current : round ≡ (public_state setup.products auction.closed).round = grind (arith, same) in
    (omega (arith, current, number), omega arith)
counts_closing setup commands round increments ties (Err fault) is = refl

counts_command : (setup : SetupFields) (commands : List Command) (command : Command)
    → CountsOn (effect_in (house_after setup commands) command) (length (history setup commands).closed)
    (length (after_command setup (history setup commands) command).closed)
counts_command setup commands (put bidder round bids) =
    counts_put (put_fault_in (house_after setup commands) bidder round bids) (length (history setup commands).closed)
counts_command setup commands (close round increments ties) = counts_closing setup commands round increments ties
    (closing_of setup (history setup commands) round increments ties) refl
counts_command setup commands other = refl

-- so does a text, after others
pub counts_text : (setup : SetupFields) (texts : List (List ℕ)) (text : List ℕ)
    → CountsOn (effect setup texts text) (length (history setup (commands_of setup texts)).closed)
    (length (history setup (commands_of setup (text ∷ texts))).closed)
counts_text setup texts text = counts_command setup (commands_of setup texts) (text_command setup text)

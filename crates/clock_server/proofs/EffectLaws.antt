-- What a text changes, after the texts that a house stands for.
use Rattle.std.proofs.Common.{◌≡◌, ◌≢◌, ◌≤◌, inl, inr, ℕ, true, false, List, [], ◌∷◌, Option, refl, sym, ap, ◌∙◌}
use Rattle.std.proofs.Common.{length, arith, ◌++◌, Bool}
use Rattle.std.specs.Prelude.{if◌then◌else◌}
use Rattle.clock_terms.specs.Limits.{SetupFields, public_setup}
use Rattle.clock_bids.specs.declared.sheet.Bid.{Bid}
use Rattle.clock_closing.specs.declared.closed_round.ClosedRound.{ClosedRound}
use Rattle.clock_closing.specs.Closing.{closing}
use Rattle.clock_house.specs.Command.{Command, put, close, other}
use Rattle.clock_house.specs.History.{history, holding, round_to_close, public_state}
use Rattle.clock_house.specs.House.{HouseFields, StandsFor}
use Rattle.clock_house.specs.PublicState.{put_fault}
use Rattle.clock_api.specs.declared.code.Code.TheVariants.{CutShort}
use Rattle.clock_http.specs.Framing.{framing, incomplete, needs_more}
use Rattle.clock_front.specs.Callers.{caller}
use Rattle.clock_front.specs.Effects.{IsRightResponse, RespondsTo, close_effect, effect, effect_in, put_effect}
use Rattle.clock_front.specs.Fronts.{StandsForTexts, commands_of, house_after, text_command}
use Rattle.clock_front.specs.Requests.{request_of}
use Rattle.clock_front.specs.declared.front.response.Effect.{Effect}
use Rattle.clock_front.specs.declared.front.response.Effect.TheVariants.{Nothing, Sheet, Closing}
use Rattle.clock_front.specs.declared.front.response.Response.{Response}
use Rattle.clock_front.proofs.AnswerLaws.{stands_after}
use Rattle.clock_front.proofs.FrontLaws.{away_command, needs_by_test}
use Rattle.clock_journal.specs.Logged.{IsAppended, JournalState}
use Rattle.clock_server.specs.Keeping.{IsAccepted, is_change}
use Rattle.clock_server.specs.inside.Served.{LogsChange}

-- a command changes the same in a house and after the commands that the house stands for
effect_after : (house : HouseFields) (commands : List Command) (command : Command) → StandsFor commands house
    → effect_in house command ≡ effect_in (house_after house.setup commands) command
effect_after house commands (put bidder round bids) stands =
    ap (λ (closed : List ClosedRound). put_effect (put_fault (public_setup house.setup)
    (public_state house.setup.products closed) (holding house.setup closed bidder) round bids)) stands.closed
effect_after house commands (close round increments ties) stands =
    ap (λ (closed : List ClosedRound). close_effect round (closing (public_setup house.setup)
    (round_to_close house.setup closed house.sheets) round increments ties)) stands.closed
    ∙ ap (λ (sheets : List (Option (List Bid))). close_effect round (closing (public_setup house.setup)
    (round_to_close house.setup (history house.setup commands).closed sheets) round increments ties)) stands.sheets
effect_after house commands other stands = refl

-- the right effect after some texts, and the house stands for these and the text
pub record IsAfter (setup : SetupFields) (texts : List (List ℕ)) (text : List ℕ) (response : Response)
    (new : HouseFields) : Type 0 where
  pub changed : response.effect ≡ effect setup texts text
  pub stands : StandsForTexts (text ∷ texts) new

pub right_after : (texts : List (List ℕ)) (text : List ℕ) (response : Response) (old new : HouseFields)
    → StandsForTexts texts old → IsRightResponse text old new response → IsAfter old.setup texts text response new
right_after texts text response old new stands right = record {
  changed = right.effect ∙ effect_after old (commands_of old.setup texts) (text_command old.setup text) stands;
  stands = stands_after texts text old new stands right.answer.followed;
}

-- ---- what changes the auction

-- the accepted texts, the oldest first, after a text that changes the auction or not
abbrev pub logged_when : Bool → List (List ℕ) → List ℕ → List (List ℕ)
logged_when changes past text = if changes then past ++ text ∷ [] else past

pub change_where : (one : Effect) → one ≢ Nothing → is_change one ≡ true
change_where Nothing differs = absurd (differs refl)
change_where Sheet differs = refl
change_where (Closing round) differs = refl

pub logs_none : (one : Effect) (text : List ℕ) (journal : JournalState) → one ≡ Nothing
    → LogsChange one text journal journal
logs_none Nothing text journal is = refl
logs_none Sheet text journal is = absurd (let no : ⊥ = cc in no)
logs_none (Closing round) text journal is = absurd (let no : ⊥ = cc in no)

pub logs_where : (one : Effect) (text : List ℕ) (old new : JournalState) → is_change one ≡ true
    → IsAppended text old new → LogsChange one text old new
logs_where Nothing text old new is appended = absurd (let no : ⊥ = cc in no)
logs_where Sheet text old new is appended = appended
logs_where (Closing round) text old new is appended = appended

-- a response that changed something is not out of memory
pub right_where : (text : List ℕ) (response : Response) (old new : HouseFields) → RespondsTo text response old new
    → is_change response.effect ≡ true → IsRightResponse text old new response
right_where text response old new (inl right) is = right
right_where text response old new (inr (left_out, nothing, still)) is =
    let no : true ≡ false = sym is ∙ ap is_change nothing in absurd (let bad : ⊥ = cc in bad)

pub accepted_where : (texts : List (List ℕ)) (text : List ℕ) (response : Response) (old new : HouseFields)
    → StandsForTexts texts old → RespondsTo text response old new → is_change response.effect ≡ true
    → IsAccepted old.setup texts text
accepted_where texts text response old new stands responds is =
    sym (ap is_change (right_after texts text response old new stands
    (right_where text response old new responds is)).changed) ∙ is

nothing_needs_more : needs_more [] ≡ true
unfolding framing
nothing_needs_more = refl

-- so an accepted text is not empty
pub some_bytes : (text : List ℕ) (response : Response) (old new : HouseFields) → RespondsTo text response old new
    → is_change response.effect ≡ true → 1 ≤ length text
some_bytes [] response old new responds is =
    let right = right_where [] response old new responds is in
    let none = away_command old.setup (caller old.setup (request_of []).token) [] incomplete CutShort
    (sym (needs_by_test [] nothing_needs_more)) refl in
    let no : true ≡ false = sym is ∙ ap is_change (right.effect ∙ ap (effect_in old) none) in
    absurd (let bad : ⊥ = cc in bad)
some_bytes (byte ∷ rest) response old new responds is = omega arith

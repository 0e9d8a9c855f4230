-- An auction whose accepted texts are logged in a journal. (Own rule: a text that changes nothing
-- is not logged.)
--     is_change effect      a sheet or a closing was accepted
--     round_closed effect      the closed round, if any
--     IsAccepted setup texts text, IsRefused setup texts text      after these texts, a text
--         changes the auction, or not
--     logged_after setup past text      the accepted texts after one more text
--     GrowsBy old new more      exactly these were appended, if contracts see the list
--     no_journal      the journal of a server that logs nothing
use Rattle.std.specs.Prelude.{◌≡◌, ◌++◌, ℕ, Bool, true, false, List, [], ◌∷◌, Option, Some, None}
use Rattle.std.specs.Prelude.{IfSome, if◌then◌else◌, reverse}
use Rattle.clock_terms.specs.Limits.{SetupFields}
use Rattle.clock_front.specs.Effects.{effect}
use Rattle.clock_front.specs.declared.front.response.Effect.{Effect}
use Rattle.clock_front.specs.declared.front.response.Effect.TheVariants.{Nothing, Closing}
use Rattle.clock_journal.specs.Logged.{JournalState}

-- a sheet was put in force, or a round was closed
abbrev pub is_change : Effect → Bool
is_change Nothing = false
is_change effect = true

-- the closed round, if any
abbrev pub round_closed : Effect → List ℕ
round_closed (Closing round) = round ∷ []
round_closed effect = []

-- after these texts, the newest first, the text changes the auction
abbrev pub IsAccepted : SetupFields → List (List ℕ) → List ℕ → Type 0
IsAccepted setup texts text = is_change (effect setup texts text) ≡ true

-- the text changes nothing: it is refused, only asks for a page, or is no request
abbrev pub IsRefused : SetupFields → List (List ℕ) → List ℕ → Type 0
IsRefused setup texts text = is_change (effect setup texts text) ≡ false

-- a text that changes the auction is appended to the accepted ones, the oldest first
abbrev pub logged_after : SetupFields → List (List ℕ) → List ℕ → List (List ℕ)
logged_after setup past text =
    if is_change (effect setup (reverse past) text) then past ++ text ∷ [] else past

-- exactly these were appended, in order, if contracts see the list
abbrev pub GrowsBy : {A : Type 0} → Option (List A) → Option (List A) → List A → Type 0
GrowsBy old new more = IfSome old (λ list. new ≡ Some (list ++ more))

-- a journal that shows nothing and has not failed: nothing is logged
abbrev pub no_journal : JournalState
no_journal =
    record { written = None; synced = None; has_failed = false; chain = []; moments = None }

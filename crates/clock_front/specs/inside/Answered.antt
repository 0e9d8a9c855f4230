-- The reply to a request, by the requests before it.
--     AnswersAfter text answer old new      right or out of memory, after every list of requests
use Rattle.std.specs.Prelude.{◌≡◌, ◌⊎◌, ℕ, List, ◌∷◌}
use Rattle.clock_house.specs.House.{HouseFields}
use Rattle.clock_api.specs.Replies.{Answer}
use Rattle.clock_front.specs.Fronts.{IsOutOfMemoryReply, StandsForTexts, reply}

-- For every list of requests that the house stands for: the right reply after them, and it then
-- stands for this one too; or out of memory, and it stands for the list as before.
abbrev pub AnswersAfter : List ℕ → Answer → HouseFields → HouseFields → Type 0
AnswersAfter text answer old new = (texts : List (List ℕ)) → StandsForTexts texts old
    → ((answer ≡ reply old.setup texts text) × StandsForTexts (text ∷ texts) new)
    ⊎ (IsOutOfMemoryReply text answer × StandsForTexts texts new)

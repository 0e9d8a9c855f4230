-- Moves what is promised of an answer from the commands that a house stands for to lists of requests.
use Rattle.std.proofs.Common.{ℕ, List, ◌∷◌, inl, inr, sym, subst}
use Rattle.clock_terms.specs.Limits.{SetupFields}
use Rattle.clock_house.specs.House.{HouseFields, IsFollowedBy, StandsFor, StandsForTheSame}
use Rattle.clock_api.specs.Replies.{Answer}
use Rattle.clock_front.specs.Answered.{AnswersText}
use Rattle.clock_front.specs.Fronts.{StandsForTexts, commands_of, text_command}
use Rattle.clock_front.specs.inside.Answered.{AnswersAfter}

-- A house that has done a request's command stands for the request too.
pub stands_after : (texts : List (List ℕ)) (text : List ℕ) (old new : HouseFields) → StandsForTexts texts old
    → IsFollowedBy (text_command old.setup text) old new → StandsForTexts (text ∷ texts) new
stands_after texts text old new stands followed =
    subst (λ (setup : SetupFields). StandsFor (commands_of setup (text ∷ texts)) new) (sym followed.setup)
    (followed.stands (commands_of old.setup texts) stands)

-- A house that stands for the same commands stands for the same requests.
pub stands_still : (texts : List (List ℕ)) (old new : HouseFields) → StandsForTexts texts old → StandsForTheSame old new
    → StandsForTexts texts new
stands_still texts old new stands still =
    subst (λ (setup : SetupFields). StandsFor (commands_of setup texts) new) (sym still.setup)
    (still.stands (commands_of old.setup texts) stands)

-- The answer to a request, after every list of requests.
pub after_texts : (text : List ℕ) (answer : Answer) (old new : HouseFields) → AnswersText text answer old new
    → AnswersAfter text answer old new
after_texts text answer old new (inl right) texts stands =
    inl ((right.after texts stands).is, stands_after texts text old new stands right.followed)
after_texts text answer old new (inr left_out) texts stands =
    inr (left_out.0, stands_still texts old new stands left_out.1)

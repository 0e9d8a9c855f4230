-- What is promised of the reply to one request. Lists of requests have the newest first.
--     IsRightAnswer text answer old new      the reply is right, and the house did what was asked
--     AnswersText text answer old new      that, or out of memory and no change
use Rattle.std.specs.Prelude.{◌≡◌, ◌⊎◌, ℕ, List}
use Rattle.clock_house.specs.House.{HouseFields, IsFollowedBy, StandsForTheSame}
use Rattle.clock_api.specs.Replies.{Answer}
use Rattle.clock_front.specs.Fronts.{IsOutOfMemoryReply, StandsForTexts, right_answer, text_command}
use Rattle.clock_front.specs.Headline.{IsRight}

-- The reply is the right one in the current state of the house, which then stands for the request's
-- command after those before. After every list of requests that the house stands for, the reply is
-- right as in the headline: private to its bidder, and public without a valid token.
pub record IsRightAnswer (text : List ℕ) (answer : Answer) (old new : HouseFields) : Type 0 where
  pub is : answer ≡ right_answer old text
  pub followed : IsFollowedBy (text_command old.setup text) old new
  pub after : (texts : List (List ℕ)) → StandsForTexts texts old
      → IsRight old.setup texts text answer

-- The reply is right; or out of memory, and the house stands for the same commands as before.
abbrev pub AnswersText : List ℕ → Answer → HouseFields → HouseFields → Type 0
AnswersText text answer old new = IsRightAnswer text answer old new
    ⊎ (IsOutOfMemoryReply text answer × StandsForTheSame old new)

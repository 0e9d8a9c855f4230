-- Proves which requests a front stands for once a stream was served.
use Rattle.std.proofs.Common.{◌≡◌, ℕ, List, [], ◌∷◌, inl, inr, sym, subst, arith}
use Rattle.clock_device.specs.Reports.{Reading}
use Rattle.clock_house.specs.House.{HouseFields}
use Rattle.clock_front.specs.Fronts.{StandsForTexts}
use Rattle.clock_api.specs.Replies.{Answer}
use Rattle.clock_front.specs.Streamed.{HasServed, IsAnswerTo}
use Rattle.clock_front.proofs.AnswerLaws.{after_texts}

-- If nothing has changed, the front stands for the same requests.
pub served_none : (old new : HouseFields) → new ≡ old → (texts : List (List ℕ)) → StandsForTexts texts old
    → HasServed 1 texts new
served_none old new same texts stands = ([], omega arith, subst (StandsForTexts texts) (sym same) stands)

-- After a reply, the front stands for at most one more request.
pub served_answer : (reading : Reading) (answer : Answer) (old new : HouseFields) → IsAnswerTo reading answer old new
    → (texts : List (List ℕ)) → StandsForTexts texts old → HasServed 1 texts new
served_answer reading answer old new (inl (text, arrived, answers)) texts stands =
    elim (after_texts text answer old new answers texts stands) [
      | inl right ↦ (text ∷ [], omega arith, right.1)
      | inr left_out ↦ ([], omega arith, left_out.1)
    ]
served_answer reading answer old new (inr (room, none, same)) texts stands = served_none old new same texts stands

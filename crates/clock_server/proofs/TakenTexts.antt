-- How an auction takes a text of a journal.
use Rattle.std.proofs.Common.{◌≡◌, ◌≢◌, inl, inr, ℕ, List, Result, Err, sym, ap, ◌∙◌}
use Rattle.clock_house.specs.House.{HouseFields}
use Rattle.clock_api.specs.declared.code.Code.{Code}
use Rattle.clock_api.specs.declared.code.Code.TheVariants.{Memory}
use Rattle.clock_api.specs.Replies.{Answer}
use Rattle.clock_front.specs.Effects.{RespondsTo}
use Rattle.clock_front.specs.Fronts.{StandsForTexts}
use Rattle.clock_front.specs.declared.front.response.Effect.TheVariants.{Nothing}
use Rattle.clock_front.specs.declared.front.response.Response.{Response}
use Rattle.clock_journal.specs.declared.recovery.TakeError.{TakeError}
use Rattle.clock_journal.specs.declared.recovery.TakeError.TheVariants.{Refused, NoMemory}
use Rattle.clock_server.specs.Keeping.{IsAccepted, IsRefused, is_change}
use Rattle.clock_server.specs.inside.NotTaken.{not_taken_by}
use Rattle.clock_server.proofs.EffectLaws.{IsAfter, change_where, right_after, right_where}

-- the reply to a text that is refused is not the one for memory
not_memory : (T : Type 0) (code : Code) (error : TakeError) (result : Result T TakeError) → error ≡ not_taken_by code
    → result ≡ Err error → result ≡ Err Refused → code ≢ Memory
not_memory T code error result by is refused memory =
    let same : error ≡ Refused = cc in
    let both : NoMemory ≡ Refused = sym (by ∙ ap not_taken_by memory) ∙ same in
    let bad : ⊥ = cc in
    bad

module _ (texts : List (List ℕ)) (text : List ℕ) (response : Response) (old new : HouseFields)
    (stands : StandsForTexts texts old) (responds : RespondsTo text response old new) where
  -- a text that changes something
  pub took : response.effect ≢ Nothing → IsAfter old.setup texts text response new
  took changes = right_after texts text response old new stands
      (right_where text response old new responds (change_where response.effect changes))

  pub took_accepted : response.effect ≢ Nothing → IsAccepted old.setup texts text
  took_accepted changes = sym (ap is_change (took changes).changed) ∙ change_where response.effect changes

  -- a text that changes nothing, though memory did not run out
  is_refused : (code : Code) → code ≡ response.reply.code → code ≢ Memory → response.effect ≡ Nothing
      → IsRefused old.setup texts text
  is_refused code same other none = elim responds [
    | inl right ↦ sym (ap is_change (right_after texts text response old new stands right).changed) ∙ ap is_change none
    | inr left ↦ absurd (other (same ∙ ap (λ (answer : Answer). answer.code) left.0.is))
  ]

  pub refused_by : (T : Type 0) (code : Code) (error : TakeError) (result : Result T TakeError)
      → code ≡ response.reply.code → error ≡ not_taken_by code → result ≡ Err error → result ≡ Err Refused
      → response.effect ≡ Nothing → IsRefused old.setup texts text
  refused_by T code error result same by is refused =
      is_refused code same (not_memory T code error result by is refused)

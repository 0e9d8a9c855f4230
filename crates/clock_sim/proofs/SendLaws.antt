-- A request that arrives in pieces has the same reply as its whole text: what is decided at its head stays decided.
use Rattle.std.proofs.Common.{◌≡◌, ℕ, false, List, ◌∷◌, ◌++◌, Option, inl, inr, sym, ◌∙◌, ap, subst}
use Rattle.std.specs.Prelude.{option_and_then}
use Rattle.clock_house.specs.House.{HouseFields, StandsFor}
use Rattle.clock_front.specs.Callers.{caller}
use Rattle.clock_http.specs.Framing.{Framing, Head, framing, head_in, needs_more, IsDecided}
use Rattle.clock_http.specs.FramingLaws.{IsDecidedOnce, HasOneHead}
use Rattle.clock_front.specs.Answered.{AnswersText}
use Rattle.clock_front.specs.Fronts.{house_after, commands_of}
use Rattle.clock_front.specs.Outcomes.{answer_of, outcome, command_of}
use Rattle.clock_front.specs.inside.Answered.{AnswersAfter}
use Rattle.clock_api.specs.Replies.{Answer}
use Rattle.clock_front.specs.Requests.{Request, request_of, ask_of}
use Rattle.clock_front.specs.Hubs.{HubFields, IsFed, IsAnswered}
use Rattle.clock_connections.specs.declared.connections.Conn.{Conn}
use Rattle.clock_front.specs.declared.hub.Fed.TheVariants.{More}

-- a piece arrived, and then the input ended
pub ended_after : (old mid new : HubFields) (conn : Conn) (text : List ℕ) (reply : Answer)
    → IsFed old mid conn text More → IsAnswered mid new conn text reply → IsAnswered old new conn text reply
ended_after old mid new conn text reply fed answered = record {
  gone = record {
    gone = answered.gone.gone;
    others = λ other differs. answered.gone.others other differs ∙ fed.1.others other differs;
    count = answered.gone.count ∙ fed.1.count;
    next = answered.gone.next ∙ fed.1.next;
  };
  answered = subst (λ (house : HouseFields). AnswersText text reply house new.house) fed.2 answered.answered;
  setup = answered.setup ∙ ap (λ (house : HouseFields). house.setup) fed.2;
}

abbrev request_from : Option Head → Framing → Request
request_from found is = record { token = option_and_then (λ head. head.token) found; ask = ask_of is }

-- if the first piece is decided, the whole text is the same request
same_request : IsDecidedOnce → HasOneHead → (head body : List ℕ) → IsDecided head
    → request_of (head ++ body) ≡ request_of head
unfolding request_of
same_request once one_head head body decided =
    ap (λ (found : Option Head). request_from found (framing (head ++ body))) (one_head head body decided)
    ∙ ap (λ (is : Framing). request_from (head_in head) is) (once head body decided)

-- a request that is answered at its first piece has the reply of its whole text
pub answered_early : IsDecidedOnce → HasOneHead → (head body : List ℕ) (answer : Answer) (old new : HouseFields)
    → needs_more head ≡ false → AnswersAfter head answer old new → AnswersAfter (head ++ body) answer old new
answered_early once one_head head body answer old new less answered texts stands =
    elim (answered texts stands) [
      | inl reported ↦ inl (subst (λ (request : Request). (answer ≡ answer_of
          (outcome (house_after old.setup (commands_of old.setup texts)) (caller old.setup request.token) request.ask))
          × StandsFor (command_of new.setup (caller new.setup request.token) request.ask
          ∷ commands_of new.setup texts) new) (sym (same_request once one_head head body less)) reported)
      | inr none ↦ inr (
        record {
          is = none.0.is;
          needs = λ code refused. none.0.needs code (sym (once head body less) ∙ refused);
        },
        none.1,
      )
    ]

-- Proves that answering requests one by one gives a run, by an invariant with the requests that were not left out. Each
-- right reply is private, or public, by the laws of isolation.
use Rattle.std.proofs.Common.{◌≡◌, ℕ, List, [], ◌∷◌, ◌++◌, refl, ◌∙◌, ap, subst, inl, inr}
use Rattle.clock_terms.specs.Limits.{SetupFields, IsSetup}
use Rattle.clock_api.specs.Replies.{Answer}
use Rattle.clock_house.specs.House.{HouseFields}
use Rattle.clock_front.specs.Answered.{AnswersText}
use Rattle.clock_front.specs.Fronts.{reply, StandsForTexts}
use Rattle.clock_front.specs.Headline.{IsRight, Runs}
use Rattle.clock_front.proofs.AnswerLaws.{after_texts}
use Rattle.clock_front.proofs.PublicLaws.{reported_alike}
use Rattle.clock_front.proofs.TextViews.{answered_from_view, isolated}

-- A right reply is private to its bidder, and public without a valid token.
pub right : (setup : SetupFields) (limits : IsSetup setup) (past : List (List ℕ)) (text : List ℕ) (one : Answer)
    → one ≡ reply setup past text → IsRight setup past text one
right setup limits past text one is = record {
  is = is;
  private = λ bidder lt own. record {
    from_view = is ∙ answered_from_view setup bidder past text limits.tokens lt own;
    elsewhere = λ other number other_past other_tokens other_lt alike. is
        ∙ isolated setup other bidder number past other_past text limits.tokens other_tokens lt other_lt alike own;
  };
  public = λ none other other_past other_none same seen. is
      ∙ reported_alike setup other past other_past text none other_none same seen;
}

-- A run with one more request at its end, which was answered or left out.
goes_on : (setup : SetupFields) (past texts : List (List ℕ)) (answers : List Answer) (end next : List (List ℕ))
    (text : List ℕ) (one : Answer) → Runs setup past texts answers end → Runs setup end (text ∷ []) (one ∷ []) next
    → Runs setup past (texts ++ text ∷ []) (answers ++ one ∷ []) next
goes_on setup past [] [] end next text one runs is =
    subst (λ before. Runs setup before (text ∷ []) (one ∷ []) next) runs is
goes_on setup past [] (a ∷ answers) end next text one runs is = absurd runs
goes_on setup past (t ∷ texts) [] end next text one runs is = absurd runs
goes_on setup past (t ∷ texts) (a ∷ answers) end next text one runs is =
    elim runs [
      | inl left_out ↦ inl (left_out.0, goes_on setup past texts answers end next text one left_out.1 is)
      | inr replied ↦ inr (replied.0, goes_on setup (t ∷ past) texts answers end next text one replied.1 is)
    ]

-- The invariant of a run: the front has the set-up, and stands for the requests that were not left out.
pub record IsUnderWay (setup : SetupFields) (texts : List (List ℕ)) (answers : List Answer)
    (front : HouseFields) : Type 0 where
  pub end : List (List ℕ)
  pub kept : front.setup ≡ setup
  pub runs : Runs setup [] texts answers end
  pub stands : StandsForTexts end front

-- The invariant after one more request.
pub step : (setup : SetupFields) (limits : IsSetup setup) (texts : List (List ℕ)) (answers : List Answer)
    (front next : HouseFields) (text : List ℕ) (one : Answer) → IsUnderWay setup texts answers front → next.setup
    ≡ front.setup → AnswersText text one front next → IsUnderWay setup (texts ++ text ∷ []) (answers ++ one ∷ []) next
step setup limits texts answers front next text one before same answered =
    elim (after_texts text one front next answered before.end before.stands) [
      | inl reported ↦ record {
        end = text ∷ before.end;
        kept = same ∙ before.kept;
        runs = goes_on setup [] texts answers before.end (text ∷ before.end) text one before.runs
            (inr (
              right setup limits before.end text one
                  (reported.0 ∙ ap (λ of_setup. reply of_setup before.end text) before.kept),
              refl,
            ));
        stands = reported.1;
      }
      | inr none ↦ record {
        end = before.end;
        kept = same ∙ before.kept;
        runs = goes_on setup [] texts answers before.end before.end text one before.runs (inl (none.0, refl));
        stands = none.1;
      }
    ]

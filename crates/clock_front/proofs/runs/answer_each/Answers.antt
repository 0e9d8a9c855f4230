-- Proves that the loop gives a run, by the invariant of RunLaws.
use Rattle.std.proofs.Common.{◌≡◌, ◌+◌, ◌++◌, ◌<◌, ℕ, List, [], ◌∷◌, length, get_or, take, refl, sym, ◌∙◌, ap, subst}
use Rattle.std.proofs.Common.{arith}
use Rattle.std.proofs.lemmas.List.{take_all, take_more}
use Rattle.clock_terms.specs.Limits.{SetupFields, IsSetup}
use Rattle.clock_house.specs.History.{history}
use Rattle.clock_house.specs.House.{HouseFields}
use Rattle.clock_house.specs.Laws.{IsSound}
use Rattle.clock_api.specs.Replies.{Answer}
use Rattle.clock_front.specs.Fronts.{commands_of}
use Rattle.clock_front.specs.Headline.{Runs}
use Rattle.clock_front.proofs.RunLaws.{IsUnderWay, step}
use Rattle.clock_front.proofs.runs.answer_each.Goals as goal

pub loop-text-init : goal.loop-text-init
loop-text-init g c = record {
  end = [];
  kept = refl;
  runs =
      subst (λ (answers : List Answer). Runs c.args.front.now.setup [] [] answers []) (sym c.new-replies.ensures) refl;
  stands = c.requires;
}

pub loop-text-preserved : goal.loop-text-preserved
loop-text-preserved g c =
    let i = c.loop-text.text-index in
    let texts = c.args.texts.now in
    let text = c.as_slice.result.now in
    let front = c.loop-text.front in
    let below : i < length texts = c.loop-text-test.true in
    let at : text ≡ get_or texts i text = rw c.as_slice.ensures c.text-item.is in
    let more : take (i + 1) texts ≡ take i texts ++ text ∷ [] =
    take_more texts i text below ∙ ap (λ (last : List ℕ). take i texts ++ last ∷ []) (sym at) in
    let limits : IsSetup c.args.front.now.setup =
    subst IsSetup (ap (λ (house : HouseFields). house.setup) c.house.ensures) c.law_of_house.ensures.limits in
    let next : IsUnderWay c.args.front.now.setup (take i texts ++ text ∷ []) (c.loop-text.replies ++ c.answer.result
    ∷ []) c.answer.new.self = step c.args.front.now.setup limits (take i texts) c.loop-text.replies front
    c.answer.new.self text c.answer.result c.loop-text.invariant c.answer.ensures.setup c.answer.ensures.answered in
    subst (λ (so_far : List (List ℕ)). IsUnderWay c.args.front.now.setup so_far c.push.new.self c.answer.new.self)
    (sym more) (subst (λ (answers : List Answer). IsUnderWay c.args.front.now.setup
    (take i texts ++ text ∷ []) answers c.answer.new.self) (sym c.in_ok-push.ensures.ok) next)

pub returns : goal.returns
returns g c =
    let before = c.loop-text.invariant in
    let same = ap (λ (house : HouseFields). house.setup) c.house.ensures in
    record {
      end = before.end;
      runs = subst (λ (texts : List (List ℕ)). Runs c.args.front.now.setup [] texts c.loop-text.replies before.end)
          (take_all c.loop-text.text-index c.args.texts.now (omega arith)) before.runs;
      sound = subst (λ (setup : SetupFields). IsSound setup (history setup (commands_of c.args.front.now.setup
          before.end))) same (c.law_of_house.ensures.sound (commands_of c.args.front.now.setup before.end));
    }

-- Each turn of the loop adds one list.
use Rattle.std.proofs.Common.{◌≡◌, ◌∷◌, ◌++◌, [], List, ℕ, take, get_or, sym, ap, ◌∙◌}
use Rattle.std.proofs.lemmas.List.{take_more}
use Rattle.clock_replays.proofs.limit_lists.LimitLists.from_lists.Goals as goal

pub loop-list-preserved : goal.loop-list-preserved
loop-list-preserved c =
    let l = c.loop-list in
    let row = c.as_slice.result.now in
    let at : row ≡ get_or c.args.lists.now l.list-index row = rw c.as_slice.ensures c.list-item.is in
    record {
      limits = c.in_ok-push.ensures.limits
          ∙ ap (λ (lists : List (List ℕ)). lists ++ row ∷ []) l.invariant.limits
          ∙ ap (λ (last : List ℕ). take l.list-index c.args.lists.now ++ last ∷ []) at
          ∙ sym (take_more c.args.lists.now l.list-index row c.loop-list-test.true);
      packed = c.in_ok-push.ensures.packed;
    }

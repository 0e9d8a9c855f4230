use Rattle.std.proofs.Common.{◌≡◌, get_or, ◌∷◌, ◌++◌, [], List, ℕ, map, take, sym, ap, ◌∙◌}
use Rattle.std.proofs.lemmas.List.{map-append, take_more}
use Rattle.clock_json.specs.Rows.{shortened}
use Rattle.clock_json.proofs.rows.short_rows.Goals as goal

pub loop-list-preserved : goal.loop-list-preserved
loop-list-preserved c =
    let l = c.loop-list in
    let lists = c.args.lists.now in
    let row = c.as_slice.result.now in
    let at : row ≡ get_or lists l.list-index row = rw c.as_slice.ensures c.list-item.is in
    c.in_ok-push.ensures.ok
    ∙ ap (λ (last : List ℕ). l.rows ++ last ∷ []) c.in_ok-row.ensures.row
    ∙ ap (λ rows. rows ++ map shortened row ∷ []) l.invariant
    ∙ ap (λ (last : List ℕ). map (map shortened) (take l.list-index lists) ++ map shortened last ∷ []) at
    ∙ sym (map-append (map shortened) (take l.list-index lists) (get_or lists l.list-index row ∷ []))
    ∙ sym (ap (map (map shortened)) (take_more lists l.list-index row c.loop-list-test.true))

use Rattle.std.proofs.Common.{◌≡◌, ◌∷◌, ◌++◌, [], List, ℕ, length, map, sym, ap, subst, ◌∙◌, arith, rules}
use Rattle.json.specs.Token.{Token}
use Rattle.clock_json.specs.Reading.{numbers, ReadsValue}
use Rattle.clock_json.specs.inside.Reading.{HasItems}
use Rattle.clock_json.proofs.Steps.{items_start, items_end, items_push_next}
use Rattle.clock_json.proofs.scan.Scan.short_rows.Goals as goal

pub items-init : goal.items-init
items-init c =
    let start = c.opens.new.self in (
      subst (λ list. HasItems 1 start (map numbers list) start) (sym c.new-rows.ensures) (items_start 1 start),
      omega arith,
    )

pub items-preserved : goal.items-preserved
items-preserved c =
    let l = c.items in
    let same : c.closes.new.self ≡ l.self = grind arith in
    let read = c.in_ok-numbers_after.ensures.value in
    let row : List ℕ = read.0 in
    let reads : ReadsValue 1 l.self (numbers row) c.numbers_after.new.self =
    subst (λ ts. ReadsValue 1 ts (numbers row) c.numbers_after.new.self) same read.2 in
    let held : c.numbers_after.new.list.items ≡ row = read.1 ∙ ap (λ known. known ++ row) c.clear.ensures.items in
    let kept : c.in_ok-row.row ≡ row =
    c.in_ok-row.ensures.row ∙ c.in_ok-row.ensures.same (search rules) ∙ c.as_slice.ensures.value ∙ held in
    let pushed : c.push.new.self ≡ l.rows ++ row ∷ [] =
    c.in_ok-push.ensures.ok ∙ ap (λ (last : List ℕ). l.rows ++ last ∷ []) kept in (
      subst (λ list. HasItems 1 c.opens.new.self (map numbers list) c.numbers_after.new.self) (sym pushed)
          (items_push_next 1 numbers c.opens.new.self l.self c.numbers_after.new.self l.rows row l.invariant.0 reads),
      omega (arith, l.invariant.1, c.in_ok-numbers_after.ensures.shorter, ap length same),
    )

pub returns-clause-value : goal.returns-clause-value
returns-clause-value c =
    let l = c.items in
    let closed : l.self ≡ Token.end_array ∷ c.closes.new.self = grind arith in
    items_end 1 c.args.self.now c.opens.new.self l.self c.closes.new.self
    (map numbers l.rows) c.in_ok-opens.ensures l.invariant.0 closed

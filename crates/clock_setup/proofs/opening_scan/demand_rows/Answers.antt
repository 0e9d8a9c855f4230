-- Each list of numbers that is read adds a row with these demands.
use Rattle.std.proofs.Common.{◌≡◌, ◌∷◌, ◌++◌, [], List, ℕ, length, map, sym, ap, subst, ◌∙◌, arith}
use Rattle.clock_json.specs.Reading.{Token, numbers, ReadsValue}
use Rattle.clock_json.specs.inside.Reading.{HasItems}
use Rattle.clock_json.proofs.Steps.{items_start, items_end, items_push_next}
use Rattle.clock_setup.proofs.opening_scan.demand_rows.Goals as goal

pub items-init : goal.items-init
items-init c =
    let start = c.opens.new.self in (
      subst (λ list. HasItems 1 start (map numbers list) start) (sym c.in_ok-list.ensures.items) (items_start 1 start),
      omega arith,
    )

pub items-preserved : goal.items-preserved
items-preserved c =
    let l = c.items in
    let after = c.numbers_after.new.self in
    let same : c.closes.new.self ≡ l.scan = grind arith in
    let read = c.in_ok-numbers_after.ensures.value in
    let row : List ℕ = read.0 in
    let reads : ReadsValue 1 l.scan (numbers row) after =
    subst (λ ts. ReadsValue 1 ts (numbers row) after) same read.2 in
    let found : c.in_ok-row.row ≡ row =
    c.in_ok-row.ensures ∙ c.as_slice.ensures.value ∙ read.1
    ∙ ap (λ (known : List ℕ). known ++ row) c.clear.ensures.items in
    let pushed = c.in_ok-push.ensures.items ∙ ap (λ (last : List ℕ). l.list.items ++ last ∷ []) found in (
      subst (λ list. HasItems 1 c.opens.new.self (map numbers list) after) (sym pushed)
          (items_push_next 1 numbers c.opens.new.self l.scan after l.list.items row l.invariant.0 reads),
      omega (arith, l.invariant.1, c.in_ok-numbers_after.ensures.shorter, ap length same),
    )

pub returns-clause-value : goal.returns-clause-value
returns-clause-value c =
    let l = c.items in
    let closed : l.scan ≡ Token.end_array ∷ c.closes.new.self = grind arith in
    items_end 1 c.args.scan.now c.opens.new.self l.scan c.closes.new.self
    (map numbers l.list.items) c.in_ok-opens.ensures l.invariant.0 closed

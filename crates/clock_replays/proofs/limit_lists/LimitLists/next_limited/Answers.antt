-- The row at the place of a product is that of the next product with limits.
use Rattle.std.proofs.Common.{◌<◌, List, ℕ, length, get_or, ap, arith}
use Rattle.clock_replays.proofs.PackedLimitLaws.{below_count, counted, none_between}
use Rattle.clock_replays.proofs.limit_lists.LimitLists.next_limited.Goals as goal

pub returns-then-place-products-clause-within : goal.returns-then-place-products-clause-within
returns-then-place-products-clause-within c =
    let rows = c.self.inside.rows in
    let place = c.place_of-place.result in
    let read = ap (λ (list : List ℕ). get_or list place 0) c.as_slice-products.ensures.value in
    let inside : place < length rows.products.items =
    omega (arith, c.if-place-products.true, ap (λ (list : List ℕ). length list) c.as_slice-products.ensures.value) in
    omega (
      arith,
      read,
      below_count 0 rows.products.items rows.count place c.self.invariant.2 inside,
      counted rows c.args.self.now c.self.view_is,
    )

pub returns-then-place-products-clause-passed : goal.returns-then-place-products-clause-passed
returns-then-place-products-clause-passed c =
    let rows = c.self.inside.rows in
    let place = c.place_of-place.result in
    let to = get_or c.as_slice-products.result.now place 0 in
    let read = ap (λ (list : List ℕ). get_or list place 0) c.as_slice-products.ensures.value in
    none_between rows c.args.self.now c.args.product place to c.self.view_is c.self.invariant.2
    c.place_of-place.ensures.place.1 (λ within. omega (arith, read)) (returns-then-place-products-clause-within c)

pub returns-else-place-products-clause-least : goal.returns-else-place-products-clause-least
returns-else-place-products-clause-least c =
    omega (arith, c.requires, counted c.self.inside.rows c.args.self.now c.self.view_is)

pub returns-else-place-products-clause-within : goal.returns-else-place-products-clause-within
returns-else-place-products-clause-within c =
    omega (arith, counted c.self.inside.rows c.args.self.now c.self.view_is)

pub returns-else-place-products-clause-passed : goal.returns-else-place-products-clause-passed
returns-else-place-products-clause-passed c =
    let rows = c.self.inside.rows in
    none_between rows c.args.self.now c.args.product c.place_of-place.result rows.count c.self.view_is
    c.self.invariant.2 c.place_of-place.ensures.place.1
    (λ within. absurd (omega (
      arith,
      within,
      c.if-place-products.false,
      ap (λ (list : List ℕ). length list) c.as_slice-products.ensures.value,
    )))
    (returns-else-place-products-clause-within c)

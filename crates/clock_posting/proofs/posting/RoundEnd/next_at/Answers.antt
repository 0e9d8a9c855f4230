-- Proves that the clock price in the next prices is the next clock price of the product.
use Rattle.std.proofs.Common.{◌≡◌, ◌<◌, ◌∙◌, sym, ap, length, get_or, List, Some, arith}
use Rattle.std.proofs.lemmas.List.{get_or_read}
use Rattle.clock_terms.specs.declared.prices.PricePair.{PricePair}
use Rattle.clock_posting.specs.Posting.{has_ended, next_clock, next_prices}
use Rattle.clock_posting.specs.inside.RoundEnd.{HasClocks}
use Rattle.clock_posting.proofs.Laws.{none_shown, some_shown, clock_of, clocks_each}
use Rattle.clock_posting.proofs.posting.RoundEnd.next_at.Goals as goal

pub returns-in_err-as_ref : goal.returns-in_err-as_ref
returns-in_err-as_ref c =
    let end = c.args.self.now in
    c.from_residual.ensures ∙ none_shown (has_ended end.products.now end.grid.now) (next_prices end.products.now
    end.increments.now end.posted.now) (next_clock end.products.now end.increments.now end.posted.now c.args.product)
    (c.in_err-as_ref.ensures.value ∙ c.requires.next)

-- These next prices are those of the products.
has_clocks : (c : goal.After-as_slice) → HasClocks c.args.self.now.products.now c.args.self.now.increments.now
    c.args.self.now.posted.now c.in_ok-as_ref.field-0.now
has_clocks c = rw (← c.in_ok-as_ref.ensures.value) at c.requires.clocks

pub bounds-as_slice-product : goal.bounds-as_slice-product
bounds-as_slice-product c =
    let end = c.args.self.now in
    omega (
      arith,
      ap length c.as_slice.ensures,
      clocks_each end.products.now end.increments.now end.posted.now c.in_ok-as_ref.field-0.now (has_clocks c),
    )

pub returns : goal.returns
returns c =
    let end = c.args.self.now in
    let product = c.args.product in
    let none : PricePair = record { start = 0; clock = 0 } in
    let has : HasClocks end.products.now end.increments.now end.posted.now c.in_ok-as_ref.field-0.now =
    rw (← c.in_ok-as_ref.ensures.value) at c.requires.clocks in
    let below : product < length c.as_slice.result.now =
    omega (
      arith,
      ap length c.as_slice.ensures,
      clocks_each end.products.now end.increments.now end.posted.now c.in_ok-as_ref.field-0.now has,
    ) in
    let read : c.index-as_slice-product.result ≡ get_or c.in_ok-as_ref.field-0.now product none =
    get_or_read c.as_slice.result.now product c.index-as_slice-product.result below c.index-as_slice-product.is none
    ∙ ap (λ (list : List PricePair). get_or list product none) c.as_slice.ensures in
    let price : c.get.result ≡ (get_or c.in_ok-as_ref.field-0.now product none).clock =
    c.get.ensures.value ∙ ap (λ (pair : PricePair). pair.clock) (sym c.index-as_slice-product.is ∙ read) in
    some_shown (has_ended end.products.now end.grid.now) (next_prices end.products.now end.increments.now
    end.posted.now) c.in_ok-as_ref.field-0.now (next_clock end.products.now end.increments.now end.posted.now product)
    c.get.result (c.in_ok-as_ref.ensures.value ∙ c.requires.next) (clock_of end.products.now end.increments.now
    end.posted.now c.in_ok-as_ref.field-0.now product c.requires.product has ∙ ap Some (sym price))

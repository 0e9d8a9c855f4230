-- The bytes read are a bid, piece by piece.
use Rattle.std.proofs.Common.{◌≡◌, ◌∷◌, codes, decimal, drop, ap, ◌∙◌}
use Rattle.json.specs.Token.{begin_object, number, string}
use Rattle.json.specs.Lex.{lex, between, token, comma, colon}
use Rattle.clock_bids.specs.declared.sheet.Bid.{Bid}
use Rattle.clock_bodies.proofs.CompactBidLaws.{price_stands, product_stands, quantity_stands, lexemes_of, compact_reads}
use Rattle.clock_bodies.proofs.compact_bid.BidReaderCompactPart.compact_at.Goals as goal

pub returns-clause-value : goal.returns-clause-value
returns-clause-value c =
    let bytes = c.args.bytes.now in
    let start = c.args.start in
    let end = c.in_ok-quantity.end in
    let bid : Bid = record {
      price = c.in_ok-price.price;
      product = c.in_ok-product.product;
      quantity = c.in_ok-quantity.quantity;
    } in
    let price = price_stands bytes start (c.has_both.ensures c.if-not-has_both.false) in
    let product = product_stands bytes c.in_ok-price.after_price (c.has_both-2.ensures c.if-not-has_both-2.false) in
    let quantity =
    quantity_stands bytes c.in_ok-product.after_product (c.has_both-3.ensures c.if-not-has_both-3.false) in
    let first_number = c.in_ok-price.ensures.number.value product.0 in
    let second_number = c.in_ok-product.ensures.value quantity.0 in
    let all : lex between (drop start bytes) ≡ lexemes_of bid (lex between (drop end bytes)) =
    price
    ∙ ap (λ r. token begin_object ∷ token (string (codes "price")) ∷ colon ∷ r) (first_number
    ∙ ap (λ r. token (number (decimal bid.price)) ∷ r) (product.1
    ∙ ap (λ r. comma ∷ token (string (codes "product")) ∷ colon ∷ r) (second_number
    ∙ ap (λ r. token (number (decimal bid.product)) ∷ r) (quantity.1
    ∙ ap (λ r. comma ∷ token (string (codes "quantity")) ∷ colon ∷ r) c.in_ok-quantity.ensures.value)))) in
    compact_reads bytes start end bid
    (c.in_ok-price.ensures.number.small, c.in_ok-product.ensures.small, c.in_ok-quantity.ensures.small) all

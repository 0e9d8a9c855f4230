-- The tokens read are those of a list of three numbers.
use Rattle.std.proofs.Common.{◌≡◌, ◌∷◌, arith}
use Rattle.json.specs.Token.{Token}
use Rattle.clock_bodies.proofs.BodyScanLaws.{three_read}
use Rattle.clock_bodies.proofs.close_body.spaced_tie.Goals as goal

pub returns-clause-value : goal.returns-clause-value
returns-clause-value c =
    let closed : c.number-3.new.self ≡ Token.end_array ∷ c.closes.new.self = grind arith in
    three_read c.args.scan.now c.opens.new.self c.number.new.self c.number-2.new.self c.number-3.new.self
    c.closes.new.self c.in_ok-bidder.bidder c.in_ok-product.product c.in_ok-number.number c.in_ok-opens.ensures
    c.in_ok-bidder.ensures.value c.in_ok-product.ensures.value c.in_ok-number.ensures.value closed

-- The array is copied, the quantity and the brace are written after the text, and the rest is cut.
use Rattle.std.proofs.Common.{◌+◌, arith, rules, length, ◌≡◌}
use Rattle.clock_scripts.proofs.PrefixLaws.{bid_cut}
use Rattle.clock_scripts.proofs.prefixes.BidPrefix.push_bid.Goals as goal

pub returns : goal.returns
returns c =
    let size : length c.self.inside.text ≡ 80 = search rules in
    let end : c.len.result + c.self.inside.length ≡ length c.args.text.now.items + c.self.inside.length =
    omega (arith, c.len.ensures, c.args.text.now.ok.0) in
    bid_cut c.args.self.now.product c.args.quantity c.args.self.now.price c.self.inside.text c.args.text.now.items
    c.extend_from_slice.new.self.items c.truncate.new.self.items c.self.inside.length
    (c.len.result + c.self.inside.length) c.requires (search rules) size end c.in_ok-extend_from_slice.ensures.items
    c.truncate.ensures.items

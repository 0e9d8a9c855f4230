use Rattle.std.proofs.Common.{◌≡◌, arith, rules}
use Rattle.clock_scripts.proofs.WrittenLaws.{closing_behind}
use Rattle.clock_scripts.proofs.requests.write_close.Goals as goal

pub returns : goal.returns
returns g c =
    let old = c.args.text.now in
    let house = c.args.house.now in
    let token : c.as_slice-token.result.now ≡ house.setup.operator = search rules in
    closing_behind old.items c.push_closing.new.text.items c.push_head.new.text.items house.setup house.closed
    c.args.closing.now c.as_slice-token.result.now c.round.result c.len-body.result c.push_head.result token
    c.round.ensures.is c.in_ok-push_closing.ensures (omega (arith, c.len-body.ensures, old.ok.0)) c.push_head.ensures

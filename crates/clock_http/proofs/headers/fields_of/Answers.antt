-- One turn of the loop adds one header line to each name.
use Rattle.std.proofs.Common.{codes, arith}
use Rattle.clock_http.proofs.HeaderLaws.{header_taken}
use Rattle.clock_http.proofs.headers.fields_of.Goals as goal

pub loop-header-preserved : goal.loop-header-preserved
loop-header-preserved c =
    let text = c.args.text.now in
    let headers = c.args.headers.now in
    let i = c.loop-header.header-index in
    let inside = (c.requires i _ c.loop-header-test.true).1 in
    record {
      codings = header_taken text
          (codes "transfer-encoding") c.of-name.result.now headers i _ c.loop-header.fields.coding c.add.new.self
          c.loop-header-test.true c.of-name.ensures c.add.ensures.lines inside c.loop-header.invariant.codings;
      lengths = header_taken text (codes "content-length") c.of-name.result.now headers i _ c.loop-header.fields.length
          c.add-in-loop-header.new.self c.loop-header-test.true c.of-name.ensures c.add-in-loop-header.ensures.lines
          inside c.loop-header.invariant.lengths;
      authorizations = header_taken text (codes "authorization") c.of-name.result.now headers i _
          c.loop-header.fields.authorization c.add-in-loop-header-2.new.self c.loop-header-test.true c.of-name.ensures
          c.add-in-loop-header-2.ensures.lines inside c.loop-header.invariant.authorizations;
      few = omega (arith, c.add.ensures.few);
      few_lengths = omega (arith, c.add-in-loop-header.ensures.few);
      few_authorizations = omega (arith, c.add-in-loop-header-2.ensures.few);
    }

-- The loop collects the name of each entry in order.
use Rattle.std.proofs.Common.{arith}
use Rattle.clock_setup.proofs.NameLaws.{text_pushed, texts_end, distinct_texts}
use Rattle.clock_setup.proofs.setup_checks.has_distinct_names.Goals as goal

pub loop-entry-preserved : goal.loop-entry-preserved
loop-entry-preserved g c =
    let at = c.loop-entry in
    record {
      so_far = text_pushed g.E.LimitedEntry.text at.names.items c.args.entries.now at.entry-index c.push.new.self.items
          c.name.result c.entry-item.result c.push.ensures.items c.loop-entry-test.true c.entry-item.is c.name.ensures
          at.invariant.so_far;
      room = omega (arith, c.push.ensures.room, at.invariant.room);
    }

pub returns : goal.returns
returns g c =
    let at = c.loop-entry in
    distinct_texts c.is_distinct-distinct.result _ _ _ c.as_slice.ensures
    (texts_end g.E.LimitedEntry.text at.names.items c.args.entries.now at.entry-index c.loop-entry-test.false
    at.invariant.so_far) c.is_distinct-distinct.ensures

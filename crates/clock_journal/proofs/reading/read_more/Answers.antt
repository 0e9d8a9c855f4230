use Rattle.std.proofs.Common.{◌≤◌, ◌+◌, ◌-◌, ◌∙◌, arith, length, rules}
use borrow.Rule.Slice.PartMut.{put_mid}
use Rattle.clock_journal.proofs.Pieces.{are_bytes, filled_within, more_read, written_back}
use Rattle.clock_journal.proofs.reading.read_more.Goals as goal

pub returns-clause-more : goal.returns-clause-more
returns-clause-more g c =
    let read = c.in-Ok-fill.ensures in
    let start = c.len-start.result in
    let found = c.in-Ok-fill.found in
    let longer = c.deref_mut.result.now in
    let part = c.fill.new.buffer in
    let left = length longer - start in
    let few : found ≤ c.args.count = search rules in
    more_read (g.S.Source.report c.args.source.now).left (g.S.Source.report c.fill.new.source).left
    c.args.room.now.items longer _ part c.truncate.new.self.items start found c.args.count left
    (omega (arith, c.len-start.ensures, c.args.room.now.ok.0)) (c.deref_mut.ensures.value ∙ c.in-Ok.ensures.items)
    (omega (arith, c.in-Ok.ensures.len, c.deref_mut.ensures.len)) read.within (c.truncate.ensures.items
    ∙ written_back (start + found) c.resize.new.self.len (put_mid start left longer part) _
    (omega (arith, few, c.in-Ok.ensures.len)) (filled_within start longer part left
    (omega (arith, c.in-Ok.ensures.len, c.deref_mut.ensures.len)) found read.within)) read.bytes

pub returns-clause-are : goal.returns-clause-are
returns-clause-are g c = are_bytes c.truncate.new.self.items c.type_inv.room

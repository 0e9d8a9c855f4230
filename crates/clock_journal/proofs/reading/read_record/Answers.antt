use Rattle.std.proofs.Common.{ap, arith, length}
use Rattle.clock_journal.proofs.Pieces.{both_ok, length_is, record_read, short_text}
use Rattle.clock_journal.proofs.reading.read_record.Goals as goal

pub read_more-requires-in-Some : goal.read_more-requires-in-Some
read_more-requires-in-Some g c =
    let front = c.read_more.new.room.items in
    short_text front c.in-Some.count (length_is front c.deref.result.now c.length_of_text.result c.in-Some.count
    c.deref.ensures.value c.length_of_text.ensures c.in-Some.is)

pub returns-in-Some-clause-read : goal.returns-in-Some-clause-read
returns-in-Some-clause-read g c =
    let front = c.read_more.new.room.items in
    let size = rw c.if-not-branch.false at c.in_ok-read_more.ensures.all in
    let marked = length_is front c.deref.result.now c.length_of_text.result c.in-Some.count c.deref.ensures.value
    c.length_of_text.ensures c.in-Some.is in
    both_ok c.read_more-in-Some.result _ _ _
    (λ is_all more all. record_read front c.read_more-in-Some.new.room.items _ _ _ c.in-Some.count is_all
    (omega (arith, size, ap length c.clear.ensures.items)) marked more all)
    c.read_more-in-Some.ensures.more c.read_more-in-Some.ensures.all

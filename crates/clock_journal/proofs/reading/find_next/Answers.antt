use Rattle.std.proofs.Common.{◌≡◌, List, ℕ, inl, sym, subst}
use Rattle.clock_journal.specs.Reading.{ended, next, torn, whole}
use Rattle.clock_journal.proofs.Pieces.{damage_is, ended_out, whole_is}
use Rattle.clock_journal.proofs.reading.find_next.Goals as goal

pub returns-in-Whole-clause-next : goal.returns-in-Whole-clause-next
returns-in-Whole-clause-next g c =
    let chain = c.args.chain.now in
    let text = c.in-Whole._text.now in
    whole_is chain c.read_record.new.room.items c.in-Whole.digest text
    (subst (λ (b : List ℕ). next chain b ≡ whole text) c.deref.ensures.value (sym c.in-Whole.ensures.next))
    c.in-Whole.ensures.record.linked
    c.in_ok-is_all.ensures.read.within c.in_ok-is_all.ensures.are

pub returns-in-Ended-clause-next : goal.returns-in-Ended-clause-next
returns-in-Ended-clause-next g c =
    let chain = c.args.chain.now in
    let is = subst (λ (b : List ℕ). next chain b ≡ ended) c.deref.ensures.value (sym c.in-Ended.ensures.next) in
    (inl is, ended_out chain c.read_record.new.room.items c.in_ok-is_all.is_all _ is c.in_ok-is_all.ensures.read)

pub returns-then-branch-clause-next : goal.returns-then-branch-clause-next
returns-then-branch-clause-next g c =
    let chain = c.args.chain.now in
    damage_is chain c.read_record.new.room.items c.read_more.new.room.items c.in_ok-is_all.is_all _ _ _
    (subst (λ (b : List ℕ). next chain b ≡ torn) c.deref.ensures.value (sym c.in-Torn.ensures.next)) c.if-is_all.true
    c.in_ok-is_all.ensures.read c.in_ok-read_more.ensures.more (rw c.if-branch.true at c.in_ok-read_more.ensures.all)

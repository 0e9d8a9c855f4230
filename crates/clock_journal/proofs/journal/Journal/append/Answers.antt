use Rattle.std.proofs.Common.{◌≡◌, [], ◌∷◌, ◌++◌, ℕ, List, Option, length, Result, Ok, Err, OnOk, ap, ◌∙◌, sym, subst}
use Rattle.std.proofs.Common.{append_assoc}
use Rattle.clock_device.specs.Streams.{HasWritten, HasWrittenFront}
use Rattle.clock_device.proofs.Streams.{front_beyond, front_written, written_twice}
use Rattle.clock_journal.specs.Crash.{LeavesTexts}
use Rattle.clock_journal.specs.Disks.{LeaveOnly, MayBeLeft, Moment, Passes}
use Rattle.clock_journal.specs.Format.{Fits, link, mark, record_of}
use Rattle.clock_journal.specs.Logged.{JournalState, HasTexts}
use Rattle.clock_journal.proofs.Moments.{Keeps, left_reads, all_is_front, keeps_more}
use Rattle.clock_journal.proofs.Passing.{leave_one, leave_then}
use Rattle.clock_journal.proofs.journal.Journal.append.Goals as goal

ok_then : {U E : Type 0} (result : Result U E) (P Q : Type 0) → OnOk result P → (P → Q) → OnOk result Q
ok_then (Ok done) P Q fact next = next fact
ok_then (Err failed) P Q fact next = tt

on_ok : {U E : Type 0} (result : Result U E) (P : Type 0) → P → OnOk result P
on_ok (Ok done) P fact = fact
on_ok (Err failed) P fact = tt

pub returns-clause-link : goal.returns-clause-link
returns-clause-link g c = subst (λ (at : JournalState). OnOk c.sync.result (c.link_of-digest.result
    ≡ link at.chain c.args.text.now)) c.self.view_is (on_ok c.sync.result (c.link_of-digest.result
    ≡ link c.self.inside.chain c.args.text.now) c.link_of-digest.ensures)

record_is : (chain text front digest : List ℕ) → front ≡ mark (length text) ++ digest → digest ≡ link chain text
    → front ++ text ≡ record_of chain text
record_is chain text front digest front_is linked =
    ap (λ (bytes : List ℕ). bytes ++ text) (front_is ∙ ap (λ (bytes : List ℕ). mark (length text) ++ bytes) linked)
    ∙ append_assoc (mark (length text)) (link chain text) text

-- the two writes append all of the record
written : (old mid new : Option (List ℕ)) (chain text front digest : List ℕ) → front ≡ mark (length text) ++ digest
    → digest ≡ link chain text → HasWritten old mid front → HasWritten mid new text
    → HasWritten old new (record_of chain text)
written old mid new chain text front digest front_is linked one other = subst (HasWritten old new)
    (record_is chain text front digest front_is linked) (written_twice old mid new front text one other)

pub returns-clause-logged : goal.returns-clause-logged
returns-clause-logged g c =
    let reported = g.D.Durable.written in
    let journal = c.self.inside in
    ok_then c.sync.result (g.D.Durable.synced c.sync.new.self ≡ reported c.append-2.new.self) _ c.sync.ensures.ok
    (λ now_synced digest texts has. keeps_more digest texts c.args.text.now journal.chain c.link_of-digest.result
    (reported journal.disk) (g.D.Durable.synced journal.disk) (reported c.append-2.new.self) (reported c.sync.new.self)
    (g.D.Durable.synced c.sync.new.self) (subst (λ (journal : JournalState). HasTexts digest texts journal)
    (sym c.self.view_is) has) c.requires.fits c.link_of-digest.ensures (written _ (reported c.append.new.self) _
    journal.chain c.args.text.now c.front_of.result c.link_of-digest.result c.front_of.ensures c.link_of-digest.ensures
    c.in_ok-append.ensures.written c.in_ok-append-2.ensures.written) c.sync.ensures.written now_synced)

keeps_on : (digest : List ℕ) (texts : List (List ℕ)) (old synced same : Option (List ℕ)) (chain : List ℕ)
    → same ≡ synced → Keeps digest texts old synced chain → Keeps digest texts old same chain
keeps_on digest texts old synced same chain is keeps =
    subst (λ (s : Option (List ℕ)). Keeps digest texts old s chain) (sym is) keeps

passes : (before after : Option (List Moment)) (digest : List ℕ) (texts : List (List ℕ)) (text chain : List ℕ)
    (old synced new : Option (List ℕ)) → Fits text → HasWrittenFront old new (record_of chain text)
    → Keeps digest texts old synced chain → Passes before after synced new
    → LeaveOnly before after (λ left. LeavesTexts digest left (texts ++ text ∷ []) (length texts))
passes before after digest texts text chain old synced new fits front keeps passed =
    leave_one before after synced new (λ left. LeavesTexts digest left (texts ++ text ∷ []) (length texts)) passed
    (left_reads digest texts text chain old synced new fits front keeps)

-- a prefix of the first write is a prefix of the record
early : (old new : Option (List ℕ)) (chain text front digest : List ℕ) → front ≡ mark (length text) ++ digest
    → digest ≡ link chain text → HasWrittenFront old new front → HasWrittenFront old new (record_of chain text)
early old new chain text front digest front_is linked some = subst (HasWrittenFront old new)
    (record_is chain text front digest front_is linked) (front_written old new front text some)

pub returns-in_err-append-clause-moments : goal.returns-in_err-append-clause-moments
returns-in_err-append-clause-moments g c digest texts has = record {
  at_end = (
      let reported = g.D.Durable.written in
      let journal = c.self.inside in
      subst (λ (journal : JournalState). HasTexts digest texts journal → (left : List ℕ)
      → MayBeLeft journal.synced (reported c.append.new.self) left → LeavesTexts digest left (texts ++ c.args.text.now
      ∷ []) (length texts)) c.self.view_is (left_reads digest texts c.args.text.now journal.chain
      (reported journal.disk) (g.D.Durable.synced journal.disk) (reported c.append.new.self) c.requires.fits
      (subst (HasWrittenFront (reported journal.disk) (reported c.append.new.self)) (record_is journal.chain
      c.args.text.now c.front_of.result c.link_of-digest.result c.front_of.ensures c.link_of-digest.ensures)
      (front_written _ _ c.front_of.result c.args.text.now c.in_err-append.ensures.written)))
      ) has;
  moments = (
      let reported = g.D.Durable.written in
      let passed = g.D.Durable.moments in
      let journal = c.self.inside in
      subst (λ (at : JournalState). HasTexts digest texts at → LeaveOnly at.moments (passed c.append.new.self)
      (λ left. LeavesTexts digest left (texts ++ c.args.text.now ∷ []) (length texts))) c.self.view_is
      (λ has. passes (passed journal.disk) (passed c.append.new.self) digest texts c.args.text.now journal.chain
      (reported journal.disk) (g.D.Durable.synced journal.disk) (reported c.append.new.self) c.requires.fits
      (early _ _ journal.chain c.args.text.now c.front_of.result c.link_of-digest.result c.front_of.ensures
      c.link_of-digest.ensures c.in_err-append.ensures.written) has c.append.ensures.moments)
      ) has;
}

pub returns-in_err-append-2-clause-moments : goal.returns-in_err-append-2-clause-moments
returns-in_err-append-2-clause-moments g c digest texts has = record {
  at_end = (
      let reported = g.D.Durable.written in
      let journal = c.self.inside in
      subst (λ (journal : JournalState). HasTexts digest texts journal → (left : List ℕ) → MayBeLeft journal.synced
      (reported c.append-2.new.self) left → LeavesTexts digest left (texts ++ c.args.text.now ∷ []) (length texts))
      c.self.view_is (left_reads digest texts c.args.text.now journal.chain (reported journal.disk)
      (g.D.Durable.synced journal.disk) (reported c.append-2.new.self) c.requires.fits (subst (HasWrittenFront
      (reported journal.disk) (reported c.append-2.new.self)) (record_is journal.chain c.args.text.now c.front_of.result
      c.link_of-digest.result c.front_of.ensures c.link_of-digest.ensures) (front_beyond _ (reported c.append.new.self)
      _ c.front_of.result c.args.text.now c.in_ok-append.ensures.written c.in_err-append-2.ensures.written)))
      ) has;
  moments = (
      let reported = g.D.Durable.written in
      let passed = g.D.Durable.moments in
      let on_disk = g.D.Durable.synced in
      let journal = c.self.inside in
      let text = c.args.text.now in
      let some = all_is_front (reported journal.disk)
      (reported c.append.new.self) c.front_of.result c.in_ok-append.ensures.written in
      subst (λ (at : JournalState). HasTexts digest texts at → LeaveOnly at.moments (passed c.append-2.new.self)
      (λ left. LeavesTexts digest left (texts ++ text ∷ []) (length texts))) c.self.view_is (λ has. leave_then
      (passed journal.disk) (passed c.append.new.self) (passed c.append-2.new.self) (λ left. LeavesTexts digest left
      (texts ++ text ∷ []) (length texts)) (passes (passed journal.disk) (passed c.append.new.self) digest texts text
      journal.chain (reported journal.disk) (on_disk journal.disk) (reported c.append.new.self) c.requires.fits (early _
      _ journal.chain text c.front_of.result c.link_of-digest.result c.front_of.ensures c.link_of-digest.ensures some)
      has c.append.ensures.moments) (passes (passed c.append.new.self) (passed c.append-2.new.self) digest texts text
      journal.chain (reported journal.disk) (on_disk c.append.new.self) (reported c.append-2.new.self) c.requires.fits
      (subst (HasWrittenFront (reported journal.disk) (reported c.append-2.new.self)) (record_is journal.chain text
      c.front_of.result c.link_of-digest.result c.front_of.ensures c.link_of-digest.ensures)
      (front_beyond _ (reported c.append.new.self) _ c.front_of.result text c.in_ok-append.ensures.written
      c.in_err-append-2.ensures.written)) (keeps_on digest texts (reported journal.disk) (on_disk journal.disk)
      (on_disk c.append.new.self) journal.chain c.append.ensures.synced has) c.append-2.ensures.moments))
      ) has;
}

pub returns-clause-moments : goal.returns-clause-moments
returns-clause-moments g c digest texts has = record {
  at_end = (
      let reported = g.D.Durable.written in
      let journal = c.self.inside in
      subst (λ (journal : JournalState). HasTexts digest texts journal → (left : List ℕ) → MayBeLeft journal.synced
      (reported c.sync.new.self) left → LeavesTexts digest left (texts ++ c.args.text.now ∷ []) (length texts))
      c.self.view_is (left_reads digest texts c.args.text.now journal.chain (reported journal.disk)
      (g.D.Durable.synced journal.disk) (reported c.sync.new.self) c.requires.fits (all_is_front (reported journal.disk)
      (reported c.sync.new.self) (record_of journal.chain c.args.text.now) (subst (λ (new : Option (List ℕ)).
      HasWritten (reported journal.disk) new (record_of journal.chain c.args.text.now)) (sym c.sync.ensures.written)
      (written _ (reported c.append.new.self) _ journal.chain c.args.text.now c.front_of.result c.link_of-digest.result
      c.front_of.ensures c.link_of-digest.ensures c.in_ok-append.ensures.written c.in_ok-append-2.ensures.written))))
      ) has;
  moments = (
      let reported = g.D.Durable.written in
      let passed = g.D.Durable.moments in
      let on_disk = g.D.Durable.synced in
      let journal = c.self.inside in
      let text = c.args.text.now in
      let some = all_is_front (reported journal.disk)
      (reported c.append.new.self) c.front_of.result c.in_ok-append.ensures.written in
      let all = all_is_front (reported journal.disk) (reported c.append-2.new.self) (record_of journal.chain text)
      (written _ (reported c.append.new.self) _ journal.chain text c.front_of.result c.link_of-digest.result
      c.front_of.ensures c.link_of-digest.ensures c.in_ok-append.ensures.written c.in_ok-append-2.ensures.written) in
      let Leaves = λ (left : List ℕ). LeavesTexts digest left (texts ++ text ∷ []) (length texts) in
      subst (λ (at : JournalState). HasTexts digest texts at → LeaveOnly at.moments (passed c.sync.new.self)
      (λ left. LeavesTexts digest left (texts ++ text ∷ []) (length texts))) c.self.view_is (λ has. leave_then
      (passed journal.disk) (passed c.append.new.self) (passed c.sync.new.self) Leaves (passes (passed journal.disk)
      (passed c.append.new.self) digest texts text journal.chain (reported journal.disk) (on_disk journal.disk)
      (reported c.append.new.self) c.requires.fits (early _ _ journal.chain text c.front_of.result
      c.link_of-digest.result c.front_of.ensures c.link_of-digest.ensures some) has c.append.ensures.moments)
      (leave_then (passed c.append.new.self) (passed c.append-2.new.self) (passed c.sync.new.self) Leaves (passes
      (passed c.append.new.self) (passed c.append-2.new.self) digest texts text journal.chain (reported journal.disk)
      (on_disk c.append.new.self) (reported c.append-2.new.self) c.requires.fits all (keeps_on digest texts
      (reported journal.disk) (on_disk journal.disk) (on_disk c.append.new.self) journal.chain c.append.ensures.synced
      has) c.append-2.ensures.moments) (passes (passed c.append-2.new.self) (passed c.sync.new.self) digest texts text
      journal.chain (reported journal.disk) (on_disk c.append-2.new.self) (reported c.append-2.new.self) c.requires.fits
      all (keeps_on digest texts (reported journal.disk) (on_disk journal.disk) (on_disk c.append-2.new.self)
      journal.chain (c.append-2.ensures.synced ∙ c.append.ensures.synced) has) c.sync.ensures.moments)))
      ) has;
}

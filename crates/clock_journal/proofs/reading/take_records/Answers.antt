use Rattle.std.proofs.Common.{◌++◌, List, [], ℕ, arith, ap, drop, inl, length, length-append, refl, reverse}
use Rattle.std.proofs.Common.{rules, subst, sym, inr, ◌∙◌, ◌-◌, take}
use Rattle.std.proofs.KnownBytes.{Consumes-nil}
use Rattle.std.proofs.lemmas.List.{take_rest}
use Rattle.std.proofs.lemmas.List.Elements.{All-nil}
use Rattle.std.proofs.lemmas.Result.{err_from_is_err_and}
use Rattle.clock_journal.specs.Format.{Fits, before_text, head, link}
use Rattle.clock_journal.specs.inside.Pieces.{IsNext}
use Rattle.clock_journal.proofs.Files.{length-head}
use Rattle.clock_journal.proofs.Pieces.{counts_since, unread_since}
use Rattle.clock_journal.proofs.Sourced.{all_read, few_read, has_all, has_any, read_damage, read_end, read_far}
use Rattle.clock_journal.proofs.Sourced.{read_more, read_whole, rest_of, unread_is}
use Rattle.clock_journal.proofs.Taking.{next_entry, none_given}
use Rattle.clock_journal.proofs.reading.take_records.Goals as goal

pub loop-chain-init : goal.loop-chain-init
loop-chain-init g c =
    let digest = c.args.digest.now in (
      record {
        texts = [];
        fit = All-nil Fits;
        read = Consumes-nil (g.S.Source.report c.args.source.now).left;
        chain_is = refl;
        count_is = refl;
        end_is = omega (arith, length-head digest (search rules), length-append (head digest) []);
        stands = λ first. first;
      },
      tt,
      refl,
      omega arith,
    )

pub returns-in_err-find_next-clause-err : goal.returns-in_err-find_next-clause-err
returns-in_err-find_next-clause-err g c =
    let p = err_from_is_err_and c.from_residual.result c.from_residual.ensures.1 in
    rw (p.1, p.2) (unread_is (λ (past : List (List ℕ)) (text : List ℕ).
    g.M.Machine.stands_for c.args.machine.now c.args.digest.now []
    → g.M.Machine.refuses (g.M.Machine.rules c.args.machine.now) past text) c.args.digest.now
    (g.S.Source.report c.args.source.now).left (g.S.Source.report c.args.source.now)
    (g.S.Source.report c.find_next.new.source) c.in_err-find_next.field-0.0 (λ bytes. head c.args.digest.now ++ bytes)
    (unread_since (g.S.Source.report c.args.source.now) (g.S.Source.report c.loop-chain.source)
    (g.S.Source.report c.find_next.new.source) c.in_err-find_next.field-0.0 c.loop-chain.invariant.3
    c.in_err-find_next.ensures.err))

pub returns-in-Ended-clause-ok : goal.returns-in-Ended-clause-ok
returns-in-Ended-clause-ok g c =
    let mid = λ (digest : List ℕ) (texts : List (List ℕ)).
    g.M.Machine.stands_for c.args.machine.now c.args.digest.now []
    → g.M.Machine.stands_for c.loop-chain.machine digest texts in
    let digest = c.args.digest.now in
    let old = (g.S.Source.report c.args.source.now).left in
    let left = (g.S.Source.report c.loop-chain.source).left in
    let after = (g.S.Source.report c.find_next.new.source).left in
    let bytes = c.find_next.new.room.items in
    let at = c.loop-chain in
    let way = at.invariant.0 in
    let read = c.in_ok-find_next.ensures.bytes in
    let comes = subst (IsNext at.chain bytes after) c.in-Ended.is c.in_ok-find_next.ensures.next in (
      all_read mid digest old left at.chain at.texts at.end way after bytes read,
      way.texts,
      has_all mid digest old left at.chain at.texts at.end way after bytes read,
      record {
        chain_is = way.chain_is;
        count_is = way.count_is;
        end_is = inl (
          read_end mid digest old left at.chain at.texts at.end way after bytes read comes.0 comes.1,
          way.end_is,
        );
      },
      λ first. (way.stands first, none_given _ _ [] way.texts first at.invariant.1),
    )

pub returns-in-Damaged-clause-err : goal.returns-in-Damaged-clause-err
returns-in-Damaged-clause-err g c =
    let mid = λ (digest : List ℕ) (texts : List (List ℕ)).
    g.M.Machine.stands_for c.args.machine.now c.args.digest.now []
    → g.M.Machine.stands_for c.loop-chain.machine digest texts in
    let digest = c.args.digest.now in
    let old = (g.S.Source.report c.args.source.now).left in
    let left = (g.S.Source.report c.loop-chain.source).left in
    let after = (g.S.Source.report c.find_next.new.source).left in
    let bytes = c.find_next.new.room.items in
    let at = c.loop-chain in
    let way = at.invariant.0 in
    let read = c.in_ok-find_next.ensures.bytes in
    let comes = subst (IsNext at.chain bytes after) c.in-Damaged.is c.in_ok-find_next.ensures.next in (
      all_read mid digest old left at.chain at.texts at.end way after bytes read,
      has_all mid digest old left at.chain at.texts at.end way after bytes read,
      (
        way.texts,
        read_damage mid digest old left at.chain at.texts at.end way after bytes read comes,
        way.end_is,
      ),
    )

pub overflow_add-number : goal.overflow_add-number
overflow_add-number g c =
    let mid = λ (digest : List ℕ) (texts : List (List ℕ)).
    g.M.Machine.stands_for c.args.machine.now c.args.digest.now []
    → g.M.Machine.stands_for c.loop-chain.machine digest texts in
    let digest = c.args.digest.now in
    let old = (g.S.Source.report c.args.source.now).left in
    let left = (g.S.Source.report c.loop-chain.source).left in
    let after = (g.S.Source.report c.find_next.new.source).left in
    let bytes = c.find_next.new.room.items in
    let at = c.loop-chain in
    let way = at.invariant.0 in
    let comes = subst (IsNext at.chain bytes after) c.in-Whole.is c.in_ok-find_next.ensures.next in
    let few = few_read mid digest old left at.chain at.texts at.end way in
    let long = comes.long in
    omega (arith, few, long, c.if-length-end.false, c.len-length.ensures, c.find_next.new.room.ok.0)

pub loop-chain-preserved : goal.loop-chain-preserved
loop-chain-preserved g c =
    let First = g.M.Machine.stands_for c.args.machine.now c.args.digest.now [] in
    let mid = λ (digest : List ℕ) (texts : List (List ℕ)). First → g.M.Machine.stands_for c.loop-chain.machine digest
    texts in
    let new = λ (digest : List ℕ) (texts : List (List ℕ)). First
    → g.M.Machine.stands_for c.take.new.self digest texts in
    let refuses = λ (past : List (List ℕ)) (text : List ℕ). First
    × g.M.Machine.refuses (g.M.Machine.rules c.args.machine.now) past text in
    let digest = c.args.digest.now in
    let old = (g.S.Source.report c.args.source.now).left in
    let left = (g.S.Source.report c.loop-chain.source).left in
    let after = (g.S.Source.report c.find_next.new.source).left in
    let bytes = c.find_next.new.room.items in
    let at = c.loop-chain in
    let way = at.invariant.0 in
    let read = c.in_ok-find_next.ensures.bytes in
    let comes = subst (IsNext at.chain bytes after) c.in-Whole.is c.in_ok-find_next.ensures.next in
    let text = take (length c.deref.result.now - before_text) (drop before_text c.deref.result.now) in
    let text_is = take_rest c.deref.result.now before_text ∙ ap (drop before_text) c.deref.ensures.value in
    let more = read_more mid digest old left at.chain at.texts at.end way after bytes read c.in-Whole.digest text
    comes text_is new refuses _ _ (omega (arith, c.len-length.ensures, c.find_next.new.room.ok.0))
    (next_entry digest way.texts text at.chain at.texts at.end c.in-Whole.digest way.count_is way.end_is
    way.chain_is (comes.linked ∙ ap (link at.chain) (sym text_is)))
    (λ first past stood same is. c.in-Ok.ensures.taken first past (stood is) same) at.invariant.1
    (λ both. subst (λ (by : List (List ℕ) → List ℕ → Type 0). by (reverse way.texts) text → ⊥)
    (ap g.M.Machine.refuses at.invariant.2) (c.in-Ok.ensures.accepted digest (reverse way.texts) (way.stands both.0))
    both.1) in (
      more.0,
      more.1,
      c.in-Ok.ensures.rules ∙ at.invariant.2,
      counts_since (g.S.Source.report c.args.source.now) (g.S.Source.report at.source)
          (g.S.Source.report c.find_next.new.source) at.invariant.3 c.find_next.ensures.counted,
    )

pub returns-in-Err-Refused-clause-err : goal.returns-in-Err-Refused-clause-err
returns-in-Err-Refused-clause-err g c =
    let mid = λ (digest : List ℕ) (texts : List (List ℕ)).
    g.M.Machine.stands_for c.args.machine.now c.args.digest.now []
    → g.M.Machine.stands_for c.loop-chain.machine digest texts in
    let digest = c.args.digest.now in
    let old = (g.S.Source.report c.args.source.now).left in
    let left = (g.S.Source.report c.loop-chain.source).left in
    let after = (g.S.Source.report c.find_next.new.source).left in
    let bytes = c.find_next.new.room.items in
    let at = c.loop-chain in
    let way = at.invariant.0 in
    let read = c.in_ok-find_next.ensures.bytes in
    let comes = subst (IsNext at.chain bytes after) c.in-Whole.is c.in_ok-find_next.ensures.next in
    let text = take (length c.deref.result.now - before_text) (drop before_text c.deref.result.now) in
    let text_is = take_rest c.deref.result.now before_text ∙ ap (drop before_text) c.deref.ensures.value in (
      all_read mid digest old left at.chain at.texts at.end way after bytes read,
      has_all mid digest old left at.chain at.texts at.end way after bytes read,
      (
        way.texts,
        text,
        read_whole mid digest old left at.chain at.texts at.end way after bytes read c.in-Whole.digest text comes
            text_is,
        way.end_is,
        λ first. subst (λ (by : List (List ℕ) → List ℕ → Type 0). by (reverse way.texts) text)
            (ap g.M.Machine.refuses at.invariant.2)
            (c.take.ensures.refused digest (reverse way.texts) (search rules) (way.stands first)),
      ),
    )

pub returns-then-length-end-clause-err : goal.returns-then-length-end-clause-err
returns-then-length-end-clause-err g c =
    let mid = λ (digest : List ℕ) (texts : List (List ℕ)).
    g.M.Machine.stands_for c.args.machine.now c.args.digest.now []
    → g.M.Machine.stands_for c.loop-chain.machine digest texts in
    let digest = c.args.digest.now in
    let old = (g.S.Source.report c.args.source.now).left in
    let left = (g.S.Source.report c.loop-chain.source).left in
    let after = (g.S.Source.report c.find_next.new.source).left in
    let bytes = c.find_next.new.room.items in
    let at = c.loop-chain in
    let way = at.invariant.0 in
    let read = c.in_ok-find_next.ensures.bytes in (
      all_read mid digest old left at.chain at.texts at.end way after bytes read,
      has_all mid digest old left at.chain at.texts at.end way after bytes read,
      inr (read_far mid digest old left at.chain at.texts at.end way after bytes read
          (omega (arith, c.if-length-end.true, c.len-length.ensures, c.find_next.new.room.ok.0, at.auto.end-fits))),
    )

pub returns-in-Err-NoMemory-clause-err : goal.returns-in-Err-NoMemory-clause-err
returns-in-Err-NoMemory-clause-err g c =
    let old = (g.S.Source.report c.args.source.now).left in
    (rest_of old, has_any old, tt)

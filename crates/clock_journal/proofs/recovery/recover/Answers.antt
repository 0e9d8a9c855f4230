use Rattle.std.proofs.Common.{◌≡◌, ◌≤◌, ◌+◌, ◌-◌, ◌++◌, List, [], ◌∷◌, ℕ, length, drop, refl, sym, ap, ◌∙◌}
use Rattle.std.proofs.Common.{inl, subst, arith, length-append, get_or, ◌<◌, rules}
use Rattle.std.proofs.Common.{append-nil, reverse}
use Rattle.std.proofs.lemmas.Result.{err_from_is_err_and}
use Rattle.std.proofs.lemmas.List.Elements.{All-nil, All-push}
use Rattle.std.proofs.lemmas.List.{append_assoc, drop_at, get_or-drop, take-append-drop, take_rest}
use Rattle.clock_journal.specs.Format.{Fits, before_text, head, link, last_link, record_of, records}
use Rattle.clock_journal.specs.Crash.{IsEnd, IsFile}
use Rattle.clock_journal.specs.Reading.{Next, next, damaged, whole}
use Rattle.clock_journal.specs.Recovering.{record_at}
use Rattle.clock_journal.specs.inside.Replays.{IsOnWay}
use Rattle.clock_journal.specs.Resuming.{NoneRefused}
use Rattle.clock_journal.specs.Logged.{file_of}
use Rattle.clock_journal.specs.declared.recovery.Record.{Record}
use Rattle.clock_journal.proofs.Lists.{many_bytes, reverse-push}
use Rattle.clock_journal.proofs.Moments.{file-push, last_link-push}
use Rattle.clock_journal.proofs.OwnStarts.{not_refused_push}
use Rattle.clock_journal.proofs.Sourced.{other_found}
use Rattle.clock_journal.proofs.Taking.{next_entry, none_given}
use Rattle.clock_journal.proofs.Files.{file_head_length}
use Rattle.clock_journal.proofs.Whole.{whole_fits, whole_record}
use Rattle.clock_journal.proofs.recovery.recover.Goals as goal

module _ (mid : List ℕ → List (List ℕ) → Type 0) (digest bytes chain : List ℕ) (count : ℕ) (rest : List ℕ)
    (way : IsOnWay mid digest bytes chain count rest) where
  all_bytes : length (file_of digest way.texts) + length rest ≡ length bytes
  all_bytes = sym (ap length way.file ∙ length-append (file_of digest way.texts) rest)

  -- the place of the next record
  next_place : length bytes - length rest ≡ length (file_of digest way.texts)
  next_place = omega (arith, all_bytes)

  -- there are no more texts than bytes
  few_texts : count + length rest ≤ length bytes
  few_texts =
      let file = length-append (head digest) (records digest way.texts) in
      omega (arith, all_bytes, file, many_bytes digest way.texts, way.count_is)

  -- what comes after the texts
  file_at : (Comes : Next → Type 0) → Comes (next chain rest) → IsFile digest bytes way.texts Comes
  file_at Comes comes = record {
    fit = way.fit;
    rest = rest;
    file = way.file;
    comes = subst (λ (before : List ℕ). Comes (next before rest)) way.chain_is comes;
  }

  small_rest : ((place : ℕ) → get_or bytes place 0 < 256) → (place : ℕ) → get_or rest place 0 < 256
  small_rest small place =
      let file = file_of digest way.texts in
      let behind = ap (drop (length file)) way.file ∙ drop_at file rest (length file) refl in
      subst (λ (n : ℕ). n < 256) (sym (get_or-drop (length file) bytes place 0)
      ∙ ap (λ (b : List ℕ). get_or b place 0) behind) (small (length file + place))

  -- one more text was taken, with its record, and is not refused
  on_way_more : (new : List ℕ → List (List ℕ) → Type 0) (refuses : List (List ℕ) → List ℕ → Type 0)
      (text link_is : List ℕ) (record_is : Record)
      → ((place : ℕ) → get_or bytes place 0 < 256) → next chain rest ≡ whole text → link_is ≡ link chain text
      → record_is ≡ record_at digest (reverse way.texts) text
      → ((first : List ℕ) (past : List (List ℕ)) → mid first past → record_is ≡ record_at first past text
      → new first (text ∷ past))
      → NoneRefused refuses [] way.texts → (refuses (reverse way.texts) text → ⊥)
      → (more : IsOnWay new digest bytes link_is (count + 1) (drop (before_text + length text) rest))
      × NoneRefused refuses [] more.texts
  on_way_more new refuses text link_is record_is small is linked same taken fine not_refused =
      let file = file_of digest way.texts in
      let left = drop (before_text + length text) rest in
      let one = record_of (last_link digest way.texts) text in
      let rest_is : rest ≡ one ++ left = whole_record chain rest text (small_rest small) is
      ∙ ap (λ (before : List ℕ). record_of before text ++ left) way.chain_is in (
        record {
          texts = way.texts ++ text ∷ [];
          fit = All-push Fits way.texts text way.fit (whole_fits chain rest text is);
          file = way.file ∙ (ap (λ (b : List ℕ). file ++ b) rest_is ∙ (sym (append_assoc file one left)
              ∙ ap (λ (b : List ℕ). b ++ left) (sym (file-push digest way.texts text))));
          chain_is = linked ∙ (ap (λ (before : List ℕ). link before text) way.chain_is
              ∙ sym (last_link-push digest way.texts text));
          count_is = omega (arith, way.count_is, length-append way.texts (text ∷ []));
          stands = subst (new digest) (sym (reverse-push way.texts text))
              (taken digest (reverse way.texts) way.stands same);
        },
        not_refused_push refuses way.texts text fine not_refused,
      )

pub loop-chain-init : goal.loop-chain-init
loop-chain-init g c =
    let bytes = c.args.bytes.now in
    let has = rw c.if-not-branch.false at c.in_ok-has_head.ensures.ok in
    let file = file_of c.args.digest.now [] in (
      record {
        texts = [];
        fit = All-nil Fits;
        file = sym (take-append-drop file_head_length bytes)
            ∙ (ap (λ (h : List ℕ). h ++ drop file_head_length bytes)
            (has.same ∙ sym (append-nil (head c.args.digest.now)))
            ∙ ap (λ (b : List ℕ). file ++ b) (sym (take_rest bytes file_head_length)));
        chain_is = refl;
        count_is = refl;
        stands = λ first. first;
      },
      tt,
      refl,
    )

pub returns-in_err-has_head-clause-err : goal.returns-in_err-has_head-clause-err
returns-in_err-has_head-clause-err g c =
    let p = err_from_is_err_and c.from_residual.result c.from_residual.ensures.1 in
    rw (p.1, p.2) (other_found (λ (past : List (List ℕ)) (text : List ℕ).
    g.M.Machine.stands_for c.args.machine.now c.args.digest.now []
    → g.M.Machine.refuses (g.M.Machine.rules c.args.machine.now) past text) c.args.digest.now c.args.bytes.now
    c.in_err-has_head.field-0.0
    c.in_err-has_head.ensures.err)

pub loop-chain-preserved : goal.loop-chain-preserved
loop-chain-preserved g c =
    let First = g.M.Machine.stands_for c.args.machine.now c.args.digest.now [] in
    let mid = λ (digest : List ℕ) (texts : List (List ℕ)). First → g.M.Machine.stands_for c.loop-chain.machine digest
    texts in
    let new = λ (digest : List ℕ) (texts : List (List ℕ)). First
    → g.M.Machine.stands_for c.take.new.self digest texts in
    let refuses = λ (past : List (List ℕ)) (text : List ℕ). First
    × g.M.Machine.refuses (g.M.Machine.rules c.args.machine.now) past text in
    let digest = c.args.digest.now in
    let bytes = c.args.bytes.now in
    let text = c.in-Whole.text.now in
    let at = c.loop-chain in
    let way = at.invariant.0 in
    let place = next_place mid digest bytes at.chain at.texts at.rest.now way in
    let more = subst (λ rest. (more : IsOnWay new digest bytes c.in-Whole.digest (at.texts + 1) rest)
    × NoneRefused refuses [] more.texts) (sym (take_rest at.rest.now (before_text + length text)))
    (on_way_more mid digest bytes at.chain at.texts at.rest.now way new refuses text c.in-Whole.digest _
    (λ place. search rules) (sym c.in-Whole.ensures.next) c.in-Whole.ensures.record.linked (next_entry digest way.texts
    text at.chain at.texts (length bytes - length at.rest.now) c.in-Whole.digest way.count_is place way.chain_is
    c.in-Whole.ensures.record.linked) (λ first past stood same is. c.in-Ok.ensures.taken first past (stood is) same)
    at.invariant.1 (λ both. subst (λ (by : List (List ℕ) → List ℕ → Type 0). by (reverse way.texts) text → ⊥)
    (ap g.M.Machine.refuses at.invariant.2) (c.in-Ok.ensures.accepted digest (reverse way.texts) (way.stands both.0))
    both.1)) in (
      more.0,
      more.1,
      c.in-Ok.ensures.rules ∙ at.invariant.2,
    )

-- there are no more texts than bytes, so the count does not overflow
pub overflow_add-number : goal.overflow_add-number
overflow_add-number g c =
    let few = few_texts (λ digest texts. g.M.Machine.stands_for c.args.machine.now c.args.digest.now []
    → g.M.Machine.stands_for c.loop-chain.machine digest texts) c.args.digest.now c.args.bytes.now c.loop-chain.chain
    c.loop-chain.texts c.loop-chain.rest.now c.loop-chain.invariant.0 in
    let whole = c.in-Whole.ensures.record.within in
    omega (arith, few, whole)

pub overflow_sub-end : goal.overflow_sub-end
overflow_sub-end g c =
    omega (
      arith,
      all_bytes (λ digest texts. g.M.Machine.stands_for c.args.machine.now c.args.digest.now []
          → g.M.Machine.stands_for c.loop-chain.machine digest texts) c.args.digest.now c.args.bytes.now
          c.loop-chain.chain c.loop-chain.texts c.loop-chain.rest.now c.loop-chain.invariant.0,
    )

-- ---- the texts after the head

pub returns-in-Ended-clause-ok : goal.returns-in-Ended-clause-ok
returns-in-Ended-clause-ok g c =
    let now = λ (digest : List ℕ) (texts : List (List ℕ)).
    g.M.Machine.stands_for c.args.machine.now c.args.digest.now []
    → g.M.Machine.stands_for c.loop-chain.machine digest texts in
    let digest = c.args.digest.now in
    let bytes = c.args.bytes.now in
    let at = c.loop-chain in
    let way = at.invariant.0 in
    let ends : IsEnd (next at.chain at.rest.now) = search rules in (
      way.texts,
      record {
        chain_is = way.chain_is;
        count_is = way.count_is;
        end_is = inl (
          file_at now digest bytes at.chain at.texts at.rest.now way IsEnd ends,
          next_place now digest bytes at.chain at.texts at.rest.now way,
        );
      },
      λ first. (way.stands first, none_given _ _ [] way.texts first at.invariant.1),
    )

pub returns-in-Damaged-clause-err : goal.returns-in-Damaged-clause-err
returns-in-Damaged-clause-err g c =
    let now = λ (digest : List ℕ) (texts : List (List ℕ)).
    g.M.Machine.stands_for c.args.machine.now c.args.digest.now []
    → g.M.Machine.stands_for c.loop-chain.machine digest texts in
    let digest = c.args.digest.now in
    let bytes = c.args.bytes.now in
    let at = c.loop-chain in
    let way = at.invariant.0 in (
      way.texts,
      file_at now digest bytes at.chain at.texts at.rest.now way (λ (found : Next). found ≡ damaged)
          (sym c.in-Damaged.ensures.next),
      next_place now digest bytes at.chain at.texts at.rest.now way,
    )

pub returns-in-Err-Refused-clause-err : goal.returns-in-Err-Refused-clause-err
returns-in-Err-Refused-clause-err g c =
    let now = λ (digest : List ℕ) (texts : List (List ℕ)).
    g.M.Machine.stands_for c.args.machine.now c.args.digest.now []
    → g.M.Machine.stands_for c.loop-chain.machine digest texts in
    let digest = c.args.digest.now in
    let bytes = c.args.bytes.now in
    let text = c.in-Whole.text.now in
    let at = c.loop-chain in
    let way = at.invariant.0 in (
      way.texts,
      text,
      file_at now digest bytes at.chain at.texts at.rest.now way (λ (found : Next). found ≡ whole text)
          (sym c.in-Whole.ensures.next),
      next_place now digest bytes at.chain at.texts at.rest.now way,
      λ first. subst (λ (by : List (List ℕ) → List ℕ → Type 0). by (reverse way.texts) text)
          (ap g.M.Machine.refuses at.invariant.2)
          (c.take.ensures.refused digest (reverse way.texts) (search rules) (way.stands first)),
    )

pub returns-in-Err-NoMemory-clause-err : goal.returns-in-Err-NoMemory-clause-err
returns-in-Err-NoMemory-clause-err g c = tt

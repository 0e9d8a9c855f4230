use Rattle.std.proofs.Common.{◌≡◌, ◌≤◌, ◌<◌, List, ℕ, length, take, refl, sym, ◌∙◌, subst, arith, rules}
use Rattle.std.proofs.Common.{Bool, true, false, bytes_eq}
use Rattle.std.specs.Prelude.{not}
use Rattle.clock_journal.specs.Format.{head}
use Rattle.clock_journal.specs.Recovering.{HasHead}
use Rattle.clock_journal.proofs.Files.{file_head_length, kind, length-head}
use Rattle.clock_journal.proofs.TakenOver.{has_head, kind_of_head, long_head, not_same, other_head, short_headless}
use Rattle.clock_journal.proofs.Tested.{same_where}
use Rattle.clock_journal.proofs.recovery.has_head.Goals as goal

was_false : (test : Bool) → not test ≡ true → test ≡ false
was_false true is = sym is
was_false false is = refl

was_true : (test : Bool) → not test ≡ false → test ≡ true
was_true true is = refl
was_true false is = sym is

pub returns-then-eq-clause-ok : goal.returns-then-eq-clause-ok
returns-then-eq-clause-ok c = record {
  short = omega (arith, c.if-bytes-lt-HEAD_LENGTH.true, length-head c.args.digest.now (search rules));
  front = same_where _ _ (subst (λ (h : List ℕ). bytes_eq c.args.bytes.now (take (length c.args.bytes.now) h) ≡ true)
      c.head_of-head.ensures (sym c.eq.ensures ∙ c.if-eq.true));
}

pub returns-then-bytes-lt-HEAD_LENGTH-clause-err : goal.returns-then-bytes-lt-HEAD_LENGTH-clause-err
returns-then-bytes-lt-HEAD_LENGTH-clause-err c =
    let digest = c.args.digest.now in
    let bytes = c.args.bytes.now in
    let size : length digest ≡ 32 = search rules in
    let short : length bytes < file_head_length = omega (arith, c.if-bytes-lt-HEAD_LENGTH.true) in
    let none = short_headless digest bytes size short (subst (λ (h : List ℕ). bytes_eq bytes (take (length bytes) h)
    ≡ false) c.head_of-head.ensures (sym c.eq.ensures ∙ c.if-eq.false)) in
    (none, λ headed. let long = (other_head bytes headed).0 in omega (arith, long, short))

-- ---- a file with another head

pub returns-then-ne-clause-err : goal.returns-then-ne-clause-err
returns-then-ne-clause-err c =
    let digest = c.args.digest.now in
    let bytes = c.args.bytes.now in
    let size : length digest ≡ 32 = search rules in
    let long : file_head_length ≤ length bytes = omega (arith, c.if-bytes-lt-HEAD_LENGTH.false) in
    let other = not_same (take (length kind) bytes) kind (was_false _ (sym c.ne.ensures ∙ c.if-ne.true)) in
    let none : HasHead digest bytes → ⊥ =
    λ has. other (kind_of_head digest bytes (long_head digest bytes size long has)) in
    (none, λ headed. other (other_head bytes headed).1)

pub returns-then-ne-2-clause-err : goal.returns-then-ne-2-clause-err
returns-then-ne-2-clause-err c =
    let digest = c.args.digest.now in
    let bytes = c.args.bytes.now in
    let size : length digest ≡ 32 = search rules in
    let long : file_head_length ≤ length bytes = omega (arith, c.if-bytes-lt-HEAD_LENGTH.false) in
    let differ = not_same (take file_head_length bytes) (head digest) (subst (λ (h : List ℕ). bytes_eq
    (take file_head_length bytes) h ≡ false) c.head_of-head.ensures
    (was_false _ (sym c.ne-2.ensures ∙ c.if-ne-2.true))) in
    let none : HasHead digest bytes → ⊥ = λ has. differ (long_head digest bytes size long has) in
    (none, has_head bytes long (same_where _ _ (was_true _ (sym c.ne.ensures ∙ c.if-ne.false))))

pub returns-clause-ok : goal.returns-clause-ok
returns-clause-ok c = record {
  long = omega (arith, c.if-bytes-lt-HEAD_LENGTH.false);
  same = subst (λ (h : List ℕ). take file_head_length c.args.bytes.now ≡ h) c.head_of-head.ensures
      (same_where _ _ (was_true _ (sym c.ne-2.ensures ∙ c.if-ne-2.false)));
}

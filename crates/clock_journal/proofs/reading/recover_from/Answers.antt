use Rattle.std.proofs.Common.{◌≡◌, ◌++◌, List, [], ℕ, arith, inl, inr, length, refl, rules, subst, take}
use Rattle.std.proofs.lemmas.Result.{err_from_is_err_and}
use Rattle.clock_device.specs.Streams.{HasRead}
use Rattle.clock_journal.specs.Format.{head}
use Rattle.clock_journal.proofs.Files.{length-head}
use Rattle.clock_journal.proofs.Sourced.{all_of, has_any, has_before, head_not_read, not_read_since, rest_of, short_out}
use Rattle.clock_journal.proofs.Sourced.{whole_head}
use Rattle.clock_journal.proofs.Taking.{if_err, if_ok}
use Rattle.clock_journal.proofs.reading.recover_from.Goals as goal

pub returns-in_default-clause-err : goal.returns-in_default-clause-err
returns-in_default-clause-err g c =
    let old = (g.S.Source.report c.args.source.now).left in
    (rest_of old, has_any old, inl (search rules))

pub returns-in_err-has_head-clause-err : goal.returns-in_err-has_head-clause-err
returns-in_err-has_head-clause-err g c =
    let p = err_from_is_err_and c.from_residual.result c.from_residual.ensures.1 in
    let after = g.S.Source.report c.fill.new.source in
    let buffer = c.fill.new.buffer in
    let count = c.in-Ok.count in
    let size : length buffer ≡ 56 = search rules in
    rw (p.1, p.2) (head_not_read (λ (past : List (List ℕ)) (text : List ℕ).
    g.M.Machine.stands_for c.args.machine.now c.args.digest.now []
    → g.M.Machine.refuses (g.M.Machine.rules c.args.machine.now) past text) c.args.digest.now (take count buffer)
    (g.S.Source.report c.args.source.now).left after.left (g.S.Source.report c.args.source.now) after
    c.in_err-has_head.field-0.0 (search rules)
    c.in-Ok.ensures.bytes (short_out buffer count after.left c.in-Ok.ensures.within size c.in-Ok.ensures.out)
    c.in_err-has_head.ensures.err)

pub returns-then-not-branch-clause-ok : goal.returns-then-not-branch-clause-ok
returns-then-not-branch-clause-ok g c =
    let old = (g.S.Source.report c.args.source.now).left in
    let left = (g.S.Source.report c.fill.new.source).left in
    let digest = c.args.digest.now in
    let buffer = c.fill.new.buffer in
    let count = c.in-Ok.count in
    let size : length buffer ≡ 56 = search rules in
    let part = rw c.if-not-branch.true at c.in_ok-has_head.ensures.ok in
    let short = part.short in
    let out = short_out buffer count left c.in-Ok.ensures.within size c.in-Ok.ensures.out
    (omega (arith, short, length-head digest (search rules))) in (
      take count buffer,
      [],
      all_of old left (take count buffer) c.in-Ok.ensures.bytes out,
      record { chain_is = refl; count_is = refl; end_is = inr (part, refl, refl) },
      λ first. (first, tt),
    )

pub returns-clause-ok : goal.returns-clause-ok
returns-clause-ok g c =
    let old = (g.S.Source.report c.args.source.now).left in
    let left = (g.S.Source.report c.fill.new.source).left in
    let digest = c.args.digest.now in
    let buffer = c.fill.new.buffer in
    let size : length buffer ≡ 56 = search rules in
    let has = rw c.if-not-branch.false at c.in_ok-has_head.ensures.ok in
    let read = subst (HasRead old left) (whole_head digest buffer c.in-Ok.count c.in-Ok.ensures.within size has)
    c.in-Ok.ensures.bytes in
    if_ok c.take_records.result _ _
    (λ recovered ok. (head digest ++ ok.0, ok.1, has_before old left (head digest) ok.0 read ok.2, ok.3, ok.4))
    c.take_records.ensures.ok

pub returns-clause-err : goal.returns-clause-err
returns-clause-err g c =
    let old = (g.S.Source.report c.args.source.now).left in
    let left = (g.S.Source.report c.fill.new.source).left in
    let digest = c.args.digest.now in
    let buffer = c.fill.new.buffer in
    let size : length buffer ≡ 56 = search rules in
    let has = rw c.if-not-branch.false at c.in_ok-has_head.ensures.ok in
    let read = subst (HasRead old left) (whole_head digest buffer c.in-Ok.count c.in-Ok.ensures.within size has)
    c.in-Ok.ensures.bytes in
    if_err c.take_records.result _ _
    (λ why found. (
      head digest ++ found.0,
      has_before old left (head digest) found.0 read found.1,
      not_read_since (λ (past : List (List ℕ)) (text : List ℕ). g.M.Machine.stands_for c.args.machine.now digest []
          → g.M.Machine.refuses (g.M.Machine.rules c.args.machine.now) past text) digest (head digest ++ found.0)
          (g.S.Source.report c.args.source.now) (g.S.Source.report c.fill.new.source)
          (g.S.Source.report c.take_records.new.source) why c.fill.ensures.counted found.2,
    ))
    c.take_records.ensures.err

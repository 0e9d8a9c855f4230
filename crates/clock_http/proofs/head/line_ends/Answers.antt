-- Each turn of the loop counts one line, and checks the byte before its LF.
use Rattle.std.proofs.Common.{◌+◌, Bool, cond, drop, arith, ap, sym, ◌∙◌}
use Rattle.std.specs.Prelude.{◌||◌, not}
use Rattle.std.proofs.Math.Bool.{or-true, or-false}
use Rattle.clock_http.specs.Scans.{line_ends as count_of_line_ends, has_bare_line_feed}
use Rattle.clock_http.proofs.LineLaws.{line_ends-line, has_bare-line, line_ends-none, has_bare-none, line_found}
use Rattle.clock_http.proofs.LineLaws.{none_found}
use Rattle.clock_http.proofs.head.line_ends.Goals as goal
use Rattle.clock_http.proofs.head.line_ends.Goals.{then-ends_with, else-ends_with}

pub lines-preserved : goal.lines-preserved
lines-preserved c =
    let before = c.lines in
    let has = line_found c.args.text.now before.from c.in-Some.ahead before.invariant.within c.in-Some.ensures in
    let rest = drop (before.from + (c.in-Some.ahead + 1)) c.args.text.now in
    let bare = has_bare_line_feed 0 rest in
    let counted = ap count_of_line_ends has.split ∙ line_ends-line _ rest has.none in
    let loose = ap (λ (t : Bool). before.loose || t)
    (sym (ap (has_bare_line_feed 0) has.split ∙ has_bare-line _ rest has.none)) ∙ before.invariant.loose in
    elim c.if-ends_with.branch [
      | then-ends_with w ↦
          (let ends = sym c.ends_with.ensures.value ∙ w.if-ends_with.true in
          record {
            within = has.within;
            few = omega (arith, w.count-is, before.invariant.few);
            all = omega (
              arith,
              w.count-is,
              before.invariant.all,
              counted ∙ ap (λ (t : Bool). cond t 1 0 + count_of_line_ends rest) ends,
            );
            loose = ap (λ (t : Bool). t || bare) w.loose-is
                ∙ ap (λ (t : Bool). before.loose || (not t || bare)) (sym ends) ∙ loose;
          })
      | else-ends_with w ↦
          (let ends = sym c.ends_with.ensures.value ∙ w.if-ends_with.false in
          record {
            within = has.within;
            few = omega (arith, w.count-is, before.invariant.few);
            all = omega (
              arith,
              w.count-is,
              before.invariant.all,
              counted ∙ ap (λ (t : Bool). cond t 1 0 + count_of_line_ends rest) ends,
            );
            loose = ap (λ (t : Bool). t || bare) w.loose-is ∙ sym (or-true before.loose)
                ∙ ap (λ (t : Bool). before.loose || (not t || bare)) (sym ends) ∙ loose;
          })
    ]

pub returns-clause-count : goal.returns-clause-count
returns-clause-count c =
    omega (
      arith,
      line_ends-none _ (none_found c.args.text.now c.lines.from c.in_default.ensures),
      c.lines.invariant.all,
    )

pub returns-clause-loose : goal.returns-clause-loose
returns-clause-loose c = sym (or-false c.lines.loose) ∙ ap (λ (t : Bool). c.lines.loose || t)
    (sym (has_bare-none 0 _ (none_found c.args.text.now c.lines.from c.in_default.ensures))) ∙ c.lines.invariant.loose

-- A line of this name is counted, and another changes nothing.
use Rattle.std.proofs.Common.{refl, ◌∙◌}
use Rattle.clock_http.proofs.HeaderLaws.{named, line_added, line_passed}
use Rattle.httparse.specs.Spans.{span_bytes}
use Rattle.clock_http.proofs.headers.HeaderLines.add.Goals as goal

pub returns-then-eq_ignore_ascii_case-clause-lines : goal.returns-then-eq_ignore_ascii_case-clause-lines
returns-then-eq_ignore_ascii_case-clause-lines c = λ text pairs are inside.
    line_added text c.args.wanted.now c.args.name.now pairs c.args.self.now _ c.args.value are inside
    (named _ _ c.eq_ignore_ascii_case.result c.eq_ignore_ascii_case.ensures.test ∙ c.if-eq_ignore_ascii_case.true) refl

pub returns-else-eq_ignore_ascii_case-clause-lines : goal.returns-else-eq_ignore_ascii_case-clause-lines
returns-else-eq_ignore_ascii_case-clause-lines c = λ text pairs are inside.
    line_passed text c.args.wanted.now c.args.name.now (span_bytes text c.args.value) pairs c.args.self.now are
    (named _ _ c.eq_ignore_ascii_case.result c.eq_ignore_ascii_case.ensures.test ∙ c.if-eq_ignore_ascii_case.false)

-- Each turn of the loop passes a CR that begins no empty line.
use Rattle.std.proofs.Common.{◌≡◌, ◌+◌, ◌-◌, true, false, length, sym, ◌∙◌, ap, arith, length-drop}
use Rattle.clock_http.proofs.ScanLaws.{goes_on, stops, tail, in_tail, tail_tested, searched, at_end}
use Rattle.clock_http.proofs.head.head_length.Goals as goal

pub returns-preserved : goal.returns-preserved
returns-preserved c =
    let text = c.args.text.now in
    let i = c.returns.from + c.in-Some.ahead in
    let found = c.in-Some.ensures.0 in
    let below = in_tail text c.returns.from c.in-Some.ahead found.high in
    record {
      within = omega (arith, below);
      none = c.returns.invariant.none ∙ searched text c.returns.from c.in-Some.ahead (omega (arith, below))
          (λ k high. found.before k (omega arith) high) ∙ goes_on text i below
          (tail_tested text i c.starts_with.result false c.starts_with.ensures.value c.if-starts_with.false);
    }

pub returns-then-starts_with : goal.returns-then-starts_with
returns-then-starts_with c =
    let text = c.args.text.now in
    let i = c.returns.from + c.in-Some.ahead in
    let found = c.in-Some.ensures.0 in
    let below = in_tail text c.returns.from c.in-Some.ahead found.high in
    sym (c.returns.invariant.none ∙ searched text c.returns.from c.in-Some.ahead (omega (arith, below))
    (λ k high. found.before k (omega arith) high) ∙ stops text i below
    (tail_tested text i c.starts_with.result true c.starts_with.ensures.value c.if-starts_with.true))

pub returns : goal.returns
returns c =
    let text = c.args.text.now in
    let from = c.returns.from in
    let rest = length text - from in
    let within = c.returns.invariant.within in
    let whole : from + rest ≡ length text = omega (arith, within) in
    sym (c.returns.invariant.none ∙ searched text from rest (omega (arith, within)) (λ k high. c.in_default.ensures k
    (omega arith) (omega (arith, high, ap length (tail text from), length-drop from text)))
    ∙ at_end text (from + rest) whole)

use Rattle.std.proofs.Common.{sym, ◌∙◌}
use Rattle.std.proofs.lemmas.Bool.{leb-true}
use Rattle.clock_json.proofs.LexLaws.{nothing_left, at_end}
use Rattle.clock_json.proofs.scan.Scan.ends.Goals as goal

pub returns-then-not-may_begin : goal.returns-then-not-may_begin
returns-then-not-may_begin c = λ is.
    let s = c.self.inside in
    sym c.self.view_is ∙ nothing_left s.expected _ (sym c.may_begin.ensures ∙ c.if-not-may_begin.true)
    (sym c.after_space.ensures ∙ at_end s.bytes.now c.after_space.result (leb-true _ _ is))

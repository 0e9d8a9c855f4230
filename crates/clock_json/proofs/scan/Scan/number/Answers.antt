use Rattle.std.proofs.Common.{◌≡◌, ◌∷◌, true, sym, ap, ◌∙◌, decimal}
use Rattle.json.specs.Token.{number}
use Rattle.json.specs.Lex.{may_begin}
use Rattle.clock_json.specs.Left.{place_of}
use Rattle.clock_json.specs.Reading.{whole_number}
use Rattle.clock_json.proofs.LexLaws.{number_begins}
use Rattle.clock_json.proofs.Steps.{number_reads, reads_shorter}
use Rattle.clock_json.proofs.scan.Scan.number.Goals as goal

pub returns-clause-value : goal.returns-clause-value
returns-clause-value c =
    let s = c.self.inside in
    let reported = rw c.in_ok-n.ensures.ok_part at c.decimal_at.ensures in
    let may : may_begin (place_of s.expected) ≡ true = sym c.may_begin.ensures ∙ c.if-not-may_begin.false in
    number_reads c.in_ok-n.n c.args.self.now _ reported.small
    (sym c.self.view_is ∙ number_begins (place_of s.expected) _ _ _ may (sym c.after_space-at.ensures ∙ reported.value)
    ∙ ap (λ ts. number (decimal c.in_ok-n.n) ∷ ts) (sym c.after_value.ensures))

pub returns-clause-shorter : goal.returns-clause-shorter
returns-clause-shorter c = reads_shorter 0 c.args.self.now (whole_number c.in_ok-n.n) _ (returns-clause-value c)

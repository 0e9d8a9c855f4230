use Rattle.std.proofs.Common.{◌≡◌, ◌∷◌, [], true, sym, ◌∙◌}
use Rattle.json.specs.Lex.{may_begin}
use Rattle.clock_json.specs.Left.{place_of}
use Rattle.clock_json.specs.Reading.{numbers}
use Rattle.clock_json.proofs.CompactLaws.{triple_punctuated, triple_reads}
use Rattle.clock_json.proofs.Steps.{reads_shorter}
use Rattle.clock_json.proofs.scan.Scan.compact_triple.Goals as goal

pub returns-clause-value : goal.returns-clause-value
returns-clause-value c =
    let s = c.self.inside in
    let triple = c.in_ok-triple.triple in
    let may : may_begin (place_of s.expected) ≡ true = sym c.may_begin.ensures ∙ c.if-not-may_begin.false in
    triple_reads triple.first triple.second triple.third c.args.self.now _ c.in_ok-triple.ensures.small
    (sym c.self.view_is ∙ triple_punctuated (place_of s.expected) _ _ _ _ _ may c.in_ok-triple.ensures.value)

pub returns-clause-shorter : goal.returns-clause-shorter
returns-clause-shorter c =
    let triple = c.in_ok-triple.triple in
    reads_shorter 1 c.args.self.now (numbers (triple.first ∷ triple.second ∷ triple.third ∷ [])) _
    (returns-clause-value c)

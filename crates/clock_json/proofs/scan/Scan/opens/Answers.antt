use Rattle.std.proofs.Common.{◌≡◌, true, sym, ◌∙◌}
use Rattle.json.specs.Lex.{may_begin, fresh}
use Rattle.clock_json.specs.Left.{place_of}
use Rattle.clock_json.proofs.LexLaws.{mark_at, opened}
use Rattle.clock_json.proofs.scan.Scan.opens.Goals as goal

pub returns : goal.returns
returns c =
    let s = c.self.inside in
    let at = c.after_space-at.result in
    let may : may_begin (place_of s.expected) ≡ true = sym c.may_begin.ensures ∙ c.if-not-may_begin.false in
    let there = c.is_at.ensures c.if-not-is_at.false in
    opened c.args.mark _ (λ t reads. sym c.self.view_is ∙ mark_at may_begin c.args.mark t
    (place_of s.expected) fresh s.bytes.now s.at at reads may c.after_space-at.ensures there.0 there.1)

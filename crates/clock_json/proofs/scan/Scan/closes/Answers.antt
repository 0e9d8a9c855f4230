use Rattle.std.proofs.Common.{◌≡◌, ◌∷◌, true, sym, ap, ◌∙◌}
use Rattle.json.specs.Lex.{may_close, after_value}
use Rattle.clock_json.specs.Left.{place_of}
use Rattle.clock_json.proofs.LexLaws.{mark_at, closed_mark}
use Rattle.clock_json.proofs.scan.Scan.closes.Goals as goal

pub returns : goal.returns
returns c =
    let s = c.self.inside in
    let at = c.after_space-at.result in
    let may : may_close (place_of s.expected) ≡ true = c.is_after_comma.ensures.others c.if-is_after_comma.false in
    let there = c.is_at.ensures c.if-not-is_at.false in
    closed_mark c.args.mark _
    (λ t reads. sym c.self.view_is ∙ mark_at may_close c.args.mark t (place_of s.expected) after_value s.bytes.now s.at
    at reads may c.after_space-at.ensures there.0 there.1 ∙ ap (λ ts. t ∷ ts) (sym c.after_value.ensures))

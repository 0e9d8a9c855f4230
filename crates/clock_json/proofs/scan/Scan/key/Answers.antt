use Rattle.std.proofs.Common.{◌≡◌, ◌∷◌, true, sym, ap, ◌∙◌}
use Rattle.json.specs.Token.{string}
use Rattle.json.specs.Lex.{may_begin, token}
use Rattle.clock_json.specs.Left.{place_of}
use Rattle.clock_json.proofs.LexLaws.{key_begins, colon_at}
use Rattle.clock_json.proofs.scan.Scan.key.Goals as goal

pub returns : goal.returns
returns c =
    let s = c.self.inside in
    let end = c.after_space-at-2.result in
    let there = c.is_at.ensures c.if-not-is_at.false in
    let may : may_begin (place_of s.expected) ≡ true = sym c.may_begin.ensures ∙ c.if-not-may_begin.false in
    sym c.self.view_is ∙ key_begins (place_of s.expected) _ _ _ may
    (sym c.after_space-at.ensures ∙ c.in_ok-key.ensures.lexes ∙ ap (λ ls. token (string c.in_ok-key.key.now) ∷ ls)
    (sym c.after_space-at-2.ensures ∙ colon_at s.bytes.now end there.0 there.1))

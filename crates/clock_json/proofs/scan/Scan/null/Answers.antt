use Rattle.std.proofs.Common.{◌≡◌, ◌+◌, ◌-◌, ◌<◌, ◌∷◌, true, length, take, drop, sym, ap, ◌∙◌, arith}
use Rattle.json.specs.Token.{null}
use Rattle.json.specs.Lex.{may_begin}
use Rattle.clock_json.specs.Left.{place_of}
use Rattle.clock_json.proofs.LexLaws.{null_begins, null_word}
use Rattle.clock_json.proofs.Steps.{null_reads}
use Rattle.clock_json.proofs.scan.Scan.null.Goals as goal

pub returns : goal.returns
returns c =
    let s = c.self.inside in
    let bytes = s.bytes.now in
    let at = c.after_space-at.result in
    let may : may_begin (place_of s.expected) ≡ true = sym c.may_begin.ensures ∙ c.if-not-may_begin.false in
    let within : at + 4 < length bytes = omega (arith, c.has_room.ensures c.if-not-has_room.false) in
    let count : 4 ≡ (at + 4) - at = omega arith in
    let word = null_word bytes at within (ap (λ n. take n (drop at bytes)) count
    ∙ c.is_key.ensures c.if-not-is_key.false) (c.ends_word.ensures c.if-not-ends_word.false) in
    null_reads c.args.self.now _ (sym c.self.view_is ∙ null_begins (place_of s.expected) _ _ may
    (sym c.after_space-at.ensures ∙ word) ∙ ap (λ ts. null ∷ ts) (sym c.after_value.ensures))

use Rattle.std.proofs.Common.{◌≡◌, ◌∷◌, true, false, List, ℕ, sym, ap, subst, ◌∙◌}
use Rattle.json.specs.Token.{Token, string as string_token}
use Rattle.json.specs.Lex.{may_begin, begins_colon, lex, between, token}
use Rattle.std.specs.Prelude.{drop}
use Rattle.serde_json.specs.Data.{string}
use Rattle.clock_json.specs.Left.{place_of}
use Rattle.clock_json.proofs.LexLaws.{text_begins}
use Rattle.clock_json.proofs.Steps.{text_reads, reads_shorter}
use Rattle.clock_json.proofs.scan.Scan.text.Goals as goal

pub returns-clause-value : goal.returns-clause-value
returns-clause-value c =
    let s = c.self.inside in
    let text = c.in_ok-text.text.now in
    let may : may_begin (place_of s.expected) ≡ true = sym c.may_begin.ensures ∙ c.if-not-may_begin.false in
    let still : begins_colon (lex between (drop c.in_ok-text.at s.bytes.now)) ≡ false =
    ap begins_colon (sym c.after_space.ensures) ∙ c.ends_text.ensures c.if-not-ends_text.false in
    let quoted = subst (λ (bytes : List ℕ). lex between (drop c.after_space-at.result bytes)
    ≡ token (string_token text) ∷ lex between (drop c.in_ok-text.at bytes)) c.self.invariant c.in_ok-text.ensures in
    text_reads text c.args.self.now _
    (sym c.self.view_is ∙ text_begins (place_of s.expected) _ _ _ may (sym c.after_space-at.ensures ∙ quoted) still
    ∙ ap (λ ts. Token.string text ∷ ts) (sym c.after_value.ensures))

pub returns-clause-shorter : goal.returns-clause-shorter
returns-clause-shorter c = reads_shorter 0 c.args.self.now (string c.in_ok-text.text.now) _ (returns-clause-value c)

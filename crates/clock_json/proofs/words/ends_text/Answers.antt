use Rattle.std.proofs.Common.{◌≡◌, ℕ, Bool, true, false, ◌||◌, List, ◌∷◌, get_or, eqb, refl, ap, ◌∙◌}
use Rattle.std.proofs.lemmas.Bool.{eqb-true}
use Rattle.json.specs.Lex.{lex, between, begins_colon}
use Rattle.clock_json.proofs.LexLaws.{at_byte}
use Rattle.clock_json.proofs.words.ends_text.Goals as goal

-- a byte that is one of three marks begins no colon
no_colon : (byte : ℕ) (comma brace bracket : Bool) → eqb byte 44 ≡ comma → eqb byte 125 ≡ brace → eqb byte 93 ≡ bracket
    → ((comma || brace) || bracket) ≡ true → (rest : List ℕ) → begins_colon (lex between (byte ∷ rest)) ≡ false
unfolding lex
no_colon byte true brace bracket is _ _ _ rest = ap (λ b. begins_colon (lex between (b ∷ rest))) (eqb-true byte 44 is)
no_colon byte false true bracket _ is _ _ rest = ap (λ b. begins_colon (lex between (b ∷ rest))) (eqb-true byte 125 is)
no_colon byte false false true _ _ is _ rest = ap (λ b. begins_colon (lex between (b ∷ rest))) (eqb-true byte 93 is)
no_colon byte false false false _ _ _ none rest = absurd cc

pub returns-then-at-bytes : goal.returns-then-at-bytes
returns-then-at-bytes c = λ is.
    let bytes = c.args.bytes.now in
    ap (λ text. begins_colon (lex between text)) (at_byte bytes c.args.at _ c.if-at-bytes.true refl)
    ∙ no_colon (get_or bytes c.args.at 0) _ _ _ refl refl refl is _

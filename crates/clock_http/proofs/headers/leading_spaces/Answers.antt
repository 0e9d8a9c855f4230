-- The first byte that is not a space follows the leading spaces.
use Rattle.std.proofs.Common.{rules, tests, ◌≡◌, ◌≤◌, ◌+◌, ◌==◌, ℕ, suc, Bool, true, false, not, cond, ltb, List, []}
use Rattle.std.proofs.Common.{◌∷◌, Option, Some, None, length, drop, refl, ap, ◌∙◌, arith}
use Rattle.std.proofs.lemmas.Bool.Decides.{nat_tests}
use Rattle.std.proofs.lemmas.Iterator.{YieldsList-from_slice}
use Rattle.std.proofs.lemmas.Iterator.Search.{position_from_yields_List}
use Rattle.std.specs.List.{position_or_len}
use Rattle.std.specs.Option.{unwrap_or}
use Rattle.clock_http.specs.HeaderLines.{skip_spaces}
use Rattle.clock_http.proofs.headers.leading_spaces.Goals as goal

abbrev is_other : ℕ → Bool
is_other b = not (b == 32)

-- the first byte that is not a space follows the leading spaces
behind : (text : List ℕ)
    → (position_or_len is_other text ≤ length text) × (drop (position_or_len is_other text) text ≡ skip_spaces text)
behind [] = (omega arith, refl)
behind (b ∷ rest) = by (behind rest) (b == 32) refl
  where
    by : (position_or_len is_other rest ≤ length rest) × (drop (position_or_len is_other rest) rest ≡ skip_spaces rest)
        → (t : Bool) → (b == 32) ≡ t → (position_or_len is_other (b ∷ rest) ≤ length (b ∷ rest))
        × (drop (position_or_len is_other (b ∷ rest)) (b ∷ rest) ≡ skip_spaces (b ∷ rest))
    by behind_rest true e =
        let count = position_or_len is_other rest in
        let next : 1 + count ≡ suc count = omega arith in
        rw e (omega (arith, behind_rest.0), ap (λ (n : ℕ). drop n (b ∷ rest)) next ∙ behind_rest.1)
    by behind_rest false e = rw e (omega arith, refl)

-- the index that a search finds, or the number of bytes if it finds none
reported : (at n : ℕ) (result : Option ℕ) → at ≤ n → result ≡ cond (ltb at n) (Some at) None → unwrap_or result n ≡ at
reported at n result within is = by (ltb at n) refl
  where
    by : (t : Bool) → ltb at n ≡ t → unwrap_or result n ≡ at
    by true e = ap (λ (r : Option ℕ). unwrap_or r n) (is ∙ ap (λ (u : Bool). cond u (Some at) None) e)
    by false e = ap (λ (r : Option ℕ). unwrap_or r n) (is ∙ ap (λ (u : Bool). cond u (Some at) None) e)
        ∙ grind (arith, nat_tests)

first : (c : goal.After-unwrap_or) → c.unwrap_or.result ≡ position_or_len is_other c.args.text.now
first c =
    let text = c.args.text.now in
    c.unwrap_or.ensures ∙ reported (position_or_len is_other text) (length text) c.position.result (behind text).0
    (position_from_yields_List is_other _ _ c.position.result c.position.ensures.ran (YieldsList-from_slice text cc)
    (λ x b q k. search (rules, tests)))

pub returns-clause-within : goal.returns-clause-within
returns-clause-within c = omega (arith, first c, (behind c.args.text.now).0)

pub returns-clause-rest : goal.returns-clause-rest
returns-clause-rest c = ap (λ (count : ℕ). drop count c.args.text.now) (first c) ∙ (behind c.args.text.now).1

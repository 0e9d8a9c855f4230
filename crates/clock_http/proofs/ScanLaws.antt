-- The search for an empty line, from CR to CR, passes none.
use Rattle.std.proofs.Common.{◌≡◌, ℕ, ◌+◌, ◌-◌, ◌<◌, ◌≤◌, ◌≢◌, ◌&&◌, ◌==◌, suc, zero, Bool, true, false, cond, List, []}
use Rattle.std.proofs.Common.{◌∷◌, ◌++◌, length, get_or, take}
use Rattle.std.proofs.Common.{drop, length-drop, Option, Some, None, refl, sym, ◌∙◌, ap, arith, add-one}
use Rattle.std.specs.Prelude.{option_map, nat_eq}
use Rattle.std.specs.List.{starts_with}
use Rattle.std.proofs.Math.Seq.{drop-cons}
use Rattle.std.specs.Cmp.Lexicographic.{pointwise}
use Rattle.std.proofs.lemmas.Bool.{ne_eqb, eq-eqb}
use Rattle.std.proofs.lemmas.List.{take_all, take-append-le, get_or-drop, drop_all}
use Rattle.clock_http.specs.Scans.{head_length}
use Rattle.clock_http.specs.inside.HeadTests.{empty_line}

pub at_start : (o : Option ℕ) → o ≡ option_map (λ k. 0 + k) o
at_start None = refl
at_start (Some k) = ap Some (omega arith)

further : (i : ℕ) (o : Option ℕ) → option_map (λ k. i + k) (option_map (λ k. suc k) o) ≡ option_map (λ k. (i + 1) + k) o
further i None = refl
further i (Some k) = ap Some (omega arith)

-- the rest of a text begins with the byte at its index
first_byte : (text : List ℕ) (i : ℕ) → i < length text → drop i text ≡ get_or text i 0 ∷ drop (i + 1) text
first_byte text i lt = drop-cons text i 0 lt ∙ ap (λ n. get_or text i 0 ∷ drop n text) (sym (add-one i))

-- one byte is tested
tested : (text : List ℕ) (i : ℕ) (begins : Bool) → i < length text
    → starts_with nat_eq (drop i text) empty_line ≡ begins → option_map (λ k. i + k) (head_length (drop i text))
    ≡ option_map (λ k. i + k) (cond begins (Some 4) (option_map (λ k. suc k) (head_length (drop (i + 1) text))))
tested text i begins lt is =
    ap (λ t. option_map (λ k. i + k) (head_length t)) (first_byte text i lt)
    ∙ ap (λ t. option_map (λ k. i + k) (cond t (Some 4) (option_map (λ k. suc k) (head_length (drop (i + 1) text)))))
    (ap (λ t. starts_with nat_eq t empty_line) (sym (first_byte text i lt)) ∙ is)

pub goes_on : (text : List ℕ) (i : ℕ) → i < length text → starts_with nat_eq (drop i text) empty_line ≡ false
    → option_map (λ k. i + k) (head_length (drop i text))
    ≡ option_map (λ k. (i + 1) + k) (head_length (drop (i + 1) text))
goes_on text i lt fails = tested text i false lt fails ∙ further i (head_length (drop (i + 1) text))

pub stops : (text : List ℕ) (i : ℕ) → i < length text → starts_with nat_eq (drop i text) empty_line ≡ true
    → option_map (λ k. i + k) (head_length (drop i text)) ≡ Some (i + 4)
stops text i lt holds = tested text i true lt holds

-- no empty line begins with another byte than a CR
other_byte : (text : List ℕ) (i : ℕ) → i < length text → get_or text i 0 ≢ 13
    → starts_with nat_eq (drop i text) empty_line ≡ false
other_byte text i lt other = ap (λ t. starts_with nat_eq t empty_line) (first_byte text i lt) ∙ ap (λ t. t && pointwise
    nat_eq (10 ∷ 13 ∷ 10 ∷ []) (take 3 (drop (i + 1) text))) (ne_eqb 13 (get_or text i 0) (λ same. other (sym same)))

-- none begins before the next CR
pub passed : (text : List ℕ) (from count : ℕ) → from + count ≤ length text
    → ((k : ℕ) → from ≤ k → k < from + count → get_or text k 0 ≢ 13) → option_map (λ k. from + k)
    (head_length (drop from text)) ≡ option_map (λ k. (from + count) + k) (head_length (drop (from + count) text))
passed text from zero within others =
    let same : from ≡ from + 0 = omega arith in
    ap (λ (n : ℕ). option_map (λ k. n + k) (head_length (drop n text))) same
passed text from (suc count) within others =
    let same : (from + 1) + count ≡ from + suc count = omega arith in
    goes_on text from (omega (arith, within)) (other_byte text from (omega (arith, within)) (others from (omega arith)
    (omega arith))) ∙ passed text (from + 1) count (omega (arith, within)) (λ k low high. others k (omega (arith, low))
    (omega (arith, high))) ∙ ap (λ (n : ℕ). option_map (λ k. n + k) (head_length (drop n text))) same

-- the slice from i on
pub tail : (text : List ℕ) (i : ℕ) → take (length text - i) (drop i text) ≡ drop i text
tail text i = take_all (length text - i) (drop i text) (omega (arith, length-drop i text))

-- an index of this slice is an index of the text
pub in_tail : (text : List ℕ) (from ahead : ℕ) → ahead < length (take (length text - from) (drop from text))
    → from + ahead < length text
in_tail text from ahead within = omega (arith, within, ap length (tail text from), length-drop from text)

-- a test of the slice is a test of the rest of the text
pub tail_tested : (text : List ℕ) (i : ℕ) (result begins : Bool) → result ≡ starts_with nat_eq (take (length text - i)
    (drop i text)) empty_line → result ≡ begins → starts_with nat_eq (drop i text) empty_line ≡ begins
tail_tested text i result begins test is = ap (λ t. starts_with nat_eq t empty_line) (sym (tail text i)) ∙ sym test ∙ is

-- none begins before the byte that a search for a CR finds
pub searched : (text : List ℕ) (from ahead : ℕ) → from + ahead ≤ length text → ((k : ℕ) → k < ahead
    → (get_or (take (length text - from) (drop from text)) k 0 == 13) ≡ true → ⊥) → option_map (λ k. from + k)
    (head_length (drop from text)) ≡ option_map (λ k. (from + ahead) + k) (head_length (drop (from + ahead) text))
searched text from ahead within none =
    passed text from ahead within
    (λ k low high same.
    let place : from + (k - from) ≡ k = omega (arith, low) in
    let at : get_or (take (length text - from) (drop from text)) (k - from) 0 ≡ get_or text k 0 = ap (λ t. get_or t
    (k - from) 0) (tail text from) ∙ get_or-drop from text (k - from) 0 ∙ ap (λ n. get_or text n 0) place in
    none (k - from) (omega (arith, low, high))
    (eq-eqb (get_or (take (length text - from) (drop from text)) (k - from) 0) 13 (at ∙ same)))

-- none begins at the end
pub at_end : (text : List ℕ) (place : ℕ) → place ≡ length text
    → option_map (λ k. place + k) (head_length (drop place text)) ≡ None
at_end text place end =
    ap (λ t. option_map (λ k. place + k) (head_length t)) (drop_all place text (omega (arith, end)))

-- no empty line begins before the last three of bytes without one
pub skipped : (k : ℕ) (front more : List ℕ) → head_length front ≡ None → k ≤ length front - 3
    → head_length (front ++ more) ≡ option_map (λ n. k + n) (head_length (drop k (front ++ more)))
skipped zero front more none le = at_start (head_length (front ++ more))
skipped (suc k) [] more none le = absurd (omega arith)
skipped (suc k) (b ∷ rest) more none le =
    let long : 4 ≤ length (b ∷ rest) = omega arith in
    let parts = not_here (starts_with nat_eq (b ∷ rest) empty_line) (head_length rest) none in
    let same : starts_with nat_eq (b ∷ (rest ++ more)) empty_line ≡ starts_with nat_eq (b ∷ rest) empty_line =
    ap (λ t. pointwise nat_eq empty_line t) (take-append-le 4 (b ∷ rest) more long) in
    let later = skipped k rest more parts.1 (omega arith) in
    ap (λ t. cond t (Some 4) (option_map (λ k. suc k) (head_length (rest ++ more)))) (same ∙ parts.0)
    ∙ ap (option_map (λ k. suc k)) later ∙ one_later k (head_length (drop k (rest ++ more)))
  where
    not_here : (t : Bool) (o : Option ℕ) → cond t (Some 4) (option_map (λ k. suc k) o) ≡ None → (t ≡ false) × (o ≡ None)
    not_here true o e = absurd cc
    not_here false None e = (refl, refl)
    not_here false (Some n) e = absurd cc

    one_later : (k : ℕ) (o : Option ℕ)
        → option_map (λ n. suc n) (option_map (λ n. k + n) o) ≡ option_map (λ n. suc k + n) o
    one_later k None = refl
    one_later k (Some n) = ap Some (omega arith)

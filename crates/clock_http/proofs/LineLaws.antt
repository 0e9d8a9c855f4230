-- The count of line ends and the test for loose ones, computed line by line instead of byte by byte.
use Rattle.std.proofs.Common.{◌≡◌, ℕ, ◌+◌, ◌-◌, ◌<◌, ◌≤◌, ◌≢◌, ◌&&◌, ◌==◌, suc, Bool, true, false, cond, List, [], ◌∷◌}
use Rattle.std.proofs.Common.{◌++◌, length, get_or, take, drop}
use Rattle.std.proofs.Common.{refl, sym, ◌∙◌, ap, subst, arith, zero-add, length-drop, Some, None}
use Rattle.std.specs.Prelude.{◌||◌, not, nat_eq}
use Rattle.std.specs.List.{ends_with}
use Rattle.std.specs.Cmp.Lexicographic.{pointwise}
use Rattle.std.proofs.lemmas.Bool.{ne_eqb, eq-eqb}
use Rattle.std.proofs.lemmas.Bool.Decides.{nat_tests}
use Rattle.std.proofs.lemmas.List.{take-append-drop, drop-drop, drop_more, get_or-take, length-take}
use Rattle.memchr.specs.Find.{IsFirstByte, is_byte}
use Rattle.clock_http.specs.Scans.{line_ends, has_bare_line_feed}
use Rattle.clock_http.proofs.ScanLaws.{tail}

-- a line has no LF
abbrev pub NoFeed : List ℕ → Type 0
NoFeed line = (k : ℕ) → k < length line → get_or line k 0 ≢ 10

-- a line ends with a CR
abbrev pub has_return : List ℕ → Bool
has_return line = ends_with nat_eq line (13 ∷ [])

later : (x : ℕ) (line : List ℕ) → NoFeed (x ∷ line) → NoFeed line
later x line none k lt = none (suc k) (omega arith)

has_return-cons : (x y : ℕ) (line : List ℕ) → has_return (x ∷ (y ∷ line)) ≡ has_return (y ∷ line)
has_return-cons x y line = ap (λ n. pointwise nat_eq (13 ∷ []) (drop n (x ∷ (y ∷ line))))
    (let e : length (x ∷ (y ∷ line)) - 1 ≡ suc (length (y ∷ line) - 1) = omega arith in e)

-- no line ends at a byte that no LF follows
no_end : (b : Bool) (n : ℕ) → cond (b && false) 1 0 + n ≡ n
no_end true n = zero-add n
no_end false n = zero-add n

passed_end : (x y : ℕ) (rest : List ℕ) → y ≢ 10 → line_ends (x ∷ (y ∷ rest)) ≡ line_ends (y ∷ rest)
passed_end x y rest other = ap (λ t. cond (nat_eq 13 x && (t && true)) 1 0 + line_ends (y ∷ rest))
    (ne_eqb 10 y (λ same. other (sym same))) ∙ no_end (nat_eq 13 x) (line_ends (y ∷ rest))

pub line_ends-line : (line rest : List ℕ) → NoFeed line
    → line_ends (line ++ 10 ∷ rest) ≡ cond (has_return line) 1 0 + line_ends rest
line_ends-line [] rest none = refl
line_ends-line (x ∷ []) rest none = ap (λ n. cond (nat_eq 13 x && true) 1 0 + n) (zero-add (line_ends rest))
line_ends-line (x ∷ (y ∷ line)) rest none =
    passed_end x y (line ++ 10 ∷ rest) (none 1 (omega arith)) ∙ line_ends-line (y ∷ line) rest (later x (y ∷ line) none)
    ∙ ap (λ t. cond t 1 0 + line_ends rest) (sym (has_return-cons x y line))

pub line_ends-none : (line : List ℕ) → NoFeed line → line_ends line ≡ 0
line_ends-none [] none = refl
line_ends-none (x ∷ []) none = no_end (nat_eq 13 x) 0
line_ends-none (x ∷ (y ∷ line)) none =
    passed_end x y line (none 1 (omega arith)) ∙ line_ends-none (y ∷ line) (later x (y ∷ line) none)

-- a byte that is not an LF is not a bare LF
passed_bare : (before x : ℕ) (rest : List ℕ) → x ≢ 10 → has_bare_line_feed before (x ∷ rest) ≡ has_bare_line_feed x rest
passed_bare before x rest other = ap (λ t. (t && not (before == 13)) || has_bare_line_feed x rest) (ne_eqb x 10 other)

-- what follows an LF begins a line
after_feed : (rest : List ℕ) → has_bare_line_feed 10 rest ≡ has_bare_line_feed 0 rest
after_feed [] = refl
after_feed (x ∷ rest) = refl

same_test : (x : ℕ) → (x == 13) ≡ (nat_eq 13 x && true)
same_test x = grind (arith, nat_tests)

pub has_bare-line : (line rest : List ℕ) → NoFeed line
    → has_bare_line_feed 0 (line ++ 10 ∷ rest) ≡ (not (has_return line) || has_bare_line_feed 0 rest)
has_bare-line [] rest none = refl
has_bare-line (x ∷ []) rest none =
    passed_bare 0 x (10 ∷ rest) (none 0 (omega arith)) ∙ ap (λ t. not (x == 13) || t) (after_feed rest)
    ∙ ap (λ t. not t || has_bare_line_feed 0 rest) (same_test x)
has_bare-line (x ∷ (y ∷ line)) rest none = passed_bare 0 x (y ∷ (line ++ 10 ∷ rest)) (none 0 (omega arith))
    ∙ passed_bare x y (line ++ 10 ∷ rest) (none 1 (omega arith))
    ∙ sym (passed_bare 0 y (line ++ 10 ∷ rest) (none 1 (omega arith))) ∙ has_bare-line (y ∷ line) rest
    (later x (y ∷ line) none) ∙ ap (λ t. not t || has_bare_line_feed 0 rest) (sym (has_return-cons x y line))

pub has_bare-none : (before : ℕ) (line : List ℕ) → NoFeed line → has_bare_line_feed before line ≡ false
has_bare-none before [] none = refl
has_bare-none before (x ∷ line) none =
    passed_bare before x line (none 0 (omega arith)) ∙ has_bare-none x line (later x line none)

-- ---- the next line of a text

-- the bytes up to an LF
abbrev pub line_in : List ℕ → ℕ → ℕ → List ℕ
line_in text from ahead = take ((from + ahead) - from) (drop from text)

-- a line begins at an index, and the rest of the text follows its LF
pub record HasLine (text : List ℕ) (from ahead : ℕ) : Type 0 where
  pub within : from + (ahead + 1) ≤ length text
  pub split : drop from text ≡ line_in text from ahead ++ 10 ∷ drop (from + (ahead + 1)) text
  pub none : NoFeed (line_in text from ahead)

-- the slice that is searched for an LF
abbrev rest_of : List ℕ → ℕ → List ℕ
rest_of text from = take (length text - from) (drop from text)

pub line_found : (text : List ℕ) (from ahead : ℕ) → from ≤ length text
    → IsFirstByte (is_byte 10) (rest_of text from) (Some ahead) → HasLine text from ahead
line_found text from ahead start first =
    let xs = drop from text in
    let found = subst (λ (hay : List ℕ). IsFirstByte (is_byte 10) hay (Some ahead)) (tail text from) first in
    let high : ahead < length xs = found.0.high in
    let size : (from + ahead) - from ≡ ahead = omega arith in
    let feed : get_or xs ahead 0 ≡ 10 =
    (let test : (get_or xs ahead 0 == 10) ≡ true = found.1 in grind (arith, nat_tests)) in
    let same : line_in text from ahead ≡ take ahead xs = ap (λ n. take n xs) size in
    record {
      within = omega (arith, length-drop from text);
      split = sym (take-append-drop ahead xs) ∙ ap (λ rest. take ahead xs ++ rest) (drop_more xs ahead 0 high
          ∙ ap (λ b. b ∷ drop (ahead + 1) xs) feed ∙ ap (λ rest. 10 ∷ rest) (drop-drop (ahead + 1) from text))
          ∙ ap (λ line. line ++ 10 ∷ drop (from + (ahead + 1)) text) (sym same);
      none = λ k lt is.
          let less : k < ahead = omega (arith, ap length same, length-take ahead xs) in
          let at : get_or xs k 0 ≡ 10 = sym (ap (λ line. get_or line k 0) same ∙ get_or-take ahead xs k 0 less) ∙ is in
          found.0.before k (omega arith) less (eq-eqb (get_or xs k 0) 10 at);
    }

-- no further line ends
pub none_found : (text : List ℕ) (from : ℕ) → IsFirstByte (is_byte 10) (rest_of text from) None
    → NoFeed (drop from text)
none_found text from none = λ k lt is. subst (λ (hay : List ℕ). IsFirstByte (is_byte 10) hay None)
    (tail text from) none k (omega arith) lt (eq-eqb (get_or (drop from text) k 0) 10 is)

-- A decided text stays decided, and what is known of a text follows from what is known of a prefix. The end of a head,
-- once found, does not move, and everything else depends on the bytes before it and on lengths.
use Rattle.std.proofs.Common.{◌≡◌, ℕ, ◌+◌, ◌≤◌, ◌⊎◌, suc, Bool, true, false, cond, List, [], ◌∷◌, ◌++◌, length, take}
use Rattle.std.proofs.Common.{drop, Option, Some}
use Rattle.std.proofs.Common.{None, Ok, Err, Result, refl, sym, ◌∙◌, ap, arith, inl, inr, zero, length-append}
use Rattle.std.proofs.Common.{length-drop}
use Rattle.std.specs.Prelude.{option_map, option_and_then, nat_eq, nat_lt, if◌then◌else◌}
use Rattle.std.specs.List.{starts_with}
use Rattle.std.specs.Cmp.Lexicographic.{as_long, pointwise}
use Rattle.std.proofs.lemmas.Bool.Decides.{nat_tests}
use Rattle.std.proofs.lemmas.List.{take-append-le, drop-append-le, length-take}
use Rattle.std.proofs.Math.Seq.{take-nil}
use Rattle.clock_api.specs.declared.code.Code.{Code}
use Rattle.clock_api.specs.declared.code.Code.TheVariants.{LongHead}
use Rattle.clock_http.specs.Scans.{head_length}
use Rattle.clock_http.specs.inside.HeadTests.{empty_line}
use Rattle.clock_http.specs.inside.HeadParts.{head_with_length, ended_at}
use Rattle.clock_http.specs.Framing.{ok_head, ended_head, head_in, head_limit, Head, Known, unended, waiting}
use Rattle.clock_http.specs.Framing.{complete, refused, known_with_body, known_with_head, known_with_end, known}
use Rattle.clock_http.specs.Framing.{advanced, is_incomplete}
use Rattle.clock_http.specs.Framing.{incomplete, refusal, whole, framed_at, framed_head, framing}
use Rattle.clock_http.specs.inside.Framed.{framed}
use Rattle.clock_http.specs.FramingLaws.{IsDecidedOnce, IsKnownByParts, HasOneHead}

pub cond_cases : {A : Type 0} (b : Bool) (x y z : A) → cond b x y ≡ z → ((b ≡ true) × (x ≡ z)) ⊎ ((b ≡ false) × (y ≡ z))
cond_cases true x y z e = inl (refl, e)
cond_cases false x y z e = inr (refl, e)

suc_of : (h : Option ℕ) (n : ℕ) → option_map (λ k. suc k) h ≡ Some n → (m : ℕ) × (h ≡ Some m) × (suc m ≡ n)
suc_of None n e = absurd cc
suc_of (Some m) n e = (m, refl, cc)

-- a text that begins with four bytes has at least four
four : (xs : List ℕ) → starts_with nat_eq xs empty_line ≡ true → 4 ≤ length xs
four xs e = omega (arith, as_long nat_eq empty_line (take 4 xs) e, length-take 4 xs)

pub head_length_within : (text : List ℕ) (n : ℕ) → head_length text ≡ Some n → (4 ≤ n) × (n ≤ length text)
head_length_within [] n e = absurd cc
head_length_within (b ∷ rest) n e =
    elim (cond_cases (starts_with nat_eq (b ∷ rest) empty_line) _ _ _ e) [
      | inl h ↦
          (let m : 4 ≤ length (b ∷ rest) = four (b ∷ rest) h.0 in let k : 4 ≡ n = cc in (omega arith, omega arith))
      | inr h ↦ (let m = suc_of (head_length rest) n h.1 in let w = head_length_within rest m.0 m.1 in
          (omega arith, omega arith))
    ]

pub head_length-append : (text more : List ℕ) (n : ℕ) → head_length text ≡ Some n → head_length (text ++ more) ≡ Some n
head_length-append [] more n e = absurd cc
head_length-append (b ∷ rest) more n e =
    let w = head_length_within (b ∷ rest) n e in
    let long : 4 ≤ length (b ∷ rest) = omega arith in
    let same : starts_with nat_eq (b ∷ (rest ++ more)) empty_line ≡ starts_with nat_eq (b ∷ rest) empty_line =
    ap (λ t. pointwise nat_eq empty_line t) (take-append-le 4 (b ∷ rest) more long) in
    elim (cond_cases (starts_with nat_eq (b ∷ rest) empty_line) _ _ _ e) [
      | inl h ↦ ap (λ t. cond t (Some 4) (option_map (λ k. suc k) (head_length (rest ++ more)))) (same ∙ h.0) ∙ h.1
      | inr h ↦ (let m = suc_of (head_length rest) n h.1 in
          ap (λ t. cond t (Some 4) (option_map (λ k. suc k) (head_length (rest ++ more)))) (same ∙ h.0)
          ∙ ap (option_map (λ k. suc k)) (head_length-append rest more m.0 m.1) ∙ ap Some m.2)
    ]

-- the first bytes of a longer text are those of the text, and some that follow
taken : (limit : ℕ) (text more : List ℕ) → (ys : List ℕ) × (take limit (text ++ more) ≡ take limit text ++ ys)
taken limit [] more = (take limit more, ap (λ t. t ++ take limit more) (sym (take-nil limit)))
taken zero (b ∷ text) more = ([], refl)
taken (suc limit) (b ∷ text) more = let t = taken limit text more in (t.0, ap (λ xs. b ∷ xs) t.1)

-- the end of a head, once found, does not move
pub end-append : (text more : List ℕ) (n : ℕ) → head_length (take head_limit text) ≡ Some n
    → head_length (take head_limit (text ++ more)) ≡ Some n
end-append text more n e =
    let t = taken head_limit text more in
    ap head_length t.1 ∙ head_length-append (take head_limit text) t.0 n e

pub end_within : (text : List ℕ) (n : ℕ) → head_length (take head_limit text) ≡ Some n → n ≤ length text
end_within text n e =
    (let w = head_length_within (take head_limit text) n e in omega (arith, length-take head_limit text))

-- if no head ends in the most bytes that one may have, none does later
long-append : (text more : List ℕ) → head_length (take head_limit text) ≡ None → head_limit ≤ length text
    → head_length (take head_limit (text ++ more)) ≡ None
long-append text more e le = ap head_length (take-append-le head_limit text more le) ∙ e

-- ---- what is known

body-append : (text more : List ℕ) (head : Head) (n body : ℕ) (k : Known) → known_with_body (length text) head n body
    ≡ k → known_with_body (length (text ++ more)) head n body ≡ advanced k (text ++ more)
body-append text more head n body k e =
    elim (cond_cases (nat_lt (length text) (n + body)) (waiting head n body) (complete head n body) _ e) [
      | inl h ↦ ap (λ k. advanced k (text ++ more)) h.1
      | inr h ↦ (let le : n + body ≤ length text = grind (arith, nat_tests) in
          let no : nat_lt (length (text ++ more)) (n + body) ≡ false =
          grind (arith, nat_tests, length-append text more) in
          ap (λ t. cond t (waiting head n body) (complete head n body)) no ∙ ap (λ k. advanced k (text ++ more)) h.1)
    ]

head-append : (text more : List ℕ) (n : ℕ) (r : Result (Head × ℕ) Code)
    → known_with_head (length (text ++ more)) n r ≡ advanced (known_with_head (length text) n r) (text ++ more)
head-append text more n (Err fault) = refl
head-append text more n (Ok read) = body-append text more read.0 n read.1 _ refl

known-append : (text more : List ℕ) (o : Option ℕ) → head_length (take head_limit text) ≡ o
    → known (text ++ more) ≡ advanced (known_with_end o text) (text ++ more)
unfolding known
known-append text more None e =
    elim (cond_cases (nat_lt (length text) head_limit) (unended (length text)) (refused LongHead) _ refl) [
      | inl h ↦ ap (λ k. advanced k (text ++ more)) h.1
      | inr h ↦ (let le : head_limit ≤ length text = grind (arith, nat_tests) in
          let no : nat_lt (length (text ++ more)) head_limit ≡ false =
          grind (arith, nat_tests, length-append text more) in
          ap (λ o. known_with_end o (text ++ more)) (long-append text more e le) ∙ ap (λ t. cond t
          (unended (length (text ++ more))) (refused LongHead)) no ∙ ap (λ k. advanced k (text ++ more)) h.1)
    ]
known-append text more (Some n) e =
    let le = end_within text n e in
    ap (λ o. known_with_end o (text ++ more)) (end-append text more n e)
    ∙ ap (λ front. known_with_head (length (text ++ more)) n (head_with_length front)) (take-append-le n text more le)
    ∙ head-append text more n (head_with_length (take n text))

pub known_by_parts : IsKnownByParts
unfolding known
known_by_parts text more = known-append text more (head_length (take head_limit text)) refl

-- a complete request is within the text
complete_of : (text : List ℕ) (o : Option ℕ) (head : Head) (n body : ℕ) → known_with_end o text ≡ complete head n body
    → n + body ≤ length text
complete_of text None head n body e =
    elim (cond_cases (nat_lt (length text) head_limit) (unended (length text)) (refused LongHead) _ e) [
      | inl h ↦ absurd (let bad = h.1 in cc)
      | inr h ↦ absurd (let bad = h.1 in cc)
    ]
complete_of text (Some m) head n body e = by (head_with_length (take m text)) e
  where
    by : (r : Result (Head × ℕ) Code) → known_with_head (length text) m r ≡ complete head n body
        → n + body ≤ length text
    by (Err fault) e = absurd cc
    by (Ok read) e =
        elim (cond_cases (nat_lt (length text) (m + read.1)) (waiting read.0 m read.1) (complete read.0 m read.1) _ e) [
          | inl h ↦ absurd (let bad = h.1 in cc)
          | inr h ↦ (let le : m + read.1 ≤ length text = grind (arith, nat_tests) in
              let same = h.1 in
              let ends : m ≡ n = cc in
              let long : read.1 ≡ body = cc in
              omega arith)
        ]

pub complete_fits : (text : List ℕ) (head : Head) (n body : ℕ) → known text ≡ complete head n body
    → n + body ≤ length text
unfolding known
complete_fits text head n body e = complete_of text (head_length (take head_limit text)) head n body e

framed-append : (text more : List ℕ) (k : Known) → known text ≡ k → is_incomplete (framed k text) ≡ false
    → framed (advanced k (text ++ more)) (text ++ more) ≡ framed k text
framed-append text more (unended n) e d = absurd cc
framed-append text more (waiting head n body) e d = absurd cc
framed-append text more (refused fault) e d = refl
framed-append text more (complete head n body) e d =
    let fits = complete_fits text head n body e in
    let before : n ≤ length text = omega arith in
    let after : body ≤ length (drop n text) = omega (arith, length-drop n text) in
    ap (λ rest. whole head (take body rest)) (drop-append-le n text more before)
    ∙ ap (whole head) (take-append-le body (drop n text) more after)

-- what is known of a text gives its framing
framed_with : (text : List ℕ) (n : ℕ) (head : Head) (body : ℕ) (short : Bool)
    → framed (if short then waiting head n body else complete head n body) text
    ≡ (if short then incomplete else whole head (take body (drop n text)))
framed_with text n head body true = refl
framed_with text n head body false = refl

framed_unended : (text : List ℕ) (n : ℕ) (short : Bool)
    → framed (if short then unended n else refused LongHead) text ≡ (if short then incomplete else refusal LongHead)
framed_unended text n true = refl
framed_unended text n false = refl

framed_read : (text : List ℕ) (n : ℕ) (read : Result (Head × ℕ) Code)
    → framed (known_with_head (length text) n read) text ≡ framed_head n text read
framed_read text n (Err fault) = refl
framed_read text n (Ok read) = framed_with text n read.0 read.1 (nat_lt (length text) (n + read.1))

framed_end : (text : List ℕ) (o : Option ℕ) → framed (known_with_end o text) text ≡ framed_at o text
framed_end text None = framed_unended text (length text) (nat_lt (length text) head_limit)
framed_end text (Some n) = framed_read text n (head_with_length (take n text))

pub framed_is : (text : List ℕ) → framed (known text) text ≡ framing text
unfolding framing known
framed_is text = framed_end text (head_length (take head_limit text))

pub decided_once : IsDecidedOnce
decided_once text more d =
    sym (framed_is (text ++ more)) ∙ ap (λ k. framed k (text ++ more)) (known_by_parts text more)
    ∙ framed-append text more (known text) refl (ap is_incomplete (framed_is text) ∙ d) ∙ framed_is text

-- ---- the head of a text

ended_at-append : (text more : List ℕ) (o : Option ℕ) → head_length (take head_limit text) ≡ o
    → is_incomplete (framed (known_with_end o text) text) ≡ false
    → ended_at (head_length (take head_limit (text ++ more))) (text ++ more) ≡ ended_at o text
ended_at-append text more None e d =
    elim (cond_cases (nat_lt (length text) head_limit) (unended (length text)) (refused LongHead) _ refl) [
      | inl h ↦ absurd (let bad = ap (λ k. is_incomplete (framed k text)) h.1 in cc)
      | inr h ↦ (let le : head_limit ≤ length text = grind (arith, nat_tests) in
          ap (λ o. ended_at o (text ++ more)) (long-append text more e le))
    ]
ended_at-append text more (Some n) e d =
    let le = end_within text n e in
    ap (λ o. ended_at o (text ++ more)) (end-append text more n e)
    ∙ ap (λ front. ok_head (ended_head front)) (take-append-le n text more le)

ended_is : (o : Option ℕ) (text : List ℕ)
    → ended_at o text ≡ option_and_then (λ n. ok_head (ended_head (take n text))) o
ended_is None text = refl
ended_is (Some n) text = refl

-- the head of a text, by where it ends
pub head_is : (text : List ℕ) → ended_at (head_length (take head_limit text)) text ≡ head_in text
unfolding head_in
head_is text = ended_is (head_length (take head_limit text)) text

-- adding bytes to a decided text does not change its head
pub one_head : HasOneHead
unfolding known
one_head text more d = sym (head_is (text ++ more)) ∙ ended_at-append text more
    (head_length (take head_limit text)) refl (ap is_incomplete (framed_is text) ∙ d) ∙ head_is text

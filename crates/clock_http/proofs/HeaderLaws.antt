-- One step of the loop over header lines: each name's count and last value grow by the line. At the end they give the
-- length of the body and the token.
use Rattle.std.proofs.Common.{◌≡◌, ℕ, ◌+◌, ◌-◌, ◌≤◌, ◌<◌, Bool, true, false, cond, List, [], ◌∷◌, ◌++◌, length, map}
use Rattle.std.proofs.Common.{take, drop, filter, get_or}
use Rattle.std.proofs.Common.{Some, refl, sym, ◌∙◌, ap, subst, arith, length-append}
use Rattle.std.specs.Prelude.{◌↔◌, IsTrue}
use Rattle.std.specs.Cmp.Lexicographic.{bytes_decides}
use Rattle.std.proofs.lemmas.List.{append-nil, drop-drop, drop-take, length-take, map-append, take_more}
use Rattle.std.proofs.lemmas.List.Elements.{filter-append}
use Rattle.httparse.specs.declared.spans.Span.{Span}
use Rattle.httparse.specs.declared.spans.HeaderSpan.{HeaderSpan}
use Rattle.httparse.specs.Spans.{header_bytes, span_bytes, IsWithin}
use Rattle.clock_api.specs.Bytes.{same_bytes}
use Rattle.clock_http.specs.declared.headers.HeaderLines.{HeaderLines}
use Rattle.clock_http.specs.HeaderLines.{is_named, values_of, length_from, within_limit, unless_coded, bearer}
use Rattle.clock_http.specs.HeaderLines.{token_from}
use Rattle.clock_http.specs.inside.HeadFields.{Pairs, AreLinesOf}

pub named : (a b : List ℕ) (r : Bool) → IsTrue r ↔ (a ≡ b) → same_bytes a b ≡ r
named a b true h = (bytes_decides a b).1 (h.0 refl)
named a b false h = by (same_bytes a b) refl
  where
    by : (t : Bool) → same_bytes a b ≡ t → same_bytes a b ≡ false
    by true e = absurd (let bad : IsTrue false = h.1 ((bytes_decides a b).0 e) in cc)
    by false e = e

-- ---- one more line

abbrev value_if : Bool → List ℕ → List (List ℕ)
value_if is value = cond is (value ∷ []) []

values_more : (wanted name value : List ℕ) (pairs : Pairs) (is : Bool) → is_named wanted (name, value) ≡ is
    → values_of wanted (pairs ++ (name, value) ∷ []) ≡ values_of wanted pairs ++ value_if is value
values_more wanted name value pairs is e = ap (map (λ (pair : List ℕ × List ℕ). pair.1))
    (filter-append (is_named wanted) pairs ((name, value) ∷ [])) ∙ map-append (λ (pair : List ℕ × List ℕ). pair.1)
    (filter (is_named wanted) pairs) (filter (is_named wanted) ((name, value) ∷ []))
    ∙ ap (λ t. values_of wanted pairs ++ map (λ (pair : List ℕ × List ℕ). pair.1) (cond t ((name, value) ∷ []) [])) e
    ∙ ap (λ (more : List (List ℕ)). values_of wanted pairs ++ more) (one is)
  where
    one : (is : Bool) → map (λ (pair : List ℕ × List ℕ). pair.1) (cond is ((name, value) ∷ []) []) ≡ value_if is value
    one true = refl
    one false = refl

last_only : (front : List (List ℕ)) (a b : List ℕ) → front ++ a ∷ [] ≡ b ∷ [] → a ≡ b
last_only [] a b e = cc
last_only (x ∷ []) a b e = absurd cc
last_only (x ∷ (y ∷ rest)) a b e = absurd cc

-- a line of this name
pub line_added : (text wanted name : List ℕ) (pairs : Pairs) (lines new : HeaderLines) (value : Span)
    → AreLinesOf text wanted pairs lines → IsWithin (length text) value
    → is_named wanted (name, span_bytes text value) ≡ true → new ≡ record { count = lines.count + 1; value = value }
    → AreLinesOf text wanted (pairs ++ (name, span_bytes text value) ∷ []) new
line_added text wanted name pairs lines new value are inside is made =
    let more = values_more wanted name (span_bytes text value) pairs true is in
    subst (AreLinesOf text wanted (pairs ++ (name, span_bytes text value) ∷ [])) (sym made)
    (record {
      count =
          omega (arith, are.count, ap length more, length-append (values_of wanted pairs) (span_bytes text value ∷ []));
      only = λ one is_one. last_only (values_of wanted pairs) (span_bytes text value) one (sym more ∙ is_one);
      within = inside;
    })

-- a line of another name
pub line_passed : (text wanted name bytes : List ℕ) (pairs : Pairs) (lines : HeaderLines) → AreLinesOf text wanted pairs
    lines → is_named wanted (name, bytes) ≡ false → AreLinesOf text wanted (pairs ++ (name, bytes) ∷ []) lines
line_passed text wanted name bytes pairs lines are is =
    let same = values_more wanted name bytes pairs false is ∙ append-nil (values_of wanted pairs) in
    record {
      count = are.count ∙ sym (ap length same);
      only = λ one is_one. are.only one (sym same ∙ is_one);
      within = are.within;
    }

-- one more header line
pub header_taken : (text wanted name : List ℕ) (headers : List HeaderSpan) (i : ℕ) (d : HeaderSpan)
    (lines new : HeaderLines) → i < length headers → name ≡ span_bytes text (get_or headers i d).name → ((text : List ℕ)
    (pairs : Pairs) → AreLinesOf text wanted pairs lines → IsWithin (length text) (get_or headers i d).value
    → AreLinesOf text wanted (pairs ++ (name, span_bytes text (get_or headers i d).value) ∷ []) new) → IsWithin
    (length text) (get_or headers i d).value → AreLinesOf text wanted (map (header_bytes text) (take i headers)) lines
    → AreLinesOf text wanted (map (header_bytes text) (take (i + 1) headers)) new
header_taken text wanted name headers i d lines new lt is step inside are =
    let here = get_or headers i d in
    let pairs = map (header_bytes text) (take i headers) in
    let named : pairs ++ (name, span_bytes text here.value) ∷ [] ≡ pairs ++ header_bytes text here ∷ [] =
    ap (λ (n : List ℕ). pairs ++ (n, span_bytes text here.value) ∷ []) is in
    let more : pairs ++ header_bytes text here ∷ [] ≡ map (header_bytes text) (take (i + 1) headers) = sym (ap (map
    (header_bytes text)) (take_more headers i d lt) ∙ map-append (header_bytes text) (take i headers) (here ∷ [])) in
    subst (λ (all : Pairs). AreLinesOf text wanted all new) (named ∙ more) (step text pairs are inside)

-- ---- the length

pub one_length : (codings values : List (List ℕ)) (value : List ℕ) → length codings ≤ 0 → length values ≡ 1
    → ((one : List ℕ) → values ≡ one ∷ [] → value ≡ one)
    → within_limit (length_from (value ∷ [])) ≡ unless_coded codings (within_limit (length_from values))
one_length (coding ∷ more) values value none few only = absurd (omega arith)
one_length [] [] value none few only = absurd (omega arith)
one_length [] (one ∷ []) value none few only = ap (λ text. within_limit (length_from (text ∷ []))) (only one refl)
one_length [] (one ∷ (other ∷ more)) value none few only = absurd (omega arith)

-- ---- the token

pub one_token : (values : List (List ℕ)) (value : List ℕ) → length values ≡ 1
    → ((one : List ℕ) → values ≡ one ∷ [] → value ≡ one) → bearer value ≡ token_from values
one_token [] value few only = absurd (omega arith)
one_token (one ∷ []) value few only = ap bearer (only one refl)
one_token (one ∷ (other ∷ more)) value few only = absurd (omega arith)

-- a span that begins later covers the later bytes
span_later : (text : List ℕ) (a e s : ℕ) → s ≤ e - a → span_bytes text (record { start = a + s; end = e }) ≡ drop s
    (span_bytes text (record { start = a; end = e }))
span_later text a e s le =
    ap (λ n. take n (drop (a + s) text)) (let k : e - (a + s) ≡ (e - a) - s = omega arith in k)
    ∙ ap (take ((e - a) - s)) (sym (drop-drop s a text))
    ∙ sym (drop-take s ((e - a) - s) (drop a text))
    ∙ ap (λ n. drop s (take n (drop a text))) (let k : s + ((e - a) - s) ≡ e - a = omega arith in k)

pub token_at : (text : List ℕ) (value : Span) (start : ℕ) (bytes : List ℕ) → bytes ≡ span_bytes text value
    → start ≤ length bytes → Some (drop start bytes) ≡ bearer bytes
    → Some (span_bytes text (record { start = value.start + start; end = value.end })) ≡ bearer (span_bytes text value)
token_at text value start bytes is le shown =
    let size : start ≤ value.end - value.start =
    omega (arith, ap length is, length-take (value.end - value.start) (drop value.start text)) in
    ap Some (span_later text value.start value.end start size ∙ ap (drop start) (sym is)) ∙ shown ∙ ap bearer is

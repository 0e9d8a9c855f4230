-- What the code knows of a text is what the definitions say, also after more bytes. Spans cover the same bytes in a
-- longer text, and no empty line begins before the last three bytes that were searched.
use Rattle.std.proofs.Common.{◌≡◌, ℕ, ◌+◌, ◌-◌, ◌≤◌, ◌<◌, true, false, cond, List, ◌++◌, length, take, drop, min}
use Rattle.std.proofs.Common.{Option, Some, None}
use Rattle.std.proofs.Common.{Ok, Err, Result, refl, sym, ◌∙◌, ap, subst, arith, inl, inr, length-append, length-drop}
use Rattle.std.specs.Prelude.{option_map, nat_lt}
use Rattle.std.proofs.lemmas.Bool.Decides.{nat_tests}
use Rattle.std.proofs.lemmas.List.{take-append-le, drop-append-le, length-take, take-append-drop, take_all, take_min}
use Rattle.std.proofs.Math.Seq.{take-add, take-append_seam, drop-append_seam}
use Rattle.httparse.specs.Spans.{span_bytes, IsWithin}
use Rattle.httparse.specs.declared.spans.Span.{Span}
use Rattle.clock_api.specs.declared.code.Code.{Code}
use Rattle.clock_api.specs.declared.code.Code.TheVariants.{LongHead}
use Rattle.clock_http.specs.declared.head.EndedHead.{EndedHead}
use Rattle.clock_http.specs.declared.progress.Progress.{Progress}
use Rattle.clock_http.specs.declared.progress.Progress.TheVariants as so_far
use Rattle.clock_http.specs.Scans.{head_length}
use Rattle.clock_http.specs.inside.HeadParts.{head_with_length}
use Rattle.clock_http.specs.Framing.{head_limit, Head, Known, unended, waiting, complete, refused, known_with_body}
use Rattle.clock_http.specs.Framing.{known_with_head, known_with_end, known, advanced, whole, framing, is_incomplete}
use Rattle.clock_http.specs.Framing.{needs_more}
use Rattle.clock_http.specs.Shown.{shown_ended, IsHeadWithin, IsRequestWithin, IsSomeWithin, Knows, KnowsOfStart}
use Rattle.clock_http.specs.inside.Followed.{Waits, WaitsBelow}
use Rattle.clock_http.specs.inside.Framed.{framed}
use Rattle.clock_http.proofs.Prefixes.{cond_cases, framed_is, head_length_within, known_by_parts}
use Rattle.clock_http.proofs.ScanLaws.{skipped}

-- ---- spans in a longer text

pub span-append : (front more : List ℕ) (s : Span) → IsWithin (length front) s
    → span_bytes (front ++ more) s ≡ span_bytes front s
span-append front more s in_front =
    let low : s.start ≤ length front = omega arith in
    let high : s.end - s.start ≤ length (drop s.start front) = omega (arith, length-drop s.start front) in
    ap (take (s.end - s.start)) (drop-append-le s.start front more low)
    ∙ take-append-le (s.end - s.start) (drop s.start front) more high

longer : (n m : ℕ) (s : Span) → n ≤ m → IsWithin n s → IsWithin m s
longer n m s le in_n = (in_n.0, omega arith)

token-append : (front more : List ℕ) (n : ℕ) (token : Option Span) → n ≤ length front → IsSomeWithin n token
    → option_map (span_bytes (front ++ more)) token ≡ option_map (span_bytes front) token
token-append front more n None le in_n = refl
token-append front more n (Some s) le in_n = ap Some (span-append front more s (longer n (length front) s le in_n))

abbrev parted : List ℕ → List ℕ → Option (List ℕ) → Head
parted method path token = record { method = method; path = path; token = token }

pub ended-append : (front more : List ℕ) (head : EndedHead) → IsHeadWithin (length front) head
    → shown_ended (front ++ more) head ≡ shown_ended front head
ended-append front more head is =
    ap (λ x. parted x (span_bytes (front ++ more) head.path) (option_map (span_bytes (front ++ more)) head.token))
    (span-append front more head.method (longer head.length (length front) head.method is.fits is.method))
    ∙ ap (λ x. parted (span_bytes front head.method) x (option_map (span_bytes (front ++ more)) head.token))
    (span-append front more head.path (longer head.length (length front) head.path is.fits is.path))
    ∙ ap (parted (span_bytes front head.method) (span_bytes front head.path))
    (token-append front more head.length head.token is.fits is.token)

-- ---- the search for the end of a head

at_limit : (text : List ℕ) (limit : ℕ) → limit ≡ min (length text) head_limit → take limit text ≡ take head_limit text
at_limit text limit is =
    ap (λ n. take n text) (let e : limit ≡ min head_limit (length text) = omega arith in e) ∙ take_min head_limit text

-- no empty line begins before the last three of the bytes that were searched
pub scan_from : (text : List ℕ) (limit looked start : ℕ) → limit ≡ min (length text) head_limit → looked ≤ length text
    → looked < head_limit → head_length (take looked text) ≡ None → start ≡ looked - 3
    → head_length (take limit text) ≡ option_map (λ n. start + n) (head_length (drop start (take limit text)))
scan_from text limit looked start is within short none from =
    let xs = take limit text in
    let split : text ≡ take looked text ++ drop looked text = sym (take-append-drop looked text) in
    let size : length (take looked text) ≡ looked = omega (arith, length-take looked text) in
    let parts : xs ≡ take looked text ++ take (limit - looked) (drop looked text) =
    front_of text looked limit (omega arith) in
    let le : start ≤ length (take looked text) - 3 = omega arith in
    subst (λ (t : List ℕ). head_length t ≡ option_map (λ n. start + n) (head_length (drop start t))) (sym parts)
    (skipped start (take looked text) (take (limit - looked) (drop looked text)) none le)
  where
    front_of : (text : List ℕ) (k n : ℕ) → k ≤ n → take n text ≡ take k text ++ take (n - k) (drop k text)
    front_of text k n le = ap (λ m. take m text) (let e : n ≡ k + (n - k) = omega arith in e) ∙ take-add k (n - k) text

-- ---- what is known after the search

known_at : (text : List ℕ) (limit : ℕ) (o : Option ℕ) → limit ≡ min (length text) head_limit
    → o ≡ head_length (take limit text) → known_with_end o text ≡ known text
unfolding known
known_at text limit o is e =
    ap (λ k. known_with_end k text) e ∙ ap (λ t. known_with_end (head_length t) text) (at_limit text limit is)

pub known_unended : (text : List ℕ) (limit : ℕ) → limit ≡ min (length text) head_limit
    → None ≡ head_length (take limit text) → length text < head_limit → unended (length text) ≡ known text
known_unended text limit is e lt =
    let yes : nat_lt (length text) head_limit ≡ true = grind (arith, nat_tests) in
    sym (ap (λ t. cond t (unended (length text)) (refused LongHead)) yes) ∙ known_at text limit None is e

pub known_long : (text : List ℕ) (limit : ℕ) → limit ≡ min (length text) head_limit
    → None ≡ head_length (take limit text) → head_limit ≤ length text → refused LongHead ≡ known text
known_long text limit is e le =
    let no : nat_lt (length text) head_limit ≡ false = grind (arith, nat_tests) in
    sym (ap (λ t. cond t (unended (length text)) (refused LongHead)) no) ∙ known_at text limit None is e

pub ends_within : (text : List ℕ) (limit n : ℕ) → Some n ≡ head_length (take limit text) → n ≤ length text
ends_within text limit n e =
    (let w = head_length_within (take limit text) n (sym e) in omega (arith, length-take limit text))

pub all_taken : (text : List ℕ) (limit n : ℕ) → Some n ≡ head_length (take limit text) → n ≡ length (take n text)
all_taken text limit n e = (let le = ends_within text limit n e in omega (arith, length-take n text))

pub known_refused : (text : List ℕ) (limit n : ℕ) (fault : Code) → limit ≡ min (length text) head_limit
    → Some n ≡ head_length (take limit text) → Err fault ≡ head_with_length (take n text) → refused fault ≡ known text
known_refused text limit n fault is e read =
    ap (known_with_head (length text) n) read ∙ known_at text limit (Some n) is e

pub known_headed : (text : List ℕ) (limit n : ℕ) (head : EndedHead) → limit ≡ min (length text) head_limit → Some n
    ≡ head_length (take limit text) → Ok (shown_ended (take n text) head, head.body) ≡ head_with_length (take n text)
    → IsHeadWithin (length (take n text)) head → head.length ≡ length (take n text)
    → known_with_body (length text) (shown_ended text head) head.length head.body ≡ known text
known_headed text limit n head is e read in_head size =
    let le = ends_within text limit n e in
    let long : head.length ≡ n = omega (arith, length-take n text) in
    let split : text ≡ take n text ++ drop n text = sym (take-append-drop n text) in
    let shown : shown_ended text head ≡ shown_ended (take n text) head =
    ap (λ t. shown_ended t head) split ∙ ended-append (take n text) (drop n text) head in_head in
    ap (λ h. known_with_body (length text) h head.length head.body) shown
    ∙ ap (λ k. known_with_body (length text) (shown_ended (take n text) head) k head.body) long
    ∙ ap (known_with_head (length text) n) read ∙ known_at text limit (Some n) is e

-- ---- what is known of a longer text

-- no head has ended in a text of n bytes
pub record IsUnended (text : List ℕ) (n : ℕ) : Type 0 where
  pub all : n ≡ length text
  pub short : length text < head_limit
  pub none : head_length text ≡ None

unended_at : (text : List ℕ) (n : ℕ) (o : Option ℕ) → head_length (take head_limit text) ≡ o
    → known_with_end o text ≡ unended n → IsUnended text n
unended_at text n None e k =
    elim (cond_cases (nat_lt (length text) head_limit) (unended (length text)) (refused LongHead) _ k) [
      | inl h ↦ (let lt : length text < head_limit = grind (arith, nat_tests) in
          let same = h.1 in
          let size : length text ≡ n = cc in
          record {
            all = sym size;
            short = lt;
            none = ap head_length (sym (take_all head_limit text (omega arith))) ∙ e;
          })
      | inr h ↦ absurd (let bad = h.1 in cc)
    ]
unended_at text n (Some m) e k = absurd (by (head_with_length (take m text)) k)
  where
    by : (r : Result (Head × ℕ) Code) → known_with_head (length text) m r ≡ unended n → ⊥
    by (Err fault) k = cc
    by (Ok read) k =
        elim (cond_cases (nat_lt (length text) (m + read.1)) (waiting read.0 m read.1) (complete read.0 m read.1) _ k) [
          | inl h ↦ (let bad = h.1 in cc)
          | inr h ↦ (let bad = h.1 in cc)
        ]

pub unended_is : (text : List ℕ) (n : ℕ) → unended n ≡ known text → IsUnended text n
unfolding known
unended_is text n k = unended_at text n (head_length (take head_limit text)) refl (sym k)

pub brought_on : (text : List ℕ) (count : ℕ) (k : Known) → k ≡ known (take count text) → known text ≡ advanced k text
brought_on text count k is =
    subst (λ (t : List ℕ). known t ≡ advanced k t) (take-append-drop count text) (known_by_parts (take count text)
    (drop count text) ∙ ap (λ k. advanced k (take count text ++ drop count text)) (sym is))

pub shown_in : (text : List ℕ) (count : ℕ) (head : EndedHead) → IsHeadWithin (length (take count text)) head
    → shown_ended (take count text) head ≡ shown_ended text head
shown_in text count head is = sym (ended-append (take count text) (drop count text) head is)
    ∙ ap (λ t. shown_ended t head) (take-append-drop count text)

pub head_longer : (n m : ℕ) (head : EndedHead) → n ≤ m → IsHeadWithin n head → IsHeadWithin m head
head_longer n m head le is = record { method = is.method; path = is.path; token = is.token; fits = omega arith }

-- a prefix is not longer than the text
pub fewer : (text : List ℕ) (count : ℕ) → length (take count text) ≤ length text
fewer text count = omega (arith, length-take count text)

pub known_waiting : (text : List ℕ) (count : ℕ) (head : EndedHead) → waiting (shown_ended (take count text) head)
    head.length head.body ≡ known (take count text) → IsHeadWithin (length (take count text)) head
    → known_with_body (length text) (shown_ended text head) head.length head.body ≡ known text
known_waiting text count head is in_front = ap (λ h. known_with_body (length text) h head.length head.body)
    (sym (shown_in text count head in_front)) ∙ sym (brought_on text count _ is)

pub known_complete : (text : List ℕ) (count : ℕ) (head : EndedHead)
    → complete (shown_ended (take count text) head) head.length head.body ≡ known (take count text)
    → IsHeadWithin (length (take count text)) head → complete (shown_ended text head) head.length head.body ≡ known text
known_complete text count head is in_front = ap (λ h. complete h head.length head.body)
    (sym (shown_in text count head in_front)) ∙ sym (brought_on text count _ is)

-- ---- the framing by what is known

pub framed_of : (text : List ℕ) (k : Known) → k ≡ known text → framed k text ≡ framing text
framed_of text k is = ap (λ k. framed k text) is ∙ framed_is text

pub needs_more_of : (text : List ℕ) (k : Known) → k ≡ known text → is_incomplete (framed k text) ≡ needs_more text
needs_more_of text k is = ap is_incomplete (framed_of text k is)

-- the body is not whole
pub still_waiting : (text : List ℕ) (count : ℕ) (head : EndedHead)
    → waiting (shown_ended (take count text) head) head.length head.body ≡ known (take count text) → IsHeadWithin
    (length (take count text)) head → length text < head.length + head.body → Waits text (so_far.Waiting head)
still_waiting text count head is in_front less =
    let shown = shown_ended text head in
    let short : nat_lt (length text) (head.length + head.body) ≡ true = grind (arith, nat_tests) in
    let knows : Knows text (so_far.Waiting head) = record {
      is = sym (ap (λ t. cond t (waiting shown head.length head.body) (complete shown head.length head.body)) short)
          ∙ known_waiting text count head is in_front;
      within = head_longer (length (take count text)) (length text) head (fewer text count) in_front;
    } in
    record { knows = knows; short = sym (needs_more_of text _ knows.is) }

pub whole_of : (text : List ℕ) (shown head : Head) (n body : ℕ) → shown ≡ head → complete head n body ≡ known text
    → whole shown (take (n + body - n) (drop n text)) ≡ framing text
whole_of text shown head n body same is =
    ap (λ h. whole h (take (n + body - n) (drop n text))) same
    ∙ ap (λ k. whole head (take k (drop n text))) (let e : n + body - n ≡ body = omega arith in e) ∙ framed_of text _ is

-- a text that is exactly a head is a whole request with a piece that has its body
pub whole_with : (text piece : List ℕ) (shown : Head) (head : EndedHead)
    → waiting (shown_ended text head) head.length head.body ≡ known text → shown ≡ shown_ended text head → head.length
    ≡ length text → head.body ≤ length piece → whole shown (take head.body piece) ≡ framing (text ++ piece)
whole_with text piece shown head is same all fits =
    let joined = text ++ piece in
    let come : nat_lt (length joined) (head.length + head.body) ≡ false =
    grind (arith, nat_tests, length-append text piece) in
    let behind : drop head.length joined ≡ piece = ap (λ n. drop n joined) all ∙ drop-append_seam text piece in
    let Shown : Head → Known = λ h. known_with_body (length joined) h head.length head.body in
    let knows : Shown (shown_ended text head) ≡ known joined =
    sym (known_by_parts text piece ∙ ap (λ k. advanced k joined) (sym is)) in
    ap (λ rest. whole shown (take head.body rest)) (sym behind) ∙ framed_of joined (complete shown head.length
    head.body) (sym (ap (λ t. cond t (waiting shown head.length head.body) (complete shown head.length head.body)) come)
    ∙ ap Shown same ∙ knows)

pub request_longer : (n m : ℕ) (head : EndedHead) → n ≤ m → IsRequestWithin n head → IsRequestWithin m head
request_longer n m head le is =
    record { head = head_longer n m head le is.head; body = (let fits = is.body in omega arith) }

-- the bytes that were searched are those of the prefix
pub looked_at : (text : List ℕ) (count n : ℕ) → n ≡ length (take count text) → take n text ≡ take count text
looked_at text count n is = ap (λ k. take k text) (is ∙ length-take count text) ∙ take_min count text

-- what is known of a text is known of a prefix of each longer one
pub knows_start : (text more : List ℕ) (progress : Progress) → Knows text progress
    → KnowsOfStart (text ++ more) progress
knows_start text more progress knows =
    (length text, subst (λ front. Knows front progress) (sym (take-append_seam text more)) knows)

-- no text has fewer than 0 bytes
pub none_below : (text : List ℕ) (progress : Progress) → WaitsBelow 0 text progress
none_below text progress more less = absurd (omega arith)

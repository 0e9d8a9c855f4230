-- A text is refused by one of five codes, and a whole text has a head. By cases on where the head ends.
use Rattle.std.proofs.Common.{◌≡◌, ℕ, ◌+◌, cond, List, [], ◌∷◌, length, take, Option, Some, None, Ok, Err, Result}
use Rattle.std.proofs.Common.{◌∙◌, ap, sym, subst, inl, inr}
use Rattle.std.specs.Prelude.{nat_lt, codes}
use Rattle.std.specs.Str.Parse.{digits_value}
use Rattle.httparse.specs.Grammar.{RequestHead}
use Rattle.clock_api.specs.declared.code.Code.{Code}
use Rattle.clock_api.specs.declared.code.Code.TheVariants.{LongHead, BadHead, Coding, BadLength, LongBody}
use Rattle.clock_http.specs.Scans.{head_length, is_loose}
use Rattle.clock_http.specs.Heads.{head_of}
use Rattle.clock_http.specs.Decimals.{is_number}
use Rattle.clock_http.specs.HeaderLines.{pairs_of, values_of, length_from, within_limit, unless_coded, body_length}
use Rattle.clock_http.specs.HeaderLines.{body_limit}
use Rattle.clock_http.specs.Framing.{head_limit, or_bad_head, ended_head, Head, stored_head, and_length, length_read}
use Rattle.clock_http.specs.Framing.{Known, unended}
use Rattle.clock_http.specs.Framing.{waiting, complete, refused, known_with_head, known_with_end, known}
use Rattle.clock_http.specs.Framing.{refusal, whole, framing, ok_head, head_in}
use Rattle.clock_http.specs.inside.Framed.{framed}
use Rattle.clock_http.specs.inside.HeadFields.{Pairs}
use Rattle.clock_http.specs.inside.HeadParts.{head_with_length, ended_at}
use Rattle.clock_http.proofs.Prefixes.{cond_cases, framed_is, head_is}

-- ---- a text is refused by one of five codes

module _ (P : Code → Type 0) (long_head : P LongHead) (bad_head : P BadHead) (coding : P Coding)
    (bad_length : P BadLength) (long_body : P LongBody) where
  by_length : (values : List (List ℕ)) (code : Code) → length_from values ≡ Err code → P code
  by_length [] code e = absurd cc
  by_length (value ∷ []) code e =
      elim (cond_cases (is_number value) (Ok (digits_value 10 value)) (Err BadLength) _ e) [
        | inl h ↦ absurd (let bad = h.1 in cc)
        | inr h ↦ (let is = h.1 in let same : BadLength ≡ code = cc in subst P same bad_length)
      ]
  by_length (value ∷ (other ∷ more)) code e = (let same : BadLength ≡ code = cc in subst P same bad_length)

  by_limit : (r : Result ℕ Code) (code : Code) → (r ≡ Err code → P code) → within_limit r ≡ Err code → P code
  by_limit (Err c) code h e = h e
  by_limit (Ok n) code h e =
      elim (cond_cases (nat_lt body_limit n) (Err LongBody) (Ok n) _ e) [
        | inl i ↦ (let is = i.1 in let same : LongBody ≡ code = cc in subst P same long_body)
        | inr i ↦ absurd (let bad = i.1 in cc)
      ]

  by_coding : (values : List (List ℕ)) (r : Result ℕ Code) (code : Code) → (r ≡ Err code → P code)
      → unless_coded values r ≡ Err code → P code
  by_coding [] r code h e = h e
  by_coding (value ∷ more) r code h e = (let same : Coding ≡ code = cc in subst P same coding)

  by_body : (pairs : Pairs) (code : Code) → body_length pairs ≡ Err code → P code
  by_body pairs code e =
      let values = values_of (codes "content-length") pairs in
      by_coding (values_of (codes "transfer-encoding") pairs) (within_limit (length_from values)) code
      (by_limit (length_from values) code (by_length values code)) e

  by_grammar : (o : Option RequestHead) (code : Code) → or_bad_head o ≡ Err code → P code
  by_grammar None code e = (let same : BadHead ≡ code = cc in subst P same bad_head)
  by_grammar (Some head) code e = absurd cc

  by_ended : (bytes : List ℕ) (code : Code) → ended_head bytes ≡ Err code → P code
  by_ended bytes code e =
      elim (cond_cases _ (Err LongHead) (cond (is_loose bytes) (Err BadHead) (or_bad_head (head_of bytes))) _ e) [
        | inl h ↦ (let is = h.1 in let same : LongHead ≡ code = cc in subst P same long_head)
        | inr h ↦ elim (cond_cases (is_loose bytes) (Err BadHead) (or_bad_head (head_of bytes)) _ h.1) [
          | inl k ↦ (let is = k.1 in let same : BadHead ≡ code = cc in subst P same bad_head)
          | inr k ↦ by_grammar (head_of bytes) code k.1
        ]
      ]

  by_measured : (head : RequestHead) (r : Result ℕ Code) (code : Code) → (r ≡ Err code → P code)
      → and_length head r ≡ Err code → P code
  by_measured head (Err c) code h e = (let is : c ≡ code = cc in h (ap Err is))
  by_measured head (Ok n) code h e = absurd cc

  by_read : (r : Result RequestHead Code) (code : Code) → (r ≡ Err code → P code) → length_read r ≡ Err code → P code
  by_read (Err c) code h e = (let is : c ≡ code = cc in h (ap Err is))
  by_read (Ok head) code h e = by_measured head (body_length (pairs_of head)) code (by_body (pairs_of head) code) e

  by_head : (count n : ℕ) (r : Result (Head × ℕ) Code) (code : Code) → (r ≡ Err code → P code)
      → known_with_head count n r ≡ refused code → P code
  by_head count n (Err c) code h e = (let is : c ≡ code = cc in h (ap Err is))
  by_head count n (Ok read) code h e =
      elim (cond_cases (nat_lt count (n + read.1)) (waiting read.0 n read.1) (complete read.0 n read.1) _ e) [
        | inl k ↦ absurd (let bad = k.1 in cc)
        | inr k ↦ absurd (let bad = k.1 in cc)
      ]

  by_end : (o : Option ℕ) (text : List ℕ) (code : Code) → known_with_end o text ≡ refused code → P code
  by_end None text code e =
      elim (cond_cases (nat_lt (length text) head_limit) (unended (length text)) (refused LongHead) _ e) [
        | inl h ↦ absurd (let bad = h.1 in cc)
        | inr h ↦ (let is = h.1 in let same : LongHead ≡ code = cc in subst P same long_head)
      ]
  by_end (Some n) text code e =
      by_head (length text) n (head_with_length (take n text)) code
      (by_read (ended_head (take n text)) code (by_ended (take n text) code)) e

  by_known : (k : Known) (text : List ℕ) (code : Code) → framed k text ≡ refusal code → k ≡ refused code
  by_known (unended n) text code e = absurd cc
  by_known (waiting head n body) text code e = absurd cc
  by_known (complete head n body) text code e = absurd cc
  by_known (refused c) text code e = (let is : c ≡ code = cc in ap refused is)

  pub refused_by : (text : List ℕ) (code : Code) → framing text ≡ refusal code → P code
  unfolding known
  refused_by text code e =
      by_end (head_length (take head_limit text)) text code (by_known (known text) text code (framed_is text ∙ e))

-- ---- the head of a whole text

-- the head that was read, if there is one
abbrev head_or : Result (Head × ℕ) Code → Head → Head
head_or (Err c) head = head
head_or (Ok read) head = read.0

abbrev as_read : ℕ → Head → Result (Head × ℕ) Code
as_read n head = Ok (head, n)

measured_head : (h : RequestHead) (r : Result ℕ Code) (head : Head) (n : ℕ) → and_length h r ≡ Ok (head, n)
    → stored_head h ≡ head
measured_head h (Err c) head n e = absurd cc
measured_head h (Ok m) head n e = ap (λ r. head_or r head) e

read_head_of : (r : Result RequestHead Code) (head : Head) (n : ℕ) → length_read r ≡ Ok (head, n)
    → ok_head r ≡ Some head
read_head_of (Err c) head n e = absurd cc
read_head_of (Ok h) head n e = ap Some (measured_head h (body_length (pairs_of h)) head n e)

complete_read : (count n : ℕ) (r : Result (Head × ℕ) Code) (head : Head) (m body : ℕ)
    → known_with_head count n r ≡ complete head m body → (k : ℕ) × (r ≡ Ok (head, k))
complete_read count n (Err c) head m body e = absurd cc
complete_read count n (Ok read) head m body e =
    elim (cond_cases (nat_lt count (n + read.1)) (waiting read.0 n read.1) (complete read.0 n read.1) _ e) [
      | inl k ↦ absurd (let bad = k.1 in cc)
      | inr k ↦ (let is = k.1 in let same : read.0 ≡ head = cc in (read.1, ap (as_read read.1) same))
    ]

end_head : (o : Option ℕ) (text : List ℕ) (head : Head) (m body : ℕ) → known_with_end o text ≡ complete head m body
    → ended_at o text ≡ Some head
end_head None text head m body e =
    elim (cond_cases (nat_lt (length text) head_limit) (unended (length text)) (refused LongHead) _ e) [
      | inl h ↦ absurd (let bad = h.1 in cc)
      | inr h ↦ absurd (let bad = h.1 in cc)
    ]
end_head (Some n) text head m body e =
    let read = complete_read (length text) n (head_with_length (take n text)) head m body e in
    read_head_of (ended_head (take n text)) head read.0 read.1

whole_of : (k : Known) (text : List ℕ) (head : Head) (body : List ℕ) → framed k text ≡ whole head body
    → (n : ℕ) × (m : ℕ) × (k ≡ complete head n m)
whole_of (unended n) text head body e = absurd cc
whole_of (waiting h n b) text head body e = absurd cc
whole_of (refused c) text head body e = absurd cc
whole_of (complete h n b) text head body e = (let same : h ≡ head = cc in (n, b, ap (λ x. complete x n b) same))

-- a whole text has its head
pub whole_head : (text : List ℕ) (head : Head) (body : List ℕ) → framing text ≡ whole head body
    → head_in text ≡ Some head
unfolding known
whole_head text head body e =
    let is = whole_of (known text) text head body (framed_is text ∙ e) in
    sym (head_is text) ∙ end_head (head_length (take head_limit text)) text head is.0 is.1 is.2

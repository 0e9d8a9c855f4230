-- What the parser's contract says of a head, in our definitions: which head is found, when none is, and that its spans
-- cover the parts.
use Rattle.std.proofs.Common.{◌≡◌, ℕ, ◌-◌, ◌≤◌, false, cond, List, [], ◌++◌, length, map, take, drop, Option, Some}
use Rattle.std.proofs.Common.{None}
use Rattle.std.proofs.Common.{Result, Ok, Err, refl, sym, ◌∙◌, ap, arith}
use Rattle.std.specs.Prelude.{nat_lt}
use Rattle.std.proofs.Math.ListN.{drop_of_length-le}
use Rattle.std.proofs.lemmas.Bool.Decides.{nat_tests}
use Rattle.httparse.specs.declared.Error.{Error}
use Rattle.httparse.specs.declared.Status.{Status}
use Rattle.httparse.specs.declared.Status.TheVariants.{Complete, Partial}
use Rattle.httparse.specs.declared.spans.HeaderSpan.{HeaderSpan}
use Rattle.httparse.specs.declared.spans.RequestSpans.{RequestSpans}
use Rattle.httparse.specs.Grammar.{RequestHead, ReadsRequest, print_request}
use Rattle.httparse.specs.Outcome.{IsCompleteAnd}
use Rattle.httparse.specs.Spans.{FindsRequest, IsRequestAt, IsRequestOf, span_bytes, header_bytes}
use Rattle.clock_http.specs.Heads.{head_of}
use Rattle.clock_api.specs.declared.code.Code.{Code}
use Rattle.clock_api.specs.declared.code.Code.TheVariants.{LongHead, BadHead}
use Rattle.clock_http.specs.Scans.{line_ends, is_loose}
use Rattle.clock_http.specs.HeaderLines.{pairs_of, body_length, token_of}
use Rattle.clock_http.specs.Framing.{ended_head, or_bad_head, Head, length_read, and_length}
use Rattle.clock_http.specs.inside.HeadParts.{path_of_target, head_with_length}
use Rattle.clock_http.proofs.HeadLaws.{head_of_reads, found_of_reads, append_none}

-- a parse that is complete at the end of the bytes has found their head
pub parsed : (bytes : List ℕ) (headers : List HeaderSpan) (r : RequestSpans) → is_loose bytes ≡ false → r.len ≡ length
    bytes → IsRequestOf bytes headers r → (h : RequestHead) × (head_of bytes ≡ Some h) × IsRequestAt bytes headers r h
parsed bytes headers r tight all (h, at) =
    let rest : drop r.len bytes ≡ [] = drop_of_length-le bytes (omega arith) in
    let reads : ReadsRequest bytes h [] = (at.reads.0, at.reads.1 ∙ ap (λ t. print_request h ++ t) rest) in
    (h, (found_of_reads bytes h tight reads).head, at)

-- a head that exists is found, so if none is found there is none
pub not_parsed : (bytes : List ℕ) (room : ℕ) (headers : List HeaderSpan) (result : Result (Status RequestSpans) Error)
    → line_ends bytes - 2 ≤ room → is_loose bytes ≡ false → FindsRequest bytes room headers result
    → (IsCompleteAnd result (λ r. r.len ≡ length bytes) → ⊥) → head_of bytes ≡ None
not_parsed bytes room headers result few tight finds missing = by (head_of bytes) refl
  where
    weaker : (q : Result (Status RequestSpans) Error) (h : RequestHead) → bytes ≡ print_request h ++ []
        → IsCompleteAnd q (λ r. IsRequestAt bytes headers r h) → IsCompleteAnd q (λ r. r.len ≡ length bytes)
    weaker (Ok (Complete r)) h text at = at.len ∙ ap length (sym (append_none (print_request h)) ∙ sym text)
    weaker (Ok Partial) h text at = at
    weaker (Err e) h text at = at

    by : (o : Option RequestHead) → head_of bytes ≡ o → head_of bytes ≡ None
    by None e = e
    by (Some h) e =
        let reads = head_of_reads bytes h e in
        let found = found_of_reads bytes h tight reads in
        let fits : length h.fields ≤ room = omega (arith, found.count, few) in
        absurd (missing (weaker result h reads.1 (finds h [] reads fits)))

abbrev parted : List ℕ → List ℕ → Option (List ℕ) → ℕ → Result (Head × ℕ) Code
parted method path token n = Ok (record { method = method; path = path; token = token }, n)

-- the spans cover the parts of the head
pub read_is : (bytes : List ℕ) (headers : List HeaderSpan) (r : RequestSpans) (h : RequestHead)
    (method target path : List ℕ) (token : Option (List ℕ)) (n : ℕ) → line_ends bytes ≤ 66 → is_loose bytes ≡ false
    → head_of bytes ≡ Some h → IsRequestAt bytes headers r h → method ≡ span_bytes bytes r.method
    → target ≡ span_bytes bytes r.path → path ≡ path_of_target target → token ≡ token_of (map (header_bytes bytes)
    (take r.headers headers)) → Ok n ≡ body_length (map (header_bytes bytes) (take r.headers headers))
    → Ok (record { method = method; path = path; token = token }, n) ≡ head_with_length bytes
read_is bytes headers r h method target path token n few tight head at m t p k l =
    let short : nat_lt 64 (line_ends bytes - 2) ≡ false =
    (let le : line_ends bytes - 2 ≤ 64 = omega arith in grind (arith, nat_tests)) in
    let ended : ended_head bytes ≡ Ok h =
    ap (λ u. cond u (Err LongHead) (cond (is_loose bytes) (Err BadHead) (or_bad_head (head_of bytes)))) short
    ∙ ap (λ u. cond u (Err BadHead) (or_bad_head (head_of bytes))) tight ∙ ap or_bad_head head in
    let pairs : map (header_bytes bytes) (take r.headers headers) ≡ pairs_of h = at.fields in
    let sized : body_length (pairs_of h) ≡ Ok n = ap body_length (sym pairs) ∙ sym l in
    let tokened : token ≡ token_of (pairs_of h) = k ∙ ap token_of pairs in
    let routed : path ≡ path_of_target h.target = p ∙ ap path_of_target (t ∙ at.path) in
    ap (λ x. parted x path token n) (m ∙ at.method) ∙ ap (λ x. parted h.method x token n) routed
    ∙ ap (λ x. parted h.method (path_of_target h.target) x n) tokened
    ∙ sym (ap length_read ended ∙ ap (and_length h) sized)

-- bytes that have no head by the grammar are refused
pub no_head : (bytes : List ℕ) → line_ends bytes ≤ 66 → is_loose bytes ≡ false → head_of bytes ≡ None
    → Err BadHead ≡ head_with_length bytes
no_head bytes few tight none =
    let short : nat_lt 64 (line_ends bytes - 2) ≡ false =
    (let le : line_ends bytes - 2 ≤ 64 = omega arith in grind (arith, nat_tests)) in
    sym (ap length_read
    (ap (λ u. cond u (Err LongHead) (cond (is_loose bytes) (Err BadHead) (or_bad_head (head_of bytes)))) short
    ∙ ap (λ u. cond u (Err BadHead) (or_bad_head (head_of bytes))) tight ∙ ap or_bad_head none))

-- a head with a refused length is refused
pub no_length : (bytes : List ℕ) (headers : List HeaderSpan) (r : RequestSpans) (h : RequestHead) (fault : Code)
    → line_ends bytes ≤ 66 → is_loose bytes ≡ false → head_of bytes ≡ Some h → IsRequestAt bytes headers r h
    → Err fault ≡ body_length (map (header_bytes bytes) (take r.headers headers)) → Err fault ≡ head_with_length bytes
no_length bytes headers r h fault few tight head at refused =
    let short : nat_lt 64 (line_ends bytes - 2) ≡ false =
    (let le : line_ends bytes - 2 ≤ 64 = omega arith in grind (arith, nat_tests)) in
    let ended : ended_head bytes ≡ Ok h =
    ap (λ u. cond u (Err LongHead) (cond (is_loose bytes) (Err BadHead) (or_bad_head (head_of bytes)))) short
    ∙ ap (λ u. cond u (Err BadHead) (or_bad_head (head_of bytes))) tight ∙ ap or_bad_head head in
    let pairs : map (header_bytes bytes) (take r.headers headers) ≡ pairs_of h = at.fields in
    sym (ap length_read ended ∙ ap (and_length h) (ap body_length (sym pairs) ∙ sym refused))

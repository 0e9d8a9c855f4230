-- The head of a request that puts a sheet needs more just where its body needs to come.
use Rattle.std.proofs.Common.{◌≡◌, ℕ, ◌+◌, ◌-◌, ◌≤◌, ◌<◌, ◌^◌, zero, suc, Bool, true, false, cond, not, ◌&&◌, List, []}
use Rattle.std.proofs.Common.{◌∷◌, ◌++◌, length, take, drop, reverse}
use Rattle.std.proofs.Common.{Some, Ok, Err, codes, refl, sym, ◌∙◌, ap, arith, append_assoc, append-nil, length-append}
use Rattle.std.specs.Prelude.{◌==◌, ◌||◌, nat_lt, nat_le, nat_eq, decimal, option_map}
use Rattle.std.specs.List.{list_all, starts_with}
use Rattle.std.specs.Cmp.{first_so, second_so}
use Rattle.std.specs.Cmp.Lexicographic.{pointwise}
use Rattle.std.specs.Char.{is_ascii_digit}
use Rattle.std.specs.Str.Parse.{AllDigits, digits_value}
use Rattle.std.proofs.lemmas.Bool.{ne_eqb}
use Rattle.std.proofs.lemmas.Bool.Decides.{nat_tests}
use Rattle.std.proofs.lemmas.Fmt.{decimal_is_IsNumeral, length-decimal-le}
use Rattle.std.proofs.lemmas.List.{take_all}
use Rattle.std.proofs.lemmas.List.Elements.{All-from_recursion}
use Rattle.std.proofs.lemmas.List.Sums.{AllPass-from_list_all, list_all-from_AllPass}
use Rattle.std.proofs.lemmas.Str.{IsUtf8-from_ascii}
use Rattle.std.specs.Str.{IsAscii}
use Rattle.std.proofs.lemmas.Str.Parse.{digit_from_value}
use Rattle.httparse.specs.Ascii.{crlf_bytes}
use Rattle.httparse.specs.Grammar.{crlf, Field, IsField, RequestHead, IsRequestHead, print_request, is_token_byte}
use Rattle.httparse.specs.Grammar.{is_uri_byte, is_value_byte, is_ows}
use Rattle.httparse.specs.Grammar.{skip_ows, trim_ows}
use Rattle.httparse.proofs.TrimLemmas.{AllPass-reverse, trim_ows_space}
use Rattle.clock_terms.specs.Limits.{IsToken, is_letter_or_digit}
use Rattle.clock_api.specs.declared.code.Code.TheVariants.{LongHead, BadHead, BadLength, LongBody}
use Rattle.clock_http.specs.Scans.{head_length, line_ends, has_bare_line_feed, is_loose}
use Rattle.clock_http.specs.Heads.{head_of}
use Rattle.clock_http.specs.Decimals.{is_number}
use Rattle.clock_http.specs.HeaderLines.{pairs_of, body_length, body_limit, length_from, within_limit}
use Rattle.clock_http.specs.Framing.{head_limit, Head, stored_head, or_bad_head, ended_head, and_length, length_read}
use Rattle.clock_http.specs.Framing.{incomplete, whole, framed_at, framed_head, framing}
use Rattle.clock_http.specs.Framing.{is_incomplete, needs_more}
use Rattle.clock_http.specs.FramingLaws.{IsHeadOfGrammar}
use Rattle.clock_views.specs.inside.Values.{Adds}
use Rattle.clock_scripts.specs.declared.requests.Written.{Written}
use Rattle.clock_scripts.specs.RequestTexts.{request_head}
use Rattle.clock_scripts.specs.Pieces.{AwaitsBody, is_awaited}
use Rattle.clock_scripts.specs.inside.Heads.{HasRequestHead}
use Rattle.clock_scripts.proofs.WrittenLaws.{is_head, size}

-- ---- bytes within a line

-- a byte that ends no line
abbrev in_line : ℕ → Bool
in_line b = not (b == 13) && not (b == 10)

-- a byte that is seen
abbrev is_seen : ℕ → Bool
is_seen b = nat_lt 32 b && nat_lt b 127

-- a test that another implies
implied : (p q : ℕ → Bool) → ((b : ℕ) → p b ≡ true → q b ≡ true) → (bytes : List ℕ) → list_all p bytes ≡ true
    → list_all q bytes ≡ true
implied p q step [] all = refl
implied p q step (b ∷ bytes) all =
    ap (λ t. t && list_all q bytes) (step b (first_so _ _ all)) ∙ implied p q step bytes (second_so _ _ all)

both : (s t : Bool) → s ≡ true → t ≡ true → (s && t) ≡ true
both s t a b = cc

seen_of : (b : ℕ) → 32 < b → b < 127 → is_seen b ≡ true
seen_of b low high =
    let first : nat_lt 32 b ≡ true = grind (arith, nat_tests) in
    let second : nat_lt b 127 ≡ true = grind (arith, nat_tests) in
    both _ _ first second

low_of : (b : ℕ) → is_seen b ≡ true → 32 < b
low_of b seen =
    (let first : nat_lt 32 b ≡ true = first_so (nat_lt 32 b) (nat_lt b 127) seen in grind (arith, nat_tests))

high_of : (b : ℕ) → is_seen b ≡ true → b < 127
high_of b seen =
    (let second : nat_lt b 127 ≡ true = second_so (nat_lt 32 b) (nat_lt b 127) seen in grind (arith, nat_tests))

not_equal : (b c : ℕ) → c ≤ 32 → is_seen b ≡ true → (b == c) ≡ false
not_equal b c le seen = ne_eqb b c (λ same. omega (arith, le, low_of b seen, same))

not_del : (b : ℕ) → is_seen b ≡ true → (b == 127) ≡ false
not_del b seen = ne_eqb b 127 (λ same. omega (arith, high_of b seen, same))

seen_in_line : (b : ℕ) → is_seen b ≡ true → in_line b ≡ true
seen_in_line b seen =
    both _ _ (ap not (not_equal b 13 (omega arith) seen)) (ap not (not_equal b 10 (omega arith) seen))

seen_in_value : (b : ℕ) → is_seen b ≡ true → is_value_byte b ≡ true
seen_in_value b seen =
    let low : 32 < b = low_of b seen in
    let first : nat_le 32 b ≡ true = grind (arith, nat_tests) in
    ap (λ t. t || (nat_le 32 b && not (b == 127))) (not_equal b 9 (omega arith) seen)
    ∙ both _ _ first (ap not (not_del b seen))

seen_ascii : (bytes : List ℕ) → list_all is_seen bytes ≡ true → IsAscii bytes
seen_ascii [] all i = omega arith
seen_ascii (b ∷ bytes) all zero = omega (arith, high_of b (first_so _ _ all))
seen_ascii (b ∷ bytes) all (suc i) = seen_ascii bytes (second_so _ _ all) i

letter_seen : (b : ℕ) → is_letter_or_digit b ≡ true → is_seen b ≡ true
letter_seen b is = seen_of b (grind (arith, nat_tests)) (grind (arith, nat_tests))

digits_seen : (digits : List ℕ) → AllDigits 10 digits → list_all is_seen digits ≡ true
digits_seen [] all = refl
digits_seen (b ∷ digits) all =
    let within = digit_from_value b all.0 in
    both _ _ (seen_of b (omega (arith, within.0)) (omega (arith, within.1))) (digits_seen digits all.1)

digits_pass : (digits : List ℕ) → AllDigits 10 digits → list_all is_ascii_digit digits ≡ true
digits_pass [] all = refl
digits_pass (b ∷ digits) all =
    let within = digit_from_value b all.0 in
    let here : is_ascii_digit b ≡ true = grind (arith, nat_tests) in
    both _ _ here (digits_pass digits all.1)

digit_no_space : (b : ℕ) → is_seen b ≡ true → is_ows b ≡ false
digit_no_space b seen =
    ap (λ t. t || (b == 9)) (not_equal b 32 (omega arith) seen) ∙ not_equal b 9 (omega arith) seen

not_skipped : (bytes : List ℕ) → list_all is_seen bytes ≡ true → skip_ows bytes ≡ bytes
not_skipped [] all = refl
not_skipped (b ∷ bytes) all = ap (λ t. cond t (skip_ows bytes) (b ∷ bytes)) (digit_no_space b (first_so _ _ all))

reversed_seen : (bytes : List ℕ) → list_all is_seen bytes ≡ true → list_all is_seen (reverse bytes) ≡ true
reversed_seen bytes all = list_all-from_AllPass is_seen (reverse bytes)
    (AllPass-reverse is_seen bytes (AllPass-from_list_all is_seen bytes all))

-- what is seen is read after a space as it is
trimmed : (bytes : List ℕ) → list_all is_seen bytes ≡ true → trim_ows (32 ∷ bytes) ≡ bytes
trimmed bytes all = trim_ows_space bytes (not_skipped bytes all) (not_skipped (reverse bytes) (reversed_seen bytes all))

-- ---- what is left of a head

-- the rest of a head: it ends at its last byte, `lines` lines end in it, and no LF is bare
record IsRest (rest : List ℕ) (lines : ℕ) : Type 0 where
  ends : head_length rest ≡ Some (length rest)
  count : line_ends rest ≡ lines
  tight : (before : ℕ) → has_bare_line_feed before rest ≡ false

last_rest : IsRest (13 ∷ 10 ∷ 13 ∷ 10 ∷ []) 2
last_rest = record { ends = refl; count = refl; tight = λ before. refl }

byte_before : (b : ℕ) (rest : List ℕ) (lines : ℕ) → in_line b ≡ true → IsRest rest lines → IsRest (b ∷ rest) lines
byte_before b rest lines inner is =
    let cr : (b == 13) ≡ false = not_of (b == 13) (first_so (not (b == 13)) (not (b == 10)) inner) in
    let feed : (b == 10) ≡ false = not_of (b == 10) (second_so (not (b == 13)) (not (b == 10)) inner) in
    let other : nat_eq 13 b ≡ false = grind (arith, nat_tests) in
    record {
      ends = ap (λ t. cond (t && pointwise nat_eq (10 ∷ 13 ∷ 10 ∷ []) (take 3 rest)) (Some 4)
          (option_map (λ k. suc k) (head_length rest))) other ∙ ap (option_map (λ k. suc k)) is.ends;
      count = ap (λ t. cond (t && pointwise nat_eq (10 ∷ []) (take 1 rest)) 1 0 + line_ends rest) other
          ∙ omega (arith, is.count);
      tight = λ before. ap (λ t. (t && not (before == 13)) || has_bare_line_feed b rest) feed ∙ is.tight b;
    }
  where
    not_of : (t : Bool) → not t ≡ true → t ≡ false
    not_of true e = absurd cc
    not_of false e = refl

bytes_before : (bytes rest : List ℕ) (lines : ℕ) → list_all in_line bytes ≡ true → IsRest rest lines
    → IsRest (bytes ++ rest) lines
bytes_before [] rest lines inner is = is
bytes_before (b ∷ bytes) rest lines inner is =
    byte_before b (bytes ++ rest) lines (first_so _ _ inner) (bytes_before bytes rest lines (second_so _ _ inner) is)

line_end_before : (rest : List ℕ) (lines : ℕ) → starts_with nat_eq rest crlf_bytes ≡ false → IsRest rest lines
    → IsRest (13 ∷ 10 ∷ rest) (suc lines)
line_end_before rest lines begins is = record {
  ends = ap (λ t. cond t (Some 4) (option_map (λ k. suc k) (option_map (λ k. suc k) (head_length rest)))) begins
      ∙ ap (λ o. option_map (λ k. suc k) (option_map (λ k. suc k) o)) is.ends;
  count = omega (arith, is.count);
  tight = λ before. is.tight 10;
}

-- ---- the head

module _ (token : List ℕ) (is_token : IsToken token) (n : ℕ) (fits : n < 2 ^ 64) where
  abbrev text : List ℕ
  text = request_head (codes "PUT /v1/me/bids") token n

  numeral : (0 < length (decimal n)) × AllDigits 10 (decimal n)
  numeral = (decimal_is_IsNumeral n fits).0

  read_back : digits_value 10 (decimal n) ≡ n
  read_back = (decimal_is_IsNumeral n fits).1

  token_seen : list_all is_seen token ≡ true
  token_seen =
      implied is_letter_or_digit is_seen letter_seen token (list_all-from_AllPass is_letter_or_digit token is_token.1)

  size_seen : list_all is_seen (decimal n) ≡ true
  size_seen = digits_seen (decimal n) numeral.1

  -- four of its lines end
  text_rest : IsRest text 4
  text_rest =
      let last : IsRest (decimal n ++ codes "\r\n\r\n") 2 = bytes_before (decimal n) (codes "\r\n\r\n") 2
      (implied is_seen in_line seen_in_line (decimal n) size_seen) last_rest in
      let size : IsRest (codes "content-length: " ++ (decimal n ++ codes "\r\n\r\n")) 2 =
      bytes_before (codes "content-length: ") _ 2 refl last in
      let behind : IsRest (token ++ (codes "\r\n" ++ (codes "content-length: " ++ (decimal n ++ codes "\r\n\r\n")))) 3 =
      bytes_before token _ 3 (implied is_seen in_line seen_in_line token token_seen) (line_end_before _ 2 refl size) in
      let name : IsRest (codes "authorization: Bearer " ++ (token ++ (codes "\r\n" ++ (codes "content-length: "
      ++ (decimal n ++ codes "\r\n\r\n"))))) 3 = bytes_before (codes "authorization: Bearer ") _ 3 refl behind in
      bytes_before (codes "PUT /v1/me/bids HTTP/1.1") _ 4 refl (line_end_before _ 3 refl name)

  -- the head by its parts
  abbrev fields : List Field
  fields = record { name = codes "authorization"; raw = codes " Bearer " ++ token; end = crlf }
      ∷ record { name = codes "content-length"; raw = 32 ∷ decimal n; end = crlf } ∷ []

  abbrev head : RequestHead
  head = record {
    blank = [];
    method = codes "PUT";
    target = codes "/v1/me/bids";
    minor = 1;
    line_end = crlf;
    fields = fields;
    last = crlf;
  }

  head_is : IsRequestHead head
  unfolding is_token_byte
  head_is = record {
    method = (omega arith, AllPass-from_list_all is_token_byte (codes "PUT") refl);
    target = (omega arith, AllPass-from_list_all is_uri_byte (codes "/v1/me/bids") refl);
    target_text = IsUtf8-from_ascii (codes "/v1/me/bids") (seen_ascii (codes "/v1/me/bids") refl);
    minor = omega arith;
    fields = All-from_recursion IsField fields (first, (second, tt));
  }
    where
      first : IsField (record { name = codes "authorization"; raw = codes " Bearer " ++ token; end = crlf })
      first = record {
        name = (omega arith, AllPass-from_list_all is_token_byte (codes "authorization") refl);
        raw = AllPass-from_list_all is_value_byte (codes " Bearer " ++ token)
            (implied is_seen is_value_byte seen_in_value token token_seen);
      }

      second : IsField (record { name = codes "content-length"; raw = 32 ∷ decimal n; end = crlf })
      second = record {
        name = (omega arith, AllPass-from_list_all is_token_byte (codes "content-length") refl);
        raw = AllPass-from_list_all is_value_byte (32 ∷ decimal n)
            (implied is_seen is_value_byte seen_in_value (decimal n) size_seen);
      }

  prints : text ≡ print_request head ++ []
  unfolding print_request
  prints = sym (append-nil (print_request head) ∙ ap (λ t. codes "PUT /v1/me/bids HTTP/1.1\r\n" ++ t)
      (regroup (codes "authorization: Bearer ") token crlf_bytes (codes "content-length: ") (decimal n)))
    where
      regroup : (a t e c d : List ℕ)
          → ((a ++ (t ++ e)) ++ ((c ++ (d ++ e)) ++ [])) ++ e ≡ a ++ (t ++ (e ++ (c ++ (d ++ (e ++ e)))))
      regroup a t e c d = simp (append-nil, append_assoc)

  tight : is_loose text ≡ false
  tight = text_rest.tight 0

  head_found : IsHeadOfGrammar → head_of text ≡ Some head
  head_found law = (law text head tight).1 (head_is, prints)

  ended : IsHeadOfGrammar → ended_head text ≡ Ok head
  ended law =
      let few : nat_lt 64 (line_ends text - 2) ≡ false = ap (λ k. nat_lt 64 (k - 2)) text_rest.count in
      ap (λ t. cond t (Err LongHead) (cond (is_loose text) (Err BadHead) (or_bad_head (head_of text)))) few
      ∙ ap (λ t. cond t (Err BadHead) (or_bad_head (head_of text))) tight ∙ ap or_bad_head (head_found law)

  -- the length of the body is read back
  sized : body_length (pairs_of head) ≡ cond (nat_lt body_limit n) (Err LongBody) (Ok n)
  sized =
      let value : trim_ows (32 ∷ decimal n) ≡ decimal n = trimmed (decimal n) size_seen in
      let long : 0 < length (decimal n) = numeral.0 in
      let first : nat_lt 0 (length (decimal n)) ≡ true = grind (arith, nat_tests) in
      let number : is_number (decimal n) ≡ true = both _ _ first (digits_pass (decimal n) numeral.1) in
      ap (λ v. within_limit (length_from (v ∷ []))) value
      ∙ ap (λ t. within_limit (cond t (Ok (digits_value 10 (decimal n))) (Err BadLength))) number
      ∙ ap (λ k. within_limit (Ok k)) read_back

  -- the head needs more just where its body needs to come
  put_waits : IsHeadOfGrammar → needs_more text ≡ is_awaited n
  unfolding framing
  put_waits law =
      let digits : length (decimal n) ≤ 20 = length-decimal-le 20 n (omega arith) (omega (arith, fits)) fits in
      let size : length token ≤ 64 = is_token.0.1 in
      let few : length text ≤ 16384 = omega (
        arith,
        digits,
        size,
        length-append token ((codes "\r\ncontent-length: " ++ decimal n) ++ codes "\r\n\r\n"),
        length-append (decimal n) (codes "\r\n\r\n"),
      ) in
      let end : head_length (take head_limit text) ≡ Some (length text) =
      ap head_length (take_all head_limit text few) ∙ text_rest.ends in
      let read : length_read (ended_head (take (length text) text))
      ≡ and_length head (cond (nat_lt body_limit n) (Err LongBody) (Ok n)) =
      ap (λ t. length_read (ended_head t)) (take_all (length text) text (omega arith))
      ∙ ap length_read (ended law) ∙ ap (and_length head) sized in
      ap (λ o. is_incomplete (framed_at o text)) end
      ∙ ap (λ r. is_incomplete (framed_head (length text) text r)) read
      ∙ by_length (nat_lt body_limit n) refl
    where
      short_of : (short : Bool) (read : Head) (body : List ℕ)
          → is_incomplete (cond short incomplete (whole read body)) ≡ short
      short_of true read body = refl
      short_of false read body = refl

      some_left : (count k : ℕ) → k ≤ body_limit → nat_lt count (count + k) ≡ is_awaited k
      some_left count zero within = (let none : nat_lt count (count + 0) ≡ false = grind (arith, nat_tests) in none)
      some_left count (suc k) within =
          let short : nat_lt count (count + suc k) ≡ true = grind (arith, nat_tests) in
          let first : nat_le 1 (suc k) ≡ true = grind (arith, nat_tests) in
          let second : nat_le (suc k) body_limit ≡ true = grind (arith, nat_tests) in
          short ∙ sym (both _ _ first second)

      none : (t : Bool) → (t && false) ≡ false
      none true = refl
      none false = refl

      by_length : (long : Bool) → nat_lt body_limit n ≡ long → is_incomplete
          (framed_head (length text) text (and_length head (cond long (Err LongBody) (Ok n)))) ≡ is_awaited n
      by_length true is =
          let no : nat_le n body_limit ≡ false = grind (arith, nat_tests) in
          sym (ap (λ t. nat_le 1 n && t) no ∙ none (nat_le 1 n))
      by_length false is =
          let within : n ≤ body_limit = grind (arith, nat_tests) in
          short_of (nat_lt (length text) (length text + n)) (stored_head head) (take n (drop (length text) text))
          ∙ some_left (length text) n within

-- so does the head of a request that was written
pub put_awaits : IsHeadOfGrammar → (token : List ℕ) → IsToken token → (old pushed new body : List ℕ) (from : ℕ)
    (written : Written) → Adds body old pushed → from ≡ length old → length pushed < 2 ^ 64
    → HasRequestHead (codes "PUT /v1/me/bids") token from pushed new written → AwaitsBody new written
put_awaits law token is_token old pushed new body from written added start few headed =
    let line = codes "PUT /v1/me/bids" in
    let fits : length pushed - from < 2 ^ 64 = omega (arith, few) in
    ap needs_more (is_head old pushed new line token body from written added start headed)
    ∙ put_waits token is_token (length pushed - from) fits law
    ∙ ap is_awaited (sym (size old pushed new line token body from written added start headed))

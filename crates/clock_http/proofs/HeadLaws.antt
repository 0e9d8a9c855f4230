-- If no line ends loosely, the head that the definitions compute is the only one by httparse's grammar. Printed parts
-- have no line end, space, or colon inside, so splitting the bytes at these returns the parts.
use Rattle.std.proofs.Common.{◌≡◌, ◌≢◌, ℕ, ◌+◌, ◌-◌, ◌<◌, ◌≤◌, suc, zero, Bool, true, false, cond, not, ◌&&◌, List, []}
use Rattle.std.proofs.Common.{◌∷◌, ◌++◌, length, take, drop}
use Rattle.std.proofs.Common.{map, Some, None, refl, sym, ◌∙◌, ap, subst, arith, append_assoc, length-append, eqb}
use Rattle.std.proofs.Common.{eq-eqb}
use Rattle.std.specs.Prelude.{◌==◌, ◌||◌, nat_lt, nat_le, slice_index}
use Rattle.std.specs.List.{list_all, before_first, after_first, position_or_len, prefix_len, flat_map, AllByRecursion}
use Rattle.std.specs.Str.{is_utf8}
use Rattle.std.specs.Cmp.{first_so, second_so}
use Rattle.std.specs.Cmp.Lexicographic.{bytes_decides, pointwise}
use Rattle.std.proofs.lemmas.Str.{is_utf8-from_IsUtf8, IsUtf8-from_is_utf8}
use Rattle.std.proofs.lemmas.List.Sums.{AllPass-from_list_all, list_all-from_AllPass}
use Rattle.std.proofs.lemmas.Option.{cond_some}
use Rattle.std.proofs.Math.Seq.{take-append_seam, drop-append-add}
use Rattle.std.proofs.lemmas.Bool.Decides.{nat_tests}
use Rattle.std.proofs.lemmas.List.Elements.{recursion_from_All, All-from_recursion}
use Rattle.httparse.specs.Ascii.{colon}
use Rattle.httparse.specs.Grammar.{LineEnd, crlf, lf, print_end, print_blank, print_version, Field, print_field}
use Rattle.httparse.specs.Grammar.{IsField, print_section, RequestHead}
use Rattle.httparse.specs.Grammar.{print_request, IsRequestHead, ReadsRequest, is_token_byte, is_uri_byte}
use Rattle.httparse.specs.Grammar.{is_value_byte, is_token, IsToken}
use Rattle.httparse.proofs.GrammarLemmas.{print_request-append, cons-append}
use Rattle.clock_http.specs.Heads.{onto_first, lines_of, word, after_word, field_of, head_from, is_head}
use Rattle.clock_api.specs.Bytes.{same_bytes}
use Rattle.clock_http.specs.Heads.{head_of}
use Rattle.clock_http.specs.inside.HeadTests.{is_field}
use Rattle.clock_http.specs.Scans.{line_ends, has_bare_line_feed, is_loose}
use Rattle.clock_http.specs.FramingLaws.{IsHeadOfGrammar}

-- no byte is c
abbrev pub lacks : ℕ → List ℕ → Type 0
lacks c xs = list_all (λ b. not (b == c)) xs ≡ true

-- bytes that pass a test which c fails have no c
pub avoids : (p : ℕ → Bool) (c : ℕ) → p c ≡ false → (xs : List ℕ) → list_all p xs ≡ true → lacks c xs
avoids p c fails [] all = refl
avoids p c fails (x ∷ xs) all =
    let here : p x ≡ true = first_so _ _ all in
    let rest : lacks c xs = avoids p c fails xs (second_so _ _ all) in
    let differ : x ≢ c = λ e. (let bad : p c ≡ true = ap p (sym e) ∙ here in cc) in
    let no : (x == c) ≡ false = grind (arith, nat_tests) in
    ap (λ t. not t && list_all (λ b. not (b == c)) xs) no ∙ rest

pub lacks-append : (c : ℕ) (xs ys : List ℕ) → lacks c xs → lacks c ys → lacks c (xs ++ ys)
lacks-append c [] ys a b = b
lacks-append c (x ∷ xs) ys a b =
    let rest : lacks c (xs ++ ys) = lacks-append c xs ys (second_so _ _ a) b in
    ap (λ t. t && list_all (λ b. not (b == c)) (xs ++ ys)) (first_so _ _ a) ∙ rest

not_of : (t : Bool) → not t ≡ true → t ≡ false
not_of true e = cc
not_of false e = refl

-- ---- a line and its end

pub lines_front : (xs rest : List ℕ) → lacks 13 xs → lacks 10 xs
    → lines_of (xs ++ 13 ∷ (10 ∷ rest)) ≡ xs ∷ lines_of rest
lines_front [] rest a b = refl
lines_front (x ∷ xs) rest a b =
    let more = lines_front xs rest (second_so _ _ a) (second_so _ _ b) in
    let cr : (x == 13) ≡ false = not_of _ (first_so _ _ a) in
    let nl : (x == 10) ≡ false = not_of _ (first_so _ _ b) in
    ap (λ t. cond t (lines_of (xs ++ 13 ∷ (10 ∷ rest))) (cond (x == 10) ([] ∷ lines_of (xs ++ 13 ∷ (10 ∷ rest)))
    (onto_first x (lines_of (xs ++ 13 ∷ (10 ∷ rest)))))) cr
    ∙ ap (λ t. cond t ([] ∷ lines_of (xs ++ 13 ∷ (10 ∷ rest))) (onto_first x (lines_of (xs ++ 13 ∷ (10 ∷ rest))))) nl
    ∙ ap (onto_first x) more

pub bare_front : (before : ℕ) (xs rest : List ℕ) → (before == 13) ≡ false → lacks 13 xs → lacks 10 xs
    → has_bare_line_feed before (xs ++ 10 ∷ rest) ≡ true
bare_front before [] rest e a b = ap (λ t. not t || has_bare_line_feed 10 rest) e
bare_front before (x ∷ xs) rest e a b =
    let cr : (x == 13) ≡ false = not_of _ (first_so _ _ a) in
    let nl : (x == 10) ≡ false = not_of _ (first_so _ _ b) in
    ap (λ t. (t && not (before == 13)) || has_bare_line_feed x (xs ++ 10 ∷ rest)) nl
    ∙ bare_front x xs rest cr (second_so _ _ a) (second_so _ _ b)

pub clean_front : (before : ℕ) (xs rest : List ℕ) → lacks 13 xs → lacks 10 xs
    → has_bare_line_feed before (xs ++ 13 ∷ (10 ∷ rest)) ≡ has_bare_line_feed 10 rest
clean_front before [] rest a b = refl
clean_front before (x ∷ xs) rest a b =
    let nl : (x == 10) ≡ false = not_of _ (first_so _ _ b) in
    ap (λ t. (t && not (before == 13)) || has_bare_line_feed x (xs ++ 13 ∷ (10 ∷ rest))) nl
    ∙ clean_front x xs rest (second_so _ _ a) (second_so _ _ b)

pub ends_front : (xs rest : List ℕ) → lacks 13 xs → line_ends (xs ++ 13 ∷ (10 ∷ rest)) ≡ suc (line_ends rest)
ends_front [] rest a = omega arith
ends_front (x ∷ xs) rest a =
    let cr : (x == 13) ≡ false = not_of _ (first_so _ _ a) in
    let more = ends_front xs rest (second_so _ _ a) in
    let no : eqb 13 x ≡ false = grind (arith, nat_tests) in
    let here : line_ends (x ∷ (xs ++ 13 ∷ (10 ∷ rest))) ≡ 0 + line_ends (xs ++ 13 ∷ (10 ∷ rest)) = ap (λ t. cond (t
    && pointwise eqb (10 ∷ []) (take 1 (xs ++ 13 ∷ (10 ∷ rest)))) 1 0 + line_ends (xs ++ 13 ∷ (10 ∷ rest))) no in
    here ∙ omega (arith, more)

-- ---- the parts of a line

first_at : (c : ℕ) (xs ys : List ℕ) → lacks c xs → position_or_len (λ b. b == c) (xs ++ c ∷ ys) ≡ length xs
first_at c [] ys a = ap (λ t. cond (not t) (1 + prefix_len (λ x. not (x == c)) ys) 0) (eq-eqb c c refl)
first_at c (x ∷ xs) ys a =
    let more = first_at c xs ys (second_so _ _ a) in
    let here : position_or_len (λ b. b == c) (x ∷ (xs ++ c ∷ ys)) ≡ 1 + position_or_len (λ b. b == c) (xs ++ c ∷ ys) =
    ap (λ t. cond t (1 + position_or_len (λ b. b == c) (xs ++ c ∷ ys)) 0) (first_so _ _ a) in
    here ∙ ap (λ n. 1 + n) more ∙ omega arith

pub before_at : (c : ℕ) (xs ys : List ℕ) → lacks c xs → before_first (λ b. b == c) (xs ++ c ∷ ys) ≡ xs
before_at c xs ys a = ap (λ n. take n (xs ++ c ∷ ys)) (first_at c xs ys a) ∙ take-append_seam xs (c ∷ ys)

pub after_at : (c : ℕ) (xs ys : List ℕ) → lacks c xs → after_first (λ b. b == c) (xs ++ c ∷ ys) ≡ ys
after_at c xs ys a = ap (λ n. drop (n + 1) (xs ++ c ∷ ys)) (first_at c xs ys a) ∙ drop-append-add xs (c ∷ ys) 1

-- ---- the header lines

abbrev pub print_line : Field → List ℕ
print_line f = f.name ++ colon ∷ f.raw

token_lacks : (c : ℕ) → is_token_byte c ≡ false → (bytes : List ℕ) → IsToken bytes → lacks c bytes
token_lacks c fails bytes t = avoids is_token_byte c fails bytes (list_all-from_AllPass is_token_byte bytes t.1)

line_lacks : (c : ℕ) → is_token_byte c ≡ false → (58 == c) ≡ false → is_value_byte c ≡ false → (f : Field) → IsField f
    → lacks c (print_line f)
line_lacks c name mid raw f is =
    let after : lacks c f.raw = avoids is_value_byte c raw f.raw (list_all-from_AllPass is_value_byte f.raw is.raw) in
    let behind : lacks c (58 ∷ f.raw) = ap (λ t. not t && list_all (λ b. not (b == c)) f.raw) mid ∙ after in
    lacks-append c f.name (58 ∷ f.raw) (token_lacks c name f.name is.name) behind

-- a line and its end, if no LF is bare
record Splits (before : ℕ) (line : List ℕ) (e : LineEnd) (rest : List ℕ) : Type 0 where
  end : e ≡ crlf
  lines : lines_of (line ++ (print_end e ++ rest)) ≡ line ∷ lines_of rest
  bare : has_bare_line_feed before (line ++ (print_end e ++ rest)) ≡ has_bare_line_feed 10 rest
  count : line_ends (line ++ (print_end e ++ rest)) ≡ suc (line_ends rest)

splits : (before : ℕ) (line : List ℕ) (e : LineEnd) (rest : List ℕ) → (before == 13) ≡ false → lacks 13 line
    → lacks 10 line → has_bare_line_feed before (line ++ (print_end e ++ rest)) ≡ false → Splits before line e rest
splits before line crlf rest e13 a b h = record {
  end = refl;
  lines = lines_front line rest a b;
  bare = clean_front before line rest a b;
  count = ends_front line rest a;
}
splits before line lf rest e13 a b h = absurd (let bad = bare_front before line rest e13 a b in cc)

pub record Section (fields : List Field) (last : LineEnd) : Type 0 where
  pub lines : lines_of (print_section fields last) ≡ map print_line fields ++ [] ∷ []
  pub fields_are : map field_of (map print_line fields) ≡ fields
  pub last_is : last ≡ crlf
  pub count : line_ends (print_section fields last) ≡ suc (length fields)

field_again : (name raw : List ℕ) (e : LineEnd) → IsToken name → e ≡ crlf
    → field_of (name ++ 58 ∷ raw) ≡ record { name = name; raw = raw; end = e }
unfolding is_token_byte
field_again name raw e is end =
    let lacking : lacks 58 name = token_lacks 58 refl name is in
    let made : List ℕ → List ℕ → LineEnd → Field = λ n r l. record { name = n; raw = r; end = l } in
    ap (λ n. made n (after_first (λ b. b == 58) (name ++ 58 ∷ raw)) crlf) (before_at 58 name raw lacking)
    ∙ ap (λ r. made name r crlf) (after_at 58 name raw lacking) ∙ ap (made name raw) (sym end)

section_cons : (f : Field) (fields : List Field) (last : LineEnd)
    → print_section (f ∷ fields) last ≡ print_line f ++ (print_end f.end ++ print_section fields last)
section_cons f fields last = regroup (print_line f) (print_end f.end) (flat_map print_field fields) (print_end last)
  where
    regroup : (a b c d : List ℕ) → ((a ++ b) ++ c) ++ d ≡ a ++ (b ++ (c ++ d))
    regroup a b c d = simp append_assoc

pub section_reads : (fields : List Field) (last : LineEnd) → AllByRecursion IsField fields
    → has_bare_line_feed 10 (print_section fields last) ≡ false → Section fields last
unfolding is_token_byte
section_reads [] crlf all h = record { lines = refl; fields_are = refl; last_is = refl; count = refl }
section_reads [] lf all h = absurd cc
section_reads (f ∷ fields) last all h =
    let grouped = section_cons f fields last in
    let here = splits 10 (print_line f) f.end (print_section fields last) refl (line_lacks 13 refl refl refl f all.0)
    (line_lacks 10 refl refl refl f all.0) (ap (has_bare_line_feed 10) (sym grouped) ∙ h) in
    let bare : has_bare_line_feed 10 (print_section fields last) ≡ false =
    sym here.bare ∙ ap (has_bare_line_feed 10) (sym grouped) ∙ h in
    let more = section_reads fields last all.1 bare in
    let this : field_of (print_line f) ≡ f = field_again f.name f.raw f.end all.0.name here.end in
    record {
      lines = ap lines_of grouped ∙ here.lines ∙ ap (λ ls. print_line f ∷ ls) more.lines;
      fields_are = ap (λ g. g ∷ map field_of (map print_line fields)) this ∙ ap (λ gs. f ∷ gs) more.fields_are;
      last_is = more.last_is;
      count = ap line_ends grouped ∙ here.count ∙ ap (λ n. suc n) more.count;
    }

-- ---- the whole head

version_lacks : (c n : ℕ) → n ≤ 1 → lacks c (print_version 0) → lacks c (print_version 1) → lacks c (print_version n)
version_lacks c zero le a b = a
version_lacks c (suc zero) le a b = b
version_lacks c (suc (suc n)) le a b = absurd (omega arith)

minor_again : (n : ℕ) → slice_index (print_version n) 7 - 48 ≡ n
minor_again n = omega arith

line_of_lacks : (c : ℕ) (m t : List ℕ) (n : ℕ) → (32 == c) ≡ false → lacks c m → lacks c t → lacks c (print_version n)
    → lacks c (m ++ 32 ∷ (t ++ 32 ∷ print_version n))
line_of_lacks c m t n sp a b v =
    let after : lacks c (32 ∷ print_version n) =
    ap (λ u. not u && list_all (λ b. not (b == c)) (print_version n)) sp ∙ v in
    let rest : lacks c (t ++ 32 ∷ print_version n) = lacks-append c t (32 ∷ print_version n) b after in
    let behind : lacks c (32 ∷ (t ++ 32 ∷ print_version n)) =
    ap (λ u. not u && list_all (λ b. not (b == c)) (t ++ 32 ∷ print_version n)) sp ∙ rest in
    lacks-append c m (32 ∷ (t ++ 32 ∷ print_version n)) a behind

abbrev made : List ℕ → List ℕ → ℕ → List Field → RequestHead
made m t n fs = record { blank = []; method = m; target = t; minor = n; line_end = crlf; fields = fs; last = crlf }

head_built : (m t : List ℕ) (n : ℕ) (fs : List Field) → lacks 32 m → lacks 32 t → map field_of (map print_line fs) ≡ fs
    → head_from ((m ++ 32 ∷ (t ++ 32 ∷ print_version n)) ∷ (map print_line fs ++ [] ∷ [])) ≡ made m t n fs
head_built m t n fs a b fields =
    let line = m ++ 32 ∷ (t ++ 32 ∷ print_version n) in
    let lines = map print_line fs ++ [] ∷ [] in
    let after : after_word line ≡ t ++ 32 ∷ print_version n = after_at 32 m (t ++ 32 ∷ print_version n) a in
    let version : after_word (after_word line) ≡ print_version n =
    ap after_word after ∙ after_at 32 t (print_version n) b in
    let target : word (after_word line) ≡ t = ap word after ∙ before_at 32 t (print_version n) b in
    let minor : slice_index (after_word (after_word line)) 7 - 48 ≡ n =
    ap (λ v. slice_index v 7 - 48) version ∙ minor_again n in
    let counted : length lines - 1 ≡ length (map print_line fs) =
    omega (arith, length-append (map print_line fs) ([] ∷ [])) in
    let taken : take (length lines - 1) lines ≡ map print_line fs =
    ap (λ k. take k lines) counted ∙ take-append_seam (map print_line fs) ([] ∷ []) in
    ap (λ x. made x (word (after_word line)) (slice_index (after_word (after_word line)) 7 - 48)
    (map field_of (take (length lines - 1) lines))) (before_at 32 m (t ++ 32 ∷ print_version n) a) ∙ ap (λ x. made m x
    (slice_index (after_word (after_word line)) 7 - 48) (map field_of (take (length lines - 1) lines))) target
    ∙ ap (λ x. made m t x (map field_of (take (length lines - 1) lines))) minor
    ∙ ap (λ x. made m t n (map field_of x)) taken ∙ ap (λ x. made m t n x) fields

both : (s t : Bool) → s ≡ true → t ≡ true → (s && t) ≡ true
both s t a b = cc

token_test : (bytes : List ℕ) → IsToken bytes → is_token bytes ≡ true
token_test bytes t = both (nat_lt 0 (length bytes)) (list_all is_token_byte bytes)
    (let lt : 0 < length bytes = t.0 in grind (arith, nat_tests)) (list_all-from_AllPass is_token_byte bytes t.1)

token_fact : (bytes : List ℕ) → is_token bytes ≡ true → IsToken bytes
token_fact bytes t =
    let lt : nat_lt 0 (length bytes) ≡ true = first_so _ _ t in
    (grind (arith, nat_tests), AllPass-from_list_all is_token_byte bytes (second_so _ _ t))

fields_test : (fs : List Field) → AllByRecursion IsField fs → list_all is_field fs ≡ true
fields_test [] all = refl
fields_test (f ∷ fs) all = both (is_field f) (list_all is_field fs) (both (is_token f.name) (list_all is_value_byte
    f.raw) (token_test f.name all.0.name) (list_all-from_AllPass is_value_byte f.raw all.0.raw)) (fields_test fs all.1)

fields_fact : (fs : List Field) → list_all is_field fs ≡ true → AllByRecursion IsField fs
fields_fact [] t = tt
fields_fact (f ∷ fs) t =
    let here : is_field f ≡ true = first_so _ _ t in (
      record {
        name = token_fact f.name (first_so _ _ here);
        raw = AllPass-from_list_all is_value_byte f.raw (second_so _ _ here);
      },
      fields_fact fs
          (second_so _ _ t),
    )

head_test : (h : RequestHead) → IsRequestHead h → is_head h ≡ true
head_test h is =
    let long : 0 < length h.target = is.target.0 in
    let low : h.minor ≤ 1 = is.minor in
    let t1 : nat_lt 0 (length h.target) ≡ true = grind (arith, nat_tests) in
    let t2 : nat_le h.minor 1 ≡ true = grind (arith, nat_tests) in
    both _ _ (token_test h.method is.method) (both _ _ t1 (both _ _
    (list_all-from_AllPass is_uri_byte h.target is.target.1) (both _ _ (is_utf8-from_IsUtf8 h.target is.target_text)
    (both _ _ t2 (fields_test h.fields (recursion_from_All IsField h.fields is.fields))))))

head_fact : (h : RequestHead) → is_head h ≡ true → IsRequestHead h
head_fact h t =
    let t1 = second_so (is_token h.method) _ t in
    let long : nat_lt 0 (length h.target) ≡ true = first_so _ _ t1 in
    let t2 = second_so (nat_lt 0 (length h.target)) _ t1 in
    let t3 = second_so (list_all is_uri_byte h.target) _ t2 in
    let t4 = second_so (is_utf8 h.target) _ t3 in
    let low : nat_le h.minor 1 ≡ true = first_so _ _ t4 in
    record {
      method = token_fact h.method (first_so _ _ t);
      target = (grind (arith, nat_tests), AllPass-from_list_all is_uri_byte h.target (first_so _ _ t2));
      target_text = IsUtf8-from_is_utf8 h.target (first_so _ _ t3);
      minor = grind (arith, nat_tests);
      fields = All-from_recursion IsField h.fields (fields_fact h.fields (second_so (nat_le h.minor 1) _ t4));
    }

pub append_none : (xs : List ℕ) → xs ++ [] ≡ xs
append_none [] = refl
append_none (x ∷ xs) = ap (λ ys. x ∷ ys) (append_none xs)

-- a computed head is in the grammar
pub head_of_reads : (bytes : List ℕ) (h : RequestHead) → head_of bytes ≡ Some h → ReadsRequest bytes h []
unfolding head_of
head_of_reads bytes h e =
    let c = head_from (lines_of bytes) in
    let found = cond_some (is_head c && same_bytes (print_request c) bytes) c h e in
    let is : IsRequestHead c = head_fact c (first_so _ _ found.0) in
    let prints : print_request c ≡ bytes = (bytes_decides (print_request c) bytes).0 (second_so _ _ found.0) in
    let reads : ReadsRequest bytes c [] = (is, sym prints ∙ sym (append_none (print_request c))) in
    subst (λ k. ReadsRequest bytes k []) found.1 reads

or_false : (s t : Bool) → (s || t) ≡ false → (s ≡ false) × (t ≡ false)
or_false true t e = absurd cc
or_false false t e = (refl, e)

-- a head that is found, and its number of line ends
pub record Found (bytes : List ℕ) (h : RequestHead) : Type 0 where
  pub head : head_of bytes ≡ Some h
  pub count : line_ends bytes ≡ length h.fields + 2

-- without a blank line before the head
found : (bytes m t : List ℕ) (n : ℕ) (e last : LineEnd) (fs : List Field) → IsRequestHead (made m t n fs)
    → bytes ≡ (m ++ 32 ∷ (t ++ 32 ∷ print_version n)) ++ (print_end e ++ print_section fs last)
    → has_bare_line_feed 0 bytes ≡ false
    → (e ≡ crlf) × (last ≡ crlf) × Found bytes (made m t n fs)
unfolding head_of is_token_byte print_request
found bytes m t n e last fs is text bare =
    let line = m ++ 32 ∷ (t ++ 32 ∷ print_version n) in
    let low : n ≤ 1 = is.minor in
    let uri = list_all-from_AllPass is_uri_byte t is.target.1 in
    let a13 = line_of_lacks 13 m t n refl (token_lacks 13 refl m is.method) (avoids is_uri_byte 13 refl t uri)
    (version_lacks 13 n low refl refl) in
    let a10 = line_of_lacks 10 m t n refl (token_lacks 10 refl m is.method) (avoids is_uri_byte 10 refl t uri)
    (version_lacks 10 n low refl refl) in
    let first = splits 0 line e (print_section fs last) refl a13 a10 (ap (has_bare_line_feed 0) (sym text) ∙ bare) in
    let bare_rest : has_bare_line_feed 10 (print_section fs last) ≡ false =
    sym first.bare ∙ ap (has_bare_line_feed 0) (sym text) ∙ bare in
    let rest = section_reads fs last (recursion_from_All IsField fs is.fields) bare_rest in
    let lines : lines_of bytes ≡ line ∷ (map print_line fs ++ [] ∷ []) =
    ap lines_of text ∙ first.lines ∙ ap (λ ls. line ∷ ls) rest.lines in
    let same : head_from (lines_of bytes) ≡ made m t n fs = ap head_from lines
    ∙ head_built m t n fs (token_lacks 32 refl m is.method) (avoids is_uri_byte 32 refl t uri) rest.fields_are in
    let strict : print_request (made m t n fs) ≡ bytes = sym (append_none (print_request (made m t n fs)))
    ∙ print_request-append (made m t n fs) [] ∙ regroup m t (print_version n) (print_end crlf) (print_section fs crlf)
    ∙ ap (λ x. line ++ (print_end x ++ print_section fs crlf)) (sym first.end)
    ∙ ap (λ x. line ++ (print_end e ++ print_section fs x)) (sym rest.last_is) ∙ sym text in
    let test : (is_head (made m t n fs) && same_bytes (print_request (made m t n fs)) bytes) ≡ true =
    both _ _ (head_test (made m t n fs) is) ((bytes_decides (print_request (made m t n fs)) bytes).1 strict) in (
      first.end,
      rest.last_is,
      record {
        head = ap (λ k. cond (is_head k && same_bytes (print_request k) bytes) (Some k) None) same
            ∙ ap (λ u. cond u (Some (made m t n fs)) None) test;
        count = ap line_ends text ∙ first.count ∙ ap (λ k. suc k) rest.count ∙ omega arith;
      },
    )
  where
    regroup : (m t v e s : List ℕ)
        → m ++ 32 ∷ (t ++ 32 ∷ (v ++ (e ++ (s ++ [])))) ≡ (m ++ 32 ∷ (t ++ 32 ∷ v)) ++ (e ++ s)
    regroup m t v e s = simp (append_none, append_assoc, cons-append)

-- a head in the grammar is found, if no line ends loosely
pub found_of_reads : (bytes : List ℕ) (h : RequestHead) → is_loose bytes ≡ false
    → ReadsRequest bytes h [] → Found bytes h
found_of_reads bytes h tight reads =
    let loose = or_false (slice_index bytes 0 == 13) (has_bare_line_feed 0 bytes) tight in
    by_blank bytes h h.blank refl reads.0 (reads.1 ∙ print_request-append h []) loose.0 loose.1
  where
    after : RequestHead → List ℕ
    after h = h.method ++ 32
        ∷ (h.target ++ 32 ∷ (print_version h.minor ++ (print_end h.line_end ++ (print_section h.fields h.last ++ []))))

    regroup : (m t v e s : List ℕ)
        → m ++ 32 ∷ (t ++ 32 ∷ (v ++ (e ++ (s ++ [])))) ≡ (m ++ 32 ∷ (t ++ 32 ∷ v)) ++ (e ++ s)
    regroup m t v e s = simp (append_none, append_assoc, cons-append)

    by_blank : (bytes : List ℕ) (h : RequestHead) (blank : List LineEnd) → h.blank ≡ blank → IsRequestHead h
        → bytes ≡ print_blank h.blank ++ (h.method ++ 32 ∷ (h.target ++ 32 ∷
        (print_version h.minor ++ (print_end h.line_end ++ (print_section h.fields h.last ++ [])))))
        → (slice_index bytes 0 == 13) ≡ false → has_bare_line_feed 0 bytes ≡ false → Found bytes h
    by_blank bytes h [] none is text front bare =
        let strict : IsRequestHead (made h.method h.target h.minor h.fields) =
        record {
          method = is.method;
          target = is.target;
          target_text = is.target_text;
          minor = is.minor;
          fields = is.fields;
        } in
        let grouped = text ∙ ap (λ b. print_blank b ++ after h) none
        ∙ regroup h.method h.target (print_version h.minor) (print_end h.line_end) (print_section h.fields h.last) in
        let got = found bytes h.method h.target h.minor h.line_end h.last h.fields strict grouped bare in
        let with : List LineEnd → LineEnd → LineEnd → RequestHead =
        λ b e l. record {
          blank = b;
          method = h.method;
          target = h.target;
          minor = h.minor;
          line_end = e;
          fields = h.fields;
          last = l;
        } in
        let same : made h.method h.target h.minor h.fields ≡ h = ap (λ b. with b crlf crlf) (sym none)
        ∙ ap (λ e. with h.blank e crlf) (sym got.0) ∙ ap (λ l. with h.blank h.line_end l) (sym got.1) in
        subst (λ k. Found bytes k) same got.2
    by_blank bytes h (crlf ∷ ends) some is text front bare =
        let begins = text ∙ ap (λ b. print_blank b ++ after h) some in
        let bad : (slice_index bytes 0 == 13) ≡ true = ap (λ b. slice_index b 0 == 13) begins in absurd cc
    by_blank bytes h (lf ∷ ends) some is text front bare =
        let begins = text ∙ ap (λ b. print_blank b ++ after h) some in
        let bad : has_bare_line_feed 0 bytes ≡ true = ap (has_bare_line_feed 0) begins in absurd cc

pub head_of_grammar : IsHeadOfGrammar
head_of_grammar bytes h tight = (head_of_reads bytes h, λ reads. (found_of_reads bytes h tight reads).head)

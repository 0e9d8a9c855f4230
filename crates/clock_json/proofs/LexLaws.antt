-- Laws of lexemes: a byte's, and the tokens that it begins.
use Rattle.std.proofs.Common.{◌≡◌, ℕ, ◌+◌, ◌-◌, ◌<◌, ◌≤◌, ◌^◌, ◌||◌, Bool, true, false, List, [], ◌∷◌, ◌++◌, length}
use Rattle.std.proofs.Common.{take, drop, get_or, decimal}
use Rattle.std.proofs.Common.{cond, eqb, not, ◌&&◌, ◌==◌, Some, None, IfSome, refl, sym, ap, ap₂, ◌∙◌, subst, arith}
use Rattle.std.specs.Prelude.{if◌then◌else◌}
use Rattle.std.proofs.lemmas.Bool.{true≢false, false≢true, eqb-true}
use Rattle.std.proofs.lemmas.List.{drop_more, drop_all, drop-drop, get_or-drop, take_all, take-append-drop}
use Rattle.std.proofs.lemmas.List.{take-append-le}
use Rattle.std.proofs.lemmas.Fmt.{decimal-digits_value}
use Rattle.std.proofs.lemmas.Str.Parse.{numerals_by_value, tells_digits}
use Rattle.std.proofs.lemmas.Str.{digit_value_digit}
use Rattle.std.specs.Char.{digit_value}
use Rattle.std.specs.Str.Parse.{AllDigits, digits_value}
use Rattle.json.specs.Token.{Token, key, begin_object, end_object, begin_array, end_array, number, string, null, bad}
use Rattle.json.specs.Text as text
use Rattle.json.specs.Text.{content}
use Rattle.json.specs.Print.{escape}
use Rattle.json.proofs.Printed.Strings.{content-escape, lex-escape}
use Rattle.json.specs.Word.{is_operator, is_space, ends_word, word}
use Rattle.json.specs.Lex as lexer
use Rattle.json.specs.Lex.{Class, Lexeme, Place, may_begin, may_close, token, comma, colon, class, lex, lex_byte}
use Rattle.json.specs.Lex.{between, punctuate}
use Rattle.json.specs.Align.{is_blank}
use Rattle.clock_json.specs.Left.{place_of}
use Rattle.clock_json.specs.Marks.{opening_mark, closing_mark}
use Rattle.clock_json.specs.inside.Marks.{IsMark}
use Rattle.clock_json.specs.declared.scan.Expected.{Expected}
use Rattle.clock_json.specs.declared.scan.Expected.TheVariants as ours
use Rattle.json.proofs.Printed.Numbers.{lex-number, in_word-ended}
use Rattle.json.proofs.Printed.Decimals.{IsNumber-decimal}

pub at_byte : (bytes : List ℕ) (i c : ℕ) → i < length bytes → get_or bytes i 0 ≡ c
    → drop i bytes ≡ c ∷ drop (i + 1) bytes
at_byte bytes i c lt is = drop_more bytes i 0 lt ∙ ap (λ x. x ∷ drop (i + 1) bytes) is

blank : (c : Class) (x : ℕ) (xs : List ℕ) → is_blank c ≡ true → lex_byte between c x xs (λ m. lex m xs) ≡ lex between xs
blank lexer.quote x xs h = absurd (false≢true h)
blank lexer.backslash x xs h = absurd (false≢true h)
blank lexer.operator x xs h = absurd (false≢true h)
blank lexer.space x xs h = refl
blank lexer.other x xs h = absurd (false≢true h)

pub space_at : (bytes : List ℕ) (i : ℕ) → i < length bytes → is_blank (class (get_or bytes i 0)) ≡ true
    → lex between (drop (i + 1) bytes) ≡ lex between (drop i bytes)
unfolding lex
space_at bytes i lt h =
    sym (ap (lex between) (at_byte bytes i _ lt refl) ∙ blank _ (get_or bytes i 0) (drop (i + 1) bytes) h)

module _ (bytes : List ℕ) (i : ℕ) (lt : i < length bytes) where
  pub comma_at : get_or bytes i 0 ≡ 44 → lex between (drop i bytes) ≡ comma ∷ lex between (drop (i + 1) bytes)
  unfolding lex
  comma_at is = ap (lex between) (at_byte bytes i _ lt is)

  pub colon_at : get_or bytes i 0 ≡ 58 → lex between (drop i bytes) ≡ colon ∷ lex between (drop (i + 1) bytes)
  unfolding lex
  colon_at is = ap (lex between) (at_byte bytes i _ lt is)

-- ---- quoted bytes

lex-quoted : (s rest : List ℕ) → escape s ≡ s
    → lex between (34 ∷ (s ++ 34 ∷ rest)) ≡ token (string s) ∷ lex between rest
unfolding lex
lex-quoted s rest plain =
    ap₂ (λ o ls. token (lexer.string_token o) ∷ ls) (ap (λ e. content text.plain (e ++ 34 ∷ rest)) (sym plain)
    ∙ content-escape s rest) (ap (λ e. lex lexer.in_string (e ++ 34 ∷ rest)) (sym plain) ∙ lex-escape s rest)

-- plain bytes between two quotes
pub quoted_at : (bytes s : List ℕ) (at end : ℕ) → at < length bytes → get_or bytes at 0 ≡ 34
    → drop (at + 1) bytes ≡ s ++ drop end bytes → escape s ≡ s → end < length bytes → get_or bytes end 0 ≡ 34
    → lex between (drop at bytes) ≡ token (string s) ∷ lex between (drop (end + 1) bytes)
quoted_at bytes s at end here opens is plain there closes = ap (lex between) (at_byte bytes at 34 here opens ∙ ap (λ r.
    34 ∷ r) (is ∙ ap (λ r. s ++ r) (at_byte bytes end 34 there closes))) ∙ lex-quoted s (drop (end + 1) bytes) plain

-- ---- numbers

pub AllDigits-push : (ds : List ℕ) (d : ℕ) → AllDigits 10 ds → digit_value d < 10 → AllDigits 10 (ds ++ d ∷ [])
AllDigits-push [] d h k = (k, tt)
AllDigits-push (c ∷ ds) d h k = (h.0, AllDigits-push ds d h.1 k)

pub lex-digits : (ds rest : List ℕ) (n : ℕ) → AllDigits 10 ds → digits_value 10 ds ≡ n → n < 2 ^ 64 → 0 < length ds
    → (get_or ds 0 0 ≡ 48 → length ds ≡ 1) → ends_word rest ≡ true
    → lex between (ds ++ rest) ≡ token (number (decimal n)) ∷ lex between rest
lex-digits ds rest n digits is small some lead ended =
    let written : decimal n ≡ ds = ap decimal (sym is)
    ∙ decimal-digits_value (numerals_by_value _ tells_digits) ds digits some lead (omega (arith, is, small)) in
    ap (λ s. lex between (s ++ rest)) (sym written) ∙ lex-number (decimal n) rest (IsNumber-decimal n small) ended

-- ---- what a place lets begin or close

-- what holds at each place that a test lets through
at_place : (may : Place → Bool) (P : Place → Type 0) → (may lexer.fresh ≡ true → P lexer.fresh)
    → (may lexer.after_value ≡ true → P lexer.after_value) → (may lexer.after_comma ≡ true → P lexer.after_comma)
    → (may lexer.after_key ≡ true → P lexer.after_key) → (p : Place) → may p ≡ true → P p
at_place may P first second third fourth lexer.fresh h = first h
at_place may P first second third fourth lexer.after_value h = second h
at_place may P first second third fourth lexer.after_comma h = third h
at_place may P first second third fourth lexer.after_key h = fourth h

-- what begins a value is read alike wherever one may begin
pub begun : (p : Place) (ls : List Lexeme) (read : List Token) → may_begin p ≡ true → punctuate lexer.fresh ls ≡ read
    → punctuate lexer.after_comma ls ≡ read → punctuate p ls ≡ read
begun p ls read h fresh later = at_place may_begin (λ place. punctuate place ls ≡ read) (λ _. fresh)
    (λ off. absurd (false≢true off)) (λ _. later) (λ off. absurd (false≢true off)) p h

-- and what closes a list wherever it may close
closed : (p : Place) (ls : List Lexeme) (read : List Token) → may_close p ≡ true → punctuate lexer.fresh ls ≡ read
    → punctuate lexer.after_value ls ≡ read → punctuate p ls ≡ read
closed p ls read h fresh behind = at_place may_close (λ place. punctuate place ls ≡ read) (λ _. fresh) (λ _. behind)
    (λ off. absurd (false≢true off)) (λ off. absurd (false≢true off)) p h

brace_opens : IsMark may_begin 123 begin_object lexer.fresh
unfolding lex punctuate
brace_opens = record { lexed = λ rest. refl; placed = λ p ls h. begun p (token begin_object ∷ ls) _ h refl refl }

bracket_opens : IsMark may_begin 91 begin_array lexer.fresh
unfolding lex punctuate
bracket_opens = record { lexed = λ rest. refl; placed = λ p ls h. begun p (token begin_array ∷ ls) _ h refl refl }

brace_closes : IsMark may_close 125 end_object lexer.after_value
unfolding lex punctuate
brace_closes = record { lexed = λ rest. refl; placed = λ p ls h. closed p (token end_object ∷ ls) _ h refl refl }

bracket_closes : IsMark may_close 93 end_array lexer.after_value
unfolding lex punctuate
bracket_closes = record { lexed = λ rest. refl; placed = λ p ls h. closed p (token end_array ∷ ls) _ h refl refl }

-- what holds of each token that is read from a byte holds of the token of a mark
module _ (mark : ℕ) (P : Token → Type 0) where
  opened_by : (list object : Bool) → eqb mark 91 ≡ list → eqb mark 123 ≡ object → ((t : Token) → IsMark may_begin mark t
      lexer.fresh → P t) → IfSome (if list then Some begin_array else if object then Some begin_object else None) P
  opened_by true object is _ has = has begin_array
      (subst (λ m. IsMark may_begin m begin_array lexer.fresh) (sym (eqb-true mark 91 is)) bracket_opens)
  opened_by false true _ is has = has begin_object
      (subst (λ m. IsMark may_begin m begin_object lexer.fresh) (sym (eqb-true mark 123 is)) brace_opens)
  opened_by false false _ _ has = tt

  pub opened : ((t : Token) → IsMark may_begin mark t lexer.fresh → P t) → IfSome (opening_mark mark) P
  opened = opened_by (eqb mark 91) (eqb mark 123) refl refl

  closed_by : (list object : Bool) → eqb mark 93 ≡ list → eqb mark 125 ≡ object → ((t : Token) → IsMark may_close mark t
      lexer.after_value → P t) → IfSome (if list then Some end_array else if object then Some end_object else None) P
  closed_by true object is _ has = has end_array
      (subst (λ m. IsMark may_close m end_array lexer.after_value) (sym (eqb-true mark 93 is)) bracket_closes)
  closed_by false true _ is has = has end_object
      (subst (λ m. IsMark may_close m end_object lexer.after_value) (sym (eqb-true mark 125 is)) brace_closes)
  closed_by false false _ _ has = tt

  pub closed_mark : ((t : Token) → IsMark may_close mark t lexer.after_value → P t) → IfSome (closing_mark mark) P
  closed_mark = closed_by (eqb mark 93) (eqb mark 125) refl refl

-- a mark after white space
pub mark_at : (may : Place → Bool) (mark : ℕ) (t : Token) (p next : Place) (bytes : List ℕ) (start at : ℕ)
    → IsMark may mark t next → may p ≡ true → lex between (drop at bytes) ≡ lex between (drop start bytes)
    → at < length bytes → get_or bytes at 0 ≡ mark
    → punctuate p (lex between (drop start bytes)) ≡ t ∷ punctuate next (lex between (drop (at + 1) bytes))
mark_at may mark t p next bytes start at reads h same lt is = ap (punctuate p)
    (sym same ∙ ap (lex between) (at_byte bytes at mark lt is) ∙ reads.lexed (drop (at + 1) bytes)) ∙ reads.placed p _ h

pub number_begins : (p : Place) (ls ms : List Lexeme) (s : List ℕ) → may_begin p ≡ true → ls ≡ token (number s) ∷ ms
    → punctuate p ls ≡ number s ∷ punctuate lexer.after_value ms
unfolding punctuate
number_begins p ls ms s h is = begun p ls _ h (ap (punctuate lexer.fresh) is) (ap (punctuate lexer.after_comma) is)

pub null_begins : (p : Place) (ls ms : List Lexeme) → may_begin p ≡ true → ls ≡ token null ∷ ms
    → punctuate p ls ≡ null ∷ punctuate lexer.after_value ms
unfolding punctuate
null_begins p ls ms h is = begun p ls _ h (ap (punctuate lexer.fresh) is) (ap (punctuate lexer.after_comma) is)

pub text_begins : (p : Place) (ls ms : List Lexeme) (s : List ℕ) → may_begin p ≡ true → ls ≡ token (string s) ∷ ms
    → lexer.begins_colon ms ≡ false → punctuate p ls ≡ string s ∷ punctuate lexer.after_value ms
unfolding punctuate
text_begins p ls ms s h is next =
    begun p ls _ h (ap (punctuate lexer.fresh) is ∙ rw next refl) (ap (punctuate lexer.after_comma) is ∙ rw next refl)

pub key_begins : (p : Place) (ls ms : List Lexeme) (s : List ℕ) → may_begin p ≡ true
    → ls ≡ token (string s) ∷ colon ∷ ms → punctuate p ls ≡ key s ∷ punctuate lexer.fresh ms
unfolding punctuate
key_begins p ls ms s h is = begun p ls _ h (ap (punctuate lexer.fresh) is) (ap (punctuate lexer.after_comma) is)

pub comma_follows : (ls ms : List Lexeme) → ls ≡ comma ∷ ms
    → punctuate lexer.after_value ls ≡ punctuate lexer.after_comma ms
unfolding punctuate
comma_follows ls ms is = ap (punctuate lexer.after_value) is

pub nothing_left : (expected : Expected) (ls : List Lexeme) → may_begin (place_of expected) ≡ false → ls ≡ []
    → punctuate (place_of expected) ls ≡ []
unfolding punctuate
nothing_left ours.Fresh ls h is = absurd (true≢false h)
nothing_left ours.AfterValue ls h is = ap (punctuate lexer.after_value) is
nothing_left ours.AfterComma ls h is = absurd (true≢false h)

pub at_end : (bytes : List ℕ) (i : ℕ) → length bytes ≤ i → lex between (drop i bytes) ≡ []
unfolding lex
at_end bytes i past = ap (lex between) (drop_all i bytes past)

-- ---- digits

pub digit_is : (d : ℕ) → 48 ≤ d → d ≤ 57 → digit_value d ≡ d - 48
digit_is d low high = omega (arith, digit_value_digit d (low, high))

-- a zero that is the first of some digits is the only one
alone_by : (first count : ℕ) (zeros one : Bool) → eqb first 48 ≡ zeros → eqb count 1 ≡ one → (zeros && not one) ≡ false
    → first ≡ 48 → count ≡ 1
alone_by first count true true _ is none zeros = eqb-true count 1 is
alone_by first count true false _ _ none zeros = absurd (true≢false none)
alone_by first count false one not_zero _ none zeros = absurd (true≢false (ap (λ n. eqb n 48) (sym zeros) ∙ not_zero))

pub alone : (first count : ℕ) → ((first == 48) && not (count == 1)) ≡ false → first ≡ 48 → count ≡ 1
alone first count = alone_by first count (first == 48) (count == 1) refl refl

pub first_of : (bytes ds : List ℕ) (at end : ℕ) → drop at bytes ≡ ds ++ drop end bytes → 0 < length ds
    → get_or ds 0 0 ≡ get_or bytes at 0
first_of bytes [] at end is some = absurd (omega arith)
first_of bytes (d ∷ ds) at end is some =
    ap (λ l. get_or l 0 0) (sym is) ∙ get_or-drop at bytes 0 0 ∙ ap (λ i. get_or bytes i 0) (omega arith)

pub ends_at : (bytes : List ℕ) (i : ℕ) → i < length bytes
    → (is_operator (get_or bytes i 0) || is_space (get_or bytes i 0)) ≡ true → ends_word (drop i bytes) ≡ true
ends_at bytes i lt h = ap ends_word (at_byte bytes i _ lt refl) ∙ h

-- the bytes between two places
pub taken : (bytes s : List ℕ) (at end : ℕ) → drop (at + 1) bytes ≡ s ++ drop end bytes → at + 1 + length s ≡ end
    → s ≡ take (end - (at + 1)) (drop (at + 1) bytes)
taken bytes s at end is size =
    let count : end - (at + 1) ≡ length s = omega (arith, size) in
    sym (ap₂ (λ n l. take n l) count is ∙ take-append-le (length s) s (drop end bytes) (omega arith)
    ∙ take_all (length s) s (omega arith))

-- ---- the word null

lex-null : (rest : List ℕ) → ends_word rest ≡ true
    → lex between (110 ∷ 117 ∷ 108 ∷ 108 ∷ rest) ≡ token null ∷ lex between rest
unfolding lex word
lex-null rest ended = ap₂ (λ b ls. token (cond b null bad) ∷ ls) ended (in_word-ended rest ended)

-- the word, and a byte that ends it
pub null_word : (bytes : List ℕ) (at : ℕ) → at + 4 < length bytes → take 4 (drop at bytes) ≡ 110 ∷ 117 ∷ 108 ∷ 108 ∷ []
    → (is_operator (get_or bytes (at + 4) 0) || is_space (get_or bytes (at + 4) 0)) ≡ true
    → lex between (drop at bytes) ≡ token null ∷ lex between (drop (at + 4) bytes)
null_word bytes at within is ends = ap (lex between) (sym (take-append-drop 4 (drop at bytes)) ∙ ap₂ (λ front rest.
    front ++ rest) is (drop-drop 4 at bytes)) ∙ lex-null (drop (at + 4) bytes) (ends_at bytes (at + 4) within ends)

-- Laws of values that are written without white space.
use Rattle.std.proofs.Common.{◌≡◌, ℕ, ◌+◌, ◌<◌, ◌≤◌, ◌^◌, true, List, ◌∷◌, ◌++◌, length, take, drop, get_or, decimal}
use Rattle.std.proofs.Common.{[], map, replicate, zero, suc, ◌*◌, refl, sym, ap, ap₂, ◌∙◌, arith}
use Rattle.std.proofs.Common.{Bool, false, Option, IfSome, subst, ⊎_elim}
use Rattle.std.specs.Bool.{then_some}
use Rattle.std.proofs.Math.Nat.{pow-suc, pow-le-pow_right}
use Rattle.std.proofs.lemmas.Bool.{cases_lt}
use Rattle.std.proofs.lemmas.List.{append_assoc, take-append-drop, drop-drop, get_or-drop, get_or-take, get_or_past}
use Rattle.json.specs.Token.{Token, begin_array, end_array, number}
use Rattle.json.specs.Word.{ends_word}
use Rattle.json.specs.Lex as lexer
use Rattle.json.specs.Lex.{Lexeme, Place, may_begin, token, comma, lex, between, punctuate}
use Rattle.serde_json.specs.Data.{Data}
use Rattle.clock_json.specs.Reading.{whole_number, numbers, ReadsValue, ReadsAll}
use Rattle.clock_json.specs.Compact.{IsCompactValue, tokens_from}
use Rattle.clock_json.proofs.LexLaws.{at_byte, begun}
use Rattle.clock_json.proofs.Steps.{number_reads, items_start, items_next, items_end, all_push_next}

-- what is given where a test is passed
passed : {A : Type 0} (P : A → Type 0) (is : Bool) (x : A) → (is ≡ true → P x) → IfSome (then_some is x) P
passed P true x has = has refl
passed P false x has = tt

pub given : {A : Type 0} (P : A → Type 0) (is : Bool) (x : A) (result : Option A) → result ≡ then_some is x
    → (is ≡ true → P x) → IfSome result P
given P is x result same has = subst (λ r. IfSome r P) (sym same) (passed P is x has)

-- known bytes, and those after them
known_then : (count : ℕ) (bytes word : List ℕ) (at : ℕ) → take count (drop at bytes) ≡ word
    → drop at bytes ≡ word ++ drop (at + count) bytes
known_then count bytes word at is =
    sym (take-append-drop count (drop at bytes)) ∙ ap₂ (λ front rest. front ++ rest) is (drop-drop count at bytes)

-- some of some bytes are bytes
pub are_bytes : (count : ℕ) (bytes word : List ℕ) (at : ℕ) → word ≡ take count (drop at bytes) → length word ≡ count
    → ((i : ℕ) → get_or bytes i 0 < 256) → (i : ℕ) → get_or word i 0 < 256
are_bytes count bytes word at same size bound i =
    ⊎_elim (λ (within : i < count). subst (λ b. b < 256) (sym (ap (λ (l : List ℕ). get_or l i 0) same
    ∙ get_or-take count (drop at bytes) i 0 within ∙ get_or-drop at bytes i 0)) (bound (at + i))) (λ (past : count ≤ i).
    subst (λ b. b < 256) (sym (get_or_past word i 0 (omega (arith, size)))) (omega arith)) (cases_lt i count)

-- one known byte, and those after it
pub one_then : (bytes : List ℕ) (at next x : ℕ) → at < length bytes → get_or bytes at 0 ≡ x → next ≡ at + 1
    → drop at bytes ≡ x ∷ drop next bytes
one_then bytes at next x lt is there = at_byte bytes at x lt is ∙ ap (λ n. x ∷ drop n bytes) (sym there)

module _ (bytes : List ℕ) (at : ℕ) where
  -- a first part of eight known bytes, and four that begin after it
  pub both_then : (part : ℕ) (first second : List ℕ) → take 8 (drop at bytes) ≡ first
      → take 4 (drop (at + part) bytes) ≡ second
      → drop at bytes ≡ take part (first ++ drop (at + 8) bytes) ++ (second ++ drop (at + part + 4) bytes)
  both_then part first second is more = sym (take-append-drop part (drop at bytes))
      ∙ ap₂ (λ front rest. front ++ rest) (ap (take part) (known_then 8 bytes first at is))
      (drop-drop part at bytes ∙ known_then 4 bytes second (at + part) more)

  -- bytes that begin with a known text, which is read as these lexemes whatever follows it
  pub known_first : (text : List ℕ) (found behind : ℕ) (read : List Lexeme → List Lexeme)
      → drop at bytes ≡ text ++ drop found bytes → found ≡ behind → ((rest : List ℕ) → ends_word (text ++ rest) ≡ true)
      → ((rest : List ℕ) → lex between (text ++ rest) ≡ read (lex between rest))
      → (ends_word (drop at bytes) ≡ true) × (lex between (drop at bytes) ≡ read (lex between (drop behind bytes)))
  known_first text found behind read is same ends reads =
      let all : drop at bytes ≡ text ++ drop behind bytes = is ∙ ap (λ n. text ++ drop n bytes) same in
      (ap ends_word all ∙ ends (drop behind bytes), ap (lex between) all ∙ reads (drop behind bytes))

-- one digit more of a number of at most sixteen
pub digit_more : (value count digit : ℕ) → value < 10 ^ count → count < 19 → digit ≤ 9
    → (value * 10 + digit < 10 ^ (count + 1)) × (value * 10 + digit < 10000000000000000000)
digit_more value count digit small few one =
    let next : 10 ^ suc count ≡ 10 ^ count * 10 = pow-suc 10 count in
    let same : 10 ^ (count + 1) ≡ 10 ^ suc count = ap (λ n. 10 ^ n) (omega arith) in
    let below : count ≤ 18 = omega (arith, few) in
    let most : 10 ^ count ≤ 1000000000000000000 = pow-le-pow_right {n = 10} (omega arith) {i = count} {j = 18} below in
    (omega (arith, next, same, small, one), omega (arith, most, small, one))

-- a list that grew grows by one
pub grown : {A : Type 0} (old row before after : List A) (x : A) → before ≡ old ++ row → after ≡ before ++ x ∷ []
    → after ≡ old ++ (row ++ x ∷ [])
grown old row before after x is more = more ∙ ap (λ xs. xs ++ x ∷ []) is ∙ append_assoc old row (x ∷ [])

-- one part more, where a value may begin
pub one_part_more : {A : Type 0} (data_of : A → Data) (old : List Token) (bytes : List ℕ) (place : Place)
    (start end : ℕ) (xs : List A) (x : A) → ReadsAll 1 old (map data_of xs) (tokens_from place start bytes)
    → may_begin place ≡ true → IsCompactValue bytes start (data_of x) end
    → ReadsAll 1 old (map data_of (xs ++ x ∷ [])) (tokens_from lexer.after_value end bytes)
one_part_more data_of old bytes place start end xs x all may reads =
    all_push_next 1 data_of old (tokens_from place start bytes) (tokens_from lexer.after_value end bytes) xs x all
    (reads place may)

-- a number and the comma after it
pub number_and_comma : (p : Place) (ls rest : List Lexeme) (s : List ℕ) → may_begin p ≡ true
    → ls ≡ token (number s) ∷ comma ∷ rest → punctuate p ls ≡ number s ∷ punctuate lexer.after_comma rest
unfolding punctuate
number_and_comma p ls rest s h is = begun p ls _ h (ap (punctuate lexer.fresh) is) (ap (punctuate lexer.after_comma) is)

-- a comma
pub comma_first : (rest : List ℕ) → lex between (44 ∷ rest) ≡ comma ∷ lex between rest
unfolding lex
comma_first rest = refl

-- bytes that begin with a comma
pub comma_stands : (bytes rest : List ℕ) → bytes ≡ 44 ∷ rest
    → (ends_word bytes ≡ true) × (lex between bytes ≡ comma ∷ lex between rest)
unfolding lex
comma_stands bytes rest is = (ap ends_word is, ap (lex between) is)

-- a number and its comma, after a comma, are read
pub separated_reads : (ls rest : List Lexeme) (n : ℕ) → n < 2 ^ 64 → ls ≡ token (number (decimal n)) ∷ comma ∷ rest
    → ReadsValue 0 (punctuate lexer.after_comma ls) (whole_number n) (punctuate lexer.after_comma rest)
separated_reads ls rest n small is =
    number_reads n _ _ small (number_and_comma lexer.after_comma ls rest (decimal n) refl is)

-- bytes that are an empty list and its comma
pub empty_at : (bytes : List ℕ) (at : ℕ) → at + 3 ≤ length bytes → get_or bytes at 0 ≡ 91 → get_or bytes (at + 1) 0 ≡ 93
    → get_or bytes (at + 2) 0 ≡ 44
    → lex between (drop at bytes) ≡ token begin_array ∷ token end_array ∷ comma ∷ lex between (drop (at + 3) bytes)
unfolding lex
empty_at bytes at room opens closes mark =
    ap (lex between)
    (one_then bytes at (at + 1) 91 (omega (arith, room)) opens (omega arith)
    ∙ ap (λ rest. 91 ∷ rest) (one_then bytes (at + 1) (at + 2) 93 (omega (arith, room)) closes (omega arith)
    ∙ ap (λ rest. 93 ∷ rest) (one_then bytes (at + 2) (at + 3) 44 (omega (arith, room)) mark (omega arith))))

-- an empty list and its comma, after a comma, are read
pub empty_reads : (ls rest : List Lexeme) → ls ≡ token begin_array ∷ token end_array ∷ comma ∷ rest
    → ReadsValue 1 (punctuate lexer.after_comma ls) (numbers []) (punctuate lexer.after_comma rest)
unfolding punctuate
empty_reads ls rest is =
    let new = punctuate lexer.after_comma rest in
    items_end 0 _ (Token.end_array ∷ new) (Token.end_array ∷ new) new [] (ap (punctuate lexer.after_comma) is)
    (items_start 0 _) refl

-- one more that is the same
pub replicate_push : {A : Type 0} (n : ℕ) (x : A) → replicate (n + 1) x ≡ replicate n x ++ x ∷ []
replicate_push zero x = refl
replicate_push (suc n) x =
    let next : suc n + 1 ≡ suc (n + 1) = omega arith in
    ap (λ k. replicate k x) next ∙ ap (λ xs. x ∷ xs) (replicate_push n x)

-- the bracket that opens a list
pub list_opens : (bytes : List ℕ) (at : ℕ) → at < length bytes → get_or bytes at 0 ≡ 91
    → lex between (drop at bytes) ≡ token begin_array ∷ lex between (drop (at + 1) bytes)
unfolding lex
list_opens bytes at room is = ap (lex between) (one_then bytes at (at + 1) 91 room is refl)

-- the bracket that closes a list, and its comma
list_closes : (bytes rest : List ℕ) → bytes ≡ 93 ∷ 44 ∷ rest
    → (ends_word bytes ≡ true) × (lex between bytes ≡ token end_array ∷ comma ∷ lex between rest)
unfolding lex
list_closes bytes rest is = (ap ends_word is, ap (lex between) is)

pub list_ends : (bytes : List ℕ) (at : ℕ) → at + 2 ≤ length bytes → get_or bytes at 0 ≡ 93
    → get_or bytes (at + 1) 0 ≡ 44 → (ends_word (drop at bytes) ≡ true)
    × (lex between (drop at bytes) ≡ token end_array ∷ comma ∷ lex between (drop (at + 2) bytes))
list_ends bytes at room closes mark = list_closes (drop at bytes) (drop (at + 2) bytes)
    (one_then bytes at (at + 1) 93 (omega (arith, room)) closes (omega arith)
    ∙ ap (λ rest. 93 ∷ rest) (one_then bytes (at + 1) (at + 2) 44 (omega (arith, room)) mark (omega arith)))

-- where a value may begin, the lexemes of three numbers in a list are its tokens
pub triple_punctuated : (p : Place) (a b c : List ℕ) (ls rest : List Lexeme) → may_begin p ≡ true
    → ls ≡ token begin_array ∷ token (number a) ∷ comma ∷ token (number b) ∷ comma ∷ token (number c)
    ∷ token end_array ∷ comma ∷ rest → punctuate p ls
    ≡ begin_array ∷ number a ∷ number b ∷ number c ∷ end_array ∷ punctuate lexer.after_comma rest
unfolding punctuate
triple_punctuated p a b c ls rest h is =
    begun p ls _ h (ap (punctuate lexer.fresh) is) (ap (punctuate lexer.after_comma) is)

-- these tokens are read as the list
pub triple_reads : (a b c : ℕ) (old new : List Token) → (a < 2 ^ 64) × (b < 2 ^ 64) × (c < 2 ^ 64)
    → old ≡ begin_array ∷ number (decimal a) ∷ number (decimal b) ∷ number (decimal c) ∷ end_array ∷ new
    → ReadsValue 1 old (numbers (a ∷ b ∷ c ∷ [])) new
triple_reads a b c old new small is =
    let last = end_array ∷ new in
    let third = number (decimal c) ∷ last in
    let second = number (decimal b) ∷ third in
    let first = number (decimal a) ∷ second in
    let one = items_next 0 first first second [] (whole_number a) (items_start 0 first)
    (number_reads a first second small.0 refl) in
    let two = items_next 0 first second third (whole_number a ∷ []) (whole_number b) one
    (number_reads b second third small.1 refl) in
    let three = items_next 0 first third last (whole_number a ∷ whole_number b ∷ []) (whole_number c) two
    (number_reads c third last small.2 refl) in
    items_end 0 old first last new (whole_number a ∷ whole_number b ∷ whole_number c ∷ []) is three refl

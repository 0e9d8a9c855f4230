-- Laws of bids that are written without white space.
use Rattle.std.proofs.Common.{◌≡◌, ℕ, ◌+◌, ◌<◌, ◌^◌, true, List, ◌∷◌, ◌++◌, take, drop, decimal}
use Rattle.std.proofs.Common.{codes, refl, ap, ◌∙◌, arith}
use Rattle.json.specs.Token.{Token, key, begin_object, end_object, number, string}
use Rattle.json.specs.Text.{content}
use Rattle.json.specs.Word.{ends_word}
use Rattle.json.specs.Lex as lexer
use Rattle.json.specs.Lex.{Lexeme, Place, may_begin, token, comma, colon, lex, between, punctuate}
use Rattle.serde_json.specs.Data.{no_members, put}
use Rattle.clock_json.specs.Compact.{IsCompactValue}
use Rattle.clock_json.specs.Reading.{whole_number, ReadsValue}
use Rattle.clock_json.specs.inside.Reading.{HasMembers}
use Rattle.clock_json.proofs.LexLaws.{begun}
use Rattle.clock_json.proofs.CompactLaws.{known_first}
use Rattle.clock_json.proofs.Steps.{number_reads, members_start, members_next, members_end}
use Rattle.clock_bids.specs.declared.sheet.Bid.{Bid}
use Rattle.clock_bodies.specs.QuickBodies.{bid_data}

module _ (bytes : List ℕ) (at : ℕ) where
  -- bytes that begin a bid, with the first key
  pub price_stands : drop at bytes ≡ take 5 (codes "{\"price\"" ++ drop (at + 8) bytes)
      ++ (codes "ce\":" ++ drop (at + 5 + 4) bytes) → lex between (drop at bytes)
      ≡ token begin_object ∷ token (string (codes "price")) ∷ colon ∷ lex between (drop (at + 9) bytes)
  unfolding lex content
  price_stands is = ap (lex between) is ∙ ap (λ n. token begin_object ∷ token (string (codes "price")) ∷ colon
      ∷ lex between (drop n bytes)) (let same : at + 5 + 4 ≡ at + 9 = omega arith in same)

  -- bytes that begin with the second key
  pub product_stands : drop at bytes ≡ take 7 (codes ",\"produc" ++ drop (at + 8) bytes)
      ++ (codes "ct\":" ++ drop (at + 7 + 4) bytes) → (ends_word (drop at bytes) ≡ true) × (lex between
      (drop at bytes) ≡ comma ∷ token (string (codes "product")) ∷ colon ∷ lex between (drop (at + 11) bytes))
  unfolding lex content
  product_stands is = known_first bytes at (codes ",\"product\":") (at + 7 + 4) (at + 11)
      (λ r. comma ∷ token (string (codes "product")) ∷ colon ∷ r) is (omega arith) (λ _. refl) (λ _. refl)

  -- bytes that begin with the third key
  pub quantity_stands : drop at bytes ≡ take 8 (codes ",\"quanti" ++ drop (at + 8) bytes)
      ++ (codes "ty\":" ++ drop (at + 8 + 4) bytes) → (ends_word (drop at bytes) ≡ true) × (lex between
      (drop at bytes) ≡ comma ∷ token (string (codes "quantity")) ∷ colon ∷ lex between (drop (at + 12) bytes))
  unfolding lex content
  quantity_stands is = known_first bytes at (codes ",\"quantity\":") (at + 8 + 4) (at + 12)
      (λ r. comma ∷ token (string (codes "quantity")) ∷ colon ∷ r) is (omega arith) (λ _. refl) (λ _. refl)

-- bytes that begin with the end of a bid
pub end_stands : (bytes rest : List ℕ) → bytes ≡ 125 ∷ rest
    → (ends_word bytes ≡ true) × (lex between bytes ≡ token end_object ∷ lex between rest)
unfolding lex
end_stands bytes rest is = (ap ends_word is, ap (lex between) is)

-- the lexemes of a bid
abbrev pub lexemes_of : Bid → List Lexeme → List Lexeme
lexemes_of bid rest =
    token begin_object ∷ token (string (codes "price")) ∷ colon ∷ token (number (decimal bid.price))
    ∷ comma ∷ token (string (codes "product")) ∷ colon ∷ token (number (decimal bid.product))
    ∷ comma ∷ token (string (codes "quantity")) ∷ colon ∷ token (number (decimal bid.quantity))
    ∷ token end_object ∷ rest

-- the tokens of a bid
abbrev pub tokens_of : Bid → List Token → List Token
tokens_of bid rest = begin_object ∷ key (codes "price") ∷ number (decimal bid.price) ∷ key (codes "product")
    ∷ number (decimal bid.product) ∷ key (codes "quantity") ∷ number (decimal bid.quantity) ∷ end_object ∷ rest

-- where a value may begin, the lexemes are the tokens
pub punctuated : (p : Place) (bid : Bid) (ls rest : List Lexeme) → may_begin p ≡ true → ls ≡ lexemes_of bid rest
    → punctuate p ls ≡ tokens_of bid (punctuate lexer.after_value rest)
unfolding punctuate
punctuated p bid ls rest h is = begun p ls _ h (ap (punctuate lexer.fresh) is) (ap (punctuate lexer.after_comma) is)

-- the tokens are read as the bid
pub bid_reads : (bid : Bid) (old new : List Token) → (bid.price < 2 ^ 64) × (bid.product < 2 ^ 64)
    × (bid.quantity < 2 ^ 64) → old ≡ tokens_of bid new → ReadsValue 1 old (bid_data bid) new
bid_reads bid old new small is =
    let last = end_object ∷ new in
    let third = number (decimal bid.quantity) ∷ last in
    let third_key = key (codes "quantity") ∷ third in
    let second = number (decimal bid.product) ∷ third_key in
    let second_key = key (codes "product") ∷ second in
    let first = number (decimal bid.price) ∷ second_key in
    let start = key (codes "price") ∷ first in
    let found_1 = put (codes "price") (whole_number bid.price) no_members in
    let found_2 = put (codes "product") (whole_number bid.product) found_1 in
    let found_3 = put (codes "quantity") (whole_number bid.quantity) found_2 in
    let has_1 : HasMembers 0 start found_1 second_key =
    members_next 0 start start first second_key no_members (codes "price") (whole_number bid.price)
    (members_start 0 start) refl (number_reads bid.price first second_key small.0 refl) in
    let has_2 : HasMembers 0 start found_2 third_key =
    members_next 0 start second_key second third_key found_1 (codes "product") (whole_number bid.product) has_1 refl
    (number_reads bid.product second third_key small.1 refl) in
    let has_3 : HasMembers 0 start found_3 last =
    members_next 0 start third_key third last found_2 (codes "quantity") (whole_number bid.quantity) has_2 refl
    (number_reads bid.quantity third last small.2 refl) in
    members_end 0 old start last new found_3 is has_3 refl

-- bytes that are a bid's lexemes
pub compact_reads : (bytes : List ℕ) (start end : ℕ) (bid : Bid) → (bid.price < 2 ^ 64) × (bid.product < 2 ^ 64)
    × (bid.quantity < 2 ^ 64) → lex between (drop start bytes) ≡ lexemes_of bid (lex between (drop end bytes))
    → IsCompactValue bytes start (bid_data bid) end
compact_reads bytes start end bid small is = λ place may. bid_reads bid _ _ small
    (punctuated place bid (lex between (drop start bytes)) (lex between (drop end bytes)) may is)

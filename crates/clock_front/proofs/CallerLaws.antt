-- Proves that a bidder's token identifies that bidder and no one else, since no token of a set-up occurs twice. By
-- induction over the bidders.
use Rattle.std.proofs.Common.{◌≡◌, ℕ, zero, suc, ◌+◌, ◌<◌, Bool, true, false, cond, List, [], ◌∷◌, length, map, get_or}
use Rattle.std.proofs.Common.{refl, sym, ◌∙◌, ap}
use Rattle.std.proofs.Common.{arith, add-zero}
use Rattle.std.specs.Prelude.{Option, Some, None}
use Rattle.std.proofs.lemmas.List.{length-map, get_or-map}
use Rattle.std.specs.Cmp.Lexicographic.{bytes_decides}
use Rattle.clock_terms.specs.declared.setup.Bidder.{Bidder as BidderRow}
use Rattle.clock_terms.specs.Limits.{SetupFields}
use Rattle.clock_house.specs.History.{bidder_at}
use Rattle.clock_api.specs.Bytes.{same_bytes}
use Rattle.std.specs.Option.{option_map_or}
use Rattle.clock_front.specs.declared.front.callers.Caller.TheVariants.{Operator, Bidder}
use Rattle.clock_front.specs.Callers.{bidder_tokens, holder, caller, HasOwnTokens}

same : (a b : List ℕ) → same_bytes a b ≡ true → a ≡ b
same a b e = (bytes_decides a b).0 e

again : (a b : List ℕ) → a ≡ b → same_bytes a b ≡ true
again a b e = (bytes_decides a b).1 e

differ : (a b : List ℕ) → (a ≡ b → ⊥) → same_bytes a b ≡ false
differ a b apart = by (same_bytes a b) refl
  where
    by : (t : Bool) → same_bytes a b ≡ t → same_bytes a b ≡ false
    by true e = absurd (apart (same a b e))
    by false e = e

abbrev no_bidder : BidderRow
no_bidder = record { name = []; token = []; eligibility = 0 }

-- A token belongs to the first bidder that has it.
holder_here : (i k : ℕ) (bidders : List BidderRow) (token : List ℕ) → k < length bidders
    → (get_or bidders k no_bidder).token ≡ token → ((j : ℕ) → j < k → (get_or bidders j no_bidder).token ≡ token → ⊥)
    → holder (bidder_tokens i bidders) token ≡ Bidder (i + k)
holder_here i k [] token below is first = absurd (omega (arith, below))
holder_here i zero (bidder ∷ bidders) token below is first = ap (λ t. cond t (Bidder i)
    (holder (bidder_tokens (suc i) bidders) token)) (again token bidder.token (sym is)) ∙ ap Bidder (sym (add-zero i))
holder_here i (suc k) (bidder ∷ bidders) token below is first =
    ap (λ t. cond t (Bidder i) (holder (bidder_tokens (suc i) bidders) token))
    (differ token bidder.token (λ e. first 0 (omega arith) (sym e))) ∙ holder_here (suc i) k bidders token
    (omega (arith, below)) is (λ j h e. first (suc j) (omega (arith, h)) e) ∙ ap Bidder (omega arith)

-- The bidder that is found for a token has that token.
pub record Holds (i n : ℕ) (bidders : List BidderRow) (token : List ℕ) : Type 0 where
  pub k : ℕ
  pub number : n ≡ i + k
  pub has : token ≡ (get_or bidders k no_bidder).token

holds_if : (t : Bool) (i n : ℕ) (bidder : BidderRow) (bidders : List BidderRow) (token : List ℕ) → same_bytes token
    bidder.token ≡ t → (holder (bidder_tokens (suc i) bidders) token ≡ Bidder n → Holds (suc i) n bidders token)
    → cond t (Bidder i) (holder (bidder_tokens (suc i) bidders) token) ≡ Bidder n → Holds i n (bidder ∷ bidders) token
holds_if true i n bidder bidders token is rest e =
    let number : i ≡ n = cc in
    record { k = 0; number = sym number ∙ sym (add-zero i); has = same token bidder.token is }
holds_if false i n bidder bidders token is rest e =
    let there = rest e in record { k = suc there.k; number = omega (arith, there.number); has = there.has }

holds : (i n : ℕ) (bidders : List BidderRow) (token : List ℕ) → holder (bidder_tokens i bidders) token ≡ Bidder n
    → Holds i n bidders token
holds i n [] token e = absurd cc
holds i n (bidder ∷ bidders) token e =
    holds_if (same_bytes token bidder.token) i n bidder bidders token refl (holds (suc i) n bidders token) e

module _ (setup : SetupFields) (tokens : HasOwnTokens setup) where
  token_at : (b : ℕ) → b < length setup.bidders
      → get_or (map (λ (row : BidderRow). row.token) setup.bidders) b [] ≡ (bidder_at setup b).token
  token_at b lt = get_or-map (λ (row : BidderRow). row.token) setup.bidders b no_bidder [] lt

  -- No bidder has the operator's token.
  operator_apart : (b : ℕ) → b < length setup.bidders → (bidder_at setup b).token ≡ setup.operator → ⊥
  operator_apart b lt e = tokens 0 (suc b) [] (omega arith)
      (omega (arith, lt, length-map setup.bidders (λ (row : BidderRow). row.token))) (sym e ∙ sym (token_at b lt))

  -- No two bidders have the same token.
  earlier_apart : (b d : ℕ) → b < d → d < length setup.bidders
      → (bidder_at setup b).token ≡ (bidder_at setup d).token → ⊥
  earlier_apart b d smaller lt e = tokens (suc b) (suc d) [] (omega (arith, smaller))
      (omega (arith, lt, length-map setup.bidders (λ (row : BidderRow). row.token)))
      (token_at b (omega (arith, smaller, lt)) ∙ e ∙ sym (token_at d lt))

  -- A request with a bidder's token was sent by that bidder.
  pub caller_own : (b : ℕ) → b < length setup.bidders → (token : Option (List ℕ))
      → option_map_or (same_bytes (bidder_at setup b).token) token false ≡ true → caller setup token ≡ Bidder b
  caller_own b lt None h = absurd cc
  caller_own b lt (Some token) h =
      let mine : (bidder_at setup b).token ≡ token = same (bidder_at setup b).token token h in
      let operator : same_bytes token setup.operator ≡ false =
      differ token setup.operator (λ e. operator_apart b lt (mine ∙ e)) in
      let found : holder (bidder_tokens 0 setup.bidders) token ≡ Bidder (0 + b) =
      holder_here 0 b setup.bidders token lt mine (λ j h e. earlier_apart j b h lt (e ∙ sym mine)) in
      ap (λ t. cond t Operator (holder (bidder_tokens 0 setup.bidders) token)) operator ∙ found
      ∙ ap Bidder (omega arith)

-- A request without a bidder's token was not sent by that bidder.
other_if : (t : Bool) (setup : SetupFields) (b : ℕ) (token : List ℕ) → same_bytes (bidder_at setup b).token token
    ≡ false → cond t Operator (holder (bidder_tokens 0 setup.bidders) token) ≡ Bidder b → ⊥
other_if true setup b token not_mine e = cc
other_if false setup b token not_mine e =
    let there = holds 0 b setup.bidders token e in
    let place : there.k ≡ b = omega (arith, there.number) in
    let mine : token ≡ (bidder_at setup b).token =
    there.has ∙ ap (λ k. (get_or setup.bidders k no_bidder).token) place in
    let yes : same_bytes (bidder_at setup b).token token ≡ true = again (bidder_at setup b).token token (sym mine) in
    cc

pub caller_other : (setup : SetupFields) (b : ℕ) (token : Option (List ℕ))
    → option_map_or (same_bytes (bidder_at setup b).token) token false ≡ false → caller setup token ≡ Bidder b → ⊥
caller_other setup b None h e = cc
caller_other setup b (Some token) h e = other_if (same_bytes token setup.operator) setup b token h e

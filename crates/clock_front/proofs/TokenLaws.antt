-- Proves that the hash table of tokens finds whose a token is. By what adding an entry and looking one up do to its
-- list of entries.
use Rattle.std.proofs.Common.{◌≡◌, ℕ, ◌+◌, ◌≤◌, suc, Bool, true, false, cond, List, [], ◌∷◌, length, Vec, Option, Some}
use Rattle.std.proofs.Common.{None}
use Rattle.std.proofs.Common.{refl, sym, ◌∙◌, ap, arith}
use Rattle.std.specs.Prelude.{nat_eq, unwrap_or}
use Rattle.std.specs.declared.alloc.Global.{Global}
use Rattle.std.specs.Cmp.Lexicographic.{pointwise, bytes_decides}
use Rattle.std.specs.Map.{lookup}
use Rattle.indexmap.specs.IndexMap.{insert_entry}
use Rattle.clock_terms.specs.declared.setup.Bidder.{Bidder as BidderRow}
use Rattle.clock_terms.specs.Limits.{SetupFields}
use Rattle.clock_api.specs.Bytes.{same_bytes}
use Rattle.clock_front.specs.Callers.{holder, bidder_tokens, caller}
use Rattle.clock_front.specs.inside.Callers.{IsKnown}
use Rattle.clock_front.specs.inside.TokenTable.{found, caller_by}
use Rattle.clock_front.specs.declared.front.callers.Caller.{Caller}
use Rattle.clock_front.specs.declared.front.callers.Caller.TheVariants.{Nobody, Operator, Bidder}

abbrev pub Entries : Type 0
Entries = List (Vec ℕ Global × Caller)

abbrev same_key : Vec ℕ Global → Vec ℕ Global → Bool
same_key a b = pointwise nat_eq a.items b.items

-- Equal tokens in the table are equal to any token that is looked up.
same_query : (other a b : List ℕ) → pointwise nat_eq a b ≡ true → same_bytes other a ≡ same_bytes other b
same_query other a b e = ap (same_bytes other) ((bytes_decides a b).0 e)

-- A token that is added is found, and all others are found as before.
pub found-insert : (entries : Entries) (key : Vec ℕ Global) (caller : Caller) (other : List ℕ) → found
    (insert_entry same_key entries key caller) other ≡ cond (same_bytes other key.items) caller (found entries other)
found-insert [] key caller other = refl
found-insert (entry ∷ entries) key caller other = by (same_key key entry.0) refl (found-insert entries key caller other)
  where
    later : (s t : Bool) (x y : Caller) (rest : Caller) → (s ≡ true → t ≡ true → ⊥)
        → cond s x (cond t y rest) ≡ cond t y (cond s x rest)
    later true true x y rest differ = absurd (differ refl refl)
    later true false x y rest differ = refl
    later false t x y rest differ = refl

    twice : (s t : Bool) → s ≡ t
        → cond s caller (found entries other) ≡ cond t caller (cond s entry.1 (found entries other))
    twice true true e = refl
    twice true false e = absurd cc
    twice false true e = absurd cc
    twice false false e = refl

    by : (t : Bool) → same_key key entry.0 ≡ t → found (insert_entry same_key entries key caller) other
        ≡ cond (same_bytes other key.items) caller (found entries other) → found (insert_entry same_key
        (entry ∷ entries) key caller) other ≡ cond (same_bytes other key.items) caller (found (entry ∷ entries) other)
    by true e rest = ap (λ t.
        found (cond t ((entry.0, caller) ∷ entries) (entry ∷ insert_entry same_key entries key caller)) other) e ∙ twice
        (same_bytes other entry.0.items) (same_bytes other key.items) (sym (same_query other key.items entry.0.items e))
    by false e rest = ap (λ t. found (cond t ((entry.0, caller) ∷ entries) (entry ∷ insert_entry same_key entries key
        caller)) other) e ∙ ap (λ found_later. cond (same_bytes other entry.0.items) entry.1 found_later) rest
        ∙ sym (later (same_bytes other key.items) (same_bytes other entry.0.items) caller entry.1 (found entries other)
        (λ a b. (let same : pointwise nat_eq key.items entry.0.items ≡ true = (bytes_decides key.items entry.0.items).1
        (sym ((bytes_decides other key.items).0 a) ∙ (bytes_decides other entry.0.items).0 b) in
        let bad : true ≡ false = sym same ∙ e in cc)))

-- What a look-up in the table returns.
pub found-lookup : (entries : Entries) (token : List ℕ)
    → unwrap_or (lookup (λ key. pointwise nat_eq token key.items) entries) Nobody ≡ found entries token
found-lookup [] token = refl
found-lookup (entry ∷ entries) token = by (same_bytes token entry.0.items) (found-lookup entries token)
  where
    by : (t : Bool) → unwrap_or (lookup (λ key. pointwise nat_eq token key.items) entries) Nobody ≡ found entries token
        → unwrap_or (cond t (Some entry.1) (lookup (λ key. pointwise nat_eq token key.items) entries)) Nobody
        ≡ cond t entry.1 (found entries token)
    by true later = refl
    by false later = later

-- ---- a sender who is a bidder is one of the set-up

fewer : (n m : ℕ) (caller : Caller) → n ≤ m → IsKnown n caller → IsKnown m caller
fewer n m Nobody le is = tt
fewer n m Operator le is = tt
fewer n m (Bidder b) le is = omega arith

picked : (n : ℕ) (t : Bool) (a b : Caller) → IsKnown n a → IsKnown n b → IsKnown n (cond t a b)
picked n true a b p q = p
picked n false a b p q = q

bidder_known : (i : ℕ) (bidders : List BidderRow) (token : List ℕ)
    → IsKnown (i + length bidders) (holder (bidder_tokens i bidders) token)
bidder_known i [] token = tt
bidder_known i (bidder ∷ bidders) token = picked (i + length (bidder ∷ bidders)) (same_bytes token bidder.token) (Bidder
    i) (holder (bidder_tokens (suc i) bidders) token) (omega arith) (fewer (suc i + length bidders) (i + length (bidder
    ∷ bidders)) (holder (bidder_tokens (suc i) bidders) token) (omega arith) (bidder_known (suc i) bidders token))

pub caller_known : (setup : SetupFields) (token : Option (List ℕ)) → IsKnown (length setup.bidders) (caller setup token)
caller_known setup None = tt
caller_known setup (Some token) = picked (length setup.bidders) (same_bytes token setup.operator) Operator
    (holder (bidder_tokens 0 setup.bidders) token) tt (fewer (0 + length setup.bidders) (length setup.bidders)
    (holder (bidder_tokens 0 setup.bidders) token) (omega arith) (bidder_known 0 setup.bidders token))

-- Two look-ups that agree on every token agree on who sent a request.
pub caller_same : (f g : List ℕ → Caller) → ((token : List ℕ) → f token ≡ g token) → (token : Option (List ℕ))
    → caller_by f token ≡ caller_by g token
caller_same f g same None = refl
caller_same f g same (Some token) = same token

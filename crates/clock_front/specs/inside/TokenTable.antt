-- What the hash table of tokens finds.
--     listed entries      the table's entries, as a list of tokens and their owners
--     tokens_of setup      the operator's token and each bidder's, with their owners
--     found entries token      whose a token is, by the table
--     caller_by of token      who sent a request with this token, or with none, by a look-up `of`
--     IsTableOf setup entries      the table finds the owner of every token of the set-up
use Rattle.std.specs.Prelude.{◌≡◌, ℕ, List, ◌∷◌, map, Option, Some, None, Vec}
use Rattle.std.specs.declared.alloc.Global.{Global}
use Rattle.clock_terms.specs.Limits.{SetupFields}
use Rattle.clock_front.specs.Callers.{bidder_tokens, holder}
use Rattle.clock_front.specs.declared.front.callers.Caller.{Caller}
use Rattle.clock_front.specs.declared.front.callers.Caller.TheVariants.{Nobody, Operator}

-- The table's entries, as a list of tokens and their owners.
abbrev pub listed : List (Vec ℕ Global × Caller) → List (List ℕ × Caller)
listed entries = map (λ entry. (entry.0.items, entry.1)) entries

-- Whose a token is, by the table.
abbrev pub found : List (Vec ℕ Global × Caller) → List ℕ → Caller
found entries token = holder (listed entries) token

-- The operator's token and each bidder's, with their owners.
abbrev pub tokens_of : SetupFields → List (List ℕ × Caller)
tokens_of setup = (setup.operator, Operator) ∷ bidder_tokens 0 setup.bidders

-- Who sent a request with this token, or with none, by a look-up `of`.
abbrev pub caller_by : (List ℕ → Caller) → Option (List ℕ) → Caller
caller_by of None = Nobody
caller_by of (Some token) = of token

-- The table finds for every token the owner that the set-up gives it, or no one.
abbrev pub IsTableOf : SetupFields → List (Vec ℕ Global × Caller) → Type 0
IsTableOf setup entries = (token : List ℕ) → found entries token ≡ holder (tokens_of setup) token

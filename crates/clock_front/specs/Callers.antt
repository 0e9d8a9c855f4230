-- Who sent a request, by the token in its head.
--     bidder_tokens i bidders      each bidder's token with the bidder; the first is bidder i
--     holder entries token      whose a token is, by such a list
--     caller setup token      who sent a request with this token, or with none
--     HasOwnTokens setup      no token of the set-up occurs twice
use Rattle.std.specs.Prelude.{ℕ, suc, List, [], ◌∷◌, map, if◌then◌else◌, Option, Some, None}
use Rattle.clock_terms.specs.declared.setup.Bidder.{Bidder as BidderRow}
use Rattle.clock_terms.specs.Limits.{SetupFields, AreDistinct}
use Rattle.clock_api.specs.Bytes.{same_bytes}
use Rattle.clock_front.specs.declared.front.callers.Caller.{Caller}
use Rattle.clock_front.specs.declared.front.callers.Caller.TheVariants.{Nobody, Operator, Bidder}

-- The token of each bidder with its number, from i on.
abbrev pub bidder_tokens : ℕ → List BidderRow → List (List ℕ × Caller)
bidder_tokens i [] = []
bidder_tokens i (bidder ∷ bidders) = (bidder.token, Bidder i) ∷ bidder_tokens (suc i) bidders

-- Whose a token is, by a list of tokens and owners. Tokens are compared byte for byte.
abbrev pub holder : List (List ℕ × Caller) → List ℕ → Caller
holder [] token = Nobody
holder (entry ∷ entries) token = if same_bytes token entry.0 then entry.1 else holder entries token

-- Who sent a request with this token, or with none. The operator's token is compared first.
abbrev pub caller : SetupFields → Option (List ℕ) → Caller
caller setup None = Nobody
caller setup (Some token) =
    holder ((setup.operator, Operator) ∷ bidder_tokens 0 setup.bidders) token

-- No token of the set-up occurs twice. Every set-up that was read has this property.
abbrev pub HasOwnTokens : SetupFields → Type 0
HasOwnTokens setup = AreDistinct (setup.operator ∷ map (λ bidder. bidder.token) setup.bidders)

-- The page of a refusal in the pieces in which it is pushed.
use Rattle.std.proofs.Common.{◌≡◌, ℕ, List, ◌++◌, Option, Some, None, append_assoc, codes, decimal, refl, ap, ◌∙◌}
use Rattle.json.specs.Print.{escape}
use Rattle.serde_json.specs.Written.{compact_text}
use Rattle.serde_json.proofs.OnLiterals.{serde_json_on_literals}
use Rattle.clock_api.specs.declared.code.Code.{Code}
use Rattle.clock_api.specs.declared.code.Code.TheVariants.{Done, BadHead, BadLength, CutShort, BadJson, Token, Role}
use Rattle.clock_api.specs.declared.code.Code.TheVariants.{NoPage, NoRound, Method, Ended}
use Rattle.clock_api.specs.declared.code.Code.TheVariants.{WrongRound, LongBody, Shape, TooMany, UnknownProduct}
use Rattle.clock_api.specs.declared.code.Code.TheVariants.{PriceRange, OverCap, PriceOrder}
use Rattle.clock_api.specs.declared.code.Code.TheVariants.{MixedDirection, KeepPrice, OverActivity, Increment}
use Rattle.clock_api.specs.declared.code.Code.TheVariants.{TieRange, TieRepeated, TooManyTies}
use Rattle.clock_api.specs.declared.code.Code.TheVariants.{PriceLimit, LongHead, Coding, Memory}
use Rattle.clock_api.specs.Codes.{code_text, status_of}
use Rattle.clock_views.specs.Refusals.{Shown}
use Rattle.clock_views.specs.RefusalPage.{refusal_value, refusal_bytes}
use Rattle.clock_views.specs.Values.{number_if}

-- no code has a character that JSON escapes
plain : (code : Code) → escape (code_text code) ≡ code_text code
unfolding serde_json_on_literals
plain Done = refl
plain BadHead = refl
plain BadLength = refl
plain CutShort = refl
plain BadJson = refl
plain Token = refl
plain Role = refl
plain NoPage = refl
plain NoRound = refl
plain Method = refl
plain Ended = refl
plain WrongRound = refl
plain LongBody = refl
plain Shape = refl
plain TooMany = refl
plain UnknownProduct = refl
plain PriceRange = refl
plain OverCap = refl
plain PriceOrder = refl
plain MixedDirection = refl
plain KeepPrice = refl
plain OverActivity = refl
plain Increment = refl
plain TieRange = refl
plain TieRepeated = refl
plain TooManyTies = refl
plain PriceLimit = refl
plain LongHead = refl
plain Coding = refl
plain Memory = refl

-- what follows the code
abbrev behind : Code → Option ℕ → Option ℕ → List ℕ
behind code place round = number_if (codes ",\"place\":") place
    ++ (number_if (codes ",\"round\":") round ++ ((codes ",\"status\":" ++ decimal (status_of code)) ++ codes "}"))

escaped : (code : Code) (place round : Option ℕ)
    → compact_text (refusal_value (record { code = code; place = place; round = round }))
    ≡ codes "{\"code\":\"" ++ ((escape (code_text code) ++ codes "\"") ++ behind code place round)
unfolding refusal_value serde_json_on_literals
escaped code None None = refl
escaped code None (Some round) = refl
escaped code (Some place) None = refl
escaped code (Some place) (Some round) = refl

in_pieces : (code : Code) (place round : Option ℕ)
    → compact_text (refusal_value (record { code = code; place = place; round = round }))
    ≡ codes "{\"code\":\"" ++ (code_text code ++ (codes "\"" ++ behind code place round))
in_pieces code place round =
    escaped code place round
    ∙ ap (λ text. codes "{\"code\":\"" ++ text) (ap (λ text. (text ++ codes "\"")
    ++ behind code place round) (plain code) ∙ append_assoc (code_text code) _ _)

pub refusal_in_pieces : (shown : Shown) → compact_text (refusal_value shown) ≡ codes "{\"code\":\""
    ++ (code_text shown.code ++ (codes "\"" ++ (number_if (codes ",\"place\":") shown.place ++ (number_if
    (codes ",\"round\":") shown.round ++ ((codes ",\"status\":" ++ decimal (status_of shown.code)) ++ codes "}")))))
refusal_in_pieces shown = in_pieces shown.code shown.place shown.round

pub refusal_in_bytes : (shown : Shown) → compact_text (refusal_value shown) ≡ refusal_bytes shown
refusal_in_bytes shown = refusal_in_pieces shown ∙ simp append_assoc

-- The codes of replies, which are our own, and their statuses of HTTP (RFC 9110).
--     code_row code      the table: the status of a code, and the code as pages show it
--     status_of code, code_text code      its two columns
use Rattle.std.specs.Prelude.{ℕ, List, codes}
use Rattle.clock_api.specs.declared.code.Code.{Code}
use Rattle.clock_api.specs.declared.code.Code.TheVariants.{Done, BadHead, BadLength, CutShort}
use Rattle.clock_api.specs.declared.code.Code.TheVariants.{BadJson, Token, Role, NoPage, NoRound}
use Rattle.clock_api.specs.declared.code.Code.TheVariants.{Method, Ended}
use Rattle.clock_api.specs.declared.code.Code.TheVariants.{WrongRound, LongBody, Shape, TooMany}
use Rattle.clock_api.specs.declared.code.Code.TheVariants.{UnknownProduct, PriceRange, OverCap}
use Rattle.clock_api.specs.declared.code.Code.TheVariants.{PriceOrder}
use Rattle.clock_api.specs.declared.code.Code.TheVariants.{MixedDirection, KeepPrice, OverActivity}
use Rattle.clock_api.specs.declared.code.Code.TheVariants.{Increment, TieRange, TieRepeated}
use Rattle.clock_api.specs.declared.code.Code.TheVariants.{TooManyTies}
use Rattle.clock_api.specs.declared.code.Code.TheVariants.{PriceLimit, LongHead, Coding, Memory}

abbrev pub code_row : Code → ℕ × List ℕ
code_row Done = (200, codes "done")
code_row BadHead = (400, codes "bad_head")
code_row BadLength = (400, codes "bad_length")
code_row CutShort = (400, codes "cut_short")
code_row BadJson = (400, codes "bad_json")
code_row Token = (401, codes "token")
code_row Role = (403, codes "role")
code_row NoPage = (404, codes "no_page")
code_row NoRound = (404, codes "no_round")
code_row Method = (405, codes "method")
code_row Ended = (409, codes "ended")
code_row WrongRound = (409, codes "wrong_round")
code_row LongBody = (413, codes "long_body")
code_row Shape = (422, codes "shape")
code_row TooMany = (422, codes "too_many")
code_row UnknownProduct = (422, codes "unknown_product")
code_row PriceRange = (422, codes "price_range")
code_row OverCap = (422, codes "over_cap")
code_row PriceOrder = (422, codes "price_order")
code_row MixedDirection = (422, codes "mixed_direction")
code_row KeepPrice = (422, codes "keep_price")
code_row OverActivity = (422, codes "over_activity")
code_row Increment = (422, codes "increment")
code_row TooManyTies = (422, codes "too_many_ties")
code_row TieRange = (422, codes "tie_range")
code_row TieRepeated = (422, codes "tie_repeated")
code_row PriceLimit = (422, codes "price_limit")
code_row LongHead = (431, codes "long_head")
code_row Coding = (501, codes "coding")
code_row Memory = (503, codes "memory")

abbrev pub status_of : Code → ℕ
status_of code = (code_row code).0

abbrev pub code_text : Code → List ℕ
code_text code = (code_row code).1

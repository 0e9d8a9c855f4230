-- Refusals with only a code, and which replies have constant bytes.
--     refusal_of code      the reply that refuses a request with only a code
--     is_bare code      a refusal with this code shows no index and no round
--     is_fixed code      a refusal for the head or the length of a request, or out of memory
use Rattle.std.specs.Prelude.{Bool, true, false, not, ◌&&◌}
use Rattle.clock_views.specs.Refusals.{bare, has_place, has_round, is_refusal}
use Rattle.clock_api.specs.Replies.{Answer}
use Rattle.clock_api.specs.declared.code.Code.{Code}
use Rattle.clock_api.specs.declared.code.Code.TheVariants.{BadHead, BadLength, LongBody, LongHead}
use Rattle.clock_api.specs.declared.code.Code.TheVariants.{Coding, Memory}
use Rattle.clock_front.specs.Outcomes.{refused, answer_of}

-- The reply that refuses a request with only a code, and no details.
abbrev pub refusal_of : Code → Answer
refusal_of code = answer_of (refused (bare code))

-- A refusal with this code shows no index and no round.
abbrev pub is_bare : Code → Bool
is_bare code = is_refusal code && (not (has_place code) && not (has_round code))

-- The replies with these codes have constant bytes, and need no memory.
abbrev pub is_fixed : Code → Bool
is_fixed LongHead = true
is_fixed BadHead = true
is_fixed Coding = true
is_fixed BadLength = true
is_fixed LongBody = true
is_fixed Memory = true
is_fixed _ = false

-- Two replies with constant bytes.
--     no_memory, cut_short      the out-of-memory reply; the reply to input that ended too early
use Rattle.clock_views.specs.Refusals.{bare}
use Rattle.clock_api.specs.Replies.{Answer}
use Rattle.clock_api.specs.declared.code.Code.TheVariants.{CutShort, Memory}
use Rattle.clock_front.specs.Outcomes.{refused, answer_of}

-- The out-of-memory reply, 503 `memory`.
abbrev pub no_memory : Answer
no_memory = answer_of (refused (bare Memory))

-- The reply to a request whose input ended before the request was complete, `cut_short`.
abbrev pub cut_short : Answer
cut_short = answer_of (refused (bare CutShort))

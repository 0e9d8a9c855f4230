-- The reply to the next request of a stream.
--     IsNextAnswer reading old new answer      the request was read and answered, or not read
use Rattle.std.specs.Prelude.{Option, Some, None}
use Rattle.clock_device.specs.Reports.{Reading}
use Rattle.clock_house.specs.House.{HouseFields}
use Rattle.clock_api.specs.Replies.{Answer}
use Rattle.clock_front.specs.Streamed.{IsAnswerTo, IsLeftUnread}

-- The answer to the request that was read; or none, if no request could be read.
abbrev pub IsNextAnswer : Reading → HouseFields → HouseFields → Option Answer → Type 0
IsNextAnswer reading old new (Some answer) = IsAnswerTo reading answer old new
IsNextAnswer reading old new None = IsLeftUnread reading old new

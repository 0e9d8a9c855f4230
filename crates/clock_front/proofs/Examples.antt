-- The bytes of the out-of-memory reply, computed.
use Rattle.std.specs.Prelude.{◌≡◌, ◌++◌, codes, refl}
use Rattle.std.specs.Fmt.{digits}
use Rattle.clock_api.specs.declared.code.Code.TheVariants.{Memory}
use Rattle.clock_api.specs.Replies.{reply_bytes}
use Rattle.clock_front.proofs.FrontLaws.{constant_bytes}

out_of_memory_is_reported : constant_bytes Memory ≡ codes
    "HTTP/1.1 503 Service Unavailable\r\nconnection: close\r\ncontent-length: 30\r\ncontent-type: application/json\r\n"
    ++ codes "\r\n{\"code\":\"memory\",\"status\":503}"
unfolding reply_bytes digits
out_of_memory_is_reported = refl

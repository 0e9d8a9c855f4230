-- The bytes of a reply (RFC 9112, sections 4 and 5; RFC 9110 for the header lines). Each line ends
-- with CR LF, and nothing follows the page.
--     reply_bytes code allowed page      the reply with this code, `allow` line, and page
--     Answer      a code and the bytes of its reply
use Rattle.std.specs.Prelude.{ℕ, List, [], ◌++◌, length, Option, Some, None, codes, decimal}
use Rattle.std.specs.List.{join_by}
use Rattle.std.specs.Option.{unwrap_or}
use Rattle.http.specs.StatusCode.{reason_phrase}
use Rattle.clock_api.specs.declared.code.Code.{Code}
use Rattle.clock_api.specs.declared.code.Code.TheVariants.{Token}
use Rattle.clock_api.specs.Codes.{status_of}
use Rattle.clock_api.specs.declared.routes.Page.{Page}
use Rattle.clock_api.specs.Routes.{methods}

-- a reply: its code, and its bytes from the status line to the end of the page
pub record Answer : Type 0 where
  pub code : Code
  pub bytes : List ℕ

-- the line with the methods of a page that does not have the requested one
abbrev pub allow_line : Option Page → List ℕ
allow_line None = []
allow_line (Some page) =
    codes "allow: " ++ (join_by (λ method. method) (codes ", ") (methods page) ++ codes "\r\n")

-- the line that asks for a token
abbrev pub challenge_line : Code → List ℕ
challenge_line Token = codes "www-authenticate: Bearer\r\n"
challenge_line _ = []

-- a whole reply: status line with reason phrase, header lines, empty line, and page
unfoldable pub reply_bytes : Code → Option Page → List ℕ → List ℕ
reply_bytes code allowed page =
    codes "HTTP/1.1 "
    ++ (decimal (status_of code) ++ (codes " " ++ (unwrap_or (reason_phrase (status_of code)) []
    ++ (codes "\r\n" ++ (allow_line allowed
    ++ (codes "connection: close\r\ncontent-length: " ++ (decimal (length page)
    ++ (codes "\r\ncontent-type: application/json\r\n"
    ++ (challenge_line code ++ codes "\r\n" ++ page)))))))))

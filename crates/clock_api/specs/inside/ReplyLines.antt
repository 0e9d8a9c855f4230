-- The head of a reply in two parts, as the code writes it, from its end to its start.
--     page_lines code page      the lines about the page, the empty line, and the page
--     first_lines code allowed rest      the lines before those, and the rest
use Rattle.std.specs.Prelude.{List, ℕ, [], ◌++◌, length, Option, codes, decimal}
use Rattle.std.specs.Option.{unwrap_or}
use Rattle.http.specs.StatusCode.{reason_phrase}
use Rattle.clock_api.specs.declared.code.Code.{Code}
use Rattle.clock_api.specs.declared.routes.Page.{Page}
use Rattle.clock_api.specs.Codes.{status_of}
use Rattle.clock_api.specs.Replies.{allow_line, challenge_line}

-- the lines about the page, the empty line, and the page
unfoldable pub page_lines : Code → List ℕ → List ℕ
page_lines code page =
    codes "connection: close\r\ncontent-length: " ++ (decimal (length page)
    ++ (codes "\r\ncontent-type: application/json\r\n"
    ++ (challenge_line code ++ codes "\r\n" ++ page)))

-- the status line with reason phrase, the `allow` line, and the rest
unfoldable pub first_lines : Code → Option Page → List ℕ → List ℕ
first_lines code allowed rest =
    codes "HTTP/1.1 "
    ++ (decimal (status_of code) ++ (codes " " ++ (unwrap_or (reason_phrase (status_of code)) []
    ++ (codes "\r\n" ++ (allow_line allowed ++ rest)))))

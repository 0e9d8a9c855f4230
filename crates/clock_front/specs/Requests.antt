-- What the bytes of a request ask for, whoever sent them and whatever the state of the auction.
--     Ask      what a request asks for
--     ask_of framing      what a request asks for, once its bytes are split into head and body
--     request_of text      the token of a request, and what it asks for
use Rattle.std.specs.Prelude.{ℕ, List, if◌then◌else◌, Option, Some, None, option_and_then, Result}
use Rattle.std.specs.Prelude.{codes}
use Rattle.clock_api.specs.declared.code.Code.{Code}
use Rattle.clock_api.specs.declared.code.Code.TheVariants.{CutShort, NoPage}
use Rattle.clock_api.specs.Bytes.{same_bytes}
use Rattle.clock_http.specs.Framing.{Framing, incomplete, refusal, whole, Head, framing, head_in}
use Rattle.clock_api.specs.Routes.{page_of, last_segment, has_method}
use Rattle.clock_bodies.specs.Bodies.{put_body}
use Rattle.clock_bodies.specs.CloseBodies.{close_body}
use Rattle.clock_api.specs.declared.routes.Page.{Page}
use Rattle.clock_api.specs.declared.routes.Page.TheVariants.{Status, Products, Account, Bids, Close}
use Rattle.clock_api.specs.declared.routes.Page.TheVariants.{RoundResults, BidderResults, Results}
use Rattle.clock_bodies.specs.declared.put_body.PutBody.{PutBody}
use Rattle.clock_bodies.specs.declared.close_body.CloseBody.{CloseBody}
use Rattle.clock_bodies.specs.declared.body.BodyFault.{BodyFault}

-- What a request asks for: a refusal, by its bytes, path, or method; a page; or a sheet or closing.
-- A fault in the body of these two is reported only to a sender who may make the change.
pub data Ask : Type 0 where
  turned_away : Code → Ask
  no_method : Page → Ask
  status : Ask
  products : Ask
  round_results : List ℕ → Ask
  account : Ask
  bids : Ask
  put : Result PutBody BodyFault → Ask
  bidder_results : List ℕ → Ask
  close : Result CloseBody BodyFault → Ask
  results : Ask

-- A request: its token, if its head has one, and what it asks for.
pub record Request : Type 0 where
  pub token : Option (List ℕ)
  pub ask : Ask

-- What a request asks for, if its path names this page and the page has its method.
abbrev pub ask_of_page : Page → Head → List ℕ → Ask
ask_of_page Status head body = status
ask_of_page Products head body = products
ask_of_page RoundResults head body = round_results (last_segment head.path)
ask_of_page Account head body = account
ask_of_page Bids head body =
    if same_bytes (codes "PUT") head.method then put (put_body body) else bids
ask_of_page BidderResults head body = bidder_results (last_segment head.path)
ask_of_page Close head body = close (close_body body)
ask_of_page Results head body = results

-- What a request asks for, by the page that its path names, if any.
abbrev pub ask_by_route : Option Page → Head → List ℕ → Ask
ask_by_route None head body = turned_away NoPage
ask_by_route (Some page) head body =
    if has_method page head.method then ask_of_page page head body else no_method page

-- What a request asks for. If its input ended before it was complete, it is refused as cut short.
abbrev pub ask_of : Framing → Ask
ask_of incomplete = turned_away CutShort
ask_of (refusal code) = turned_away code
ask_of (whole head body) = ask_by_route (page_of head.path) head body

-- The token of a request, even if its body is refused or cut short, and what it asks for.
unfoldable pub request_of : List ℕ → Request
request_of text = record {
  token = option_and_then (λ head. head.token) (head_in text);
  ask = ask_of (framing text);
}

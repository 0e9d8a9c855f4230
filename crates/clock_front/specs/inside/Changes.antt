-- Which change a request asks for.
--     change_asked page who head      none, a bidder's sheet, or a closing
--     IsChangeFor who ask body change      what that says of the request
use Rattle.std.specs.Prelude.{◌≡◌, ℕ, List, Option, Some, if◌then◌else◌, codes, true}
use Rattle.clock_api.specs.Bytes.{same_bytes}
use Rattle.clock_http.specs.Framing.{Head}
use Rattle.clock_api.specs.Routes.{has_method}
use Rattle.clock_api.specs.declared.routes.Page.{Page}
use Rattle.clock_api.specs.declared.routes.Page.TheVariants as pages
use Rattle.clock_bodies.specs.Bodies.{put_body}
use Rattle.clock_bodies.specs.CloseBodies.{close_body}
use Rattle.clock_front.specs.declared.front.callers.Caller.{Caller}
use Rattle.clock_front.specs.declared.front.callers.Caller.TheVariants.{Operator, Bidder}
use Rattle.clock_front.specs.declared.front.answering.Change.{Change}
use Rattle.clock_front.specs.declared.front.answering.Change.TheVariants.{Nothing, Sheet, Closing}
use Rattle.clock_front.specs.Requests.{Ask, put, close}
use Rattle.clock_front.specs.Rooms.{asks_for_page}

-- The change that a request asks for whose path names this page.
abbrev pub change_asked : Option Page → Caller → Head → Change
change_asked (Some pages.Bids) (Bidder bidder) head =
    if same_bytes (codes "PUT") head.method then Sheet bidder else Nothing
change_asked (Some pages.Close) Operator head =
    if has_method pages.Close head.method then Closing else Nothing
change_asked _ _ head = Nothing

-- What the change says of the request: a page, a sheet with this body, or a closing with it.
abbrev pub IsChangeFor : Caller → Ask → List ℕ → Change → Type 0
IsChangeFor who ask body Nothing = asks_for_page who ask ≡ true
IsChangeFor who ask body (Sheet bidder) =
    (who ≡ Bidder bidder) × (ask ≡ put (put_body body))
IsChangeFor who ask body Closing = (who ≡ Operator) × (ask ≡ close (close_body body))

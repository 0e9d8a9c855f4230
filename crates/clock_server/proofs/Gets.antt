-- A request by GET changes nothing.
use Rattle.std.proofs.Common.{◌≡◌, ℕ, List, Option, Some, None, ap, ◌∙◌, refl, codes}
use Rattle.clock_terms.specs.Limits.{SetupFields}
use Rattle.clock_http.specs.Framing.{Framing, Head, framing, whole}
use Rattle.clock_api.specs.Routes.{page_of}
use Rattle.clock_api.specs.declared.routes.Page.{Page}
use Rattle.clock_api.specs.declared.routes.Page.TheVariants.{Status, Products, RoundResults, Account, Bids}
use Rattle.clock_api.specs.declared.routes.Page.TheVariants.{BidderResults, Close, Results}
use Rattle.clock_house.specs.Command.{other}
use Rattle.clock_front.specs.Callers.{caller}
use Rattle.clock_front.specs.Effects.{effect_in}
use Rattle.clock_front.specs.Fronts.{commands_of, house_after, text_command}
use Rattle.clock_front.specs.Outcomes.{command_of}
use Rattle.clock_front.specs.Requests.{ask_by_route, ask_of, request_of}
use Rattle.clock_front.specs.declared.front.callers.Caller.{Caller}
use Rattle.clock_front.specs.declared.front.callers.Caller.TheVariants.{Nobody, Operator, Bidder}
use Rattle.clock_server.specs.Laws.{GetsChangeNothing}

abbrev got : List ℕ → Option (List ℕ) → Head
got path token = record { method = codes "GET"; path = path; token = token }

get_page : (setup : SetupFields) (who : Caller) (page : Page) (path : List ℕ) (token : Option (List ℕ)) (body : List ℕ)
    → command_of setup who (ask_by_route (Some page) (got path token) body) ≡ other
get_page setup Nobody page path token body = refl
get_page setup Operator Status path token body = refl
get_page setup Operator Products path token body = refl
get_page setup Operator RoundResults path token body = refl
get_page setup Operator Account path token body = refl
get_page setup Operator Bids path token body = refl
get_page setup Operator BidderResults path token body = refl
get_page setup Operator Close path token body = refl
get_page setup Operator Results path token body = refl
get_page setup (Bidder bidder) Status path token body = refl
get_page setup (Bidder bidder) Products path token body = refl
get_page setup (Bidder bidder) RoundResults path token body = refl
get_page setup (Bidder bidder) Account path token body = refl
get_page setup (Bidder bidder) Bids path token body = refl
get_page setup (Bidder bidder) BidderResults path token body = refl
get_page setup (Bidder bidder) Close path token body = refl
get_page setup (Bidder bidder) Results path token body = refl

get_route : (setup : SetupFields) (who : Caller) (page : Option Page) (path : List ℕ) (token : Option (List ℕ))
    (body : List ℕ) → command_of setup who (ask_by_route page (got path token) body) ≡ other
get_route setup Nobody None path token body = refl
get_route setup Operator None path token body = refl
get_route setup (Bidder bidder) None path token body = refl
get_route setup who (Some page) path token body = get_page setup who page path token body

get_command : (setup : SetupFields) (text body : List ℕ) (head : Head) → framing text ≡ whole head body → head.method
    ≡ codes "GET" → text_command setup text ≡ other
unfolding request_of
get_command setup text body head is method =
    ap (λ (f : Framing). command_of setup (caller setup (request_of text).token) (ask_of f)) is
    ∙ (ap (λ (m : List ℕ). command_of setup (caller setup (request_of text).token) (ask_by_route (page_of head.path)
    (record { method = m; path = head.path; token = head.token }) body)) method
    ∙ get_route setup (caller setup (request_of text).token) (page_of head.path) head.path head.token body)

pub gets_change_nothing : GetsChangeNothing
gets_change_nothing setup past text body head is method =
    ap (effect_in (house_after setup (commands_of setup past))) (get_command setup text body head is method)

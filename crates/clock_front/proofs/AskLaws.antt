-- Proves which change a request asks for, by the page that its path names.
use Rattle.std.proofs.Common.{◌≡◌, ℕ, List, Bool, true, false, ◌||◌, Option, Some, None, Result, refl, sym, ap, ◌∙◌}
use Rattle.std.proofs.Common.{subst}
use Rattle.std.specs.Prelude.{if◌then◌else◌, codes}
use Rattle.clock_house.specs.House.{HouseFields}
use Rattle.clock_api.specs.Replies.{Answer}
use Rattle.clock_api.specs.Bytes.{same_bytes}
use Rattle.clock_http.specs.Framing.{Head}
use Rattle.clock_api.specs.Routes.{has_method}
use Rattle.clock_api.specs.declared.routes.Page.{Page}
use Rattle.clock_api.specs.declared.routes.Page.TheVariants as pages
use Rattle.clock_bodies.specs.Bodies.{put_body}
use Rattle.clock_bodies.specs.CloseBodies.{close_body}
use Rattle.clock_front.specs.declared.front.callers.Caller.{Caller}
use Rattle.clock_front.specs.declared.front.callers.Caller.TheVariants.{Operator, Bidder}
use Rattle.clock_front.specs.declared.front.answering.Change.{Change}
use Rattle.clock_front.specs.declared.front.answering.Change.TheVariants.{Nothing, Sheet, Closing}
use Rattle.clock_front.specs.Requests.{Ask, ask_by_route, ask_of_page, bids, close, no_method, put}
use Rattle.clock_front.specs.Rooms.{asks_for_page}
use Rattle.clock_front.specs.inside.Changes.{IsChangeFor, change_asked}
use Rattle.clock_front.specs.inside.Replies.{IsReplyOrFailure}

-- Of two requests for pages each is one.
either_page : (who : Caller) (test : Bool) (one other : Ask) → asks_for_page who one ≡ true
    → asks_for_page who other ≡ true → asks_for_page who (if test then one else other) ≡ true
either_page who true one other first second = first
either_page who false one other first second = second

sheet_change : (get is_put : Bool) (bidder : ℕ) (body : List ℕ) → IsChangeFor (Bidder bidder)
    (if get || (is_put || false) then (if is_put then put (put_body body) else bids) else no_method pages.Bids) body
    (if is_put then Sheet bidder else Nothing)
sheet_change true true bidder body = (refl, refl)
sheet_change false true bidder body = (refl, refl)
sheet_change true false bidder body = refl
sheet_change false false bidder body = refl

close_change : (has : Bool) (body : List ℕ) → IsChangeFor Operator
    (if has then close (close_body body) else no_method pages.Close) body (if has then Closing else Nothing)
close_change true body = (refl, refl)
close_change false body = refl

-- The change that a request asks for, by its page.
pub change_is : (named : Option Page) (who : Caller) (head : Head) (body : List ℕ)
    → IsChangeFor who (ask_by_route named head body) body (change_asked named who head)
change_is None who head body = refl
change_is (Some pages.Bids) (Bidder bidder) head body = sheet_change (same_bytes (codes "GET") head.method)
    (same_bytes (codes "PUT") head.method) bidder body
change_is (Some pages.Bids) who head body = either_page who (has_method pages.Bids head.method)
    (if same_bytes (codes "PUT") head.method then put (put_body body) else bids) (no_method pages.Bids)
    (either_page who (same_bytes (codes "PUT") head.method) (put (put_body body)) bids refl refl) refl
change_is (Some pages.Close) Operator head body = close_change (has_method pages.Close head.method) body
change_is (Some one) who head body =
    either_page who (has_method one head.method) (ask_of_page one head body) (no_method one) refl refl

-- The reply for the page that a path names, if the page has the request's method.
pub for_page : (named : Option Page) (found one : Page) (who : Caller) (head : Head) (body : List ℕ)
    (house : HouseFields) (result : Result Answer ℕ) → named ≡ Some found → has_method found head.method ≡ true
    → found ≡ one → IsReplyOrFailure house who (ask_of_page one head body) result
    → IsReplyOrFailure house who (ask_by_route named head body) result
for_page named found one who head body house result is has same holds = subst (λ (ask : Ask). IsReplyOrFailure house who
    ask result) (sym (ap (λ (n : Option Page). ask_by_route n head body) is ∙ ap (λ (b : Bool). if b then ask_of_page
    found head body else no_method found) has ∙ ap (λ (page : Page). ask_of_page page head body) same)) holds

-- A fact about a sender and what it asks for, moved to equal ones.
pub as_asked : (P : Caller → Ask → Type 0) (who one : Caller) (ask other : Ask) → who ≡ one → ask ≡ other
    → P one other → P who ask
as_asked P who one ask other sent asks is =
    subst (λ (w : Caller). P w ask) (sym sent) (subst (P one) (sym asks) is)

-- What a request asks for, by the change that was found for its path.
pub changes : (named found : Option Page) (who : Caller) (head : Head) (body : List ℕ) (answered change : Change)
    → found ≡ named → answered ≡ change_asked found who head → answered ≡ change
    → IsChangeFor who (ask_by_route named head body) body change
changes named found who head body answered change names is seen =
    subst (λ (n : Option Page). IsChangeFor who (ask_by_route n head body) body change) names
    (subst (IsChangeFor who (ask_by_route found head body) body) (sym is ∙ seen) (change_is found who head body))

-- Examples of methods, paths, and replies.
use Rattle.std.specs.Prelude.{◌≡◌, List, [], ◌∷◌, ◌++◌, Some, None, true, false, map, codes, refl}
use Rattle.std.specs.Fmt.{digits}
use Rattle.clock_api.specs.declared.code.Code.TheVariants.{Done, Method, Token}
use Rattle.clock_api.specs.declared.routes.Page.{Page}
use Rattle.clock_api.specs.declared.routes.Page.TheVariants.{Status, Products, RoundResults, Account, Bids}
use Rattle.clock_api.specs.declared.routes.Page.TheVariants.{BidderResults, Close, Results}
use Rattle.clock_api.specs.Replies.{reply_bytes}
use Rattle.matchit.specs.Route.{scan}
use Rattle.matchit.specs.Seek.{seek, param_step}
use Rattle.clock_api.specs.Routes.{has_method, last_segment}
use Rattle.clock_api.specs.inside.Routing.{page_at, table}

pages : List Page
pages = Status ∷ Products ∷ RoundResults ∷ Account ∷ Bids ∷ BidderResults ∷ Close ∷ Results ∷ []

all_pages_but_one_are_got : map (λ page. has_method page (codes "GET")) pages
    ≡ true ∷ true ∷ true ∷ true ∷ true ∷ true ∷ false ∷ true ∷ []
unfolding pages
all_pages_but_one_are_got = refl

bids_are_put : map (λ page. has_method page (codes "PUT")) pages
    ≡ false ∷ false ∷ false ∷ false ∷ true ∷ false ∷ false ∷ false ∷ []
unfolding pages
bids_are_put = refl

a_closing_is_posted : map (λ page. has_method page (codes "POST")) pages
    ≡ false ∷ false ∷ false ∷ false ∷ false ∷ false ∷ true ∷ false ∷ []
unfolding pages
a_closing_is_posted = refl

methods_differ_by_case : map (λ page. has_method page (codes "put")) pages ≡ map (λ _. false) pages
unfolding pages
methods_differ_by_case = refl

no_page_has_another_method : map (λ page. has_method page (codes "HEAD")) pages ≡ map (λ _. false) pages
unfolding pages
no_page_has_another_method = refl

each_route_has_its_page : map page_at (codes "/v1/status" ∷ codes "/v1/products" ∷ codes "/v1/rounds/7" ∷ codes "/v1/me"
    ∷ codes "/v1/me/bids" ∷ codes "/v1/me/rounds/7" ∷ codes "/v1/close" ∷ codes "/v1/results" ∷ []) ≡ map Some pages
unfolding pages table scan seek param_step
each_route_has_its_page = refl

no_other_path_has_a_page : map page_at (codes "/v1/rounds/" ∷ codes "/v1/rounds" ∷ codes "/v1/rounds/1/2" ∷ codes
    "/v1/status/" ∷ codes "/v1/Status" ∷ codes "/" ∷ [] ∷ []) ≡ None ∷ None ∷ None ∷ None ∷ None ∷ None ∷ None ∷ []
unfolding table scan seek param_step
no_other_path_has_a_page = refl

the_round_is_the_last_segment : map last_segment (codes "/v1/rounds/12" ∷ codes "/v1/me/rounds/0" ∷ codes "/" ∷ [])
    ≡ codes "12" ∷ codes "0" ∷ [] ∷ []
the_round_is_the_last_segment = refl

a_reply_is_its_head_and_page :
    reply_bytes Done None (codes "{\"accepted\":true,\"bids\":1,\"round\":1}")
    ≡ codes "HTTP/1.1 200 OK\r\nconnection: close\r\ncontent-length: 36\r\ncontent-type: application/json\r\n"
    ++ codes "\r\n{\"accepted\":true,\"bids\":1,\"round\":1}"
unfolding reply_bytes digits
a_reply_is_its_head_and_page = refl

the_methods_of_a_page_are_listed :
    reply_bytes Method (Some Bids) (codes "{\"code\":\"method\",\"status\":405}")
    ≡ codes "HTTP/1.1 405 Method Not Allowed\r\nallow: GET, PUT\r\nconnection: close\r\ncontent-length: 30\r\ncontent-type: application/json\r\n"
    ++ codes "\r\n{\"code\":\"method\",\"status\":405}"
unfolding reply_bytes digits
the_methods_of_a_page_are_listed = refl

a_token_is_asked_for :
    reply_bytes Token None (codes "{\"code\":\"token\",\"status\":401}")
    ≡ codes "HTTP/1.1 401 Unauthorized\r\nconnection: close\r\ncontent-length: 29\r\ncontent-type: application/json\r\n"
    ++ codes "www-authenticate: Bearer\r\n\r\n{\"code\":\"token\",\"status\":401}"
unfolding reply_bytes digits
a_token_is_asked_for = refl

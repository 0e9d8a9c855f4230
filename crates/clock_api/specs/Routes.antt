-- Which page a path names, and which methods a page has. The routes are our own. Paths are compared
-- byte by byte: escapes are not decoded, and no slash is added or dropped.
--     paths      the texts of the paths, with their pages
--     is_path text path      the path has this text, or one more segment if the text ends with a
--         slash
--     page_of path      the page of a path
--     last_segment path      what follows the last slash of a path
--     methods page      the methods of a page, in the order in which replies list them
use Rattle.std.specs.Prelude.{ℕ, Bool, List, [], ◌∷◌, ◌&&◌, not, length, drop, find, nat_eq, nat_lt}
use Rattle.std.specs.Prelude.{if◌then◌else◌, ◌==◌, Option}
use Rattle.std.specs.Prelude.{None, option_map, codes}
use Rattle.std.specs.List.{after_last, list_any, starts_with}
use Rattle.std.specs.Str.{is_utf8}
use Rattle.clock_api.specs.Bytes.{same_bytes}
use Rattle.clock_api.specs.declared.routes.Page.{Page}
use Rattle.clock_api.specs.declared.routes.Page.TheVariants.{Status, Products, Account, Bids, Close}
use Rattle.clock_api.specs.declared.routes.Page.TheVariants.{RoundResults, BidderResults, Results}

abbrev pub last_segment : List ℕ → List ℕ
last_segment path = after_last (λ b. b == 47) path

-- the texts of the paths, with their pages; one more segment follows a text that ends with a slash
abbrev pub paths : List (List ℕ × Page)
paths = (codes "/v1/close", Close) ∷ (codes "/v1/me/bids", Bids)
    ∷ (codes "/v1/me/rounds/", BidderResults) ∷ (codes "/v1/me", Account)
    ∷ (codes "/v1/products", Products) ∷ (codes "/v1/results", Results)
    ∷ (codes "/v1/rounds/", RoundResults) ∷ (codes "/v1/status", Status) ∷ []

-- one segment, not empty
abbrev pub is_segment : List ℕ → Bool
is_segment rest = nat_lt 0 (length rest) && not (list_any (λ b. b == 47) rest)

-- the path is this text, or this text and one more segment if it ends with a slash
abbrev pub is_path : List ℕ → List ℕ → Bool
is_path text path = if length (last_segment text) == 0 then starts_with nat_eq path text
    && is_segment (drop (length text) path) else same_bytes text path

-- the page of a path, which must be UTF-8
unfoldable pub page_of : List ℕ → Option Page
page_of path = if is_utf8 path
    then option_map (λ row. row.1) (find (λ row. is_path row.0 path) paths) else None

abbrev pub methods : Page → List (List ℕ)
methods Status = codes "GET" ∷ []
methods Products = codes "GET" ∷ []
methods RoundResults = codes "GET" ∷ []
methods Account = codes "GET" ∷ []
methods Bids = codes "GET" ∷ codes "PUT" ∷ []
methods BidderResults = codes "GET" ∷ []
methods Close = codes "POST" ∷ []
methods Results = codes "GET" ∷ []

abbrev pub has_method : Page → List ℕ → Bool
has_method page method = list_any (λ m. same_bytes m method) (methods page)

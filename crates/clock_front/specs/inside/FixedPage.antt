-- The pages of a front in memory.
--     head_room      how many bytes are left free before a page, for the head of its reply
--     IsWritten value page      a page after this space, or its failed allocation
--     IsProductsPage setup page      the page of products, which a front stores: it never changes
use Rattle.std.specs.Prelude.{ℕ, List, Result, replicate}
use Rattle.serde_json.specs.Data.{Data}
use Rattle.clock_terms.specs.Limits.{SetupFields, public_setup}
use Rattle.clock_views.specs.Values.{IsPage}
use Rattle.clock_views.specs.PublicPages.{products_value}
use Rattle.clock_views.specs.Rooms.{IsHeaded}

-- How many bytes clock_http leaves free before a page, for the head of its reply.
abbrev pub head_room : ℕ
head_room = 256

-- The page with this value was written after space for a head, or its allocation failed.
abbrev pub IsWritten : Data → Result (List ℕ) ℕ → Type 0
IsWritten value page = IsHeaded (replicate head_room 0) value page

-- The page of the set-up's products.
abbrev pub IsProductsPage : SetupFields → List ℕ → Type 0
IsProductsPage setup page = IsPage (products_value (public_setup setup)) page

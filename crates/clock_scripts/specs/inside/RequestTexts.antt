-- Parts of the texts of requests that are played.
--     increments_text increments      the bracket and the member of a closing's increments
use Rattle.std.specs.Prelude.{ℕ, List, ◌++◌, codes, decimal}
use Rattle.serde_json.specs.Written.{compact_text}
use Rattle.clock_terms.specs.declared.increments.Increments.{Increments}
use Rattle.clock_terms.specs.declared.increments.Increments.TheVariants.{Single, PerProduct}
use Rattle.clock_views.specs.Values.{whole, list_of}

-- the bracket and the member of a closing's increments, byte for byte
abbrev pub increments_text : Increments → List ℕ
increments_text (Single increment) = codes "{\"increment\":" ++ decimal increment
increments_text (PerProduct increments) =
    codes "{\"increments\":" ++ compact_text (list_of whole increments)

-- The round results as text: a line for the round, and one for each product. Our own format.
--     sheet_text products sheet      this text
use Rattle.std.specs.Prelude.{ℕ, List, ◌++◌, codes, decimal, zip}
use Rattle.std.specs.List.{flat_map}
use Rattle.clock_device.specs.Decimal.{number_or_dash}
use Rattle.clock_terms.specs.declared.setup.Product.{Product}
use Rattle.clock_posting.specs.declared.sheet.Line.{Line}
use Rattle.clock_posting.specs.declared.sheet.RoundSheet.{RoundSheet}

-- A product's line: its name, start-of-round price, clock price, posted price, aggregate demand,
-- and next clock price, with a space between them.
abbrev pub line_text : Product → Line → List ℕ
line_text product line = product.name ++ codes " " ++ decimal line.start ++ codes " "
    ++ decimal line.clock ++ codes " " ++ decimal line.posted ++ codes " "
    ++ number_or_dash line.demand ++ codes " " ++ number_or_dash line.next ++ codes "\n"

-- The lines of the products.
abbrev pub lines_text : List Product → List Line → List ℕ
lines_text products lines = flat_map (λ row. line_text row.0 row.1) (zip products lines)

-- The number of the round, then a line for each product.
abbrev pub sheet_text : List Product → RoundSheet → List ℕ
sheet_text products sheet =
    codes "round " ++ decimal sheet.round ++ codes "\n" ++ lines_text products sheet.lines

-- What `prices` and `opening` print for a document, or the document's fault (own formats).
--     read_in read      the set-up that was read, or its fault
--     prices_of increment read      the price lines of a set-up document
--     first_round opening, opening_lines_of read      the lines of round 1 of an opening document
use Rattle.std.specs.Prelude.{ℕ, List, Option, Some, None, Result, Ok, Err}
use Rattle.clock_terms.specs.Limits.{SetupFields}
use Rattle.clock_terms.specs.Prices.{opening_prices}
use Rattle.clock_setup.specs.declared.fault.SetupFault.{SetupFault}
use Rattle.clock_terms.specs.declared.increments.Increments.TheVariants.{Single}
use Rattle.clock_setup.specs.declared.opening.Opening.{Opening}
use Rattle.clock_setup.specs.declared.opening.OpeningFault.{OpeningFault}
use Rattle.clock_posting.specs.Posting.{opening_posted, price_limit_fault, round_sheet}
use Rattle.clock_posting.specs.SheetText.{sheet_text}
use Rattle.clock_console.specs.PriceLines.{price_lines}
use Rattle.clock_console.specs.declared.fault.Fault.{Fault}
use Rattle.clock_console.specs.declared.fault.Fault.TheVariants as fault

-- the set-up that was read, or its fault
abbrev pub read_in : Result SetupFields SetupFault → Result SetupFields Fault
read_in (Ok setup) = Ok setup
read_in (Err inner) = Err (fault.Setup inner)

-- the price lines of the set-up that was read
abbrev pub prices_of : ℕ → Result SetupFields SetupFault → Result (List ℕ) Fault
prices_of increment (Ok setup) = Ok (price_lines increment setup.products)
prices_of increment (Err inner) = Err (fault.Setup inner)

-- the text, unless a product's next clock price would be too high
abbrev pub unless_limited : Option ℕ → List ℕ → Result (List ℕ) Fault
unless_limited None text = Ok text
unless_limited (Some product) text = Err (fault.PriceLimit product)

-- The round results of round 1: opening prices are posted, and one increment is for all products.
abbrev pub first_round : Opening → Result (List ℕ) Fault
first_round opening =
    let products = opening.setup.products in
    let posted = opening_posted products in
    let increments = Single opening.increment in
    unless_limited (price_limit_fault products opening.grid posted increments) (sheet_text products
    (round_sheet 1 products (opening_prices products) opening.grid posted increments))

-- the lines of round 1 of the opening document that was read
abbrev pub opening_lines_of : Result Opening OpeningFault → Result (List ℕ) Fault
opening_lines_of (Ok opening) = first_round opening
opening_lines_of (Err inner) = Err (fault.Opening inner)

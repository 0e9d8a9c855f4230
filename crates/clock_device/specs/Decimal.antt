-- Numbers as lines of text show them (own format).
--     number_or_dash     the number in decimal, or a dash without one
use Rattle.std.specs.Prelude.{ℕ, List, Option, Some, None, codes, decimal}

-- the number in decimal, or a dash without one
abbrev pub number_or_dash : Option ℕ → List ℕ
number_or_dash None = codes "-"
number_or_dash (Some number) = decimal number

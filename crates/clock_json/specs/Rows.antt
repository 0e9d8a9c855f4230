-- Rows of numbers that take two bytes each.
--     shortened number      how a number is written if two bytes may be too few for it
use Rattle.std.specs.Prelude.{ℕ, min}

-- a number, or the largest that two bytes hold where it is above that
abbrev pub shortened : ℕ → ℕ
shortened number = min number 65535

-- How many bytes the pieces of pages are given.
--     room_of_number, room_of_name, room_of_truth      of a value by itself
--     room_of_item, room_of_bid, room_of_product, room_of_line, room_of_result demands      of an
--         item, with the comma before it
--     room_of_array item count      of an array of `count` items
use Rattle.std.specs.Prelude.{ℕ, ◌+◌, ◌*◌}

-- 20 digits
abbrev pub room_of_number : ℕ
room_of_number = 20

-- 32 characters and two quotes
abbrev pub room_of_name : ℕ
room_of_name = 34

-- the word false
abbrev pub room_of_truth : ℕ
room_of_truth = 5

-- a number and the comma before it
abbrev pub room_of_item : ℕ
room_of_item = 21

-- two brackets, and the items, each with the comma before it
abbrev pub room_of_array : ℕ → ℕ → ℕ
room_of_array item count = 2 + item * count

-- three numbers with their keys, in braces, and the comma before them
abbrev pub room_of_bid : ℕ
room_of_bid = 95

-- five numbers and a name with their keys, in braces, and the comma before them
abbrev pub room_of_product : ℕ
room_of_product = 193

-- five numbers and a name with their keys, in braces, and the comma before them
abbrev pub room_of_line : ℕ
room_of_line = 191

-- a number, a name and the array of demands with their keys, in braces, and the comma before them
abbrev pub room_of_result : ℕ → ℕ
room_of_result demands = 93 + room_of_item * demands

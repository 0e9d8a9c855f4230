-- The text of a bid before its quantity.
--     PrefixFields      the product and the price of such a text
--     prefix_text product price      the text, with a comma before it
--     IsPrefix product price text length      an array begins with the text, which has this length
use Rattle.std.specs.Prelude.{◌≡◌, ◌≤◌, ℕ, List, ◌++◌, codes, decimal, take}

-- the product and the price of a bid
pub record PrefixFields : Type 0 where
  pub product : ℕ
  pub price : ℕ

-- a bid before its quantity, with a comma before it
abbrev pub prefix_text : ℕ → ℕ → List ℕ
prefix_text product price = codes ",{\"price\":" ++ (decimal price ++ (codes ",\"product\":"
    ++ (decimal product ++ codes ",\"quantity\":")))

-- an array begins with the text, which has this length
pub record IsPrefix (product price : ℕ) (text : List ℕ) (length : ℕ) : Type 0 where
  pub is : take length text ≡ prefix_text product price
  pub short : length ≤ 73

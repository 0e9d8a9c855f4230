-- What reports are written with.
--     demand_text demand      a demand followed by a space
--     none_held products      the text of `products` demands of 0
--     WriterFields, new_writer      a writer; one that has written nothing
use Rattle.std.specs.Prelude.{ℕ, List, [], ◌++◌, codes, decimal, false, replicate}
use Rattle.std.specs.List.{flat_map}
use Rattle.clock_device.specs.Buffers.{BufferFields}

-- a demand followed by a space
abbrev pub demand_text : ℕ → List ℕ
demand_text demand = decimal demand ++ codes " "

-- the text of `products` demands of 0
abbrev pub none_held : ℕ → List ℕ
none_held products = flat_map demand_text (replicate products 0)

-- a buffer, and the text of a demand of 0 for each product
pub record WriterFields : Type 0 where
  pub buffer : BufferFields
  pub none : List ℕ

-- a writer that has written nothing, for auctions of this number of products
abbrev pub new_writer : ℕ → WriterFields
new_writer products = record {
  buffer = record { waiting = []; has_failed = false };
  none = none_held products;
}

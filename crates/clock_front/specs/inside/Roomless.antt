-- A house without the memory that it has allocated for further rounds.
use Rattle.clock_house.specs.House.{HouseFields}

-- The house with nothing allocated for further rounds. No reply depends on that.
abbrev pub without_room : HouseFields → HouseFields
without_room house =
    record { setup = house.setup; closed = house.closed; sheets = house.sheets; spare = 0 }

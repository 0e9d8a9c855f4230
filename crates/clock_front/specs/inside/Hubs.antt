-- A hub from its parts.
--     hub_of house connections      the hub with this house and these connections
use Rattle.clock_house.specs.House.{HouseFields}
use Rattle.clock_connections.specs.Connections.{ConnectionFields}
use Rattle.clock_front.specs.Hubs.{HubFields}

-- The hub with this house and these connections.
abbrev pub hub_of : HouseFields → ConnectionFields → HubFields
hub_of house connections = record { house = house; connections = connections }

-- ArrivalLaws proves the law.
use Rattle.clock_connections.proofs.ArrivalLaws.{stops_when_decided}
use Rattle.clock_connections.proofs.arrival.law_of_arrivals.Goals as goal

pub returns : goal.returns
returns c = stops_when_decided

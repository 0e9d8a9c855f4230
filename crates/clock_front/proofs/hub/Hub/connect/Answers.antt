-- Proves that all open connections still need more after one more was opened.
use Rattle.clock_connections.proofs.WaitingLaws.{connect_keeps}
use Rattle.clock_front.proofs.hub.Hub.connect.Goals as goal

pub invariant_of-self : goal.invariant_of-self
invariant_of-self g c = connect_keeps c.connect.result c.self.inside.connections c.connect.new.self c.self.invariant
    c.connect.ensures.connected c.connect.ensures.still

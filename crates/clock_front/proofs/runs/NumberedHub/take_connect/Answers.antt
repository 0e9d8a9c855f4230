-- Proves what a connection led to: it was opened, refused, or out of memory.
use Rattle.std.proofs.Common.{subst}
use Rattle.clock_connections.specs.Connections.{IsConnectFault}
use Rattle.clock_front.proofs.NumberedLaws.{connected, not_connected}
use Rattle.clock_front.proofs.runs.NumberedHub.take_connect.Goals as goal

pub returns-in-Ok : goal.returns-in-Ok
returns-in-Ok g c = λ numbered stands.
    let old = c.args.self.now in
    connected c.push.result numbered old.hub c.connect.new.self old.conns c.push.new.self stands c.in-Ok.conn
    c.in-Ok.ensures.connected c.connect.ensures.front c.push.ensures.ok

pub returns-in-Err-Full : goal.returns-in-Err-Full
returns-in-Err-Full g c = λ numbered stands.
    let old = c.args.self.now in
    not_connected c.push-in-Err-Full.result numbered old.hub c.connect.new.self old.conns c.push-in-Err-Full.new.self
    stands (subst (IsConnectFault old.hub.connections) c.in-Err-Full.field-0-is c.in-Err-Full.ensures.fault) c.requires
    c.in-Err-Full.ensures.still c.push-in-Err-Full.ensures.ok

pub returns-in-Err : goal.returns-in-Err
returns-in-Err g c = λ numbered stands. tt

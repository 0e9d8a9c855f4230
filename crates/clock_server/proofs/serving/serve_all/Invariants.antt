use Rattle.std.proofs.Common.{◌≡◌, None, false}
use Rattle.clock_server.proofs.Ends.{HasServed}
use Rattle.clock_server.proofs.serving.serve_all.Given as goal

-- this number of connections was served, none is open, each could be accepted, and no call of the disk has failed
abbrev pub invariant-loop-connection : goal.invariant-loop-connection
invariant-loop-connection g l = record {
  served : HasServed l._connection (g.C.Acceptor.coming l.initial.connections) (g.C.Acceptor.coming l.connections)
      (g.C.Acceptor.closed l.initial.connections) (g.C.Acceptor.closed l.connections)
      (g.K.RequestLog.rounds l.initial.log) (g.K.RequestLog.rounds l.log) (g.K.RequestLog.journal l.initial.log)
      (g.K.RequestLog.journal l.log) l.initial.front l.front;
  unfailed : (g.K.RequestLog.journal l.log).has_failed ≡ false;
  closed : g.C.Acceptor.offer l.connections ≡ None;
  taken : g.C.Acceptor.has_failed l.connections ≡ false;
  setup : l.front.setup ≡ l.initial.front.setup;
}

use Rattle.std.proofs.Common.{◌≡◌, ℕ, [], List, Option, false, ap, refl, sym, rules, ◌∙◌}
use Rattle.clock_front.specs.declared.front.response.Effect.{Effect}
use Rattle.clock_front.specs.declared.front.response.Effect.TheVariants.{Nothing, Sheet, Closing}
use Rattle.clock_journal.specs.Logged.{JournalState}
use Rattle.clock_server.specs.inside.Served.{IsReported}
use Rattle.clock_server.proofs.Closed.{came_and_closed}
use Rattle.clock_server.proofs.Ends.{ends_unlogged, one_more}
use Rattle.clock_server.proofs.Walking.{came_none, grown_none}
use Rattle.clock_server.proofs.Served.{served_none}
use Rattle.clock_server.proofs.serving.serve_all.Goals as goal
use Rattle.clock_server.proofs.serving.serve_all.Goals.{in-Closing, in_default-changed}

-- no round was closed, and none was reported
none_reported : (rounds_old rounds_new : Option (List ℕ)) (changed : Effect)
    → ((round : ℕ) → changed ≡ Closing round → ⊥) → rounds_new ≡ rounds_old → IsReported rounds_old rounds_new changed
none_reported rounds_old rounds_new Nothing none same = same
none_reported rounds_old rounds_new Sheet none same = same
none_reported rounds_old rounds_new (Closing round) none same = absurd (none round refl)

pub loop-connection-init : goal.loop-connection-init
loop-connection-init g c = record {
  served = record {
    exchanges = [];
    closed = grown_none (g.C.Acceptor.closed c.args.connections.now);
    came = came_none (g.C.Acceptor.coming c.args.connections.now);
    counted = refl;
    served =
        served_none (g.K.RequestLog.rounds c.args.log.now) (g.K.RequestLog.journal c.args.log.now) c.args.front.now;
  };
  unfailed = c.requires.unfailed;
  closed = c.requires.closed;
  taken = c.requires.taken;
  setup = refl;
}

pub returns-in_default-served-clause-served : goal.returns-in_default-served-clause-served
returns-in_default-served-clause-served g c =
    let coming = g.C.Acceptor.coming in
    let closed = g.C.Acceptor.closed in
    let journal = g.K.RequestLog.journal in
    let rounds = g.K.RequestLog.rounds in
    let loop = c.loop-connection in
    let shown = came_and_closed _ (g.C.Reader.Source.report c.in-Ok.one.source) (g.C.Reader.Source.report
    c.serve_one-served.new.one.source) (g.C.Writer.Outlet.report c.in-Ok.one.sink) (g.C.Writer.Outlet.report
    c.serve_one-served.new.one.sink) (g.C.Writer.Outlet.logged c.serve_one-served.new.one.sink) _ _ _ _ _ _
    c.in-Ok.ensures.open c.close.ensures.closed c.accept.ensures.closed c.in-Ok.ensures.came c.close.ensures.coming in
    ends_unlogged loop._connection (coming c.args.connections.now) (coming loop.connections) (coming c.close.new.self)
    (closed c.args.connections.now) (closed loop.connections) (closed c.close.new.self) (rounds c.args.log.now)
    (rounds loop.log) (rounds c.serve_one-served.new.log) (journal c.args.log.now) (journal loop.log)
    (journal c.serve_one-served.new.log) c.args.front.now loop.front c.serve_one-served.new.front loop.invariant.setup
    loop.invariant.served _ shown.0 shown.1 (Unit {0}) c.args.count c.loop-connection-test.true (search rules)
    (search rules) c.serve_one-served.ensures.rounds

pub loop-connection-preserved : goal.loop-connection-preserved
loop-connection-preserved g c =
    let coming = g.C.Acceptor.coming in
    let closed = g.C.Acceptor.closed in
    let journal = g.K.RequestLog.journal in
    let rounds = g.K.RequestLog.rounds in
    let loop = c.loop-connection in
    let shown = came_and_closed _ (g.C.Reader.Source.report c.in-Ok.one.source) (g.C.Reader.Source.report
    c.serve_one-served.new.one.source) (g.C.Writer.Outlet.report c.in-Ok.one.sink) (g.C.Writer.Outlet.report
    c.serve_one-served.new.one.sink) (g.C.Writer.Outlet.logged c.serve_one-served.new.one.sink) _ _ _ _ _ _
    c.in-Ok.ensures.open c.close.ensures.closed c.accept.ensures.closed c.in-Ok.ensures.came c.close.ensures.coming in
    let accepted : g.C.Acceptor.has_failed c.close.new.self ≡ false = search rules in
    let setup = c.serve_one-served.ensures.setup ∙ loop.invariant.setup in
    elim c.match-changed.branch [
      | in-Closing w ↦ (let served = rw (sym w.round_closed.ensures.logged) at c.in-Ok-served.ensures.served in
          let reported = rw c.serve_one-served.ensures.rounds at w.round_closed.ensures.rounds in
          rw w.log-is (record {
            served = one_more loop._connection (coming c.args.connections.now) (coming loop.connections)
                (coming c.close.new.self) (closed c.args.connections.now) (closed loop.connections)
                (closed c.close.new.self) (rounds c.args.log.now) (rounds loop.log) (rounds w.round_closed.new.self)
                (journal c.args.log.now) (journal loop.log) (journal w.round_closed.new.self) c.args.front.now
                loop.front c.serve_one-served.new.front loop.invariant.setup loop.invariant.served _ shown.0 shown.1
                c.in-Ok-served.changed served (rw w.in-Closing.is reported);
            unfailed = ap (λ (log : JournalState). log.has_failed) w.round_closed.ensures.logged
                ∙ c.in-Ok-served.ensures.unfailed;
            closed = c.close.ensures.open;
            taken = accepted;
            setup = setup;
          }))
      | in_default-changed w ↦ rw w.log-is (record {
        served = one_more loop._connection (coming c.args.connections.now) (coming loop.connections)
            (coming c.close.new.self) (closed c.args.connections.now) (closed loop.connections)
            (closed c.close.new.self) (rounds c.args.log.now) (rounds loop.log) (rounds c.serve_one-served.new.log)
            (journal c.args.log.now) (journal loop.log) (journal c.serve_one-served.new.log) c.args.front.now loop.front
            c.serve_one-served.new.front loop.invariant.setup loop.invariant.served _ shown.0 shown.1
            c.in-Ok-served.changed c.in-Ok-served.ensures.served (none_reported _ _ c.in-Ok-served.changed
            w.in_default-changed.not-Closing c.serve_one-served.ensures.rounds);
        unfailed = c.in-Ok-served.ensures.unfailed;
        closed = c.close.ensures.open;
        taken = accepted;
        setup = setup;
      })
    ]

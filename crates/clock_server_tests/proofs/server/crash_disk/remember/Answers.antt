use Rattle.clock_server_tests.proofs.Moments.{passes}
use Rattle.clock_server_tests.specs.declared.server.crash_disk.Passed.{Passed}
use Rattle.clock_server_tests.proofs.server.crash_disk.remember.Goals as goal

pub returns : goal.returns
returns g c =
    passes (λ (p : Passed). p.synced.items) (λ (p : Passed). p.written.items) c.args.moments.now.items
    c.push.new.moments.items _ c.args.synced.now c.args.written.now c.push.ensures c.copy.ensures c.copy-2.ensures

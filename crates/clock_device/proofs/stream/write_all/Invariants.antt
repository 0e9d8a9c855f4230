use Rattle.std.proofs.Common.{length, take, ◌-◌, ◌≡◌, ◌≤◌}
use Rattle.clock_device.specs.Streams.{HasWritten}
use Rattle.clock_device.proofs.stream.write_all.Given as goal

-- the bytes so far are written, and no write has failed
abbrev pub invariant-loop-done : goal.invariant-loop-done
invariant-loop-done g l = record {
  within : l.done ≤ length l.bytes;
  written : HasWritten (g.W.Sink.report l.initial.sink).taken (g.W.Sink.report l.sink).taken (take l.done l.bytes);
  unfailed : (g.W.Sink.report l.sink).has_failed ≡ (g.W.Sink.report l.initial.sink).has_failed;
}

abbrev pub decreases-loop-done : goal.decreases-loop-done
decreases-loop-done g l = length l.bytes - l.done

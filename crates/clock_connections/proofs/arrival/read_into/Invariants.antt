use Rattle.std.proofs.Common.{true, ◌≡◌, ◌≤◌, ◌<◌, ◌+◌, false, length}
use Rattle.clock_device.specs.Streams.{HasRead}
use Rattle.clock_http.specs.Framing.{needs_more}
use Rattle.clock_connections.specs.Arrivals.{most_piece}
use Rattle.clock_connections.proofs.arrival.read_into.Given as goal

-- the bytes so far need more; each read gave one of them or was interrupted, and none has failed
abbrev pub invariant-loop-read : goal.invariant-loop-read
invariant-loop-read g l = record {
  room : 0 < length l.piece;
  short : length l.piece ≤ most_piece;
  read : HasRead (g.R.Source.report l.initial.source).left (g.R.Source.report l.source).left l.request;
  needed : needs_more l.request ≡ true;
  counted : (g.R.Source.report l.source).calls ≡ l._read;
  used : l._read ≤ length l.request + (g.R.Source.report l.source).interruptions;
  interrupted : (g.R.Source.report l.source).interruptions ≤ l._read;
  unfailed : (g.R.Source.report l.source).has_failed ≡ false;
}

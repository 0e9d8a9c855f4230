use Rattle.std.proofs.Common.{◌≡◌, ◌≤◌, ◌<◌, ◌+◌, false, length, vec_len}
use Rattle.clock_device.specs.Streams.{HasRead}
use Rattle.clock_console.specs.Input.{most_bytes}
use Rattle.clock_console.proofs.input.read_all.Given as goal

-- the document so far was read; each read gave one of its bytes or was interrupted, and none has failed
abbrev pub invariant-loop-call : goal.invariant-loop-call
invariant-loop-call g l = record {
  room : 0 < vec_len l.piece;
  few : length l.document ≤ most_bytes;
  read : HasRead (g.R.Source.report l.initial.reader).left (g.R.Source.report l.reader).left l.document;
  counted : (g.R.Source.report l.reader).calls ≡ l._call;
  used : l._call ≤ length l.document + (g.R.Source.report l.reader).interruptions;
  interrupted : (g.R.Source.report l.reader).interruptions ≤ l._call;
  unfailed : (g.R.Source.report l.reader).has_failed ≡ false;
}

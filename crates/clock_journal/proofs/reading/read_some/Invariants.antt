use Rattle.std.proofs.Common.{◌≤◌, ◌+◌, min}
use Rattle.std.specs.Io.KnownBytes.{Keeps}
use Rattle.clock_journal.specs.Sources.{most_counted}
use Rattle.clock_journal.proofs.reading.read_some.Given as goal

-- each read so far was interrupted, and the source still has all bytes
abbrev pub invariant-loop-call : goal.invariant-loop-call
invariant-loop-call g l = record {
  kept : Keeps (g.S.Source.report l.initial.source).left (g.S.Source.report l.source).left;
  counted : min ((g.S.Source.report l.initial.source).interruptions + l._call) most_counted
      ≤ (g.S.Source.report l.source).interruptions;
}

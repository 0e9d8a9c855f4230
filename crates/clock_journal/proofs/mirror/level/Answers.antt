use Rattle.std.proofs.Common.{◌≡◌, ◌-◌, arith, drop, length, refl, take}
use Rattle.std.specs.Prelude.{min}
use Rattle.std.proofs.lemmas.List.{length-take-le}
use Rattle.clock_journal.specs.Mirrors.{longer, state_of}
use Rattle.clock_journal.proofs.Leveled.{AreCompared, alike, compared, not_level, runs, slice_is, stays, whole}
use Rattle.clock_journal.proofs.mirror.level.Given.{Over}
use Rattle.clock_journal.proofs.mirror.level.Goals.{After-min-common}
use Rattle.clock_journal.proofs.mirror.level.Goals as goal

pub returns-in-Err-clause-bytes : goal.returns-in-Err-clause-bytes
returns-in-Err-clause-bytes g c =
    let found = not_level (g.S.Source.report c.args.one.now).left (g.T.Source.report c.args.other.now).left
    (c.args.first.now ≡ c.args.first.now) (c.args.second.now ≡ c.args.second.now) c.in-Err.fault
    c.in-Err.ensures.err refl refl in
    let all = longer found.0.one found.0.other in (
      found.0,
      tt,
      found.1,
      stays (state_of g.A.Durable c.args.first.now) found.0.one all,
      stays (state_of g.B.Durable c.args.second.now) found.0.other all,
    )

-- the files were compared, and each disk lacks the slice that is appended to it, and what follows
files : (g : Over) (c : After-min-common g) → AreCompared (g.S.Source.report c.args.one.now).left
    (g.S.Source.report c.compare.new.one).left (g.T.Source.report c.args.other.now).left
    (g.T.Source.report c.compare.new.other).left (g.A.Durable.written c.args.first.now)
    (g.B.Durable.written c.args.second.now)
    (take (c.in-Ok.counts.there - c.min-common.result) (drop c.min-common.result c.compare.new.there))
    (take (c.in-Ok.counts.here - c.min-common.result) (drop c.min-common.result c.compare.new.here))
files g c =
    let counts = c.in-Ok.counts in
    let common = c.min-common.result in
    let here = take counts.here c.compare.new.here in
    let there = take counts.there c.compare.new.there in
    let size = length-take-le counts.here c.compare.new.here c.in-Ok.ensures.within.0 in
    let others_size = length-take-le counts.there c.compare.new.there c.in-Ok.ensures.within.1 in
    let same : common ≡ min (length here) (length there) = omega (arith, size, others_size, c.min-common.ensures) in
    compared _ _ _ _ here there c.in-Ok.ensures.ok _ _ c.requires.bytes _ _
    (slice_is c.compare.new.there counts.there common (min (length here) (length there))
    (omega (arith, c.min-common.ensures)) same)
    (slice_is c.compare.new.here counts.here common (min (length here) (length there))
    (omega (arith, c.min-common.ensures)) same)

pub returns-in_default-clause-bytes : goal.returns-in_default-clause-bytes
returns-in_default-clause-bytes g c =
    let found = files g (goal.at.returns-in_default-clause-bytes g c).After-min-common in (
      found.bytes,
      tt,
      tt,
      runs found.first_lacks (state_of g.A.Durable c.args.first.now) (state_of g.A.Durable c.extend.new.disk) refl
          c.extend.ensures.moments,
      stays (state_of g.B.Durable c.args.second.now) found.bytes.other (longer found.bytes.one found.bytes.other),
    )

pub returns-in_default-extend-clause-bytes : goal.returns-in_default-extend-clause-bytes
returns-in_default-extend-clause-bytes g c =
    let found = files g (goal.at.returns-in_default-extend-clause-bytes g c).After-min-common in (
      found.bytes,
      tt,
      tt,
      runs found.first_lacks (state_of g.A.Durable c.args.first.now) (state_of g.A.Durable c.extend.new.disk) refl
          c.extend.ensures.moments,
      runs found.second_lacks (state_of g.B.Durable c.args.second.now) (state_of g.B.Durable c.extend-2.new.disk) refl
          c.extend-2.ensures.moments,
    )

pub returns-clause-alike : goal.returns-clause-alike
returns-clause-alike g c =
    alike (files g (goal.at.returns-clause-alike g c).After-min-common) (state_of g.A.Durable c.extend.new.disk)
    (state_of g.B.Durable c.extend-2.new.disk) c.in-Ok-extend.ensures.ok c.in-Ok-extend-2.ensures.ok
    c.extend.ensures.unseen c.extend-2.ensures.unseen c.in-Ok-extend.ensures.synced c.in-Ok-extend-2.ensures.synced

pub returns-clause-bytes : goal.returns-clause-bytes
returns-clause-bytes g c =
    let found = files g (goal.at.returns-clause-bytes g c).After-min-common in (
      found.bytes,
      (found.front, whole found.first_lacks _ c.in-Ok-extend.ensures.ok),
      tt,
      runs found.first_lacks (state_of g.A.Durable c.args.first.now) (state_of g.A.Durable c.extend.new.disk) refl
          c.extend.ensures.moments,
      runs found.second_lacks (state_of g.B.Durable c.args.second.now) (state_of g.B.Durable c.extend-2.new.disk) refl
          c.extend-2.ensures.moments,
    )

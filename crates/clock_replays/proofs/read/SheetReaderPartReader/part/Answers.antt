-- A `null` shortens the rest of the text.
use Rattle.std.proofs.Common.{◌≡◌, subst}
use Rattle.std.specs.Bool.{MatchBool}
use Rattle.serde_json.specs.Data.{null}
use Rattle.clock_json.specs.Reading.{ReadsValue}
use Rattle.clock_json.proofs.Steps.{reads_shorter}
use Rattle.clock_replays.proofs.read.SheetReaderPartReader.part.Goals as goal

pub returns-then-null-clause-shorter : goal.returns-then-null-clause-shorter
returns-then-null-clause-shorter c =
    let old = c.args.scan.now in
    let new = c.null.new.self in
    reads_shorter 0 old null new
    (subst (λ passed. MatchBool passed (ReadsValue 0 old null new) (new ≡ old)) c.if-null.true c.null.ensures)

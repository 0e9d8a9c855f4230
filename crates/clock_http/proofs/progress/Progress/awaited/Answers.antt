-- A text shorter than head and body still waits.
use Rattle.std.proofs.Common.{◌<◌, ◌+◌, take, length, sym, ◌∙◌, ap, subst, arith}
use Rattle.clock_http.specs.Shown.{shown_progress, IsProgressWithin}
use Rattle.clock_http.specs.inside.Followed.{Waits}
use Rattle.clock_http.proofs.ProgressLaws.{still_waiting}
use Rattle.clock_http.proofs.progress.Progress.awaited.Goals as goal

pub returns-in-Waiting : goal.returns-in-Waiting
returns-in-Waiting c = λ text knows below.
    let front = take knows.0 text in
    let in_front = subst (IsProgressWithin (length front)) c.in-Waiting.is knows.1.within in
    let head = c.in-Waiting.head in
    let less : length text < head.length + head.body = omega (arith, c.saturating_add.ensures) in
    subst (Waits text) (sym c.in-Waiting.is)
    (still_waiting text knows.0 head (ap (shown_progress front) (sym c.in-Waiting.is) ∙ knows.1.is) in_front less)

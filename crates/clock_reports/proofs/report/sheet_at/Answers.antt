-- The house numbers its rounds from 1, and the closed rounds are in reverse order.
use Rattle.std.proofs.Common.{Bor, Option, sym, ap, ◌∙◌}
use Rattle.std.specs.Prelude.{option_copied}
use Rattle.clock_posting.specs.declared.sheet.RoundSheet.{RoundSheet}
use Rattle.clock_reports.proofs.RoundLaws.{reported_sheet}
use Rattle.clock_reports.proofs.report.sheet_at.Goals as goal

pub returns-clause-is : goal.returns-clause-is
returns-clause-is g c =
    sym (reported_sheet c.args.house.now.closed c.args.round) ∙ sym c.sheet.ensures.found
    ∙ ap (λ (found : Option (Bor RoundSheet)). option_copied found) c.unwrap.ensures

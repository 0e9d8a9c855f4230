use Rattle.std.proofs.Common.{◌≡◌, ◌+◌, ◌-◌, ◌*◌, ◌≤◌, min, drop, length}
use Rattle.clock_reports.specs.ReportText.{payment}
use Rattle.clock_reports.proofs.report_lines.payment.Given as goal

-- the price so far plus the price of the rest is the price of all; the sum so far is bounded
abbrev pub invariant-held : goal.invariant-held
invariant-held l =
    let from = min l.held.from (length l.demands) in record {
      row : l.held.demands ≡ l.demands;
      so_far : l.total + payment (drop from l.lines) (drop from l.demands) ≡ payment l.lines l.demands;
      small : l.total ≤ 1000000000000000 * l.held.from;
    }

abbrev pub decreases-held : goal.decreases-held
decreases-held l = length l.demands - l.held.from

use Rattle.std.proofs.Common.{◌≡◌, ◌-◌, ◌++◌}
use Rattle.clock_reports.specs.Writers.{none_held}
use Rattle.clock_reports.proofs.report_lines.none_held_text.Given as goal

-- the text so far, followed by that of the products left, is the whole
abbrev pub invariant-loop-product : goal.invariant-loop-product
invariant-loop-product l = l.text ++ none_held (l.products - l._product) ≡ none_held l.products

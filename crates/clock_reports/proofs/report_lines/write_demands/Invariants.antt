use Rattle.std.proofs.Common.{◌≡◌, ◌≤◌, ◌-◌, drop, flat_map, length}
use Rattle.std.specs.List.{AllWithin}
use Rattle.clock_device.specs.Buffers.{output}
use Rattle.clock_device.specs.inside.Ways.{IsOnWay}
use Rattle.clock_reports.specs.Writers.{demand_text}
use Rattle.clock_reports.proofs.report_lines.write_demands.Given as goal

-- the text of the demands from `from` on is left
abbrev pub invariant-held : goal.invariant-held
invariant-held g l = record {
  row : l.held.demands ≡ l.demands;
  order : l.from ≤ l.held.from;
  within : l.from ≤ length l.demands;
  passed : AllWithin (λ demand. demand ≡ 0) l.demands l.from l.held.from;
  way : IsOnWay (output (g.W.Sink.report l.initial.sink) l.initial.buffer)
      (output (g.W.Sink.report l.sink) l.buffer) (flat_map demand_text (drop l.from l.demands))
      (flat_map demand_text l.demands);
}

abbrev pub decreases-held : goal.decreases-held
decreases-held g l = length l.demands - l.held.from

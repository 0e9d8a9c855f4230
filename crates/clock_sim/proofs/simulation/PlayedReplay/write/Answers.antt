-- The text is that of the report of the hub's house.
use Rattle.std.proofs.Common.{List, ℕ, ap, subst, sym, ◌∙◌}
use Rattle.clock_device.specs.Streams.{WritesText}
use Rattle.clock_house.specs.House.{HouseFields}
use Rattle.clock_reports.specs.{FinalReport.{report_of}, ReportText.{report_text}}
use Rattle.clock_sim.proofs.simulation.PlayedReplay.write.Goals as goal

pub returns-clause-bytes : goal.returns-clause-bytes
returns-clause-bytes g c =
    let same = c.house.ensures ∙ c.front.ensures in
    let text = ap (λ (house : HouseFields). report_text (report_of house.setup house.closed)) same ∙ c.self.view_is in
    subst (λ (text : List ℕ). WritesText (g.W.Sink.report c.args.sink.now).taken
    (g.W.Sink.report c.write-written.new.sink).taken text c.write-written.result) text c.write-written.ensures.bytes

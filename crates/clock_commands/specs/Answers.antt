-- What a job prints for a document, or the document's fault (own formats).
--     answer_to job document     the answer
use Rattle.std.specs.Prelude.{ℕ, List, Result, Ok, Err}
use Rattle.clock_setup.specs.SetupDocument.{document_setup}
use Rattle.clock_setup.specs.OpeningDocument.{document_opening}
use Rattle.clock_replays.specs.ReplayDocument.{document_replay}
use Rattle.clock_replays.specs.Replays.{ReplayFields}
use Rattle.clock_reports.specs.Reports.{ReportFields}
use Rattle.clock_sim.specs.Rehearsal.{simulated}
use Rattle.clock_reports.specs.ReportText.{report_text}
use Rattle.clock_replays.specs.declared.replay.ScriptFault.{ScriptFault}
use Rattle.clock_scripts.specs.declared.fault.SimFault.{SimFault}
use Rattle.clock_console.specs.Prices.{opening_lines_of, prices_of}
use Rattle.clock_console.specs.declared.words.Job.{Job}
use Rattle.clock_console.specs.declared.words.Job.TheVariants as job
use Rattle.clock_console.specs.declared.fault.Fault.{Fault}
use Rattle.clock_console.specs.declared.fault.Fault.TheVariants as fault

-- the text of the report, or the fault of the rehearsal
abbrev pub played : Result ReportFields SimFault → Result (List ℕ) Fault
played (Ok report) = Ok (report_text report)
played (Err inner) = Err (fault.Simulation inner)

-- the report of the replay that was read
abbrev pub replay_lines_of : Result ReplayFields ScriptFault → Result (List ℕ) Fault
replay_lines_of (Ok replay) = played (simulated replay)
replay_lines_of (Err inner) = Err (fault.Script inner)

-- the job's answer to the document
abbrev pub answer_to : Job → List ℕ → Result (List ℕ) Fault
answer_to (job.Prices increment) document = prices_of increment (document_setup document)
answer_to job.Opening document = opening_lines_of (document_opening document)
answer_to job.Replay document = replay_lines_of (document_replay document)

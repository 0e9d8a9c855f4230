-- Each exit status is that of one of the endings.
use Rattle.std.proofs.Common.{◌≡◌, Some, None, refl, rules}
use Rattle.clock_console.specs.Words.{job_of}
use Rattle.clock_commands.specs.Run.{printed, stopped}
use Rattle.clock_console.specs.declared.fault.Fault.TheVariants as fault
use Rattle.clock_console.proofs.Reading.{unread_for_memory}
use Rattle.clock_commands.proofs.RunEndings.{refused_run, stopped_run, untouched}
use Rattle.clock_commands.proofs.run.parsed_command.Goals as goal

pub returns-in-Ok-run-clause-ending : goal.returns-in-Ok-run-clause-ending
returns-in-Ok-run-clause-ending g c words parsing =
    let asked : job_of words ≡ Some c.in-Ok-Some-Job.job = search (rules, parsing) in
    (printed, refl, ((c.in-Ok-Some-Job.job, asked, c.in-Ok-run.ensures.run), untouched _ c.requires.unshown))

pub returns-in-Some-clause-ending : goal.returns-in-Some-clause-ending
returns-in-Some-clause-ending g c words parsing =
    let none : job_of words ≡ None = search (rules, parsing) in
    refused_run (job_of words) none _ c.requires.unread _ c.requires.unwritten _ c.show_message-in-Some.ensures

pub returns-in-Err-run-clause-ending : goal.returns-in-Err-run-clause-ending
returns-in-Err-run-clause-ending g c words parsing =
    let asked : job_of words ≡ Some c.in-Ok-Some-Job.job = search (rules, parsing) in
    stopped_run (job_of words) c.in-Ok-Some-Job.job asked _ _ _ c.in-Err-run.fault c.in-Err-run.ensures.run
    c.show_fault.ensures

pub returns-in-None-clause-ending : goal.returns-in-None-clause-ending
returns-in-None-clause-ending g c words parsing = (
  stopped fault.Memory,
  refl,
  (unread_for_memory _ c.requires.unread, untouched _ c.requires.unwritten, c.show_fault-in-None.ensures),
)

-- One run of a command: what it read and wrote, what it wrote to the stream for faults, and its
-- exit status.
--     IsRunOf job reading output result     how the run of a job ends
--     HasEnding job reading output shown ending     how a run ends, if its arguments ask for that
--         job or none
--     ComesTo job reading output shown status     a run with this exit status ends so
use Rattle.std.specs.Prelude.{◌≡◌, ◌≤◌, ◌⊎◌, ℕ, List, Option, Some, None, Result, Ok, Err, false}
use Rattle.std.specs.Prelude.{length}
use Rattle.std.specs.Io.KnownBytes.{Keeps}
use Rattle.clock_device.specs.Reports.{Reading, Writing}
use Rattle.clock_device.specs.Writings.{WritesFront, WritesNothing, WritesWhole}
use Rattle.clock_console.specs.Input.{IsReadingOf, ReadsWhole}
use Rattle.clock_commands.specs.Answers.{answer_to}
use Rattle.clock_console.specs.FaultLines.{fault_line}
use Rattle.clock_console.specs.declared.words.Job.{Job}
use Rattle.clock_console.specs.declared.fault.Fault.{Fault}
use Rattle.clock_console.specs.declared.fault.Fault.TheVariants as fault

-- the whole input is a document, and this is the job's answer to it
abbrev pub HasAnswer : Job → Reading → Result (List ℕ) Fault → Type 0
HasAnswer job reading answer =
    (document : List ℕ) × ReadsWhole reading document × (answer_to job document ≡ answer)

-- The whole answer is printed. Or there is a fault, the first: of reading or of the document, with
-- nothing printed; or of writing. `Memory` may replace any fault but those of reading and writing.
abbrev pub IsRunOf : {U : Type 0} → Job → Reading → Writing → Result U Fault → Type 0
IsRunOf job reading output (Ok done) =
    (text : List ℕ) × HasAnswer job reading (Ok text) × WritesWhole output text
IsRunOf job reading output (Err fault.Output) =
    (text : List ℕ) × HasAnswer job reading (Ok text) × WritesFront output text
IsRunOf job reading output (Err fault.Input) =
    IsReadingOf reading (Err fault.Input) × WritesNothing output
IsRunOf job reading output (Err fault.LongInput) =
    IsReadingOf reading (Err fault.LongInput) × WritesNothing output
IsRunOf job reading output (Err fault.Memory) =
    IsReadingOf reading (Err fault.Memory) × WritesNothing output
IsRunOf job reading output (Err of_document) =
    HasAnswer job reading (Err of_document) × WritesNothing output

-- how a run can end: its answer is printed, it has a fault, or its arguments are refused
pub data RunEnding : Type 0 where
  printed : RunEnding
  stopped : Fault → RunEnding
  refused : RunEnding

-- the exit status
abbrev pub exit_status : RunEnding → ℕ
exit_status printed = 0
exit_status (stopped cause) = 1
exit_status refused = 2

-- the text was written to the stream for faults, or a prefix of it if a write failed
abbrev pub Shows : Writing → List ℕ → Type 0
Shows shown text = WritesWhole shown text ⊎ WritesFront shown text

-- so was some text that is not empty
abbrev pub ShowsSome : Writing → Type 0
ShowsSome shown = (text : List ℕ) × (1 ≤ length text) × Shows shown text

-- no read was made: the bytes that the source reports are unchanged
pub record MakesNoRead (reading : Reading) : Type 0 where
  pub bytes : Keeps reading.before.left reading.after.left
  pub none : reading.after.calls ≡ 0
  pub unfailed : reading.after.has_failed ≡ false

-- the arguments ask for a job, whose run ends so
abbrev pub RunsJob : {U : Type 0} → Option Job → Reading → Writing → Result U Fault → Type 0
RunsJob asked reading output result =
    (job : Job) × (asked ≡ Some job) × IsRunOf job reading output result

-- A printed answer comes without a fault line, and a fault with its line. Words that ask for no job
-- are refused with a message, and nothing is read. `Memory` can come before the words are known.
abbrev pub HasEnding : Option Job → Reading → Writing → Writing → RunEnding → Type 0
HasEnding asked reading output shown printed =
    RunsJob {U = Unit {0}} asked reading output (Ok tt) × WritesNothing shown
HasEnding asked reading output shown (stopped fault.Memory) = IsReadingOf reading (Err fault.Memory)
    × WritesNothing output × Shows shown (fault_line fault.Memory)
HasEnding asked reading output shown (stopped cause) =
    RunsJob {U = Unit {0}} asked reading output (Err cause) × Shows shown (fault_line cause)
HasEnding asked reading output shown refused =
    (asked ≡ None) × MakesNoRead reading × WritesNothing output × ShowsSome shown

-- the run ends in one of these ways, and its exit status says which
abbrev pub ComesTo : Option Job → Reading → Writing → Writing → ℕ → Type 0
ComesTo asked reading output shown status = (ending : RunEnding) × (status ≡ exit_status ending)
    × HasEnding asked reading output shown ending

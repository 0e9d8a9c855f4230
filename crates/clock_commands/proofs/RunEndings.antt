-- Each way in which a run can stop is one of the endings. By cases on the fault.
use Rattle.std.proofs.Common.{◌≡◌, Option, Some, None, Err, refl}
use Rattle.clock_device.specs.Reports.{IsUnread, IsUnused, Reading, SinkReport, SourceReport, Writing}
use Rattle.clock_device.specs.Writings.{WritesNothing}
use Rattle.clock_console.specs.Input.{IsReadingOf}
use Rattle.clock_commands.specs.Run.{ComesTo, IsRunOf, Shows, ShowsSome, refused, stopped}
use Rattle.clock_console.specs.FaultLines.{fault_line}
use Rattle.clock_console.specs.declared.words.Job.{Job}
use Rattle.clock_console.specs.declared.fault.Fault.{Fault}
use Rattle.clock_console.specs.declared.fault.Fault.TheVariants as fault
use Rattle.clock_device.proofs.Streams.{same_bytes}

-- a sink without a call is unchanged
pub untouched : (report : SinkReport) → IsUnused report → WritesNothing (record { before = report; after = report })
untouched report unused = record { unused = unused; bytes = same_bytes report.taken }

-- reading failed, and nothing was printed
pub read_failed : (job : Job) (reading : Reading) (sink : SinkReport) (cause : Fault) → IsUnused sink
    → IsReadingOf reading (Err cause)
    → IsRunOf {U = Unit {0}} job reading (record { before = sink; after = sink }) (Err cause)
read_failed job reading sink fault.Input unused is = (is, untouched sink unused)
read_failed job reading sink fault.LongInput unused is = (is, untouched sink unused)
read_failed job reading sink fault.Memory unused is = (is, untouched sink unused)
read_failed job reading sink other unused is = absurd is

-- words that ask for no job are refused, and nothing is read
pub refused_run : (asked : Option Job) → asked ≡ None → (source : SourceReport) → IsUnread source → (sink : SinkReport)
    → IsUnused sink → (shown : Writing) → ShowsSome shown → ComesTo asked (record { before = source; after = source })
    (record { before = sink; after = sink }) shown 2
refused_run asked none source unread sink unused shown message = (
  refused,
  refl,
  (
    none,
    record { bytes = same_bytes source.left; none = unread.uncounted; unfailed = unread.unfailed },
    untouched sink unused,
    message,
  ),
)

module _ (asked : Option Job) (job : Job) (asks : asked ≡ Some job) (reading : Reading) (output shown : Writing) where
  pub stopped_run : (cause : Fault) → IsRunOf {U = Unit {0}} job reading output (Err cause)
      → Shows shown (fault_line cause) → ComesTo asked reading output shown 1
  stopped_run fault.Memory run line = (stopped fault.Memory, refl, (run.0, run.1, line))
  stopped_run other run line = (stopped other, refl, ((job, asks, run), line))

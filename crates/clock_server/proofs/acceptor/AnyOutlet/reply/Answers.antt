-- All of a reply was written, or a prefix of it if a write failed.
use Rattle.std.proofs.Common.{◌≡◌, ◌≤◌, ◌||◌, List, ℕ, Result, Ok, Err, None, true, false, is_err, length}
use Rattle.std.proofs.Common.{refl, sym, ◌∙◌, arith, subst, true≢false}
use Rattle.std.specs.Prelude.{OnErr}
use Rattle.std.proofs.Math.Seq.{take-length}
use Rattle.clock_device.specs.Reports.{Writing}
use Rattle.clock_device.specs.Streams.{HasWritten, WritesText}
use Rattle.clock_journal.specs.Logged.{JournalState}
use Rattle.clock_server.specs.Exchanges.{Sends}
use Rattle.clock_server.proofs.acceptor.AnyOutlet.reply.Goals as goal

sends : {U E : Type 0} (writing : Writing) (reply : List ℕ) (journal : JournalState) (result : Result U E)
    → WritesText writing.before.taken writing.after.taken reply result → OnErr result (1 ≤ length reply)
    → writing.before.has_failed ≡ false → writing.after.has_failed ≡ (writing.before.has_failed || is_err result)
    → Sends writing None reply journal
sends writing reply journal (Ok done) bytes tried fresh failed =
    let unfailed : writing.after.has_failed ≡ false = failed ∙ rw fresh refl in
    record {
      count = length reply;
      bytes = subst (HasWritten writing.before.taken writing.after.taken) (sym (take-length reply)) bytes;
      whole = λ is. omega arith;
      tried = λ is. absurd (true≢false (sym is ∙ unfailed));
      over = tt;
    }
sends writing reply journal (Err fault) bytes tried fresh failed =
    let has : writing.after.has_failed ≡ true = failed ∙ rw fresh refl in
    record {
      count = bytes.0;
      bytes = bytes.1;
      whole = λ is. absurd (true≢false (sym has ∙ is));
      tried = λ is. tried;
      over = tt;
    }

pub returns : goal.returns
returns g c = sends _ c.args.bytes.now (g.K.RequestLog.journal c.args._log.now) c.write_all-fault.result
    c.write_all-fault.ensures.bytes c.write_all-fault.ensures.tried c.requires.unfailed c.write_all-fault.ensures.failed

-- The parts are written in order. If one fails, a prefix of the line was written.
use Rattle.std.proofs.Common.{◌≡◌, ◌++◌, List, ℕ, codes, ap, sym, ◌∙◌}
use Rattle.clock_console.specs.FaultLines.{fault_words}
use Rattle.clock_console.specs.inside.Lines.{spaced_number, spaced_code}
use Rattle.clock_device.proofs.Streams.{both_written, first_failed}
use Rattle.clock_console.proofs.Lines.{line_of_words}
use Rattle.clock_console.specs.inside.Lines.{text_of_words}
use Rattle.clock_console.specs.declared.fault.Fault.{Fault}
use Rattle.clock_console.specs.declared.fault.Words.{Words}
use Rattle.clock_console.proofs.fault.write_fault.Goals as goal

-- the line after its first word, part by part
parts : (fault : Fault) (words : Words) → text_of_words words ≡ fault_words fault → fault_words fault ++ codes "\n"
    ≡ words.0.now ++ (spaced_number words.1 ++ (spaced_number words.2 ++ (spaced_code words.3 ++ codes "\n")))
parts fault words is = ap (λ (text : List ℕ). text ++ codes "\n") (sym is) ∙ line_of_words words (codes "\n")

pub returns-in_err-write_all-clause-bytes : goal.returns-in_err-write_all-clause-bytes
returns-in_err-write_all-clause-bytes g c = first_failed _ _ _ (codes "fault: ")
    (fault_words c.args.fault ++ codes "\n") _ c.from_residual.ensures.1 c.in_err-write_all.ensures.bytes

pub returns-in_err-write_all-2-clause-bytes : goal.returns-in_err-write_all-2-clause-bytes
returns-in_err-write_all-2-clause-bytes g c = rw (parts c.args.fault c.words_of-words.result c.words_of-words.ensures)
    (both_written _ _ _ _ _ _ c.in_ok-write_all.ensures.bytes (first_failed _ _ _ _ _ _
    c.from_residual-in_err-write_all-2.ensures.1 (rw c.as_bytes.ensures.value at c.in_err-write_all-2.ensures.bytes)))

pub returns-in_err-write_spaced_number-clause-bytes : goal.returns-in_err-write_spaced_number-clause-bytes
returns-in_err-write_spaced_number-clause-bytes g c = rw (parts c.args.fault c.words_of-words.result
    c.words_of-words.ensures) (both_written _ _ _ _ _ _ c.in_ok-write_all.ensures.bytes
    (both_written _ _ _ _ _ _ (rw c.as_bytes.ensures.value at c.in_ok-write_all-2.ensures.bytes) (first_failed _ _ _ _ _
    _ c.from_residual-in_err-write_spaced_number.ensures.1 c.in_err-write_spaced_number.ensures.bytes)))

pub returns-in_err-write_spaced_number-2-clause-bytes : goal.returns-in_err-write_spaced_number-2-clause-bytes
returns-in_err-write_spaced_number-2-clause-bytes g c = rw (parts c.args.fault c.words_of-words.result
    c.words_of-words.ensures) (both_written _ _ _ _ _ _ c.in_ok-write_all.ensures.bytes
    (both_written _ _ _ _ _ _ (rw c.as_bytes.ensures.value at c.in_ok-write_all-2.ensures.bytes)
    (both_written _ _ _ _ _ _ c.in_ok-write_spaced_number.ensures.bytes (first_failed _ _ _ _ _ _
    c.from_residual-in_err-write_spaced_number-2.ensures.1 c.in_err-write_spaced_number-2.ensures.bytes))))

pub returns-in_err-write_spaced_code-clause-bytes : goal.returns-in_err-write_spaced_code-clause-bytes
returns-in_err-write_spaced_code-clause-bytes g c =
    rw (parts c.args.fault c.words_of-words.result c.words_of-words.ensures)
    (both_written _ _ _ _ _ _ c.in_ok-write_all.ensures.bytes
    (both_written _ _ _ _ _ _ (rw c.as_bytes.ensures.value at c.in_ok-write_all-2.ensures.bytes)
    (both_written _ _ _ _ _ _ c.in_ok-write_spaced_number.ensures.bytes
    (both_written _ _ _ _ _ _ c.in_ok-write_spaced_number-2.ensures.bytes
    (first_failed _ _ _ _ _ _ c.from_residual-in_err-write_spaced_code.ensures.1
    c.in_err-write_spaced_code.ensures.bytes)))))

pub returns-clause-bytes : goal.returns-clause-bytes
returns-clause-bytes g c = rw (parts c.args.fault c.words_of-words.result c.words_of-words.ensures)
    (both_written _ _ _ _ _ _ c.in_ok-write_all.ensures.bytes
    (both_written _ _ _ _ _ _ (rw c.as_bytes.ensures.value at c.in_ok-write_all-2.ensures.bytes) (both_written _ _ _ _ _
    _ c.in_ok-write_spaced_number.ensures.bytes (both_written _ _ _ _ _ _ c.in_ok-write_spaced_number-2.ensures.bytes
    (both_written _ _ _ _ _ _ c.in_ok-write_spaced_code.ensures.bytes c.write_all-3.ensures.bytes)))))

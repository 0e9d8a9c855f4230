-- What a source or a sink counts of its calls. Own rule: a count stays at the greatest u64.
--     count_after     a count after one more call
--     interruptions_after     the number of interrupted reads, after one more read
--     is_failed_read     the read has failed
use Rattle.std.specs.Prelude.{ℕ, ◌+◌, ◌-◌, ◌^◌, min, Bool, true, false, Result, Ok, Err}
use Rattle.clock_device.specs.declared.stream.Stop.{Stop}
use Rattle.clock_device.specs.declared.stream.Stop.TheVariants.{Interrupted, Failed}

-- the count after one more call
abbrev pub count_after : ℕ → ℕ
count_after calls = min (calls + 1) (2 ^ 64 - 1)

-- an interrupted read has not failed
abbrev pub is_failure : Stop → Bool
is_failure Interrupted = false
is_failure Failed = true

-- the read has failed
abbrev pub is_failed_read : {N : Type 0} → Result N Stop → Bool
is_failed_read (Ok n) = false
is_failed_read (Err stop) = is_failure stop

-- the number of interrupted reads after a read with this result
abbrev pub interruptions_after : {N : Type 0} → ℕ → Result N Stop → ℕ
interruptions_after interruptions (Err Interrupted) = count_after interruptions
interruptions_after interruptions _ = interruptions

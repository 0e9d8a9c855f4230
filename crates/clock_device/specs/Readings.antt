-- Two ways in which a sequence of reads ends early.
--     HasFailedRead, RunsOutOfReads
use Rattle.std.specs.Prelude.{◌≡◌, ℕ, List, true, false}
use Rattle.clock_device.specs.Reports.{Reading}

-- bytes with this property were read, and then a read failed
abbrev pub HasFailedRead : (List ℕ → Type 0) → Reading → Type 0
HasFailedRead Holds reading = (bytes : List ℕ) × Holds bytes × (reading.after.has_failed ≡ true)

-- bytes with this property were read, no read failed, and the most reads allowed were made
abbrev pub RunsOutOfReads : (List ℕ → Type 0) → ℕ → Reading → Type 0
RunsOutOfReads Holds most reading = (bytes : List ℕ) × Holds bytes × (reading.after.calls ≡ most)
    × (reading.after.has_failed ≡ false)

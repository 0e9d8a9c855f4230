-- A source of bytes in memory.
use Rattle.std.specs.Prelude.{◌==◌, ◌||◌, ℕ, Bool, false, List, length, drop, min, Option, Some}
use Rattle.std.specs.Prelude.{None, Result, Ok, Err, if◌then◌else◌}
use Rattle.clock_device.specs.Calls.{count_after, interruptions_after, is_failed_read}
use Rattle.clock_device.specs.Reports.{SourceReport}
use Rattle.clock_device.specs.declared.stream.Stop.{Stop}

-- the bytes left, the most of one read, the read that stops and how, and the counts
pub record SourceState : Type 0 where
  pub left : List ℕ
  pub piece : ℕ
  pub stop : Option (ℕ × Stop)
  pub calls : ℕ
  pub interruptions : ℕ
  pub has_failed : Bool

-- what it reports
abbrev pub source_report : SourceState → SourceReport
source_report s = record {
  left = Some s.left;
  calls = s.calls;
  interruptions = s.interruptions;
  has_failed = s.has_failed;
}

-- without reads so far
abbrev pub new_source : List ℕ → ℕ → Option (ℕ × Stop) → SourceState
new_source bytes piece stop = record {
  left = bytes;
  piece = piece;
  stop = stop;
  calls = 0;
  interruptions = 0;
  has_failed = false;
}

-- how the read with this index, from 0, stops, if it does
abbrev pub stop_at : Option (ℕ × Stop) → ℕ → Option Stop
stop_at None call = None
stop_at (Some p) call = if p.0 == call then Some p.1 else None

-- the stop, if there is one, otherwise the count
abbrev pub stopped_or : Option Stop → ℕ → Result ℕ Stop
stopped_or (Some stop) count = Err stop
stopped_or None count = Ok count

-- the result of a read into `room` bytes: its stop, or the least of piece, room, and bytes left
abbrev pub read_answer : SourceState → ℕ → Result ℕ Stop
read_answer s room = stopped_or (stop_at s.stop s.calls) (min (min s.piece room) (length s.left))

-- the number of bytes in a result
abbrev pub count_of : Result ℕ Stop → ℕ
count_of (Ok count) = count
count_of (Err stop) = 0

-- the source after a read with this result
abbrev pub after_read : SourceState → Result ℕ Stop → SourceState
after_read s answer = record s {
  left = drop (count_of answer) s.left;
  calls = count_after s.calls;
  interruptions = interruptions_after s.interruptions answer;
  has_failed = s.has_failed || is_failed_read answer;
}

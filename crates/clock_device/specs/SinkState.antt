-- A sink that stores its bytes in memory.
use Rattle.std.specs.Prelude.{◌==◌, ◌-◌, ◌||◌, ◌++◌, ℕ, Bool, false, List, [], length, take, min}
use Rattle.std.specs.Prelude.{Option, Some, None, if◌then◌else◌, is_some, not}
use Rattle.clock_device.specs.Calls.{count_after}
use Rattle.clock_device.specs.Reports.{SinkReport}

-- the bytes written, the most in all, the most of one write, the write that fails, and the counts
pub record SinkState : Type 0 where
  pub taken : List ℕ
  pub room : ℕ
  pub piece : ℕ
  pub stop : Option ℕ
  pub calls : ℕ
  pub has_failed : Bool

-- what it reports
abbrev pub sink_report : SinkState → SinkReport
sink_report s = record { taken = Some s.taken; calls = s.calls; has_failed = s.has_failed }

-- without writes so far
abbrev pub new_sink : ℕ → ℕ → Option ℕ → SinkState
new_sink room piece stop = record {
  taken = [];
  room = room;
  piece = piece;
  stop = stop;
  calls = 0;
  has_failed = false;
}

-- the write with this index, from 0, is the one that fails
abbrev pub is_stop_at : Option ℕ → ℕ → Bool
is_stop_at None call = false
is_stop_at (Some k) call = k == call

-- the count, if it is above 0
abbrev pub some_above_zero : ℕ → Option ℕ
some_above_zero count = if count == 0 then None else Some count

-- how many bytes a write of `offered` bytes writes; None if it fails: at its stop, or if that is 0
abbrev pub write_count : SinkState → ℕ → Option ℕ
write_count s offered = if is_stop_at s.stop s.calls then None
    else some_above_zero (min (min s.piece (s.room - length s.taken)) offered)

-- the number of bytes written, 0 if the write fails
abbrev pub count_or_zero : Option ℕ → ℕ
count_or_zero None = 0
count_or_zero (Some count) = count

-- the sink after a write of these bytes
abbrev pub after_write : SinkState → List ℕ → SinkState
after_write s bytes = let count = write_count s (length bytes) in record s {
  taken = s.taken ++ take (count_or_zero count) bytes;
  calls = count_after s.calls;
  has_failed = s.has_failed || not (is_some count);
}

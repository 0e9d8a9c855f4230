-- How the bytes of a request are read from a source. Own limits: 2,000,000 reads, each of at most
-- 16,384 bytes.
--     IsReadByNeed reading front last      bytes that needed more were read, and then `last`
--     HasArrived reading text      the text was read: it is decided, or the input ended after it
--     IsNotRead reading      no request was read: a read failed, or the limit was reached
--     HasNoMemory reading      memory for the bytes was refused
--     EndsArrival reading result      how reading a request ends
--     StopsWhenDecided      no result is right if a read after the bytes were decided has failed
use Rattle.std.specs.Prelude.{◌≡◌, ◌≤◌, ◌⊎◌, ◌+◌, ◌++◌, ℕ, List, [], length, Option, Some, true}
use Rattle.std.specs.Prelude.{false}
use Rattle.std.specs.Prelude.{Result, Ok, Err}
use Rattle.clock_device.specs.Streams.{HasRead, IsReadOut}
use Rattle.clock_device.specs.Readings.{HasFailedRead, RunsOutOfReads}
use Rattle.clock_device.specs.Reports.{Reading}
use Rattle.clock_http.specs.Framing.{needs_more, IsDecided}
use Rattle.clock_connections.specs.declared.arrival.RequestReadError.{RequestReadError}
use Rattle.clock_connections.specs.declared.arrival.RequestReadError.TheVariants as unread

-- the most reads
abbrev pub most_request_reads : ℕ
most_request_reads = 2000000

-- the most bytes that one read returns
abbrev pub most_piece : ℕ
most_piece = 16384

-- the bytes before the last read needed more, and each earlier read gave one or was interrupted
pub record IsReadByNeed (reading : Reading) (front last : List ℕ) : Type 0 where
  pub read : HasRead reading.before.left reading.after.left (front ++ last)
  pub needed : needs_more front ≡ true
  pub used : reading.after.calls ≤ length front + reading.after.interruptions + 1

-- the text is decided, whatever follows; or the last read found the end of the input
abbrev pub IsLast : Option (List ℕ) → List ℕ → List ℕ → Type 0
IsLast left text last = IsDecided text ⊎ ((last ≡ []) × IsReadOut left)

-- the text was read, its last bytes by the last read
pub record Arrives (reading : Reading) (text front last : List ℕ) : Type 0 where
  pub is : text ≡ front ++ last
  pub by_need : IsReadByNeed reading front last
  pub short : length last ≤ most_piece
  pub ends : IsLast reading.after.left text last
  pub unfailed : reading.after.has_failed ≡ false

-- the text was read: it is decided, or the input ended after it
abbrev pub HasArrived : Reading → List ℕ → Type 0
HasArrived reading text = (front : List ℕ) × (last : List ℕ) × Arrives reading text front last

-- bytes that need more were read, and every read gave one of them or was interrupted
pub record UsesReads (reading : Reading) (text : List ℕ) : Type 0 where
  pub read : HasRead reading.before.left reading.after.left text
  pub needed : needs_more text ≡ true
  pub used : reading.after.calls ≤ length text + reading.after.interruptions

-- bytes that needed more were read, and then a read failed or the limit was reached
abbrev pub IsNotRead : Reading → Type 0
IsNotRead reading = HasFailedRead (λ text. IsReadByNeed reading text []) reading
    ⊎ RunsOutOfReads (UsesReads reading) most_request_reads reading

-- memory was refused: for a first buffer, or for the bytes of the last read
abbrev pub HasNoMemory : Reading → Type 0
HasNoMemory reading = (front : List ℕ) × (last : List ℕ) × IsReadByNeed reading front last
    × (reading.after.has_failed ≡ false)

-- how reading a request ends; interrupted reads are retried
abbrev pub EndsArrival : Reading → Result (List ℕ) RequestReadError → Type 0
EndsArrival reading (Ok text) = HasArrived reading text
EndsArrival reading (Err unread.Read) = IsNotRead reading
EndsArrival reading (Err unread.Memory) = HasNoMemory reading

-- if bytes that are known were decided, and a read has failed since, no result is right; so reading
-- stops when the bytes are decided, because each further read could fail
abbrev pub StopsWhenDecided : Type 0
StopsWhenDecided =
    (reading : Reading) (bytes text : List ℕ) (result : Result (List ℕ) RequestReadError)
    → reading.before.left ≡ Some bytes → HasRead reading.before.left reading.after.left text
    → IsDecided text → reading.after.has_failed ≡ true → EndsArrival reading result → ⊥

-- A text that is collected in a buffer, and written to a sink in pieces.
--     BufferFields, Output      a buffer; a sink with the buffer of what comes next
--     IsPut start now text      this text was put since the sink reported `start`
--     Puts old new bytes      these bytes were put, after any others
--     IsWrittenOut start now text result      writing the text has ended so
use Rattle.std.specs.Prelude.{◌≡◌, ◌++◌, ◌||◌, ℕ, Bool, true, false, List, Result, is_err}
use Rattle.clock_device.specs.Reports.{SinkReport}
use Rattle.clock_device.specs.Streams.{HasWritten, HasWrittenFront, WritesText}

-- the bytes that are not written yet, and whether a write has failed
pub record BufferFields : Type 0 where
  pub waiting : List ℕ
  pub has_failed : Bool

-- what a sink reports, and the buffer
pub record Output : Type 0 where
  pub sink : SinkReport
  pub buffer : BufferFields

abbrev pub output : SinkReport → BufferFields → Output
output sink buffer = record { sink = sink; buffer = buffer }

-- no write has failed: the text was written, but for the bytes that wait
pub record IsCollected (start now : SinkReport) (waiting text : List ℕ) : Type 0 where
  pub written : List ℕ
  pub bytes : HasWritten start.taken now.taken written
  pub whole : written ++ waiting ≡ text
  pub unfailed : now.has_failed ≡ start.has_failed

-- a write has failed: only a prefix of the text was written
pub record IsCut (start now : SinkReport) (text : List ℕ) : Type 0 where
  pub bytes : HasWrittenFront start.taken now.taken text
  pub failed : now.has_failed ≡ true

-- whether a write has failed says which
abbrev pub IsPutIf : Bool → SinkReport → SinkReport → List ℕ → List ℕ → Type 0
IsPutIf false start now waiting text = IsCollected start now waiting text
IsPutIf true start now waiting text = IsCut start now text

-- this text was put since the sink reported `start`
abbrev pub IsPut : SinkReport → Output → List ℕ → Type 0
IsPut start now text = IsPutIf now.buffer.has_failed start now.sink now.buffer.waiting text

-- these bytes were put, after any text before
abbrev pub Puts : Output → Output → List ℕ → Type 0
Puts old new bytes =
    (start : SinkReport) (text : List ℕ) → IsPut start old text → IsPut start new (text ++ bytes)

-- the whole text was written; or a prefix of it, and a write failed
pub record IsWrittenOut {U E : Type 0} (start now : SinkReport) (text : List ℕ)
    (result : Result U E) : Type 0 where
  pub bytes : WritesText start.taken now.taken text result
  pub failed : now.has_failed ≡ (start.has_failed || is_err result)

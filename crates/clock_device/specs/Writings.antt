-- What a sequence of writes has written of a text.
--     WritesWhole, WritesFront     the whole text was written; a write failed, and a prefix was
--     WritesNothing     no write was made
use Rattle.std.specs.Prelude.{◌≡◌, ℕ, List, true, false}
use Rattle.clock_device.specs.Reports.{IsUnused, Writing}
use Rattle.clock_device.specs.Streams.{HasWritten, HasWrittenFront, HasWrittenNothing}

-- the whole text was written
pub record WritesWhole (writing : Writing) (text : List ℕ) : Type 0 where
  pub bytes : HasWritten writing.before.taken writing.after.taken text
  pub unfailed : writing.after.has_failed ≡ false

-- a write failed, and only a prefix of the text was written
pub record WritesFront (writing : Writing) (text : List ℕ) : Type 0 where
  pub bytes : HasWrittenFront writing.before.taken writing.after.taken text
  pub failed : writing.after.has_failed ≡ true

-- no write was made, so nothing was written
pub record WritesNothing (writing : Writing) : Type 0 where
  pub unused : IsUnused writing.after
  pub bytes : HasWrittenNothing writing.before.taken writing.after.taken

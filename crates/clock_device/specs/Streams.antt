-- What was read and written, if a source or a sink reports its bytes. `None` means that it does
-- not; then these definitions say nothing.
--     HasRead, IsReadOut     these bytes were read; no byte is left
--     HasWritten, HasWrittenNothing, HasWrittenFront     these bytes were written, none, or a
--         prefix
--     CountsTaken     how many bytes one write may write
--     WritesText     how writing a text ends
use Rattle.std.specs.Prelude.{◌≤◌, ℕ, List, Option, Result, Ok, Err, IfOk, length, take}
use Rattle.std.specs.Io.KnownBytes.{Appends, Consumes, IsAtEnd, Keeps}

-- these bytes were read: the bytes left began with them, and no longer have them
abbrev pub HasRead : Option (List ℕ) → Option (List ℕ) → List ℕ → Type 0
HasRead old new bytes = Consumes old new bytes

-- no byte is left
abbrev pub IsReadOut : Option (List ℕ) → Type 0
IsReadOut left = IsAtEnd left

-- these bytes were written, after those written before
abbrev pub HasWritten : Option (List ℕ) → Option (List ℕ) → List ℕ → Type 0
HasWritten old new bytes = Appends old new bytes

-- nothing was written
abbrev pub HasWrittenNothing : Option (List ℕ) → Option (List ℕ) → Type 0
HasWrittenNothing old new = Keeps old new

-- a write wrote at least one byte, and no more than there were
abbrev pub CountsTaken : {E : Type 0} → Result ℕ E → List ℕ → Type 0
CountsTaken result bytes = IfOk result (λ n. (1 ≤ n) × (n ≤ length bytes))

-- a prefix of the text was written, and nothing else
abbrev pub HasWrittenFront : Option (List ℕ) → Option (List ℕ) → List ℕ → Type 0
HasWrittenFront old new text = (count : ℕ) × HasWritten old new (take count text)

-- how writing a text ends: all of it was written, or a prefix of it if a write failed
abbrev pub WritesText : {U E : Type 0} → Option (List ℕ) → Option (List ℕ) → List ℕ
    → Result U E → Type 0
WritesText old new text (Ok done) = HasWritten old new text
WritesText old new text (Err failed) = HasWrittenFront old new text

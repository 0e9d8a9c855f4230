-- What is left of a text that is put piece by piece.
--     IsDue start now rest whole      the rest is left of this whole
--     IsOnWay old now rest whole      after any text before, the rest is left of this whole
use Rattle.std.specs.Prelude.{◌≡◌, ◌++◌, ℕ, List}
use Rattle.clock_device.specs.Reports.{SinkReport}
use Rattle.clock_device.specs.Buffers.{IsPut, Output}

-- all but the rest was put since the sink reported `start`
pub record IsDue (start : SinkReport) (now : Output) (rest whole : List ℕ) : Type 0 where
  pub done : List ℕ
  pub put : IsPut start now done
  pub left : done ++ rest ≡ whole

-- after any text before, all but the rest was put
abbrev pub IsOnWay : Output → Output → List ℕ → List ℕ → Type 0
IsOnWay old now rest whole = (start : SinkReport) (text : List ℕ) → IsPut start old text
    → IsDue start now rest (text ++ whole)

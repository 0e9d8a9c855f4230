-- What is known of a text that grows in a buffer with zeros after it.
--     Waits text progress      the progress is what is known of the text, which needs more
--     WaitsBelow limit text progress      so it is for each shorter text than this that begins with
--         the text
--     IsFollowed room count progress next_check      the invariant of `Arriving`
use Rattle.std.specs.Prelude.{◌≡◌, ◌≤◌, ◌<◌, ◌+◌, ◌++◌, ℕ, true, List, take, length}
use Rattle.clock_http.specs.declared.progress.Progress.{Progress}
use Rattle.clock_http.specs.Framing.{needs_more}
use Rattle.clock_http.specs.Shown.{Knows}

-- the progress is what is known of the text, which is neither a whole request nor refused
pub record Waits (text : List ℕ) (progress : Progress) : Type 0 where
  pub knows : Knows text progress
  pub short : needs_more text ≡ true

-- each text of fewer than `limit` bytes that begins with this one waits with this progress
abbrev pub WaitsBelow : ℕ → List ℕ → Progress → Type 0
WaitsBelow limit text progress =
    (more : List ℕ) → length (text ++ more) < limit → Waits (text ++ more) progress

-- The first `count` bytes of the buffer are the text, and the progress is what is known of it. A
-- text of fewer than `next_check` bytes that begins with it fits in the buffer, and waits with this
-- progress.
pub record IsFollowed (room : List ℕ) (count : ℕ) (progress : Progress)
    (next_check : ℕ) : Type 0 where
  pub knows : Knows (take count room) progress
  pub below : WaitsBelow next_check (take count room) progress
  pub fits : count ≤ length room
  pub placed : next_check ≤ length room + 1

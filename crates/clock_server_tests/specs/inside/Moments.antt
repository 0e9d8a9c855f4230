-- The moments of a disk in memory.
--     newest_first shown list past      what is shown of a list, with the newest first, after these
--         moments (the list has the oldest first)
use Rattle.std.specs.Prelude.{List, [], ◌∷◌}
use Rattle.clock_journal.specs.Disks.{Moment}

abbrev pub newest_first : {A : Type 0} → (A → Moment) → List A → List Moment → List Moment
newest_first shown [] past = past
newest_first shown (one ∷ others) past = newest_first shown others (shown one ∷ past)

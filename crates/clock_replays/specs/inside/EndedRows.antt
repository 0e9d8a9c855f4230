-- The indexes at which rows of one list end.
--     AreEnds start ends whole      the indexes never fall, from start on, and whole is the last
use Rattle.std.specs.Prelude.{◌≡◌, ℕ, ◌≤◌, List, [], ◌∷◌}

-- the indexes never fall, from start on, and whole is the last of them
unfoldable pub AreEnds : ℕ → List ℕ → ℕ → Type 0
AreEnds start [] whole = start ≡ whole
AreEnds start (end ∷ ends) whole = (start ≤ end) × AreEnds end ends whole

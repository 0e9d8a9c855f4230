-- Rows in one list, with the index at which each ends: where the row at an index begins and ends, and what one more row
-- adds. By induction over the ends.
use Rattle.std.proofs.Common.{◌≡◌, ℕ, ◌+◌, ◌-◌, ◌<◌, ◌≤◌, zero, suc, List, [], ◌∷◌, ◌++◌, length, take, drop, get_or}
use Rattle.std.proofs.Common.{refl, sym, ap, subst, ◌∙◌, arith}
use Rattle.std.proofs.lemmas.List.{take_all, drop_all, take-append-le, drop-append-le, length-append, length-drop}
use Rattle.clock_replays.specs.EndedRows.{rows_from}
use Rattle.clock_replays.specs.inside.EndedRows.{AreEnds}

-- there is a row for each end
pub length-rows : (start : ℕ) (ends numbers : List ℕ) → length (rows_from start ends numbers) ≡ length ends
unfolding rows_from
length-rows start [] numbers = refl
length-rows start (end ∷ ends) numbers = ap (λ n. suc n) (length-rows end ends numbers)

-- a row begins where the one before it ends, and the first at start
pub row_at : (start : ℕ) (ends numbers : List ℕ) (place : ℕ) → place < length ends
    → get_or (rows_from start ends numbers) place []
    ≡ take (get_or ends place 0 - get_or (start ∷ ends) place 0) (drop (get_or (start ∷ ends) place 0) numbers)
unfolding rows_from
row_at start [] numbers place within = absurd (omega arith)
row_at start (end ∷ ends) numbers zero within = refl
row_at start (end ∷ ends) numbers (suc place) within = row_at end ends numbers place (omega arith)

-- no end is after the last
pub start_within : (start : ℕ) (ends : List ℕ) (whole : ℕ) → AreEnds start ends whole → start ≤ whole
unfolding AreEnds
start_within start [] whole are = omega (arith, are)
start_within start (end ∷ ends) whole are = omega (arith, are.0, start_within end ends whole are.1)

-- a row begins before it ends, and ends within the list
pub end_within : (start : ℕ) (ends : List ℕ) (whole place : ℕ) → AreEnds start ends whole → place < length ends
    → (get_or (start ∷ ends) place 0 ≤ get_or ends place 0) × (get_or ends place 0 ≤ whole)
unfolding AreEnds
end_within start [] whole place are within = absurd (omega arith)
end_within start (end ∷ ends) whole zero are within = (are.0, start_within end ends whole are.1)
end_within start (end ∷ ends) whole (suc place) are within = end_within end ends whole place are.1 (omega arith)

-- one more row leaves those before it unchanged
pub rows_more : (start : ℕ) (ends numbers row : List ℕ) → AreEnds start ends (length numbers)
    → rows_from start (ends ++ length (numbers ++ row) ∷ []) (numbers ++ row) ≡ rows_from start ends numbers ++ row ∷ []
unfolding rows_from AreEnds
rows_more start [] numbers row are =
    let whole : length (numbers ++ row) ≡ length numbers + length row = length-append numbers row in
    let behind : drop start (numbers ++ row) ≡ row = drop-append-le start numbers row (omega (arith, are))
    ∙ ap (λ none. none ++ row) (drop_all start numbers (omega (arith, are))) in
    ap (λ rest. take (length (numbers ++ row) - start) rest ∷ []) behind
    ∙ ap (λ all. all ∷ []) (take_all (length (numbers ++ row) - start) row (omega (arith, whole, are)))
rows_more start (end ∷ ends) numbers row are =
    let within : end ≤ length numbers = start_within end ends (length numbers) are.1 in
    let left : length (drop start numbers) ≡ length numbers - start = length-drop start numbers in
    ap (λ rest. take (end - start) rest ∷ rows_from end (ends ++ length (numbers ++ row) ∷ []) (numbers ++ row))
    (drop-append-le start numbers row (omega (arith, are.0, within)))
    ∙ ap (λ first. first ∷ rows_from end (ends ++ length (numbers ++ row) ∷ []) (numbers ++ row))
    (take-append-le (end - start) (drop start numbers) row (omega (arith, left, within)))
    ∙ ap (λ rows. take (end - start) (drop start numbers) ∷ rows) (rows_more end ends numbers row are.1)

-- one more end may follow, if it is not before the last
pub ends_more : (start : ℕ) (ends : List ℕ) (whole more : ℕ) → AreEnds start ends whole → whole ≤ more
    → AreEnds start (ends ++ more ∷ []) more
unfolding AreEnds
ends_more start [] whole more are above = (omega (arith, are, above), refl)
ends_more start (end ∷ ends) whole more are above = (are.0, ends_more end ends whole more are.1 above)

-- no rows
pub no_rows : (ends numbers : List ℕ) → ends ≡ [] → numbers ≡ []
    → (rows_from 0 ends numbers ≡ []) × AreEnds 0 ends (length numbers)
unfolding rows_from AreEnds
no_rows ends numbers none empty = rw (none, empty) (refl, refl)

-- one more row
pub one_more : (ends numbers row after : List ℕ) (end : ℕ) → AreEnds 0 ends (length numbers) → after ≡ numbers ++ row
    → end ≡ length after → (rows_from 0 (ends ++ end ∷ []) after ≡ rows_from 0 ends numbers ++ row ∷ [])
    × AreEnds 0 (ends ++ end ∷ []) (length after)
one_more ends numbers row after end are is last =
    let whole : length after ≡ length numbers + length row = ap length is ∙ length-append numbers row in
    let ending : end ≡ length (numbers ++ row) = last ∙ ap length is in (
      ap (λ n. rows_from 0 (ends ++ n ∷ []) after) ending ∙ ap (rows_from 0 (ends ++ length (numbers ++ row) ∷ [])) is
          ∙ rows_more 0 ends numbers row are,
      subst (λ n. AreEnds 0 (ends ++ n ∷ []) (length after)) (sym last)
          (ends_more 0 ends (length numbers) (length after) are (omega (arith, whole))),
    )

-- The test of a range passes exactly for the numbers in it.
use Rattle.std.proofs.Common.{◌≡◌, ℕ, ◌&&◌, Bool, true, false, nat_le}
use Rattle.std.proofs.lemmas.Bool.{and_parts, leb-true, le-leb}
use Rattle.clock_terms.specs.Limits.{IsWithin, is_within}

-- if two tests pass, their conjunction passes
pub both_true : (first second : Bool) → first ≡ true → second ≡ true → (first && second) ≡ true
both_true true second h k = k
both_true false second h k = cc

pub within_of_test : (low high n : ℕ) → is_within low high n ≡ true → IsWithin low high n
within_of_test low high n h =
    let both = and_parts (nat_le low n) (nat_le n high) h in
    (leb-true low n both.0, leb-true n high both.1)

pub test_of_within : (low high n : ℕ) → IsWithin low high n → is_within low high n ≡ true
test_of_within low high n h = both_true (nat_le low n) (nat_le n high) (le-leb low n h.0) (le-leb n high h.1)

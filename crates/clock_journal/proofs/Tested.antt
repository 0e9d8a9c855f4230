-- What a test of the code returns, and what its result says.
use Rattle.std.proofs.Common.{◌≡◌, ◌<◌, ◌≤◌, ℕ, true, false, List, bytes_eq, nat_lt, nat_le, ◌==◌, arith}
use Rattle.std.proofs.lemmas.Slice.Eq.{bytes_eq-Decides}

pub same_where : (xs ys : List ℕ) → bytes_eq xs ys ≡ true → xs ≡ ys
same_where xs ys e = grind (arith, bytes_eq-Decides xs ys)

pub bytes_eq_same : (xs ys : List ℕ) → xs ≡ ys → bytes_eq xs ys ≡ true
bytes_eq_same xs ys same = grind (arith, bytes_eq-Decides xs ys)

pub less_where : (a b : ℕ) → nat_lt a b ≡ true → a < b
less_where a b e = grind arith

pub not_less : (a b : ℕ) → nat_lt a b ≡ false → b ≤ a
not_less a b e = grind arith

pub lt_true : (a b : ℕ) → a < b → nat_lt a b ≡ true
lt_true a b l = grind arith

pub lt_false : (a b : ℕ) → b ≤ a → nat_lt a b ≡ false
lt_false a b l = grind arith

pub le_where : (a b : ℕ) → nat_le a b ≡ true → a ≤ b
le_where a b e = grind arith

pub le_true : (a b : ℕ) → a ≤ b → nat_le a b ≡ true
le_true a b l = grind arith

pub eq_where : (a b : ℕ) → (a == b) ≡ true → a ≡ b
eq_where a b e = grind arith

pub eq_false : (a b : ℕ) → b < a → (a == b) ≡ false
eq_false a b l = grind arith

pub above_where : (a b : ℕ) → b ≤ a → (a == b) ≡ false → b < a
above_where a b l e = grind arith

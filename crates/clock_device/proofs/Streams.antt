-- Reads and writes one after the other: what they read or write together is the bytes of each, joined. A prefix of the
-- first text, or the first text and a prefix of the second, is a prefix of both.
use Rattle.std.proofs.Common.{◌≡◌, ℕ, suc, zero, ◌+◌, List, [], ◌∷◌, ◌++◌, Option, Some, None, Result, Ok, Err}
use Rattle.std.proofs.Common.{take, drop, refl, sym, subst, ◌∙◌, ap, append_assoc, arith}
use Rattle.std.specs.Prelude.{IsErrAnd}
use Rattle.std.proofs.lemmas.List.{drop-take, take-take, take-append-drop}
use Rattle.clock_device.specs.Streams.{HasRead, HasWritten, HasWrittenFront, HasWrittenNothing, WritesText}

pub written_twice : (old mid new : Option (List ℕ)) (a b : List ℕ) → HasWritten old mid a → HasWritten mid new b
    → HasWritten old new (a ++ b)
written_twice None mid new a b first second = tt
written_twice (Some xs) None new a b first second = absurd first
written_twice (Some xs) (Some ys) None a b first second = absurd second
written_twice (Some xs) (Some ys) (Some zs) a b first second = second ∙ ap (λ l. l ++ b) first ∙ append_assoc xs a b

-- a write that wrote nothing adds nothing to what was written before
pub written_still : (old mid new : Option (List ℕ)) (a : List ℕ) → HasWritten old mid a → HasWrittenNothing mid new
    → HasWritten old new a
written_still None mid new a first second = tt
written_still (Some xs) None new a first second = absurd first
written_still (Some xs) (Some ys) None a first second = absurd second
written_still (Some xs) (Some ys) (Some zs) a first second = second ∙ first

pub read_twice : (old mid new : Option (List ℕ)) (a b : List ℕ) → HasRead old mid a → HasRead mid new b
    → HasRead old new (a ++ b)
read_twice None mid new a b first second = tt
read_twice (Some xs) None new a b first second = absurd first
read_twice (Some xs) (Some ys) None a b first second = absurd second
read_twice (Some xs) (Some ys) (Some zs) a b first second = first ∙ ap (λ l. a ++ l) second ∙ sym (append_assoc a b zs)

-- if nothing was written, no bytes were read
pub read_nothing : (old new : Option (List ℕ)) → HasWrittenNothing old new → HasRead old new []
read_nothing None new same = tt
read_nothing (Some xs) None same = absurd same
read_nothing (Some xs) (Some ys) same = sym same

-- a prefix, and the bytes that follow it
pub take_further : (xs : List ℕ) (i n : ℕ) → take i xs ++ take n (drop i xs) ≡ take (i + n) xs
take_further xs i n =
    rw (← drop-take i n xs, ← take-take i (i + n) xs (omega arith)) (take-append-drop i (take (i + n) xs))

pub same_bytes : (bytes : Option (List ℕ)) → HasWrittenNothing bytes bytes
same_bytes None = tt
same_bytes (Some xs) = refl

-- a prefix of the first of two texts is a prefix of both
take_in_first : (count : ℕ) (a b : List ℕ) → (n : ℕ) × (take n (a ++ b) ≡ take count a)
take_in_first zero a b = (0, refl)
take_in_first (suc count) [] b = (0, refl)
take_in_first (suc count) (x ∷ a) b =
    let rest = take_in_first count a b in (suc rest.0, ap (λ l. x ∷ l) rest.1)

-- the first of two texts with a prefix of the second is a prefix of both
take_in_second : (a b : List ℕ) (count : ℕ) → (n : ℕ) × (take n (a ++ b) ≡ a ++ take count b)
take_in_second [] b count = (count, refl)
take_in_second (x ∷ a) b count =
    let rest = take_in_second a b count in (suc rest.0, ap (λ l. x ∷ l) rest.1)

-- a prefix of the first of two texts was written, and so a prefix of both
pub front_written : (old new : Option (List ℕ)) (a b : List ℕ) → HasWrittenFront old new a
    → HasWrittenFront old new (a ++ b)
front_written old new a b front =
    let both = take_in_first front.0 a b in
    (both.0, subst (HasWritten old new) (sym both.1) front.1)

-- the first of two texts was written, and then a prefix of the second
pub front_beyond : (old mid new : Option (List ℕ)) (a b : List ℕ) → HasWritten old mid a → HasWrittenFront mid new b
    → HasWrittenFront old new (a ++ b)
front_beyond old mid new a b first second =
    let both = take_in_second a b second.0 in
    (both.0, subst (HasWritten old new) (sym both.1) (written_twice old mid new a (take second.0 b) first second.1))

-- the first of two texts was written, and then the second
pub both_written : {U E : Type 0} (old mid new : Option (List ℕ)) (a b : List ℕ) (result : Result U E)
    → HasWritten old mid a → WritesText mid new b result → WritesText old new (a ++ b) result
both_written old mid new a b (Ok done) first second = written_twice old mid new a b first second
both_written old mid new a b (Err failed) first second = front_beyond old mid new a b first second

-- writing the first of two texts failed
pub first_failed : {U E : Type 0} (Q : E → Type 0) (old new : Option (List ℕ)) (a b : List ℕ) (result : Result U E)
    → IsErrAnd result Q → HasWrittenFront old new a → WritesText old new (a ++ b) result
first_failed Q old new a b (Ok done) failed front = absurd failed
first_failed Q old new a b (Err failed) is_failed front = front_written old new a b front

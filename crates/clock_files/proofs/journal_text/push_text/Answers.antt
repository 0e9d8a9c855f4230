-- The parts are appended one after the other.
use Rattle.std.proofs.Common.{◌≡◌, ◌++◌, ℕ, List, Result, Ok, Err, append_assoc}
use Rattle.std.specs.Prelude.{OnOk}
use Rattle.clock_files.proofs.journal_text.push_text.Goals as goal

appended : {E : Type 0} (result : Result (Unit {0}) E) (s t u v w x y z a b c d e f g : List ℕ) → t ≡ s ++ a
    → u ≡ t ++ b → v ≡ u ++ c → w ≡ v ++ d → x ≡ w ++ e → y ≡ x ++ f → OnOk result (z ≡ y ++ g)
    → OnOk result (z ≡ s ++ (a ++ b ++ c ++ d ++ e ++ f ++ g))
appended (Ok done) s t u v w x y z a b c d e f g first second third fourth fifth sixth last =
    rw (last, sixth, fifth, fourth, third, second, first) (simp append_assoc)
appended (Err refused) s t u v w x y z a b c d e f g first second third fourth fifth sixth last = tt

pub returns : goal.returns
returns c = appended c.push.result _ _ _ _ _ _ _ _ _ _ _ _ _ _ _ c.in_ok-extend_from_slice.ensures.ok
    c.in_ok-push_spaced.ensures c.in_ok-push_spaced-2.ensures c.in_ok-push_spaced-3.ensures
    c.in_ok-push_digits.ensures c.in_ok-extend_from_slice-2.ensures.ok c.push.ensures.ok

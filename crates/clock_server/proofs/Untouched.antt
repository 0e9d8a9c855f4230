-- What a crash leaves of a journal to which nothing was appended.
use Rattle.std.proofs.Common.{◌≡◌, ◌≤◌, ◌++◌, ℕ, List, [], ◌∷◌, Option, Some, length, take, refl, sym, ap, ◌∙◌, subst}
use Rattle.std.proofs.Common.{arith, length-append}
use Rattle.std.proofs.lemmas.List.{take-append-le}
use Rattle.clock_journal.specs.Crash.{IsEnd, IsFile, LeavesOneMore, LeavesTexts}
use Rattle.clock_journal.specs.Disks.{MayBeLeft}
use Rattle.clock_journal.specs.Logged.{JournalState, HasTexts, file_of}
use Rattle.clock_journal.proofs.Moments.{front_leaves}
use Rattle.clock_journal.proofs.Passing.{leave_none}

pub take_all : {A : Type 0} (xs : List A) → take (length xs) xs ≡ xs
take_all [] = refl
take_all (x ∷ xs) = ap (λ ys. x ∷ ys) (take_all xs)

-- with more texts in the list
wider : (digest left : List ℕ) (texts more : List (List ℕ)) (least : ℕ) → LeavesTexts digest left texts least
    → LeavesTexts digest left (texts ++ more) least
wider digest left texts more least leaves = record {
  count = leaves.count;
  enough = leaves.enough;
  most = omega (arith, leaves.most, length-append texts more);
  first = subst (λ (some : List (List ℕ)). IsFile digest left some IsEnd)
      (sym (take-append-le leaves.count texts more leaves.most)) leaves.first;
}

left_of_file : (digest : List ℕ) (texts : List (List ℕ)) (journal : JournalState) (left : List ℕ)
    → HasTexts digest texts journal → MayBeLeft (Some (file_of digest texts)) (Some (file_of digest texts)) left
    → LeavesTexts digest left texts (length texts)
left_of_file digest texts journal left has (count, enough, is) =
    subst (λ (bytes : List ℕ). LeavesTexts digest bytes texts (length texts)) (sym is)
    (front_leaves digest texts (length texts) count has.3 (omega arith)
    (subst (λ (all : List (List ℕ)). length (file_of digest all) ≤ count) (sym (take_all texts)) enough))

-- all of its texts
pub left_all : (digest : List ℕ) (texts : List (List ℕ)) (journal : JournalState) (left : List ℕ) → HasTexts digest
    texts journal → MayBeLeft journal.synced journal.written left → LeavesTexts digest left texts (length texts)
left_all digest texts journal left has may =
    left_of_file digest texts journal left has
    (subst (λ (bytes : Option (List ℕ)). MayBeLeft bytes (Some (file_of digest texts)) left) (has.1 ∙ has.0)
    (subst (λ (bytes : Option (List ℕ)). MayBeLeft journal.synced bytes left) has.0 may))

-- which is no more than these and one further text
pub untouched : (text : List ℕ) (journal : JournalState) → LeavesOneMore text journal journal
untouched text journal digest texts has = record {
  at_end = λ left may.
      wider digest left texts (text ∷ []) (length texts) (left_all digest texts journal left has may);
  moments = leave_none journal.moments (λ left. LeavesTexts digest left (texts ++ text ∷ []) (length texts));
}

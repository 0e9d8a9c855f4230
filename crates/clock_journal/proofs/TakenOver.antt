-- How a file begins, by what is compared, and what is read of what a crash left.
use Rattle.std.proofs.Common.{◌≡◌, ◌≤◌, ◌<◌, ◌++◌, ℕ, true, false, List, [], ◌∷◌, length, take, drop, length-append}
use Rattle.std.proofs.Common.{length-drop}
use Rattle.std.proofs.Common.{bytes_eq, refl, sym, ap, ◌∙◌, subst, arith, inl, inr}
use Rattle.std.proofs.lemmas.List.{append_assoc, length-take, length-take-le, take_all, take_at, take-append-drop}
use Rattle.std.proofs.lemmas.List.{take-take}
use Rattle.clock_journal.specs.Format.{head, records, last_link}
use Rattle.clock_journal.specs.Reading.{Next, damaged, ended, next}
use Rattle.clock_journal.specs.Logged.{file_of}
use Rattle.clock_journal.specs.Crash.{IsEnd, IsFile, IsPartOfHead, LeavesJournal}
use Rattle.clock_journal.specs.Recovering.{AreTextsOf, HasHead, HasSomeHead}
use Rattle.clock_journal.specs.declared.recovery.Recovered.{Recovered}
use Rattle.clock_journal.proofs.Lists.{many_bytes}
use Rattle.clock_journal.proofs.Files.{file_head_length, kind, length-head, same_texts}
use Rattle.clock_journal.proofs.Fronts.{damage_is_none, end_is_none, end_undamaged}
use Rattle.clock_journal.proofs.Records.{next_none}
use Rattle.clock_journal.proofs.Tested.{bytes_eq_same}

pub not_same : (xs ys : List ℕ) → bytes_eq xs ys ≡ false → xs ≡ ys → ⊥
not_same xs ys other same = let twice : false ≡ true = sym other ∙ bytes_eq_same xs ys same in cc

-- by the length of a head
head_is : (digest bytes : List ℕ) → length digest ≡ 32 → HasHead digest bytes
    → take file_head_length bytes ≡ take (length bytes) (head digest)
head_is digest bytes size has =
    subst (λ (n : ℕ). take n bytes ≡ take (length bytes) (head digest)) (length-head digest size) has

pub short_headless : (digest bytes : List ℕ) → length digest ≡ 32 → length bytes < file_head_length
    → bytes_eq bytes (take (length bytes) (head digest)) ≡ false → HasHead digest bytes → ⊥
short_headless digest bytes size short other has = not_same bytes (take (length bytes) (head digest)) other
    (sym (take_all file_head_length bytes (omega (arith, short))) ∙ head_is digest bytes size has)

-- a file that is not shorter than a head
pub long_head : (digest bytes : List ℕ) → length digest ≡ 32 → file_head_length ≤ length bytes
    → HasHead digest bytes → take file_head_length bytes ≡ head digest
long_head digest bytes size long has = head_is digest bytes size has
    ∙ take_all (length bytes) (head digest) (omega (arith, length-head digest size, long))

-- a head begins with its kind
pub kind_of_head : (digest bytes : List ℕ) → take file_head_length bytes ≡ head digest
    → take (length kind) bytes ≡ kind
unfolding head
kind_of_head digest bytes same = sym (take-take (length kind) file_head_length bytes (omega arith))
    ∙ ap (take (length kind)) same ∙ take_at kind digest (length kind) refl

-- ---- the head of another journal

-- it has at least the bytes of a head, and begins with its kind
pub other_head : (bytes : List ℕ) → HasSomeHead bytes → (file_head_length ≤ length bytes)
    × (take (length kind) bytes ≡ kind)
unfolding head
other_head bytes (digest, rest, size, is) =
    let all = ap length is ∙ length-append (head digest) rest in (
      omega (arith, all, length-head digest size),
      ap (take (length kind)) (is ∙ append_assoc kind digest rest) ∙ take_at kind (digest ++ rest) (length kind) refl,
    )

pub has_head : (bytes : List ℕ) → file_head_length ≤ length bytes → take (length kind) bytes ≡ kind
    → HasSomeHead bytes
unfolding head
has_head bytes long same =
    let behind = drop (length kind) bytes in (
      take 32 behind,
      drop 32 behind,
      length-take-le 32 behind (omega (arith, long, length-drop (length kind) bytes)),
      sym (take-append-drop (length kind) bytes) ∙ (ap (λ (b : List ℕ). b ++ behind) same
          ∙ ap (λ (b : List ℕ). kind ++ b) (sym (take-append-drop 32 behind))
          ∙ sym (append_assoc kind (take 32 behind) (drop 32 behind))),
    )

-- ---- what a crash left

file_headed : (digest bytes : List ℕ) (texts : List (List ℕ)) (Comes : Next → Type 0)
    → IsFile digest bytes texts Comes → HasHead digest bytes
file_headed digest bytes texts Comes file =
    let all = ap length file.file ∙ length-append (file_of digest texts) file.rest in
    let parts = length-append (head digest) (records digest texts) in
    ap (take (length (head digest)))
    (file.file ∙ append_assoc (head digest) (records digest texts) file.rest)
    ∙ take_at (head digest) (records digest texts ++ file.rest) (length (head digest)) refl
    ∙ sym (take_all (length bytes) (head digest) (omega (arith, all, parts)))

part_within : (digest bytes : List ℕ) → IsPartOfHead digest bytes → length bytes ≤ length (head digest)
part_within digest bytes part =
    let size = ap length part.front ∙ length-take (length bytes) (head digest) in omega (arith, size)

-- it has its head, or a prefix of that
pub left_headed : (digest bytes : List ℕ) (all : List (List ℕ)) (least : ℕ) → LeavesJournal digest bytes all least
    → HasHead digest bytes
left_headed digest bytes all least (inl leaves) = file_headed digest bytes (take leaves.count all) IsEnd leaves.first
left_headed digest bytes all least (inr part) =
    take_all (length (head digest)) bytes (part_within digest bytes part.1) ∙ part.1.front

-- a prefix of a head has no text, and nothing comes after it
pub none_in_head : (digest bytes : List ℕ) (texts : List (List ℕ)) (Comes : Next → Type 0)
    → IsPartOfHead digest bytes → (file : IsFile digest bytes texts Comes)
    → (length texts ≡ 0) × (next (last_link digest texts) file.rest ≡ ended)
none_in_head digest bytes texts Comes part file =
    let within = part_within digest bytes part in
    let all = ap length file.file ∙ length-append (file_of digest texts) file.rest in
    let parts = length-append (head digest) (records digest texts) in (
      omega (arith, within, all, parts, many_bytes digest texts),
      next_none (last_link digest texts) file.rest (omega (arith, within, all, parts)),
    )

take_none-of : (all : List (List ℕ)) → take 0 all ≡ []
take_none-of [] = refl
take_none-of (one ∷ all) = refl

none_taken : (texts all : List (List ℕ)) → length texts ≡ 0 → texts ≡ take 0 all
none_taken [] [] none = refl
none_taken [] (one ∷ all) none = refl
none_taken (text ∷ texts) all none = absurd (omega (arith, none))

-- what is read of it is a prefix of the texts, at least `least` of them
pub left_first : (digest bytes : List ℕ) (texts all : List (List ℕ)) (least : ℕ) (recovered : Recovered)
    → AreTextsOf digest bytes texts recovered → LeavesJournal digest bytes all least
    → (count : ℕ) × (least ≤ count) × (count ≤ length all) × (texts ≡ take count all)
left_first digest bytes texts all least recovered are (inl leaves) =
    elim are.end_is [
      | inl here ↦ (let same = same_texts digest bytes (take leaves.count all) texts IsEnd IsEnd leaves.first here.0
          (end_is_none _ leaves.first.comes) (end_is_none _ here.0.comes) in
          (leaves.count, leaves.enough, leaves.most, same.0))
      | inr begun ↦ (let none = none_in_head digest bytes (take leaves.count all) IsEnd begun.0 leaves.first in (
        leaves.count,
        leaves.enough,
        leaves.most,
        begun.1 ∙ sym (none_taken (take leaves.count all) all none.0 ∙ take_none-of all),
      ))
    ]
left_first digest bytes texts all least recovered are (inr part) =
    elim are.end_is [
      | inl here ↦ (let none = none_in_head digest bytes texts IsEnd part.1 here.0 in
          (0, omega (arith, part.0), omega arith, none_taken texts all none.0))
      | inr begun ↦ (0, omega (arith, part.0), omega arith, begun.1 ∙ sym (take_none-of all))
    ]

-- it is not damaged
pub left_undamaged : (digest bytes : List ℕ) (texts all : List (List ℕ)) (least : ℕ)
    → IsFile digest bytes texts (λ found. found ≡ damaged) → LeavesJournal digest bytes all least → ⊥
left_undamaged digest bytes texts all least file (inl leaves) =
    let same = same_texts digest bytes (take leaves.count all) texts IsEnd (λ found. found ≡ damaged) leaves.first file
    (end_is_none _ leaves.first.comes) (damage_is_none _ file.comes) in
    end_undamaged _ leaves.first.comes
    (subst (λ (rest : List ℕ). next (last_link digest (take leaves.count all)) rest ≡ damaged) same.1
    (subst (λ (some : List (List ℕ)). next (last_link digest some) file.rest ≡ damaged) same.0 file.comes))
left_undamaged digest bytes texts all least file (inr part) =
    let none = none_in_head digest bytes texts (λ (found : Next). found ≡ damaged) part.1 file in
    end_undamaged _ (inl none.1) file.comes

-- What a crash leaves while a torn record is cut off: a prefix of the file that still has all whole records.
use Rattle.std.proofs.Common.{◌≡◌, ◌≤◌, ◌+◌, ◌-◌, ◌<◌, ◌⊎◌, inl, inr, ℕ, Bool, true, false, List, length, take}
use Rattle.std.proofs.Common.{drop, nat_lt, nat_le, ◌&&◌, ◌==◌, bytes_eq, refl, sym, ap, ◌∙◌, subst, arith, Some}
use Rattle.std.specs.Prelude.{if◌then◌else◌}
use Rattle.std.specs.Int.{w32, from_be_bytes}
use Rattle.std.proofs.lemmas.List.{take_all, take-append-le, take-take, drop-take, length-take-le}
use Rattle.std.proofs.lemmas.Bool.{cases_lt}
use Rattle.clock_journal.specs.Format.{before_text, mark_length, link, last_link, most_text}
use Rattle.clock_journal.specs.Logged.{file_of}
use Rattle.clock_journal.specs.Reading.{Next, ended, torn, damaged, whole, marked_length, is_marked, next}
use Rattle.clock_journal.specs.Crash.{IsEnd, IsFile, LeavesTexts}
use Rattle.clock_journal.specs.Disks.{MayBeLeft}
use Rattle.clock_journal.specs.Laws.{EveryFront}
use Rattle.clock_journal.specs.Recovering.{AreTextsOf}
use Rattle.clock_journal.specs.declared.recovery.Recovered.{Recovered}
use Rattle.clock_journal.proofs.Records.{next_none, next_short, next_cut}
use Rattle.clock_journal.proofs.Files.{long_file, same_texts, shorter}
use Rattle.clock_journal.proofs.Fronts.{end_is_none}
use Rattle.clock_journal.proofs.Moments.{front_leaves}
use Rattle.clock_journal.proofs.Tested.{less_where, lt_false, eq_where, eq_false}

abbrev pub sieve : Bool → Bool → Bool → Bool → Bool → Bool → List ℕ → Next
sieve empty few marked cut right last text =
    if empty then ended
    else (if few then torn
    else (if marked then (if cut then torn else (if right then whole text else (if last then torn else damaged)))
    else damaged))

sieved_torn : (empty marked cut right last : Bool) (text : List ℕ) → sieve empty false marked cut right last text ≡ torn
    → (marked ≡ true) × ((cut ≡ true) ⊎ (last ≡ true))
sieved_torn true marked cut right last text e = cc
sieved_torn false true true right last text e = (refl, inl refl)
sieved_torn false true false true last text e = cc
sieved_torn false true false false true text e = (refl, inr refl)
sieved_torn false true false false false text e = cc
sieved_torn false false cut right last text e = cc

sieved_ended : (few marked cut right last : Bool) (text : List ℕ)
    → sieve false few marked cut right last text ≡ ended → ⊥
sieved_ended true marked cut right last text e = cc
sieved_ended false true true right last text e = cc
sieved_ended false true false true last text e = cc
sieved_ended false true false false true text e = cc
sieved_ended false true false false false text e = cc
sieved_ended false false cut right last text e = cc

at_most : (a b : ℕ) → (nat_lt a b ≡ true) ⊎ ((a == b) ≡ true) → a ≤ b
at_most a b (inl e) = let l = less_where a b e in omega (arith, l)
at_most a b (inr e) = let same = eq_where a b e in omega (arith, same)

-- a torn record with a whole mark is no longer than its mark says
pub torn_short : (chain bytes : List ℕ) → next chain bytes ≡ torn → mark_length ≤ length bytes
    → (is_marked bytes ≡ true) × (length bytes ≤ before_text + marked_length bytes)
unfolding next
torn_short chain bytes is long =
    let few = lt_false (length bytes) mark_length long in
    let parts = sieved_torn (length bytes == 0) (is_marked bytes)
    (nat_lt (length bytes) (before_text + marked_length bytes)) (bytes_eq (take 32 (drop mark_length bytes)) (link chain
    (take (marked_length bytes) (drop before_text bytes)))) (length bytes == before_text + marked_length bytes)
    (take (marked_length bytes) (drop before_text bytes)) (subst (λ (few_is : Bool). sieve (length bytes == 0) few_is
    (is_marked bytes) (nat_lt (length bytes) (before_text + marked_length bytes)) (bytes_eq
    (take 32 (drop mark_length bytes)) (link chain (take (marked_length bytes) (drop before_text bytes)))) (length bytes
    == before_text + marked_length bytes) (take (marked_length bytes) (drop before_text bytes)) ≡ torn) few is) in
    (parts.0, at_most (length bytes) (before_text + marked_length bytes) parts.1)

pub some_left : (chain bytes : List ℕ) → next chain bytes ≡ ended → 0 < length bytes → ⊥
unfolding next
some_left chain bytes is some = sieved_ended (nat_lt (length bytes) mark_length) (is_marked bytes)
    (nat_lt (length bytes) (before_text + marked_length bytes))
    (bytes_eq (take 32 (drop mark_length bytes)) (link chain (take (marked_length bytes) (drop before_text bytes))))
    (length bytes == before_text + marked_length bytes) (take (marked_length bytes) (drop before_text bytes))
    (subst (λ (empty : Bool). sieve empty (nat_lt (length bytes) mark_length) (is_marked bytes)
    (nat_lt (length bytes) (before_text + marked_length bytes)) (bytes_eq (take 32 (drop mark_length bytes)) (link chain
    (take (marked_length bytes) (drop before_text bytes)))) (length bytes == before_text + marked_length bytes)
    (take (marked_length bytes) (drop before_text bytes)) ≡ ended) (eq_false (length bytes) 0 some) is)

pub marked_length-same : (one other : List ℕ) → take 4 one ≡ take 4 other → marked_length one ≡ marked_length other
unfolding marked_length
marked_length-same one other same = ap (from_be_bytes w32) same

pub marked_same : (one other : List ℕ) → take 4 one ≡ take 4 other → take 4 (drop 4 one) ≡ take 4 (drop 4 other)
    → marked_length one ≡ marked_length other → is_marked one ≡ is_marked other
unfolding is_marked
marked_same one other first second count = ap (λ (b : List ℕ). bytes_eq b (take 4 (drop 4 one))
    && (nat_le 1 (marked_length one) && nat_le (marked_length one) most_text)) first ∙ (ap (λ (b : List ℕ).
    bytes_eq (take 4 other) b && (nat_le 1 (marked_length one) && nat_le (marked_length one) most_text)) second
    ∙ ap (λ (n : ℕ). bytes_eq (take 4 other) (take 4 (drop 4 other)) && (nat_le 1 n && nat_le n most_text)) count)

front_behind_lengths : (chain rest : List ℕ) (n : ℕ) → next chain rest ≡ torn → n < length rest → mark_length ≤ n
    → next chain (take n rest) ≡ torn
front_behind_lengths chain rest n is less many =
    let parts = torn_short chain rest is (omega (arith, less, many)) in
    let size = length-take-le n rest (omega (arith, less)) in
    let first = take-take 4 n rest (omega (arith, many)) in
    let e : n ≡ 4 + (n - 4) = omega (arith, many) in
    let second : take 4 (drop 4 (take n rest)) ≡ take 4 (drop 4 rest) = ap (λ (k : ℕ). take 4 (drop 4 (take k rest))) e
    ∙ (ap (take 4) (drop-take 4 (n - 4) rest) ∙ take-take 4 (n - 4) (drop 4 rest) (omega (arith, many))) in
    let count = marked_length-same (take n rest) rest first in
    next_cut chain (take n rest) (omega (arith, size, many)) (marked_same (take n rest) rest first second count
    ∙ parts.0) (let most = parts.1 in omega (arith, size, less, count, most))

-- a prefix of a torn record is torn or empty
front_of_torn : (chain rest : List ℕ) (n : ℕ) → next chain rest ≡ torn → n < length rest
    → IsEnd (next chain (take n rest))
front_of_torn chain rest n is less =
    let size = length-take-le n rest (omega (arith, less)) in
    elim (cases_lt 0 n) [
      | inl some ↦ elim (cases_lt n mark_length) [
        | inl few ↦ inr (next_short chain (take n rest) (omega (arith, size, some)) (omega (arith, size, few)))
        | inr many ↦ inr (front_behind_lengths chain rest n is less many)
      ]
      | inr none ↦ inl (next_none chain (take n rest) (omega (arith, size, none)))
    ]

front_less : (chain rest : List ℕ) (n : ℕ) → IsEnd (next chain rest) → n < length rest
    → IsEnd (next chain (take n rest))
front_less chain rest n (inl is) less = absurd (some_left chain rest is (omega (arith, less)))
front_less chain rest n (inr is) less = front_of_torn chain rest n is less

front_of_end : (chain rest : List ℕ) (n : ℕ) → IsEnd (next chain rest) → IsEnd (next chain (take n rest))
front_of_end chain rest n ends =
    elim (cases_lt n (length rest)) [
      | inl less ↦ front_less chain rest n ends less
      | inr all ↦ subst (λ (bytes : List ℕ). IsEnd (next chain bytes)) (sym (take_all n rest all)) ends
    ]

-- ---- the file up to its last whole record, and then a torn one

-- a prefix with all whole records has all texts, and one with less has some of them
pub every_front : EveryFront
every_front digest bytes texts least count file within enough =
    elim (cases_lt count (length (file_of digest texts))) [
      | inl less ↦ (let front : take count bytes ≡ take count (file_of digest texts) =
          ap (take count) file.file
          ∙ take-append-le count (file_of digest texts) file.rest (omega (arith, less)) in
          subst (λ (left : List ℕ). LeavesTexts digest left texts least) (sym front)
          (front_leaves digest texts least count file.fit within enough))
      | inr all ↦ record {
        count = length texts;
        enough = within;
        most = omega arith;
        first = subst (λ (some : List (List ℕ)). IsFile digest (take count bytes) some IsEnd)
            (sym (take_all (length texts) texts (omega arith))) (shorter digest bytes texts IsEnd file
            (take count bytes) count IsEnd all refl
            (λ n. front_of_end (last_link digest texts) file.rest n file.comes));
      }
    ]

leaves_front : (digest bytes : List ℕ) (texts read : List (List ℕ)) (least : ℕ) (left : List ℕ) (count : ℕ)
    → LeavesTexts digest bytes texts least → IsFile digest bytes read IsEnd → length (file_of digest read) ≤ count
    → left ≡ take count bytes → LeavesTexts digest left texts least
leaves_front digest bytes texts read least left count leaves file enough is =
    let same = same_texts digest bytes (take leaves.count texts) read IsEnd IsEnd leaves.first file
    (end_is_none _ leaves.first.comes) (end_is_none _ file.comes) in
    record {
      count = leaves.count;
      enough = leaves.enough;
      most = leaves.most;
      first = subst (λ (some : List (List ℕ)). IsFile digest left some IsEnd) same.0
          (shorter digest bytes read IsEnd file left count IsEnd enough is
          (λ n. front_of_end (last_link digest read) file.rest n file.comes));
    }

-- what is left of a file has all that was on the disk
pub cut_within : (bytes left : List ℕ) (end place : ℕ) → MayBeLeft (Some (take end bytes)) (Some bytes) left
    → place ≤ length bytes → end ≡ place → (count : ℕ) × (place ≤ count) × (left ≡ take count bytes)
cut_within bytes left end place may within is =
    let size = length-take-le end bytes (omega (arith, within, is)) in
    let enough = may.1 in
    (may.0, omega (arith, size, enough, is), may.2)

-- if what a crash left is synced and truncated after its last whole record, a crash during that leaves all of its texts
pub cut_leaves : (digest bytes : List ℕ) (texts read : List (List ℕ)) (least : ℕ) (recovered : Recovered)
    (left : List ℕ) → length digest ≡ 32 → LeavesTexts digest bytes texts least
    → AreTextsOf digest bytes read recovered → MayBeLeft (Some (take recovered.end bytes)) (Some bytes) left
    → LeavesTexts digest left texts least
cut_leaves digest bytes texts read least recovered left long leaves placed may =
    elim placed.end_is [
      | inl here ↦ (let part = cut_within bytes left recovered.end (length (file_of digest read)) may
          (long_file digest bytes read IsEnd here.0).1 here.1 in
          leaves_front digest bytes texts read least left part.0 leaves here.0 part.1 part.2)
      | inr begun ↦ (let whole_head =
          long_file digest bytes (take leaves.count texts) IsEnd leaves.first in
          let short = begun.0.short in
          absurd (omega (arith, whole_head.0, whole_head.1, short)))
    ]

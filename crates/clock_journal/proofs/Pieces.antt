-- Bytes that were read of a source, piece by piece, and what they say of what comes next.
use Rattle.std.proofs.Common.{◌≡◌, ◌++◌, ℕ, List, [], Option, Some, None, refl, sym, ap, ◌∙◌, subst, length, take}
use Rattle.std.proofs.Common.{drop, arith, ◌≤◌, ◌<◌, ◌+◌, ◌⊎◌, Bool, true, false, inl, inr}
use Rattle.std.proofs.Common.{get_or, bytes_eq, nat_lt, ◌==◌, length-append, length-drop}
use Rattle.std.proofs.lemmas.Bool.{cases_lt}
use Rattle.std.proofs.lemmas.List.{drop-append-le, get_or_past, length-take-le, take-append-le}
use Rattle.std.proofs.lemmas.List.{take-take, take_all, take_at}
use Rattle.std.proofs.Math.Seq.{take-append-add}
use Rattle.std.specs.Prelude.{MatchBool, IfOk, Result, Ok, Err, if◌then◌else◌}
use Rattle.std.specs.Io.KnownBytes.{Consumes, Keeps}
use borrow.Rule.Slice.PartMut.{post_of, put_mid}
use Rattle.clock_device.specs.Reports.{SourceReport}
use Rattle.clock_device.specs.Streams.{HasRead, IsReadOut}
use Rattle.clock_device.proofs.Streams.{read_twice}
use Rattle.clock_journal.specs.Format.{before_text, link, mark_length, most_text}
use Rattle.clock_journal.specs.Reading.{damaged, ended, is_marked, marked_length, next, torn, whole}
use Rattle.clock_journal.specs.Sources.{IsBroken}
use Rattle.clock_journal.specs.declared.recovery.JournalFault.{JournalFault}
use Rattle.clock_journal.specs.inside.Pieces.{AreBytes, CountsOn, IsAll, IsMore, IsRead, IsUnread, IsWhole}
use Rattle.clock_journal.proofs.Cuts.{marked_length-same, marked_same, sieve, some_left, torn_short}
use Rattle.clock_journal.proofs.Tested.{above_where, eq_false, lt_false, not_less}
use Rattle.clock_journal.proofs.Whole.{found, is_marked_of, marked_within}

-- ---- reading

pub counts_since : (before mid after : SourceReport) → CountsOn before mid → CountsOn mid after
    → CountsOn before after
counts_since before mid after on more = omega (arith, on, more)

pub broken_since : (before mid after : SourceReport) → CountsOn before mid → IsBroken mid after
    → IsBroken before after
broken_since before mid after on (inl failed) = inl failed
broken_since before mid after on (inr often) = inr (omega (arith, on, often))

pub unread_since : (before mid after : SourceReport) (why : JournalFault) → CountsOn before mid
    → IsUnread mid after why → IsUnread before after why
unread_since before mid after why on (inl none) = inl none
unread_since before mid after why on (inr broken) =
    inr (broken.0, broken_since before mid after on broken.1)

-- what an interrupted read left is read by the next one
pub kept_read : (old mid new : Option (List ℕ)) (bytes : List ℕ) → Keeps old mid → Consumes mid new bytes
    → Consumes old new bytes
kept_read None mid new bytes kept read = tt
kept_read (Some xs) None new bytes kept read = absurd kept
kept_read (Some xs) (Some ys) None bytes kept read = absurd read
kept_read (Some xs) (Some ys) (Some zs) bytes kept read = sym kept ∙ read

-- bytes were read into a buffer, after those that were read before
module _ (done : ℕ) (buffer part : List ℕ) (k : ℕ) (within : done ≤ length buffer) where
  abbrev put : List ℕ
  put = put_mid done k buffer part

  pub filled_within : (count : ℕ) → count ≤ length part → done + count ≤ length put
  filled_within count fits =
      omega (
        arith,
        length-append (take done buffer) (part ++ post_of done k buffer),
        length-append part (post_of done k buffer),
        length-take-le done buffer within,
        fits,
      )

  pub filled : (count : ℕ) → count ≤ length part → take (done + count) put ≡ take done buffer ++ take count part
  filled count fits =
      let size = length-take-le done buffer within in
      ap (λ (n : ℕ). take (n + count) put) (sym size)
      ∙ take-append-add (take done buffer) (part ++ post_of done k buffer) count
      ∙ ap (λ (b : List ℕ). take done buffer ++ b) (take-append-le count part (post_of done k buffer) fits)

  pub filled_read : (old mid new : Option (List ℕ)) (count : ℕ) → count ≤ length part
      → HasRead old mid (take done buffer) → HasRead mid new (take count part)
      → HasRead old new (take (done + count) put)
  filled_read old mid new count fits first second = subst (HasRead old new) (sym (filled count fits))
      (read_twice old mid new (take done buffer) (take count part) first second)

-- the start of what was written back into a list
pub written_back : (n m : ℕ) (written rest : List ℕ) → n ≤ m → n ≤ length written
    → take n (take m (written ++ rest)) ≡ take n written
written_back n m written rest few within =
    take-take n m (written ++ rest) few ∙ take-append-le n written rest within

-- bytes were read after those before, in a list that was made longer
pub more_read : (old new : Option (List ℕ)) (before longer added part after : List ℕ) (start count k n : ℕ)
    → start ≡ length before → longer ≡ take (start + k) before ++ added → start ≤ length longer
    → count ≤ length part → after ≡ take (start + count) (put_mid start n longer part)
    → HasRead old new (take count part) → IsMore old new before after
more_read old new before longer added part after start count k n starts is within fits after_is read = record {
  bytes = take count part;
  read = read;
  grown = after_is ∙ filled start longer part n within count fits
      ∙ ap (λ (b : List ℕ). b ++ take count part) (ap (take start) (is
      ∙ ap (λ (b : List ℕ). b ++ added) (take_all (start + k) before (omega (arith, starts))))
      ∙ take_at before added start (sym starts));
}

pub are_bytes : (bytes : List ℕ) → ((i d : ℕ) → i < length bytes → get_or bytes i d < 256) → AreBytes bytes
are_bytes bytes small = record {
  small = λ place. elim (cases_lt place (length bytes)) [
    | inl within ↦ small place 0 within
    | inr beyond ↦ let none = get_or_past bytes place 0 beyond in omega (arith, none)
  ];
}

-- ---- what comes next, if more bytes follow

next_is : (chain bytes : List ℕ) → next chain bytes ≡ sieve (length bytes == 0) (nat_lt (length bytes) mark_length)
    (is_marked bytes) (nat_lt (length bytes) (before_text + marked_length bytes))
    (bytes_eq (take 32 (drop mark_length bytes)) (link chain (take (marked_length bytes) (drop before_text bytes))))
    (length bytes == before_text + marked_length bytes) (take (marked_length bytes) (drop before_text bytes))
unfolding next
next_is chain bytes = refl

-- a wrong mark, or a wrong digest before further bytes
abbrev IsDamage : Bool → Bool → Bool → Bool → Type 0
IsDamage marked cut right last =
    (marked ≡ false) ⊎ ((marked ≡ true) × (cut ≡ false) × (right ≡ false) × (last ≡ false))

sieved_damaged : (empty few marked cut right last : Bool) (text : List ℕ)
    → sieve empty few marked cut right last text ≡ damaged → (few ≡ false) × IsDamage marked cut right last
sieved_damaged true few marked cut right last text e = cc
sieved_damaged false true marked cut right last text e = cc
sieved_damaged false false false cut right last text e = (refl, inl refl)
sieved_damaged false false true true right last text e = cc
sieved_damaged false false true false true last text e = cc
sieved_damaged false false true false false true text e = cc
sieved_damaged false false true false false false text e = (refl, inr (refl, refl, refl, refl))

sieved_last : (empty few marked cut right last : Bool) (text : List ℕ) → few ≡ false → cut ≡ false
    → sieve empty few marked cut right last text ≡ torn → right ≡ false
sieved_last true few marked cut right last text many enough e = cc
sieved_last false true marked cut right last text many enough e = cc
sieved_last false false false cut right last text many enough e = cc
sieved_last false false true true right last text many enough e = cc
sieved_last false false true false true last text many enough e = cc
sieved_last false false true false false last text many enough e = refl

unmarked : (empty few marked cut right last : Bool) (text : List ℕ) → empty ≡ false → few ≡ false → marked ≡ false
    → sieve empty few marked cut right last text ≡ damaged
unmarked empty few marked cut right last text some many wrong = rw (some, many, wrong) refl

wrong_digest : (empty few marked cut right last : Bool) (text : List ℕ) → empty ≡ false → few ≡ false
    → marked ≡ true → cut ≡ false → right ≡ false → last ≡ false → sieve empty few marked cut right last text ≡ damaged
wrong_digest empty few marked cut right last text some many marked_is enough wrong more =
    rw (some, many, marked_is, enough, wrong, more) refl

module _ (chain bytes more : List ℕ) (many : mark_length ≤ length bytes) where
  same_first : take 4 (bytes ++ more) ≡ take 4 bytes
  same_first = take-append-le 4 bytes more (omega (arith, many))

  same_second : take 4 (drop 4 (bytes ++ more)) ≡ take 4 (drop 4 bytes)
  same_second = ap (take 4) (drop-append-le 4 bytes more (omega (arith, many)))
      ∙ take-append-le 4 (drop 4 bytes) more (omega (arith, many, length-drop 4 bytes))

  pub same_length : marked_length (bytes ++ more) ≡ marked_length bytes
  same_length = marked_length-same (bytes ++ more) bytes same_first

  pub same_mark : is_marked (bytes ++ more) ≡ is_marked bytes
  same_mark = marked_same (bytes ++ more) bytes same_first same_second same_length

  longer : length (bytes ++ more) ≡ length bytes + length more
  longer = length-append bytes more

  module _ (enough : before_text + marked_length bytes ≤ length bytes) where
    same_digest : take 32 (drop mark_length (bytes ++ more)) ≡ take 32 (drop mark_length bytes)
    same_digest = ap (take 32) (drop-append-le mark_length bytes more many)
        ∙ take-append-le 32 (drop mark_length bytes) more (omega (arith, enough, length-drop mark_length bytes))

    same_text : take (marked_length (bytes ++ more)) (drop before_text (bytes ++ more))
        ≡ take (marked_length bytes) (drop before_text bytes)
    same_text = ap (λ (n : ℕ). take n (drop before_text (bytes ++ more))) same_length
        ∙ ap (take (marked_length bytes)) (drop-append-le before_text bytes more (omega (arith, enough)))
        ∙ take-append-le (marked_length bytes) (drop before_text bytes) more
        (omega (arith, enough, length-drop before_text bytes))

    same_right : bytes_eq (take 32 (drop mark_length (bytes ++ more)))
        (link chain (take (marked_length (bytes ++ more)) (drop before_text (bytes ++ more))))
        ≡ bytes_eq (take 32 (drop mark_length bytes))
        (link chain (take (marked_length bytes) (drop before_text bytes)))
    same_right = ap (λ (b : List ℕ). bytes_eq b
        (link chain (take (marked_length (bytes ++ more)) (drop before_text (bytes ++ more))))) same_digest
        ∙ ap (λ (b : List ℕ). bytes_eq (take 32 (drop mark_length bytes)) (link chain b)) same_text

    -- a wrong digest before further bytes
    wrong_before : is_marked bytes ≡ true
        → bytes_eq (take 32 (drop mark_length bytes))
        (link chain (take (marked_length bytes) (drop before_text bytes))) ≡ false
        → before_text + marked_length bytes < length bytes + length more → next chain (bytes ++ more) ≡ damaged
    wrong_before marked wrong further = next_is chain (bytes ++ more) ∙ wrong_digest _ _ _ _ _ _ _
        (eq_false (length (bytes ++ more)) 0 (omega (arith, longer, many)))
        (lt_false (length (bytes ++ more)) mark_length (omega (arith, longer, many)))
        (same_mark ∙ marked)
        (lt_false (length (bytes ++ more)) (before_text + marked_length (bytes ++ more))
        (omega (arith, longer, enough, same_length)))
        (same_right ∙ wrong)
        (eq_false (length (bytes ++ more)) (before_text + marked_length (bytes ++ more))
        (omega (arith, longer, further, same_length)))

-- a wrong digest is damage, if a byte follows
pub torn_more : (chain bytes more : List ℕ) → next chain bytes ≡ torn → IsAll bytes → 1 ≤ length more
    → next chain (bytes ++ more) ≡ damaged
torn_more chain bytes more is all some =
    let long = all.0 in
    let many : mark_length ≤ length bytes = omega (arith, long) in
    let short = torn_short chain bytes is many in
    let enough = all.1 short.0 in
    let most = short.1 in
    let wrong = sieved_last (length bytes == 0) (nat_lt (length bytes) mark_length) (is_marked bytes)
    (nat_lt (length bytes) (before_text + marked_length bytes)) (bytes_eq (take 32 (drop mark_length bytes))
    (link chain (take (marked_length bytes) (drop before_text bytes)))) (length bytes == before_text
    + marked_length bytes) (take (marked_length bytes) (drop before_text bytes))
    (lt_false (length bytes) mark_length many) (lt_false (length bytes) (before_text + marked_length bytes) enough)
    (sym (next_is chain bytes) ∙ is) in
    wrong_before chain bytes more many enough short.0 wrong (omega (arith, most, some))

-- damage stays damage, whatever follows
pub damaged_more : (chain bytes more : List ℕ) → next chain bytes ≡ damaged → next chain (bytes ++ more) ≡ damaged
damaged_more chain bytes more is =
    let parts = sieved_damaged (length bytes == 0) (nat_lt (length bytes) mark_length) (is_marked bytes)
    (nat_lt (length bytes) (before_text + marked_length bytes)) (bytes_eq (take 32 (drop mark_length bytes))
    (link chain (take (marked_length bytes) (drop before_text bytes)))) (length bytes == before_text
    + marked_length bytes) (take (marked_length bytes) (drop before_text bytes)) (sym (next_is chain bytes) ∙ is) in
    let many = not_less (length bytes) mark_length parts.0 in
    elim parts.1 [
      | inl wrong ↦ next_is chain (bytes ++ more) ∙ unmarked _ _ _ _ _ _ _
          (eq_false (length (bytes ++ more)) 0 (omega (arith, length-append bytes more, many)))
          (lt_false (length (bytes ++ more)) mark_length (omega (arith, length-append bytes more, many)))
          (same_mark chain bytes more many ∙ wrong)
      | inr digest ↦ (let enough = not_less (length bytes) (before_text + marked_length bytes) digest.1 in
          let further = above_where (length bytes) (before_text + marked_length bytes) enough digest.3 in
          wrong_before chain bytes more many enough digest.0 digest.2 (omega (arith, further)))
    ]

-- ---- what was read of one record

some_if : (marked : Bool) (length_is count : ℕ) → (if marked then Some length_is else None) ≡ Some count
    → (marked ≡ true) × (length_is ≡ count)
some_if true length_is count e = (refl, cc)
some_if false length_is count e = cc

-- the length that a right mark says
pub length_is : (bytes given : List ℕ) (result : Option ℕ) (count : ℕ) → given ≡ bytes
    → result ≡ (if is_marked given then Some (marked_length given) else None) → result ≡ Some count
    → (is_marked bytes ≡ true) × (marked_length bytes ≡ count)
length_is bytes given result count same e is =
    subst (λ (b : List ℕ). (is_marked b ≡ true) × (marked_length b ≡ count)) same
    (some_if (is_marked given) (marked_length given) count (sym e ∙ is))

pub short_text : (bytes : List ℕ) (count : ℕ) → (is_marked bytes ≡ true) × (marked_length bytes ≡ count)
    → count ≤ most_text
short_text bytes count (marked, is) = let limits = marked_within bytes marked in omega (arith, limits.1, is)

-- two clauses of one result
pub both_ok : {T E : Type 0} (result : Result T E) (One Other Both : T → Type 0)
    → ((value : T) → One value → Other value → Both value) → IfOk result One → IfOk result Other → IfOk result Both
both_ok (Ok value) One Other Both follows one other = follows value one other
both_ok (Err why) One Other Both follows one other = tt

-- a whole record ends with its text
pub whole_is : (chain bytes digest text : List ℕ) → next chain bytes ≡ whole text → digest ≡ link chain text
    → (mark_length ≤ length bytes → is_marked bytes ≡ true → length bytes ≤ before_text + marked_length bytes)
    → AreBytes bytes → IsWhole chain bytes digest
whole_is chain bytes digest text is linked within are =
    let read = found chain bytes text is in
    let enough = read.enough in
    let most = within (omega (arith, enough)) (is_marked_of chain bytes text is) in
    let same : text ≡ drop before_text bytes = sym read.text_is
    ∙ take_all (marked_length bytes) (drop before_text bytes) (omega (arith, most, length-drop before_text bytes)) in
    record {
      comes = is ∙ ap whole same;
      linked = linked ∙ ap (link chain) same;
      long = omega (arith, enough);
      are = are;
    }

-- nothing comes only if no byte was left
pub ended_out : (chain bytes : List ℕ) (is_all : Bool) (left : Option (List ℕ)) → next chain bytes ≡ ended
    → IsRead bytes is_all left → IsReadOut left
ended_out chain bytes false left is read = read.read
ended_out chain bytes true left is read =
    let long = read.read.0 in absurd (some_left chain bytes is (omega (arith, long)))

-- a byte follows a whole record whose digest is wrong
pub damage_is : (chain before after : List ℕ) (is_all : Bool) (left old new : Option (List ℕ))
    → next chain before ≡ torn → is_all ≡ true → IsRead before is_all left → IsMore old new before after
    → length after ≡ length before + 1 → next chain after ≡ damaged
damage_is chain before after false left old new is all read more one = cc
damage_is chain before after true left old new is all read more one =
    let size = ap length more.grown ∙ length-append before more.bytes in
    subst (λ (bytes : List ℕ). next chain bytes ≡ damaged) (sym more.grown)
    (torn_more chain before more.bytes is read.read (omega (arith, size, one)))

-- the rest of a record was read after its mark
pub record_read : (front all : List ℕ) (old new left : Option (List ℕ)) (count : ℕ) (is_all : Bool)
    → length front ≡ before_text → (is_marked front ≡ true) × (marked_length front ≡ count)
    → IsMore old new front all
    → MatchBool is_all (length all ≡ length front + count) ((length all < length front + count) × IsReadOut left)
    → IsRead all is_all left
record_read front all old new left count true size (marked, says) more complete =
    let many : mark_length ≤ length front = omega (arith, size) in
    let count_is = ap marked_length more.grown ∙ same_length (link front []) front more.bytes many in
    record {
      within = λ long is. omega (arith, complete, size, says, count_is);
      read = (omega (arith, complete, size), λ is. omega (arith, complete, size, says, count_is));
    }
record_read front all old new left count false size (marked, says) more short =
    let many : mark_length ≤ length front = omega (arith, size) in
    let count_is = ap marked_length more.grown ∙ same_length (link front []) front more.bytes many in
    let few = short.0 in
    record {
      within = λ long is. omega (arith, few, size, says, count_is);
      read = short.1;
    }

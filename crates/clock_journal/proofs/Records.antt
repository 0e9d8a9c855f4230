-- What a record reads as, whole or torn, by the four cases of `next`.
use Rattle.std.proofs.Common.{◌≡◌, ◌+◌, ◌-◌, ◌^◌, ◌<◌, ◌≤◌, inl, inr, ℕ, Bool, true, List, ◌++◌, length, take, drop}
use Rattle.std.proofs.Common.{refl, ap, sym, ◌∙◌, subst, arith, length-append, bytes_eq, nat_le, ◌&&◌}
use Rattle.std.proofs.lemmas.List.{take_at, drop_at, length-take-le, drop-drop, append_assoc}
use Rattle.std.proofs.Math.Seq.{take-append-add}
use Rattle.std.proofs.lemmas.Bool.{cases_lt}
use Rattle.std.proofs.lemmas.Nat.{from_be_bytes-to_be_bytes_4}
use Rattle.sha2.proofs.Facts256.{length-sha256}
use Rattle.clock_journal.specs.Format.{before_text, mark_length, link, mark, record_of, most_text, Fits}
use Rattle.clock_journal.specs.Reading.{ended, torn, whole, marked_length, is_marked, checked_text, next}
use Rattle.clock_journal.specs.Crash.{IsEnd}
use Rattle.clock_journal.proofs.Tested.{bytes_eq_same, lt_true, lt_false, le_true, eq_false}

pub length-link : (chain text : List ℕ) → length (link chain text) ≡ 32
unfolding link
length-link chain text = length-sha256 (chain ++ text)

pub length-mark : (count : ℕ) → length (mark count) ≡ mark_length
unfolding mark
length-mark count = refl

pub length-record : (chain text : List ℕ) → length (record_of chain text) ≡ before_text + length text
length-record chain text =
    omega (
      arith,
      length-append (mark (length text)) (link chain text ++ text),
      length-append (link chain text) text,
      length-mark (length text),
      length-link chain text,
    )

-- a mark gives its length, whatever follows
pub marked_length-mark : (count : ℕ) (more : List ℕ) → count < 2 ^ 32 → marked_length (mark count ++ more) ≡ count
unfolding marked_length mark
marked_length-mark count more small = from_be_bytes-to_be_bytes_4 count small

-- both copies of the length are equal
twice : (count : ℕ) (more : List ℕ) → take 4 (mark count ++ more) ≡ take 4 (drop 4 (mark count ++ more))
unfolding mark
twice count more = refl

all_three : (a b c : Bool) → a ≡ true → b ≡ true → c ≡ true → (a && (b && c)) ≡ true
all_three a b c p q r = rw (p, q, r) refl

pub is_marked_mark : (count : ℕ) (more : List ℕ) → 1 ≤ count → count ≤ most_text → is_marked (mark count ++ more) ≡ true
unfolding is_marked
is_marked_mark count more least most =
    let length_is = marked_length-mark count more (omega arith) in
    let is_least : nat_le 1 (marked_length (mark count ++ more)) ≡ true = rw length_is (le_true 1 count least) in
    let is_most : nat_le (marked_length (mark count ++ more)) most_text ≡ true =
    rw length_is (le_true count most_text most) in
    all_three _ _ _ (bytes_eq_same _ _ (twice count more)) is_least is_most

-- ---- the four cases of `next`

pub next_none : (chain bytes : List ℕ) → length bytes ≡ 0 → next chain bytes ≡ ended
unfolding next
next_none chain bytes none = rw none refl

pub next_short : (chain bytes : List ℕ) → 0 < length bytes → length bytes < mark_length → next chain bytes ≡ torn
unfolding next
next_short chain bytes some short = rw (eq_false _ _ some, lt_true _ _ short) refl

pub next_cut : (chain bytes : List ℕ) → mark_length ≤ length bytes → is_marked bytes ≡ true
    → length bytes < before_text + marked_length bytes → next chain bytes ≡ torn
unfolding next
next_cut chain bytes some marked short =
    rw (eq_false (length bytes) 0 (omega arith), lt_false (length bytes) mark_length some, marked, lt_true _ _ short)
    refl

pub next_judged : (chain bytes : List ℕ) → mark_length ≤ length bytes → is_marked bytes ≡ true → before_text
    + marked_length bytes ≤ length bytes → next chain bytes ≡ checked_text chain bytes (marked_length bytes)
unfolding next
next_judged chain bytes some marked enough =
    rw (eq_false (length bytes) 0 (omega arith), lt_false (length bytes) mark_length some, marked, lt_false _ _ enough)
    refl

-- ---- a whole record

-- the parts of a record
pub behind_mark : (count : ℕ) (inner more : List ℕ) → drop mark_length ((mark count ++ inner) ++ more) ≡ inner ++ more
behind_mark count inner more = ap (drop mark_length) (append_assoc (mark count) inner more)
    ∙ drop_at (mark count) (inner ++ more) mark_length (length-mark count)

digest_part : (count : ℕ) (digest text more : List ℕ) → length digest ≡ 32
    → take 32 (drop mark_length ((mark count ++ (digest ++ text)) ++ more)) ≡ digest
digest_part count digest text more size = ap (take 32) (behind_mark count (digest ++ text) more)
    ∙ (ap (take 32) (append_assoc digest text more) ∙ take_at digest (text ++ more) 32 size)

text_part : (count : ℕ) (digest text more : List ℕ) → length digest ≡ 32
    → drop before_text ((mark count ++ (digest ++ text)) ++ more) ≡ text ++ more
text_part count digest text more size = sym (drop-drop 32 mark_length ((mark count ++ (digest ++ text)) ++ more))
    ∙ (ap (drop 32) (behind_mark count (digest ++ text) more)
    ∙ (ap (drop 32) (append_assoc digest text more) ∙ drop_at digest (text ++ more) 32 size))

pub behind_record : (chain text more : List ℕ) → drop (before_text + length text) (record_of chain text ++ more) ≡ more
behind_record chain text more =
    drop_at (record_of chain text) more (before_text + length text) (length-record chain text)

judged_right : (chain bytes text : List ℕ) → take 32 (drop mark_length bytes) ≡ link chain text
    → take (length text) (drop before_text bytes) ≡ text → checked_text chain bytes (length text) ≡ whole text
judged_right chain bytes text digest same =
    let right : bytes_eq (take 32 (drop mark_length bytes)) (link chain (take (length text) (drop before_text bytes)))
    ≡ true = bytes_eq_same _ _ (digest ∙ ap (link chain) (sym same)) in
    rw right (ap whole same)

pub marked_length-record : (chain text more : List ℕ) → Fits text
    → marked_length (record_of chain text ++ more) ≡ length text
marked_length-record chain text more fits = ap marked_length (append_assoc (mark (length text)) (link chain text
    ++ text) more) ∙ marked_length-mark (length text) ((link chain text ++ text) ++ more) (omega (arith, fits.most))

pub marked_record : (chain text more : List ℕ) → Fits text → is_marked (record_of chain text ++ more) ≡ true
marked_record chain text more fits =
    ap is_marked (append_assoc (mark (length text)) (link chain text ++ text) more)
    ∙ is_marked_mark (length text) ((link chain text ++ text) ++ more) fits.least fits.most

-- a record reads as its text, whatever follows
pub next_record : (chain text more : List ℕ) → Fits text → next chain (record_of chain text ++ more) ≡ whole text
next_record chain text more fits =
    let length_is = marked_length-record chain text more fits in
    let all = length-append (record_of chain text) more in
    let size = length-record chain text in
    let judged_is = judged_right chain (record_of chain text ++ more) text
    (digest_part (length text) (link chain text) text more (length-link chain text)) (ap (take (length text)) (text_part
    (length text) (link chain text) text more (length-link chain text)) ∙ take_at text more (length text) refl) in
    next_judged chain (record_of chain text ++ more) (omega arith) (marked_record chain text more fits) (omega arith)
    ∙ (ap (checked_text chain (record_of chain text ++ more)) length_is ∙ judged_is)

-- ---- a torn record

front_of_mark : (count n : ℕ) (inner : List ℕ)
    → take (mark_length + n) (mark count ++ inner) ≡ mark count ++ take n inner
front_of_mark count n inner =
    ap (λ (k : ℕ). take (k + n) (mark count ++ inner)) (sym (length-mark count)) ∙ take-append-add (mark count) inner n

-- with a whole mark, the missing length is known
cut_behind_mark : (chain text : List ℕ) (n : ℕ) → Fits text → mark_length + n < before_text + length text
    → next chain (take (mark_length + n) (record_of chain text)) ≡ torn
cut_behind_mark chain text n fits short =
    let inner = link chain text ++ text in
    let front = front_of_mark (length text) n inner in
    let size = length-take-le (mark_length + n) (record_of chain text) (omega (arith, length-record chain text)) in
    let length_is : marked_length (take (mark_length + n) (record_of chain text)) ≡ length text =
    ap marked_length front ∙ marked_length-mark (length text) (take n inner) (omega (arith, fits.most)) in
    let marked : is_marked (take (mark_length + n) (record_of chain text)) ≡ true =
    ap is_marked front ∙ is_marked_mark (length text) (take n inner) fits.least fits.most in
    next_cut chain (take (mark_length + n) (record_of chain text)) (omega arith) marked (omega arith)

-- a proper prefix of a record is torn or empty
pub next_front : (chain text : List ℕ) (n : ℕ) → Fits text → n < before_text + length text
    → IsEnd (next chain (take n (record_of chain text)))
next_front chain text n fits short =
    let size = length-take-le n (record_of chain text) (omega (arith, length-record chain text)) in
    elim (cases_lt 0 n) [
      | inl some ↦ elim (cases_lt n mark_length) [
        | inl few ↦ inr (next_short chain (take n (record_of chain text)) (omega arith) (omega arith))
        | inr many ↦ inr (let e : mark_length + (n - mark_length) ≡ n = omega arith in
            subst (λ (k : ℕ). next chain (take k (record_of chain text)) ≡ torn) e
            (cut_behind_mark chain text (n - mark_length) fits (omega arith)))
      ]
      | inr none ↦ inl (next_none chain (take n (record_of chain text)) (omega arith))
    ]

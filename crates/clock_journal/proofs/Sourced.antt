-- What is recovered of a source, of which some records were read and taken.
use Rattle.std.proofs.Common.{◌≡◌, ◌≤◌, ◌<◌, ◌+◌, ◌^◌, ◌++◌, ℕ, List, [], ◌∷◌, Option, Some, None, inl, inr, refl, sym}
use Rattle.std.proofs.Common.{ap, ◌∙◌, subst, arith, length, take, drop, reverse, append-nil}
use Rattle.std.proofs.Common.{length-append, length-drop}
use Rattle.std.proofs.lemmas.Bool.{cases_lt}
use Rattle.std.proofs.lemmas.List.{append_assoc, drop_all, length-take-le, take-append-le, take_all}
use Rattle.std.proofs.lemmas.List.Elements.{All-push}
use Rattle.clock_device.specs.Reports.{SourceReport}
use Rattle.clock_device.specs.Streams.{HasRead, IsReadOut}
use Rattle.clock_device.proofs.Streams.{read_twice}
use Rattle.clock_journal.specs.Crash.{IsEnd, IsFile}
use Rattle.clock_journal.specs.Format.{Fits, before_text, head, last_link, link, record_of, records}
use Rattle.clock_journal.specs.Reading.{Next, damaged, next, whole}
use Rattle.clock_journal.specs.Recovering.{HasHead, HasSomeHead, IsFound, record_at}
use Rattle.clock_journal.specs.Resuming.{NoneRefused}
use Rattle.clock_journal.specs.Sources.{HasBytes, IsNotRead}
use Rattle.clock_journal.specs.declared.recovery.JournalFault.{JournalFault}
use Rattle.clock_journal.specs.declared.recovery.JournalFault.TheVariants as fault
use Rattle.clock_journal.specs.declared.recovery.Record.{Record}
use Rattle.clock_journal.specs.inside.Pieces.{CountsOn, HasWholeHead, IsOtherHead, IsReadOnWay, IsUnread, IsWhole}
use Rattle.clock_journal.proofs.Files.{file_head_length, kind, length-head}
use Rattle.clock_journal.proofs.Lists.{many_bytes, reverse-push}
use Rattle.clock_journal.proofs.Moments.{last_link-push, records-push}
use Rattle.clock_journal.proofs.OwnStarts.{not_refused_push}
use Rattle.clock_journal.proofs.Pieces.{broken_since, damaged_more}
use Rattle.clock_journal.proofs.Records.{next_record}
use Rattle.clock_journal.proofs.TakenOver.{has_head, long_head, other_head}
use Rattle.clock_journal.proofs.Whole.{whole_fits, whole_record}

-- the bytes that are left, if they are reported
abbrev pub rest_of : Option (List ℕ) → List ℕ
rest_of None = []
rest_of (Some left) = left

pub has_any : (left : Option (List ℕ)) → HasBytes left (rest_of left)
has_any None = tt
has_any (Some left) = refl

pub has_read : (old new : Option (List ℕ)) (bytes : List ℕ) → HasRead old new bytes
    → HasBytes old (bytes ++ rest_of new)
has_read None new bytes read = tt
has_read (Some xs) None bytes read = absurd read
has_read (Some xs) (Some ys) bytes read = read

pub none_left : (left : Option (List ℕ)) → IsReadOut left → rest_of left ≡ []
none_left None out = refl
none_left (Some left) out = out

-- bytes that were read before the others that a source has
pub has_before : (old mid : Option (List ℕ)) (bytes more : List ℕ) → HasRead old mid bytes → HasBytes mid more
    → HasBytes old (bytes ++ more)
has_before None mid bytes more read has = tt
has_before (Some xs) None bytes more read has = absurd read
has_before (Some xs) (Some ys) bytes more read has = read ∙ ap (λ (b : List ℕ). bytes ++ b) has

-- the faults of reading
pub unread_is : (refuses : List (List ℕ) → List ℕ → Type 0) (digest : List ℕ) (left : Option (List ℕ))
    (old new : SourceReport) (why : JournalFault) (before : List ℕ → List ℕ) → IsUnread old new why
    → (bytes : List ℕ) × HasBytes left bytes × IsNotRead refuses digest (before bytes) old new why
unread_is refuses digest left old new why before (inl none) =
    (rest_of left, has_any left, subst (IsNotRead refuses digest (before (rest_of left)) old new) (sym none) tt)
unread_is refuses digest left old new why before (inr broken) = (
  rest_of left,
  has_any left,
  subst (IsNotRead refuses digest (before (rest_of left)) old new) (sym broken.0) (inl broken.1),
)

module _ (mid : List ℕ → List (List ℕ) → Type 0) (digest : List ℕ) (old left : Option (List ℕ)) (chain : List ℕ)
    (count end : ℕ) (way : IsReadOnWay mid digest old left chain count end) where
  -- there are no more texts than bytes
  pub few_read : count ≤ end
  few_read =
      omega (
        arith,
        way.count_is,
        way.end_is,
        many_bytes digest way.texts,
        length-append (head digest) (records digest way.texts),
      )

  module _ (after : Option (List ℕ)) (bytes : List ℕ) (read : HasRead left after bytes) where
    -- all bytes after the head
    abbrev pub all_read : List ℕ
    all_read = records digest way.texts ++ (bytes ++ rest_of after)

    pub has_all : HasBytes old all_read
    has_all = subst (HasBytes old) (append_assoc (records digest way.texts) bytes (rest_of after))
        (has_read old after (records digest way.texts ++ bytes)
        (read_twice old left after (records digest way.texts) bytes way.read read))

    -- what comes after the texts
    pub read_file : (Comes : Next → Type 0) → Comes (next chain (bytes ++ rest_of after))
        → IsFile digest (head digest ++ all_read) way.texts Comes
    read_file Comes comes = record {
      fit = way.fit;
      rest = bytes ++ rest_of after;
      file = sym (append_assoc (head digest) (records digest way.texts) (bytes ++ rest_of after));
      comes = subst (λ (before : List ℕ). Comes (next before (bytes ++ rest_of after))) way.chain_is comes;
    }

    pub read_end : IsEnd (next chain bytes) → IsReadOut after → IsFile digest (head digest ++ all_read) way.texts IsEnd
    read_end ends out = read_file IsEnd (subst (λ (all : List ℕ). IsEnd (next chain all))
        (sym (ap (λ (rest : List ℕ). bytes ++ rest) (none_left after out) ∙ append-nil bytes)) ends)

    pub read_damage : next chain bytes ≡ damaged
        → IsFile digest (head digest ++ all_read) way.texts (λ found. found ≡ damaged)
    read_damage is =
        read_file (λ (found : Next). found ≡ damaged) (damaged_more chain bytes (rest_of after) is)

    -- more bytes than a number can count
    pub read_far : 2 ^ 64 ≤ end + length bytes → 2 ^ 64 ≤ length (head digest ++ all_read)
    read_far far =
        omega (
          arith,
          far,
          way.end_is,
          length-append (head digest) (records digest way.texts),
          length-append (head digest) all_read,
          length-append (records digest way.texts) (bytes ++ rest_of after),
          length-append bytes (rest_of after),
        )

    module _ (found_digest text : List ℕ) (record_was : IsWhole chain bytes found_digest)
        (text_is : text ≡ drop before_text bytes) where
      comes : next chain bytes ≡ whole text
      comes = record_was.comes ∙ ap whole (sym text_is)

      one_record : bytes ≡ record_of chain text
      one_record =
          let long = record_was.long in
          let size = ap length text_is ∙ length-drop before_text bytes in
          whole_record chain bytes text record_was.are.small comes ∙ ap (λ (b : List ℕ). record_of chain text ++ b)
          (drop_all (before_text + length text) bytes (omega (arith, long, size)))
          ∙ append-nil (record_of chain text)

      fits : Fits text
      fits = whole_fits chain bytes text comes

      pub read_whole : IsFile digest (head digest ++ all_read) way.texts (λ found. found ≡ whole text)
      read_whole = read_file (λ (found : Next). found ≡ whole text)
          (ap (λ (b : List ℕ). next chain (b ++ rest_of after)) one_record
          ∙ next_record chain text (rest_of after) fits)

      -- one more text was taken, with its record, and is not refused
      pub read_more : (new : List ℕ → List (List ℕ) → Type 0) (refuses : List (List ℕ) → List ℕ → Type 0)
          (record_is : Record) (next_end : ℕ) → next_end ≡ end + length bytes
          → record_is ≡ record_at digest (reverse way.texts) text
          → ((first : List ℕ) (past : List (List ℕ)) → mid first past → record_is ≡ record_at first past text
          → new first (text ∷ past))
          → NoneRefused refuses [] way.texts → (refuses (reverse way.texts) text → ⊥)
          → (more : IsReadOnWay new digest old after found_digest (count + 1) next_end)
          × NoneRefused refuses [] more.texts
      read_more new refuses record_is next_end ends same taken fine not_refused =
          let one = record_of (last_link digest way.texts) text in
          let bytes_are : bytes ≡ one = one_record
          ∙ ap (λ (before : List ℕ). record_of before text) way.chain_is in
          let all = records-push digest way.texts text in (
            record {
              texts = way.texts ++ text ∷ [];
              fit = All-push Fits way.texts text way.fit fits;
              read = subst (HasRead old after)
                  (ap (λ (b : List ℕ). records digest way.texts ++ b) bytes_are ∙ sym all)
                  (read_twice old left after (records digest way.texts) bytes way.read read);
              chain_is = record_was.linked ∙ ap (link chain) (sym text_is)
                  ∙ (ap (λ (before : List ℕ). link before text) way.chain_is
                  ∙ sym (last_link-push digest way.texts text));
              count_is = omega (arith, way.count_is, length-append way.texts (text ∷ []));
              end_is = omega (
                arith,
                ends,
                way.end_is,
                ap length all,
                ap length bytes_are,
                length-append (records digest way.texts) one,
                length-append (head digest) (records digest way.texts),
                length-append (head digest) (records digest (way.texts ++ text ∷ [])),
              );
              stands = subst (new digest) (sym (reverse-push way.texts text))
                  (taken digest (reverse way.texts) way.stands same);
            },
            not_refused_push refuses way.texts text fine not_refused,
          )

-- what is found under a premise that holds
pub not_read_given : (Holds : Type 0) (refuses : List (List ℕ) → List ℕ → Type 0) (digest bytes : List ℕ)
    (before after : SourceReport) (why : JournalFault)
    → IsNotRead (λ past text. Holds → refuses past text) digest bytes before after why → Holds
    → IsNotRead refuses digest bytes before after why
not_read_given Holds refuses digest bytes before after fault.Unknown found holds = found
not_read_given Holds refuses digest bytes before after fault.Setup found holds = found
not_read_given Holds refuses digest bytes before after (fault.Damaged place) found holds = found
not_read_given Holds refuses digest bytes before after (fault.Refused place) found holds =
    (found.0, found.1, found.2, found.3, found.4 holds)
not_read_given Holds refuses digest bytes before after fault.NoMemory found holds = found
not_read_given Holds refuses digest bytes before after fault.Failed found holds = found
not_read_given Holds refuses digest bytes before after fault.Unread found holds = found

-- what is found by reads after others
pub not_read_since : (refuses : List (List ℕ) → List ℕ → Type 0) (digest bytes : List ℕ)
    (before mid after : SourceReport) (why : JournalFault) → CountsOn before mid
    → IsNotRead refuses digest bytes mid after why → IsNotRead refuses digest bytes before after why
not_read_since refuses digest bytes before mid after fault.Unknown on found = found
not_read_since refuses digest bytes before mid after fault.Setup on found = found
not_read_since refuses digest bytes before mid after (fault.Damaged place) on found = found
not_read_since refuses digest bytes before mid after (fault.Refused place) on found = found
not_read_since refuses digest bytes before mid after fault.NoMemory on found = found
not_read_since refuses digest bytes before mid after fault.Failed on found = found
not_read_since refuses digest bytes before mid after fault.Unread on (inl broken) =
    inl (broken_since before mid after on broken)
not_read_since refuses digest bytes before mid after fault.Unread on (inr far) = inr far

-- a fault of the head is a fault of all bytes
has_no_head : (digest bytes more : List ℕ) → length digest ≡ 32 → file_head_length ≤ length bytes
    → (HasHead digest bytes → ⊥) → HasHead digest (bytes ++ more) → ⊥
has_no_head digest bytes more size long none has =
    let all = length-append bytes more in
    let same = sym (take-append-le file_head_length bytes more long)
    ∙ long_head digest (bytes ++ more) size (omega (arith, all, long)) has in
    none (subst (λ (n : ℕ). take n bytes ≡ take (length bytes) (head digest)) (sym (length-head digest size))
    (same ∙ sym (take_all (length bytes) (head digest) (omega (arith, length-head digest size, long)))))

has_some_head : (bytes more : List ℕ) → file_head_length ≤ length bytes → HasSomeHead (bytes ++ more)
    → HasSomeHead bytes
has_some_head bytes more long headed = has_head bytes long
    (sym (take-append-le (length kind) bytes more (omega (arith, long))) ∙ (other_head (bytes ++ more) headed).1)

head_fault : (refuses : List (List ℕ) → List ℕ → Type 0) (digest bytes more : List ℕ) (before after : SourceReport)
    (why : JournalFault) → length digest ≡ 32 → file_head_length ≤ length bytes
    → IsOtherHead digest bytes why → IsNotRead refuses digest (bytes ++ more) before after why
head_fault refuses digest bytes more before after fault.Unknown size long found = (
  has_no_head digest bytes more size long found.0,
  λ headed. found.1 (has_some_head bytes more long headed),
)
head_fault refuses digest bytes more before after fault.Setup size long found =
    let headed = found.1 in (
      has_no_head digest bytes more size long found.0,
      (
        headed.0,
        headed.1 ++ more,
        headed.2,
        ap (λ (b : List ℕ). b ++ more) headed.3
            ∙ append_assoc (head headed.0) headed.1 more,
      ),
    )
head_fault refuses digest bytes more before after (fault.Damaged place) size long found = absurd found
head_fault refuses digest bytes more before after (fault.Refused place) size long found = absurd found
head_fault refuses digest bytes more before after fault.NoMemory size long found = absurd found
head_fault refuses digest bytes more before after fault.Failed size long found = absurd found
head_fault refuses digest bytes more before after fault.Unread size long found = absurd found

short_fault : (refuses : List (List ℕ) → List ℕ → Type 0) (digest bytes : List ℕ) (before after : SourceReport)
    (why : JournalFault) → IsOtherHead digest bytes why → IsNotRead refuses digest bytes before after why
short_fault refuses digest bytes before after fault.Unknown found = found
short_fault refuses digest bytes before after fault.Setup found = found
short_fault refuses digest bytes before after (fault.Damaged place) found = absurd found
short_fault refuses digest bytes before after (fault.Refused place) found = absurd found
short_fault refuses digest bytes before after fault.NoMemory found = absurd found
short_fault refuses digest bytes before after fault.Failed found = absurd found
short_fault refuses digest bytes before after fault.Unread found = absurd found

-- all bytes, of which the first were read, and no byte is left
pub all_of : (old left : Option (List ℕ)) (bytes : List ℕ) → HasRead old left bytes → IsReadOut left
    → HasBytes old bytes
all_of old left bytes read out = subst (HasBytes old)
    (ap (λ (rest : List ℕ). bytes ++ rest) (none_left left out) ∙ append-nil bytes) (has_read old left bytes read)

-- another head was read
pub head_not_read : (refuses : List (List ℕ) → List ℕ → Type 0) (digest bytes : List ℕ) (old left : Option (List ℕ))
    (before after : SourceReport) (why : JournalFault) → length digest ≡ 32 → HasRead old left bytes
    → (length bytes < file_head_length → IsReadOut left) → IsOtherHead digest bytes why
    → (all : List ℕ) × HasBytes old all × IsNotRead refuses digest all before after why
head_not_read refuses digest bytes old left before after why size read out found =
    elim (cases_lt (length bytes) file_head_length) [
      | inl short ↦ (
        bytes,
        all_of old left bytes read (out short),
        short_fault refuses digest bytes before after why found,
      )
      | inr long ↦ (
        bytes ++ rest_of left,
        has_read old left bytes read,
        head_fault refuses digest bytes (rest_of left) before after why size long found,
      )
    ]

-- another head is a fault of the file
pub other_found : (refuses : List (List ℕ) → List ℕ → Type 0) (digest bytes : List ℕ) (why : JournalFault)
    → IsOtherHead digest bytes why → IsFound refuses digest bytes why
other_found refuses digest bytes fault.Unknown found = found
other_found refuses digest bytes fault.Setup found = found
other_found refuses digest bytes (fault.Damaged place) found = absurd found
other_found refuses digest bytes (fault.Refused place) found = absurd found
other_found refuses digest bytes fault.NoMemory found = absurd found
other_found refuses digest bytes fault.Failed found = absurd found
other_found refuses digest bytes fault.Unread found = absurd found

-- a buffer that was filled with a whole head
pub whole_head : (digest buffer : List ℕ) (count : ℕ) → count ≤ length buffer → length buffer ≡ file_head_length
    → HasWholeHead digest (take count buffer) → take count buffer ≡ head digest
whole_head digest buffer count within size has =
    let few = length-take-le count buffer within in
    sym (take_all file_head_length (take count buffer) (omega (arith, few, within, size))) ∙ has.same

-- fewer bytes than a head were read only if no byte is left
pub short_out : (buffer : List ℕ) (count : ℕ) (left : Option (List ℕ)) → count ≤ length buffer
    → length buffer ≡ file_head_length → (count < length buffer → IsReadOut left)
    → length (take count buffer) < file_head_length → IsReadOut left
short_out buffer count left within size out short =
    let few = length-take-le count buffer within in out (omega (arith, few, size, short))

-- Files that are the journal of some texts, and what comes after that.
use Rattle.std.proofs.Common.{◌≡◌, ◌≤◌, ◌-◌, ◌+◌, ◌++◌, ℕ, List, [], ◌∷◌, length, take, drop, codes, refl, sym, ap}
use Rattle.std.proofs.Common.{◌∙◌, subst, arith, length-append}
use Rattle.std.proofs.lemmas.List.{append_assoc, drop_at}
use Rattle.std.proofs.lemmas.List.Elements.{All-take}
use Rattle.std.specs.Prelude.{All}
use Rattle.std.proofs.Math.Seq.{take-append-add}
use Rattle.clock_journal.specs.Crash.{BeginsWithTexts, IsFile, LeavesTexts}
use Rattle.clock_journal.specs.Format.{head, link, record_of, records, last_link, Fits}
use Rattle.clock_journal.specs.Laws.{WhateverFollows}
use Rattle.clock_journal.specs.Logged.{file_of}
use Rattle.clock_journal.specs.Reading.{Next, next}
use Rattle.clock_journal.proofs.Fronts.{HasSome, IsNoText, ReadsTexts, reads_first, reads_once, reads_records}

-- the bytes of a head
abbrev pub file_head_length : ℕ
file_head_length = 56

-- its first bytes, which are the same in every journal
abbrev pub kind : List ℕ
kind = codes "clock_auction journal 1\n"

pub length-head : (digest : List ℕ) → length digest ≡ 32 → length (head digest) ≡ file_head_length
unfolding head
length-head digest long = omega (arith, long, length-append kind digest)

pub some_head : (digest : List ℕ) → 1 ≤ length (head digest)
unfolding head
some_head digest = omega (arith, length-append kind digest)

pub records-append : (chain : List ℕ) (texts further : List (List ℕ))
    → records chain (texts ++ further) ≡ records chain texts ++ records (last_link chain texts) further
records-append chain [] further = refl
records-append chain (text ∷ texts) further =
    ap (λ (bytes : List ℕ). record_of chain text ++ bytes) (records-append (link chain text) texts further)
    ∙ sym (append_assoc (record_of chain text) (records (link chain text) texts)
    (records (last_link (link chain text) texts) further))

-- a head, and then some of the records
pub some_left : (digest left bytes : List ℕ) (texts : List (List ℕ)) (least : ℕ) → All Fits texts
    → left ≡ head digest ++ bytes → HasSome digest bytes texts least → LeavesTexts digest left texts least
some_left digest left bytes texts least fit is some = record {
  count = some.count;
  enough = some.enough;
  most = some.most;
  first = record {
    fit = All-take Fits some.count texts fit;
    rest = some.rest;
    file = is ∙ (ap (λ (b : List ℕ). head digest ++ b) some.are
        ∙ sym (append_assoc (head digest) (records digest (take some.count texts)) some.rest));
    comes = some.ends;
  };
}

module _ (digest bytes : List ℕ) (texts : List (List ℕ)) (Comes : Next → Type 0)
    (file : IsFile digest bytes texts Comes) where
  -- the bytes after the head
  pub behind_head : drop (length (head digest)) bytes ≡ records digest texts ++ file.rest
  behind_head =
      ap (drop (length (head digest))) (file.file ∙ append_assoc (head digest) (records digest texts) file.rest)
      ∙ drop_at (head digest) (records digest texts ++ file.rest) (length (head digest)) refl

  pub reads_of : ReadsTexts digest (drop (length (head digest)) bytes) texts file.rest
  reads_of = subst (λ (b : List ℕ). ReadsTexts digest b texts file.rest) (sym behind_head)
      (reads_records digest texts file.rest file.fit)

  -- it has a whole head
  pub long_file : (length (head digest) ≤ length (file_of digest texts))
      × (length (file_of digest texts) ≤ length bytes)
  long_file =
      let all = ap length file.file ∙ length-append (file_of digest texts) file.rest in
      let parts = length-append (head digest) (records digest texts) in
      (omega (arith, parts), omega (arith, all))

  -- a prefix of the file with all of its whole records
  pub shorter : (left : List ℕ) (count : ℕ) (Others : Next → Type 0) → length (file_of digest texts) ≤ count
      → left ≡ take count bytes → ((n : ℕ) → Others (next (last_link digest texts) (take n file.rest)))
      → IsFile digest left texts Others
  shorter left count Others enough is comes =
      let more = count - length (file_of digest texts) in
      let e : count ≡ length (file_of digest texts) + more = omega (arith, enough) in
      record {
        fit = file.fit;
        rest = take more file.rest;
        file = is ∙ (ap (take count) file.file ∙ (ap (λ (n : ℕ). take n (file_of digest texts ++ file.rest)) e
            ∙ take-append-add (file_of digest texts) file.rest more));
        comes = comes more;
      }

-- a file is that of one list of texts only
pub same_texts : (digest bytes : List ℕ) (texts others : List (List ℕ)) (Comes Others : Next → Type 0)
    → (one : IsFile digest bytes texts Comes) → (other : IsFile digest bytes others Others)
    → IsNoText (next (last_link digest texts) one.rest) → IsNoText (next (last_link digest others) other.rest)
    → (others ≡ texts) × (other.rest ≡ one.rest)
same_texts digest bytes texts others Comes Others one other none no_other = reads_once digest
    (drop (length (head digest)) bytes) texts others one.rest other.rest (reads_of digest bytes texts Comes one) none
    (reads_of digest bytes others Others other) no_other

-- what is read of a file that begins with a journal begins with its texts, and ends after them
pub texts_first : (digest bytes : List ℕ) (first read : List (List ℕ)) (Comes : Next → Type 0)
    → BeginsWithTexts digest bytes first → (file : IsFile digest bytes read Comes)
    → IsNoText (next (last_link digest read) file.rest) → ((further : List (List ℕ)) × (read ≡ first ++ further))
    × (length (file_of digest first) ≤ length (file_of digest read))
texts_first digest bytes first read Comes begins file none =
    let more = reads_first digest first begins.rest read file.rest begins.fit
    (subst (λ (b : List ℕ). ReadsTexts digest b read file.rest) (behind_head digest bytes first
    (λ (found : Next). Unit {0}) begins) (reads_of digest bytes read Comes file)) none in
    let longer = ap length (ap (records digest) more.1 ∙ records-append digest first more.0)
    ∙ length-append (records digest first) (records (last_link digest first) more.0) in (
      more,
      omega (
        arith,
        longer,
        length-append (head digest) (records digest first),
        length-append (head digest) (records digest read),
      ),
    )

pub begins_first : WhateverFollows
begins_first digest bytes first texts begins file =
    (texts_first digest bytes first texts IsNoText begins file file.comes).0

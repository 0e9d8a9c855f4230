-- What a crash leaves while a journal is resumed from a file, or begins in it: by cases on the moments of the calls.
use Rattle.std.proofs.Common.{◌≡◌, ◌≤◌, ◌<◌, ◌+◌, inl, inr, ◌++◌, ℕ, List, [], Option, Some, None, length, take}
use Rattle.std.proofs.Common.{Result, Ok, Err}
use Rattle.std.proofs.Common.{refl, sym, ap, ◌∙◌, subst, arith, length-append}
use Rattle.std.specs.Prelude.{option_map}
use Rattle.std.proofs.lemmas.List.{append-nil, take_all, length-take, length-take-le}
use Rattle.std.proofs.lemmas.Bool.{cases_lt}
use Rattle.std.proofs.lemmas.List.Elements.{All-nil}
use Rattle.clock_device.specs.Streams.{HasWrittenFront, WritesText}
use Rattle.clock_journal.specs.Disks.{LeaveOnly, MayBeLeft, Moment, Passes}
use Rattle.clock_journal.specs.Format.{head, Fits}
use Rattle.clock_journal.specs.Logged.{JournalState, file_of}
use Rattle.clock_journal.specs.Reading.{Next}
use Rattle.clock_journal.specs.Crash.{BeginsWithTexts, IsEnd, IsFile, IsPartOfHead, LeavesJournal, LeavesTexts}
use Rattle.clock_journal.specs.Recovering.{AreTextsOf}
use Rattle.clock_journal.specs.Resuming.{LeavesWhatWas}
use Rattle.clock_journal.specs.declared.durable.Durable.{Ghosts}
use Rattle.clock_journal.specs.declared.recovery.Recovered.{Recovered}
use Rattle.clock_journal.proofs.Cuts.{cut_leaves, cut_within}
use Rattle.clock_journal.proofs.Files.{length-head, long_file, shorter, texts_first}
use Rattle.clock_journal.proofs.Fronts.{end_is_none, take_none}
use Rattle.clock_journal.proofs.Moments.{all_is_front, front_leaves, take_of_take}
use Rattle.clock_journal.proofs.Passing.{leave_one, leave_then}

-- ---- the head

part_is : (digest left : List ℕ) (n : ℕ) → left ≡ take n (head digest) → length left < length (head digest)
    → IsPartOfHead digest left
part_is digest left n is short =
    elim (cases_lt n (length (head digest))) [
      | inl less ↦ (let same : length left ≡ n = ap length is ∙ length-take-le n (head digest) (omega (arith, less)) in
          record { short = short; front = is ∙ ap (λ (k : ℕ). take k (head digest)) (sym same) })
      | inr all ↦ (let same = ap length (is ∙ take_all n (head digest) all) in
          absurd (omega (arith, same, short)))
    ]

front_of_head : (digest left : List ℕ) (n : ℕ) → length digest ≡ 32 → left ≡ take n (head digest)
    → LeavesJournal digest left [] 0
front_of_head digest left n size is =
    elim (cases_lt (length left) (length (head digest))) [
      | inl short ↦ inr (refl, part_is digest left n is short)
      | inr long ↦ (let count = ap length is ∙ length-take n (head digest) in
          let all = length-append (head digest) [] in
          let enough : length (head digest ++ []) ≤ n = omega (arith, count, all, long) in
          inl (subst (λ (b : List ℕ). LeavesTexts digest b [] 0) (sym (is ∙ ap (take n)
          (sym (append-nil (head digest))))) (front_leaves digest [] 0 n (All-nil Fits) (omega arith) enough)))
    ]

head_left : (digest written left : List ℕ) (synced : Option (List ℕ)) → length digest ≡ 32
    → HasWrittenFront (Some []) (Some written) (head digest) → MayBeLeft synced (Some written) left
    → LeavesJournal digest left [] 0
head_left digest written left (Some synced) size front may =
    let part = take_of_take may.0 front.0 (head digest) in
    front_of_head digest left part.0 size (may.2 ∙ (ap (take may.0) front.1 ∙ part.1))
head_left digest written left None size front may = absurd may

head_known : (digest : List ℕ) (synced written : Option (List ℕ)) → length digest ≡ 32
    → HasWrittenFront (Some []) written (head digest) → (left : List ℕ) → MayBeLeft synced written left
    → LeavesJournal digest left [] 0
head_known digest synced (Some written) size front left may = head_left digest written left synced size front may
head_known digest synced None size front left may = absurd front.1

-- while the head, or a prefix of it, was appended to an empty file
head_reads : (digest bytes : List ℕ) (old synced written : Option (List ℕ)) → length digest ≡ 32 → old ≡ Some []
    → bytes ≡ head digest → HasWrittenFront old written bytes → (left : List ℕ) → MayBeLeft synced written left
    → LeavesJournal digest left [] 0
head_reads digest bytes old synced written size empty is front =
    head_known digest synced written size (subst (λ (h : List ℕ). HasWrittenFront (Some []) written h) is
    (subst (λ (o : Option (List ℕ)). HasWrittenFront o written bytes) empty front))

-- ---- the file is truncated

cut_passes : (old new : Option (List Moment)) (synced written was : Option (List ℕ)) (bytes : List ℕ) (place : ℕ)
    → synced ≡ was → written ≡ was → was ≡ Some bytes → Passes old new (option_map (take place) synced) written
    → Passes old new (Some (take place bytes)) (Some bytes)
cut_passes old new synced written was bytes place same still is passes =
    subst (λ (w : Option (List ℕ)). Passes old new (Some (take place bytes)) w) (still ∙ is)
    (subst (λ (s : Option (List ℕ)). Passes old new (option_map (take place) s) written) (same ∙ is) passes)

-- through a sync and a truncation after it
through_cut : (first mid last : Option (List Moment)) (synced written synced_then written_then : Option (List ℕ))
    (bytes : List ℕ) (place : ℕ) (Leaves : List ℕ → Type 0) → Passes first mid synced written → ((left : List ℕ)
    → MayBeLeft synced written left → Leaves left) → Passes mid last (option_map (take place) synced_then) written_then
    → synced_then ≡ written → written_then ≡ written → written ≡ Some bytes → ((left : List ℕ)
    → MayBeLeft (Some (take place bytes)) (Some bytes) left → Leaves left) → LeaveOnly first last Leaves
through_cut first mid last synced written synced_then written_then bytes place Leaves passes before cut same still is
    after = leave_then first mid last Leaves (leave_one first mid synced written Leaves passes before)
    (leave_one mid last (Some (take place bytes)) (Some bytes) Leaves
    (cut_passes mid last synced_then written_then written bytes place same still is cut) after)

-- a crash now may leave what is in the file
pub now_left : (synced written : Option (List ℕ)) (on_disk bytes : List ℕ) → synced ≡ Some on_disk
    → written ≡ Some bytes → MayBeLeft synced written bytes
now_left synced written on_disk bytes same is =
    subst (λ (s : Option (List ℕ)). MayBeLeft s written bytes) (sym same)
    (subst (λ (w : Option (List ℕ)). MayBeLeft (Some on_disk) w bytes) (sym is)
    (length on_disk + length bytes, omega arith, sym (take_all (length on_disk + length bytes) bytes (omega arith))))

crash_cut : (digest bytes : List ℕ) (texts read : List (List ℕ)) (least : ℕ) (recovered : Recovered) (left : List ℕ)
    → length digest ≡ 32 → LeavesJournal digest bytes texts least → AreTextsOf digest bytes read recovered
    → MayBeLeft (Some (take recovered.end bytes)) (Some bytes) left → LeavesJournal digest left texts least
crash_cut digest bytes texts read least recovered left size (inl leaves) placed may =
    inl (cut_leaves digest bytes texts read least recovered left size leaves placed may)
crash_cut digest bytes texts read least recovered left size (inr part) placed may =
    let front = take_of_take may.0 (length bytes) (head digest) in
    let shorter = ap length may.2 ∙ length-take may.0 bytes in
    let short = part.1.short in
    inr (
      part.0,
      part_is digest left front.0 (may.2 ∙ (ap (take may.0) part.1.front ∙ front.1))
          (omega (arith, shorter, short)),
    )

tail_cut : (digest bytes : List ℕ) (texts read : List (List ℕ)) (recovered : Recovered) (left : List ℕ)
    → length digest ≡ 32 → BeginsWithTexts digest bytes texts → AreTextsOf digest bytes read recovered
    → MayBeLeft (Some (take recovered.end bytes)) (Some bytes) left → BeginsWithTexts digest left texts
tail_cut digest bytes texts read recovered left size begins placed may =
    elim placed.end_is [
      | inl here ↦ (let part = cut_within bytes left recovered.end (length (file_of digest read)) may
          (long_file digest bytes read IsEnd here.0).1 here.1 in
          let first = texts_first digest bytes texts read IsEnd begins here.0 (end_is_none _ here.0.comes) in
          shorter digest bytes texts (λ (found : Next). Unit {0}) begins left part.0 (λ (found : Next). Unit {0})
          (omega (arith, first.1, part.1)) part.2 (λ n. tt))
      | inr begun ↦ (let long = long_file digest bytes texts (λ (found : Next). Unit {0}) begins in
          let short = begun.0.short in
          absurd (omega (arith, long.0, long.1, short)))
    ]

-- ---- a journal that begins again

nothing_reported : (digest bytes : List ℕ) (texts : List (List ℕ)) (least : ℕ) → length digest ≡ 32
    → LeavesJournal digest bytes texts least → length bytes < length (head digest) → least ≡ 0
nothing_reported digest bytes texts least size (inl leaves) short =
    let long = long_file digest bytes (take leaves.count texts) IsEnd leaves.first in
    absurd (omega (arith, long.0, long.1, short))
nothing_reported digest bytes texts least size (inr part) short = part.0

begun_anew : (digest bytes : List ℕ) (read : List (List ℕ)) (recovered : Recovered) → length digest ≡ 32
    → recovered.end ≡ 0 → AreTextsOf digest bytes read recovered → length bytes < length (head digest)
begun_anew digest bytes read recovered size nowhere placed =
    elim placed.end_is [
      | inl here ↦ (let long = long_file digest bytes read IsEnd here.0 in
          absurd (omega (arith, long.0, here.1, nowhere, length-head digest size)))
      | inr begun ↦ begun.0.short
    ]

none_of_any : (digest left : List ℕ) (texts : List (List ℕ)) → LeavesTexts digest left [] 0
    → LeavesTexts digest left texts 0
none_of_any digest left texts leaves = record {
  count = 0;
  enough = omega arith;
  most = omega arith;
  first =
      subst (λ (none : List (List ℕ)). IsFile digest left none IsEnd) (take_none leaves.count) leaves.first;
}

-- so none of its texts had a reply: what a crash leaves of an empty journal, it may leave of these texts
anew_leaves : (digest bytes : List ℕ) (texts read : List (List ℕ)) (least : ℕ) (recovered : Recovered)
    (left : List ℕ) → length digest ≡ 32 → recovered.end ≡ 0 → LeavesJournal digest bytes texts least
    → AreTextsOf digest bytes read recovered → LeavesJournal digest left [] 0 → LeavesJournal digest left texts least
anew_leaves digest bytes texts read least recovered left size nowhere leaves placed now =
    let none = nothing_reported digest bytes texts least size leaves
    (begun_anew digest bytes read recovered size nowhere placed) in
    elim now [
      | inl some ↦
          inl (subst (λ (n : ℕ). LeavesTexts digest left texts n) (sym none) (none_of_any digest left texts some))
      | inr part ↦ inr (none, part.1)
    ]

none_first : (digest bytes : List ℕ) (texts read : List (List ℕ)) (recovered : Recovered) → length digest ≡ 32
    → recovered.end ≡ 0 → BeginsWithTexts digest bytes texts → AreTextsOf digest bytes read recovered → ⊥
none_first digest bytes texts read recovered size nowhere begins placed =
    let long = long_file digest bytes texts (λ (found : Next). Unit {0}) begins in
    let short = begun_anew digest bytes read recovered size nowhere placed in
    omega (arith, long.0, long.1, short)

-- ---- a start, moment by moment

-- a file that is truncated to nothing is empty
pub emptied : (old mid new : Option (List ℕ)) (bytes : List ℕ) (place : ℕ) → new ≡ option_map (take place) mid
    → mid ≡ old → place ≡ 0 → old ≡ Some bytes → new ≡ Some []
emptied old mid new bytes place cuts same nowhere is =
    cuts ∙ (ap (option_map (take place)) (same ∙ is) ∙ ap (λ (n : ℕ). Some (take n bytes)) nowhere)

written_front : {U E : Type 0} (old new : Option (List ℕ)) (text : List ℕ) (end : Result U E)
    → WritesText old new text end → HasWrittenFront old new text
written_front old new text (Ok done) written = all_is_front old new text written
written_front old new text (Err failed) front = front

-- what holds of a file still does when its torn end is cut off, and when its journal begins again
pub record Lasts (digest bytes : List ℕ) (recovered : Recovered) (Leaves : List ℕ → Type 0) : Type 0 where
  pub cut : (left : List ℕ) → Leaves bytes → MayBeLeft (Some (take recovered.end bytes)) (Some bytes) left
      → Leaves left
  pub anew : (left : List ℕ) → recovered.end ≡ 0 → Leaves bytes → LeavesJournal digest left [] 0 → Leaves left

crash_lasts : {digest bytes : List ℕ} {read : List (List ℕ)} {recovered : Recovered} (texts : List (List ℕ))
    (least : ℕ) → length digest ≡ 32 → AreTextsOf digest bytes read recovered
    → Lasts digest bytes recovered (λ left. LeavesJournal digest left texts least)
crash_lasts {digest} {bytes} {read} {recovered} texts least size placed = record {
  cut = λ left leaves may. crash_cut digest bytes texts read least recovered left size leaves placed may;
  anew = λ left nowhere leaves now.
      anew_leaves digest bytes texts read least recovered left size nowhere leaves placed now;
}

tail_lasts : {digest bytes : List ℕ} {read : List (List ℕ)} {recovered : Recovered} (texts : List (List ℕ))
    → length digest ≡ 32 → AreTextsOf digest bytes read recovered
    → Lasts digest bytes recovered (λ left. BeginsWithTexts digest left texts)
tail_lasts {digest} {bytes} {read} {recovered} texts size placed = record {
  cut = λ left begins may. tail_cut digest bytes texts read recovered left size begins placed may;
  anew = λ left nowhere begins now. absurd (none_first digest bytes texts read recovered size nowhere begins placed);
}

-- if contracts see these bytes: what holds of all that a crash before could have left holds of what one since could
abbrev pub Stays : JournalState → List ℕ → List ℕ → Option (List Moment) → (List ℕ → List ℕ → Type 0) → Type 0
Stays at bytes on_disk new Leaves = at.written ≡ Some bytes → at.synced ≡ Some on_disk
    → ((left : List ℕ) → MayBeLeft at.synced at.written left → Leaves at.chain left)
    → LeaveOnly at.moments new (Leaves at.chain)

-- what lasts of a file also stays so: then a crash leaves what one before would leave
pub leaves_what_was : {at now new : JournalState} {bytes : List ℕ} {read : List (List ℕ)} {recovered : Recovered}
    → at ≡ now → length at.chain ≡ 32 → AreTextsOf now.chain bytes read recovered
    → ((synced : List ℕ) (Leaves : List ℕ → List ℕ → Type 0) → Lasts now.chain bytes recovered (Leaves now.chain)
    → Stays now bytes synced new.moments Leaves) → LeavesWhatWas bytes now new
leaves_what_was view sized placed stays =
    let size = subst (λ (one : JournalState). length one.chain ≡ 32) view sized in
    record {
      crash = λ synced texts least. stays synced (λ chain left. LeavesJournal chain left texts least)
          (crash_lasts texts least size placed);
      any_tail = λ synced texts. stays synced (λ chain left. BeginsWithTexts chain left texts)
          (tail_lasts texts size placed);
    }

module _ {D : Type 0} (disk : Ghosts D) (at now : JournalState) (view : at ≡ now) (bytes on_disk : List ℕ)
    (Leaves : List ℕ → List ℕ → Type 0) (first : D)
    (passes : Passes at.moments (disk.moments first) at.synced at.written) where
  synced_there : Stays at bytes on_disk (disk.moments first) Leaves
  synced_there is same before =
      leave_one at.moments (disk.moments first) at.synced at.written (Leaves at.chain) passes before

  -- after the sync
  pub stays_synced : Stays now bytes on_disk (disk.moments first) Leaves
  stays_synced = subst (λ (one : JournalState). Stays one bytes on_disk (disk.moments first) Leaves) view synced_there

  module _ (all : disk.synced first ≡ at.written) (still : disk.written first ≡ at.written)
      (recovered : Recovered) (lasts : Lasts now.chain bytes recovered (Leaves now.chain)) (cut : D)
      (cuts : Passes (disk.moments first) (disk.moments cut) (option_map (take recovered.end) (disk.synced first))
      (disk.written first)) where
    lasts_there : Lasts at.chain bytes recovered (Leaves at.chain)
    lasts_there =
        subst (λ (one : JournalState). Lasts one.chain bytes recovered (Leaves one.chain)) (sym view) lasts

    cut_there : Stays at bytes on_disk (disk.moments cut) Leaves
    cut_there is same before = through_cut at.moments (disk.moments first) (disk.moments cut) at.synced at.written
        (disk.synced first) (disk.written first) bytes recovered.end (Leaves at.chain) passes before cuts
        all still is
        (λ left may. lasts_there.cut left (before bytes (now_left at.synced at.written on_disk bytes same is)) may)

    -- after the truncation
    pub stays_cut : Stays now bytes on_disk (disk.moments cut) Leaves
    stays_cut = subst (λ (one : JournalState). Stays one bytes on_disk (disk.moments cut) Leaves) view cut_there

    module _ (empty : at.written ≡ Some bytes → disk.written cut ≡ Some []) (nowhere : recovered.end ≡ 0)
        (size : length at.chain ≡ 32) (text : List ℕ) (text_is : text ≡ head at.chain) {V G : Type 0} (how : Result V G)
        (begun : D) (writes : WritesText (disk.written cut) (disk.written begun) text how)
        (appends : Passes (disk.moments cut) (disk.moments begun) (disk.synced cut) (disk.written begun)) where
      -- the file is a prefix of the head
      begun_leaves : at.written ≡ Some bytes → at.synced ≡ Some on_disk
          → ((left : List ℕ) → MayBeLeft at.synced at.written left → Leaves at.chain left)
          → (one : Option (List ℕ)) (left : List ℕ) → MayBeLeft one (disk.written begun) left → Leaves at.chain left
      begun_leaves is same before one left may =
          lasts_there.anew left nowhere (before bytes (now_left at.synced at.written on_disk bytes same is))
          (head_reads at.chain text (disk.written cut) one (disk.written begun) size (empty is) text_is
          (written_front (disk.written cut) (disk.written begun) text how writes) left may)

      begun_there : Stays at bytes on_disk (disk.moments begun) Leaves
      begun_there is same before =
          leave_then at.moments (disk.moments cut) (disk.moments begun) (Leaves at.chain) (cut_there is same before)
          (leave_one (disk.moments cut) (disk.moments begun) (disk.synced cut) (disk.written begun) (Leaves at.chain)
          appends (begun_leaves is same before (disk.synced cut)))

      -- after the head, or a prefix of it, was appended
      pub stays_begun : Stays now bytes on_disk (disk.moments begun) Leaves
      stays_begun = subst (λ (one : JournalState). Stays one bytes on_disk (disk.moments begun) Leaves) view begun_there

      module _ (last : D)
          (syncs : Passes (disk.moments begun) (disk.moments last) (disk.synced begun) (disk.written begun)) where
        last_there : Stays at bytes on_disk (disk.moments last) Leaves
        last_there is same before = leave_then at.moments (disk.moments begun) (disk.moments last) (Leaves at.chain)
            (begun_there is same before) (leave_one (disk.moments begun) (disk.moments last) (disk.synced begun)
            (disk.written begun) (Leaves at.chain) syncs (begun_leaves is same before (disk.synced begun)))

        -- after the last sync
        pub stays_last : Stays now bytes on_disk (disk.moments last) Leaves
        stays_last = subst (λ (one : JournalState). Stays one bytes on_disk (disk.moments last) Leaves) view last_there

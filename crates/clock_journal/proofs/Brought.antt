-- A disk that is brought to the bytes of a longer file, and the two files of a mirror after that.
use Rattle.std.proofs.Common.{◌≡◌, ℕ, List, [], ◌∷◌, ◌++◌}
use Rattle.std.proofs.Common.{take, Option, Some, None, refl, sym, ap, ◌∙◌, subst, append_assoc, false}
use Rattle.std.proofs.KnownBytes.{Consumes-nil}
use Rattle.std.specs.Prelude.{All, OnOk, Result, Ok, Err, option_map}
use Rattle.std.proofs.lemmas.List.{append-nil}
use Rattle.std.proofs.lemmas.List.Elements.{All-append, All-cons, All-nil}
use Rattle.clock_device.specs.Streams.{HasRead, HasWritten, HasWrittenFront, IsReadOut}
use Rattle.clock_device.proofs.Streams.{read_twice, written_twice}
use Rattle.clock_journal.specs.Disks.{Moment, Passes}
use Rattle.clock_journal.specs.Mirrors.{DiskState, IsOnWay, IsPrefix, RunsTo}
use Rattle.clock_journal.specs.inside.Leveling.{AreCopied, IsCopied, IsCopying}
use Rattle.clock_journal.proofs.Mirrored.{before_more, before_rest, itself, known_all, known_front, prefix_of}
use Rattle.clock_journal.proofs.Moments.{all_is_front}
use Rattle.clock_journal.proofs.Sourced.{all_of, has_any, has_read, rest_of}

-- ---- a disk that is brought to all bytes

runs_one : (old new : DiskState) (bytes missing : List ℕ) → HasWrittenFront old.written new.written missing
    → Passes old.moments new.moments old.synced new.written → RunsTo bytes (bytes ++ missing) old new
runs_one old new bytes missing front passes is =
    let part = known_front old.written new.written bytes missing is front in
    let moment : Moment = record { synced = old.synced; written = new.written } in
    let way : IsOnWay old.synced bytes (bytes ++ missing) moment = (
      bytes ++ take part.0 missing,
      part.1,
      before_more bytes (take part.0 missing),
      before_rest bytes missing part.0,
      refl,
    ) in (
      moment ∷ [],
      passes,
      All-cons (IsOnWay old.synced bytes (bytes ++ missing)) moment [] way
          (All-nil (IsOnWay old.synced bytes (bytes ++ missing))),
    )

-- a sync passes one more moment, with the same bytes
runs_synced : (old new : DiskState) (bytes : List ℕ) → Passes old.moments new.moments old.synced old.written
    → RunsTo bytes bytes old new
runs_synced old new bytes passes is =
    let moment : Moment = record { synced = old.synced; written = old.written } in
    let Way = IsOnWay old.synced bytes bytes in
    let way : Way moment = (bytes, is, itself bytes, itself bytes, refl) in
    (moment ∷ [], passes, All-cons Way moment [] way (All-nil Way))

-- the moments of two calls, one after the other
both_passed : (old mid new : Option (List Moment)) (first second : List Moment)
    → mid ≡ option_map (λ (moments : List Moment). first ++ moments) old
    → new ≡ option_map (λ (moments : List Moment). second ++ moments) mid
    → new ≡ option_map (λ (moments : List Moment). (second ++ first) ++ moments) old
both_passed None mid new first second one other =
    other ∙ ap (option_map (λ (moments : List Moment). second ++ moments)) one
both_passed (Some old) mid new first second one other =
    other ∙ (ap (option_map (λ (moments : List Moment). second ++ moments)) one
    ∙ ap Some (sym (append_assoc second first old)))

-- a moment on the way to some bytes is on the way to more of them
on_way : (synced : Option (List ℕ)) (bytes part all : List ℕ) → IsPrefix part all → (passed : List Moment)
    → All (IsOnWay synced bytes part) passed → All (IsOnWay synced bytes all) passed
on_way synced bytes part all front passed ways k d less =
    let (now, written, back, within, same) = ways k d less in
    (now, written, back, prefix_of now part all within front, same)

-- and one that came later is on the way from the first bytes
on_way_from : (synced later : Option (List ℕ)) (bytes part all : List ℕ) → later ≡ synced → IsPrefix bytes part
    → (passed : List Moment) → All (IsOnWay later part all) passed → All (IsOnWay synced bytes all) passed
on_way_from synced later bytes part all same front passed ways k d less =
    let (now, written, back, within, is) = ways k d less in
    (now, written, prefix_of bytes part now front back, within, is ∙ same)

runs_further : (old new : DiskState) (bytes part all : List ℕ) → IsPrefix part all → RunsTo bytes part old new
    → RunsTo bytes all old new
runs_further old new bytes part all front runs is =
    let (since, passed, ways) = runs is in (since, passed, on_way old.synced bytes part all front since ways)

-- one call after the other
runs_then : (old mid new : DiskState) (bytes part all : List ℕ) → IsPrefix bytes part → IsPrefix part all
    → (old.written ≡ Some bytes → mid.written ≡ Some part) → mid.synced ≡ old.synced
    → RunsTo bytes part old mid → RunsTo part all mid new → RunsTo bytes all old new
runs_then old mid new bytes part all front further has same first second is =
    let (since, passed, ways) = first is in
    let (later, passed_later, ways_later) = second (has is) in (
      later ++ since,
      both_passed old.moments mid.moments new.moments since later passed passed_later,
      All-append (IsOnWay old.synced bytes all) later since
          (on_way_from old.synced mid.synced bytes part all same front later ways_later)
          (on_way old.synced bytes part all further since ways),
    )

-- ---- a disk to which a source is copied

pub begin_copy : (source : Option (List ℕ)) (missing : List ℕ) (old new : DiskState)
    → HasWritten old.written new.written missing → (old.written ≡ None → new.written ≡ None)
    → Passes old.moments new.moments old.synced new.written → new.synced ≡ old.synced → new.has_failed ≡ false
    → IsCopied source source missing old new
begin_copy source missing old new writes unseen passes same unfailed =
    let all = sym (append-nil missing) in record {
      bytes = [];
      read = Consumes-nil source;
      written = subst (HasWritten old.written new.written) all writes;
      unseen = unseen;
      synced = same;
      unfailed = unfailed;
      runs = λ before. subst (λ (to : List ℕ). RunsTo before (before ++ to) old new) all
          (runs_one old new before missing (all_is_front old.written new.written missing writes) passes);
    }

-- a piece is read, of which a prefix is appended
module _ (old_source source after : Option (List ℕ)) (missing piece : List ℕ) (old mid new : DiskState)
    (copied : IsCopied old_source source missing old mid) (more : HasRead source after piece)
    (passes : Passes mid.moments new.moments mid.synced new.written) where
  abbrev read_so_far : List ℕ
  read_so_far = copied.bytes ++ piece

  grown : (before : List ℕ) → (before ++ (missing ++ copied.bytes)) ++ piece ≡ before ++ (missing ++ read_so_far)
  grown before = append_assoc before (missing ++ copied.bytes) piece
      ∙ ap (λ (b : List ℕ). before ++ b) (append_assoc missing copied.bytes piece)

  runs_on : HasWrittenFront mid.written new.written piece → (before : List ℕ)
      → RunsTo before (before ++ (missing ++ read_so_far)) old new
  runs_on front before =
      let part = before ++ (missing ++ copied.bytes) in
      subst (λ (to : List ℕ). RunsTo before to old new) (grown before)
      (runs_then old mid new before part (part ++ piece) (before_more before (missing ++ copied.bytes))
      (before_more part piece)
      (λ is. known_all old.written mid.written before (missing ++ copied.bytes) is copied.written) copied.synced
      (copied.runs before) (runs_one mid new part piece front passes))

  pub copied_more : HasWritten mid.written new.written piece → (mid.written ≡ None → new.written ≡ None)
      → new.synced ≡ mid.synced → new.has_failed ≡ false → IsCopied old_source after missing old new
  copied_more writes unseen same unfailed = record {
    bytes = read_so_far;
    read = read_twice old_source source after copied.bytes piece copied.read more;
    written = subst (HasWritten old.written new.written) (append_assoc missing copied.bytes piece)
        (written_twice old.written mid.written new.written (missing ++ copied.bytes) piece copied.written writes);
    unseen = λ none. unseen (copied.unseen none);
    synced = same ∙ copied.synced;
    unfailed = unfailed;
    runs = runs_on (all_is_front mid.written new.written piece writes);
  }

-- what a source still has makes the bytes of a copy longer
longer_copy : (before missing bytes more : List ℕ)
    → IsPrefix (before ++ (missing ++ bytes)) (before ++ (missing ++ (bytes ++ more)))
longer_copy before missing bytes more =
    let all = append_assoc before (missing ++ bytes) more
    ∙ ap (λ (b : List ℕ). before ++ b) (append_assoc missing bytes more) in
    subst (IsPrefix (before ++ (missing ++ bytes))) all (before_more (before ++ (missing ++ bytes)) more)

-- nothing was read yet, and a prefix of what is missing was appended
pub first_fails : (source : Option (List ℕ)) (missing : List ℕ) (old new : DiskState)
    → HasWrittenFront old.written new.written missing → Passes old.moments new.moments old.synced new.written
    → IsCopying source missing old new
first_fails source missing old new front passes = (
  rest_of source,
  has_any source,
  λ bytes. runs_further old new bytes (bytes ++ missing) (bytes ++ (missing ++ rest_of source))
      (subst (IsPrefix (bytes ++ missing)) (append_assoc bytes missing (rest_of source))
      (before_more (bytes ++ missing) (rest_of source))) (runs_one old new bytes missing front passes),
)

pub copy_stops : (old_source source : Option (List ℕ)) (missing : List ℕ) (old new : DiskState)
    → IsCopied old_source source missing old new → IsCopying old_source missing old new
copy_stops old_source source missing old new copied = (
  copied.bytes ++ rest_of source,
  has_read old_source source copied.bytes copied.read,
  λ bytes. runs_further old new bytes (bytes ++ (missing ++ copied.bytes)) _
      (longer_copy bytes missing copied.bytes (rest_of source)) (copied.runs bytes),
)

pub copy_fails : (old_source source after : Option (List ℕ)) (missing piece : List ℕ) (old mid new : DiskState)
    → IsCopied old_source source missing old mid → HasRead source after piece
    → HasWrittenFront mid.written new.written piece → Passes mid.moments new.moments mid.synced new.written
    → IsCopying old_source missing old new
copy_fails old_source source after missing piece old mid new copied more front passes =
    let bytes = copied.bytes ++ piece in (
      bytes ++ rest_of after,
      has_read old_source after bytes (read_twice old_source source after copied.bytes piece copied.read more),
      λ before. runs_further old new before (before ++ (missing ++ bytes)) _
          (longer_copy before missing bytes (rest_of after))
          (runs_on old_source source after missing piece old mid new copied more passes front before),
    )

pub on_ok : {T E : Type 0} (Holds : Type 0) (result : Result T E) → Holds → OnOk result Holds
on_ok Holds (Ok done) is = is
on_ok Holds (Err failed) is = tt

-- no byte is left, and the disk is synced
module _ (old_source source : Option (List ℕ)) (missing : List ℕ) (old mid new : DiskState)
    (copied : IsCopied old_source source missing old mid) (out : IsReadOut source)
    (same : new.written ≡ mid.written) where
  pub copy_ends : AreCopied old_source missing old.written new.written
  copy_ends = (
    copied.bytes,
    all_of old_source source copied.bytes copied.read out,
    subst (λ (now : Option (List ℕ)). HasWritten old.written now (missing ++ copied.bytes)) (sym same) copied.written,
  )

  pub copy_synced : Passes mid.moments new.moments mid.synced mid.written → IsCopying old_source missing old new
  copy_synced passes = (
    copied.bytes,
    all_of old_source source copied.bytes copied.read out,
    λ before. let part = before ++ (missing ++ copied.bytes) in
        runs_then old mid new before part part (before_more before (missing ++ copied.bytes)) (itself part)
        (λ is. known_all old.written mid.written before (missing ++ copied.bytes) is copied.written)
        copied.synced (copied.runs before) (runs_synced mid new part passes),
  )

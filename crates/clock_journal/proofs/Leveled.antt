-- Two files that were compared, and are brought to the bytes of the longer one.
use Rattle.std.proofs.Common.{◌≡◌, ◌≤◌, ◌-◌, inl, inr, ℕ, Bool, List, [], ◌++◌, length, take, drop}
use Rattle.std.proofs.Common.{Option, Some, None, refl, sym, ap, ◌∙◌, subst, arith, append_assoc, length-append}
use Rattle.std.specs.Prelude.{min, if◌then◌else◌, option_map}
use Rattle.std.proofs.lemmas.List.{take_all, take_at, drop_all, drop-take, append-nil, take-append-drop}
use Rattle.std.proofs.lemmas.Bool.{cases_lt}
use Rattle.std.proofs.lemmas.List.Elements.{All-nil}
use Rattle.clock_device.specs.Streams.{HasRead}
use Rattle.clock_journal.specs.Disks.{Moment}
use Rattle.clock_journal.specs.Levels.{AreSeen, Bytes, IsNotLevel}
use Rattle.clock_journal.specs.inside.Leveling.{AreCopied, Differ, HaveEnds, IsCopying}
use Rattle.clock_journal.specs.Mirrors.{AreAlike, DiskState, IsOnWay, IsPrefix, RunsTo, longer, shorter}
use Rattle.clock_journal.specs.Sources.{HasBytes}
use Rattle.clock_journal.specs.declared.mirror.LevelFault.{LevelFault}
use Rattle.clock_journal.specs.declared.mirror.LevelFault.TheVariants as fault
use Rattle.clock_journal.proofs.Mirrored.{itself, known_all, some_is}
use Rattle.clock_journal.proofs.Sourced.{has_any, has_read, none_left, rest_of}
use Rattle.clock_journal.proofs.Tested.{lt_true, lt_false}

-- ---- what each file lacks

-- what each file lacks makes it the longer one
record Makes (one other missing lacking : List ℕ) : Type 0 where
  pub one_makes : one ++ missing ≡ longer one other
  pub other_makes : other ++ lacking ≡ longer one other
  pub front : IsPrefix (shorter one other) (longer one other)

front_of : (one missing other : List ℕ) → one ++ missing ≡ other → IsPrefix one other
front_of one missing other is =
    (length one, sym (take_at one missing (length one) refl) ∙ ap (take (length one)) is)

-- the first file lacks something, or nothing
makes_first : (one other missing : List ℕ) → one ++ missing ≡ other → Makes one other missing []
makes_first one other missing is =
    elim (cases_lt (length one) (length other)) [
      | inl less ↦ (let passed = sym (lt_true (length one) (length other) less) in
          record {
            one_makes = subst (λ (b : Bool). one ++ missing ≡ (if b then other else one)) passed is;
            other_makes = subst (λ (b : Bool). other ++ [] ≡ (if b then other else one)) passed (append-nil other);
            front = subst (λ (b : Bool). IsPrefix (if b then one else other) (if b then other else one)) passed
                (front_of one missing other is);
          })
      | inr more ↦ (let passed = sym (lt_false (length one) (length other) more) in
          let none : one ++ missing ≡ one =
          sym (take_all (length one) (one ++ missing) (omega (arith, ap length is, more)))
          ∙ take_at one missing (length one) refl in
          let same : other ≡ one = sym is ∙ none in
          record {
            one_makes = subst (λ (b : Bool). one ++ missing ≡ (if b then other else one)) passed none;
            other_makes = subst (λ (b : Bool). other ++ [] ≡ (if b then other else one)) passed
                (append-nil other ∙ same);
            front = subst (λ (b : Bool). IsPrefix (if b then one else other) (if b then other else one)) passed
                (subst (IsPrefix other) same (itself other));
          })
    ]

-- the second file lacks something, or nothing
makes_second : (one other lacking : List ℕ) → other ++ lacking ≡ one → Makes one other [] lacking
makes_second one other lacking is =
    let long = ap length is in
    let whole = length-append other lacking in
    let passed = sym (lt_false (length one) (length other) (omega (arith, long, whole))) in record {
      one_makes = subst (λ (b : Bool). one ++ [] ≡ (if b then other else one)) passed (append-nil one);
      other_makes = subst (λ (b : Bool). other ++ lacking ≡ (if b then other else one)) passed is;
      front = subst (λ (b : Bool). IsPrefix (if b then one else other) (if b then other else one)) passed
          (front_of other lacking one is);
    }

-- a file that ends in the piece `here` becomes the other one
joined : (common here there none more : List ℕ) (m : ℕ) → here ≡ take m there → none ≡ []
    → ((common ++ here) ++ none) ++ (drop m there ++ more) ≡ (common ++ there) ++ more
joined common here there none more m same empty =
    ap (λ (b : List ℕ). b ++ (drop m there ++ more))
    (ap (λ (b : List ℕ). (common ++ here) ++ b) empty ∙ append-nil (common ++ here))
    ∙ (sym (append_assoc (common ++ here) (drop m there) more)
    ∙ ap (λ (b : List ℕ). b ++ more) (append_assoc common here (drop m there)
    ∙ ap (λ (b : List ℕ). common ++ b)
    (ap (λ (b : List ℕ). b ++ drop m there) same ∙ take-append-drop m there)))

-- the part of a piece after its first bytes, as the code takes it
pub slice_is : (buffer : List ℕ) (limit common m : ℕ) → common ≤ limit → common ≡ m
    → take (limit - common) (drop common buffer) ≡ drop m (take limit buffer)
slice_is buffer limit common m within same =
    sym (drop-take common (limit - common) buffer)
    ∙ (ap (λ (n : ℕ). drop common (take n buffer)) (omega (arith, within))
    ∙ ap (λ (n : ℕ). drop n (take limit buffer)) same)

-- ---- what is known of a source

-- what a source has, if it reported its bytes before
seen_rest : (old mid : Option (List ℕ)) (read rest whole : List ℕ) → old ≡ Some whole → HasRead old mid read
    → HasBytes mid rest → rest ≡ rest_of mid
seen_rest None mid read rest whole is more has = let e : None ≡ Some whole = is in cc
seen_rest (Some xs) None read rest whole is more has = absurd more
seen_rest (Some xs) (Some ys) read rest whole is more has = sym has

seen_bytes : (left : Option (List ℕ)) (bytes whole : List ℕ) → left ≡ Some whole → HasBytes left bytes
    → whole ≡ bytes
seen_bytes None bytes whole is has = let e : None ≡ Some whole = is in cc
seen_bytes (Some xs) bytes whole is has = some_is (Some xs) whole xs is refl ∙ has

-- a disk to which nothing was done
stays_so : (moments : Option (List Moment))
    → moments ≡ option_map (λ (passed : List Moment). [] ++ passed) moments
stays_so None = refl
stays_so (Some passed) = refl

pub stays : (disk : DiskState) (bytes all : List ℕ) → RunsTo bytes all disk disk
stays disk bytes all is = ([], stays_so disk.moments, All-nil (IsOnWay disk.synced bytes all))

-- ---- at the end

-- if a disk has these bytes, what is missing, and what a source still has, makes all
pub record Lacks (written source : Option (List ℕ)) (bytes missing all : List ℕ) : Type 0 where
  pub makes : written ≡ Some bytes → (rest : List ℕ) → HasBytes source rest → bytes ++ (missing ++ rest) ≡ all

module _ {written source : Option (List ℕ)} {bytes missing all : List ℕ}
    (lacks : Lacks written source bytes missing all) where
  pub whole : (new : Option (List ℕ)) → AreCopied source missing written new → written ≡ Some bytes → new ≡ Some all
  whole new (rest, has, writes) is =
      known_all written new bytes (missing ++ rest) is writes ∙ ap Some (lacks.makes is rest has)

  pub runs : (old new : DiskState) → old.written ≡ written → IsCopying source missing old new
      → RunsTo bytes all old new
  runs old new same (rest, has, way) is =
      subst (λ (to : List ℕ). RunsTo bytes to old new) (lacks.makes (sym same ∙ is) rest has) (way bytes) is

-- two files were compared, and the disks of these lack what is missing, and what is lacking
pub record AreCompared (s_old s_new t_old t_new first second : Option (List ℕ)) (missing lacking : List ℕ) : Type 0
  where
    pub seen : AreSeen first second s_old t_old
    pub bytes : Bytes s_old t_old
    pub front : IsPrefix (shorter bytes.one bytes.other) (longer bytes.one bytes.other)
    pub first_lacks : Lacks first t_new bytes.one missing (longer bytes.one bytes.other)
    pub second_lacks : Lacks second s_new bytes.other lacking (longer bytes.one bytes.other)

-- the last pieces are these
module _ (s_old s_new t_old t_new : Option (List ℕ)) (here there : List ℕ)
    (ends : HaveEnds s_old s_new t_old t_new here there) where
  abbrev m : ℕ
  m = min (length here) (length there)

  abbrev missing : List ℕ
  missing = drop m there ++ rest_of t_new

  abbrev lacking : List ℕ
  lacking = drop m here ++ rest_of s_new

  abbrev bytes : Bytes s_old t_old
  bytes = record {
    one = (ends.common ++ here) ++ rest_of s_new;
    other = (ends.common ++ there) ++ rest_of t_new;
    of_first = has_read s_old s_new (ends.common ++ here) ends.read;
    of_second = has_read t_old t_new (ends.common ++ there) ends.other_read;
  }

  makes : Makes bytes.one bytes.other missing lacking
  makes = elim (cases_lt (length there) (length here)) [
    | inl less ↦ (let same : there ≡ take m here =
        sym (take_all m there (omega (arith, less))) ∙ sym ends.same in
        let empty : rest_of t_new ≡ [] = none_left t_new (ends.other_out (omega (arith, less))) in
        let none : missing ≡ [] = ap (λ (b : List ℕ). drop m there ++ b) empty
        ∙ (append-nil (drop m there) ∙ drop_all m there (omega (arith, less))) in
        subst (λ (b : List ℕ). Makes bytes.one bytes.other b lacking) (sym none)
        (makes_second bytes.one bytes.other lacking
        (joined ends.common there here (rest_of t_new) (rest_of s_new) m same empty)))
    | inr more ↦ (let same : here ≡ take m there =
        sym (take_all m here (omega (arith, more))) ∙ ends.same in
        let empty : rest_of s_new ≡ [] = none_left s_new (ends.out (omega (arith, more))) in
        let none : lacking ≡ [] = ap (λ (b : List ℕ). drop m here ++ b) empty
        ∙ (append-nil (drop m here) ∙ drop_all m here (omega (arith, more))) in
        subst (λ (b : List ℕ). Makes bytes.one bytes.other missing b) (sym none)
        (makes_first bytes.one bytes.other missing
        (joined ends.common here there (rest_of s_new) (rest_of t_new) m same empty)))
  ]

  -- of what a disk lacks, the code appends these bytes, and then what a source still has
  module _ (first second : Option (List ℕ)) (seen : AreSeen first second s_old t_old) (first_missing
      second_missing : List ℕ) (first_is : first_missing ≡ drop m there) (second_is : second_missing ≡ drop m here)
    where
      first_all : (rest : List ℕ) → HasBytes t_new rest → first ≡ Some bytes.one → first_missing ++ rest ≡ missing
      first_all rest has is = elim seen [
        | inl known ↦ (ap (λ (b : List ℕ). b ++ rest) first_is
            ∙ ap (λ (b : List ℕ). drop m there ++ b)
            (seen_rest t_old t_new (ends.common ++ there) rest known.1 known.5 ends.other_read has))
        | inr none ↦ (let e : None ≡ Some bytes.one = sym none.0 ∙ is in cc)
      ]

      second_all : (rest : List ℕ) → HasBytes s_new rest → second ≡ Some bytes.other → second_missing ++ rest ≡ lacking
      second_all rest has is = elim seen [
        | inl known ↦ (ap (λ (b : List ℕ). b ++ rest) second_is
            ∙ ap (λ (b : List ℕ). drop m here ++ b)
            (seen_rest s_old s_new (ends.common ++ here) rest known.0 known.4 ends.read has))
        | inr none ↦ (let e : None ≡ Some bytes.other = sym none.1 ∙ is in cc)
      ]

      pub compared : AreCompared s_old s_new t_old t_new first second first_missing second_missing
      compared = record {
        seen = seen;
        bytes = bytes;
        front = makes.front;
        first_lacks = record {
          makes = λ is rest has.
              ap (λ (b : List ℕ). bytes.one ++ b) (first_all rest has is) ∙ makes.one_makes;
        };
        second_lacks = record {
          makes = λ is rest has.
              ap (λ (b : List ℕ). bytes.other ++ b) (second_all rest has is) ∙ makes.other_makes;
        };
      }

pub alike : {s_old s_new t_old t_new first second : Option (List ℕ)} {missing lacking : List ℕ}
    (files : AreCompared s_old s_new t_old t_new first second missing lacking) (first_new second_new : DiskState)
    → AreCopied t_new missing first first_new.written → AreCopied s_new lacking second second_new.written
    → (first ≡ None → first_new.written ≡ None) → (second ≡ None → second_new.written ≡ None)
    → first_new.synced ≡ first_new.written → second_new.synced ≡ second_new.written → AreAlike first_new second_new
alike files first_new second_new copied others unseen others_unseen now others_now =
    let bytes = files.bytes in
    let same : first_new.written ≡ second_new.written = elim files.seen [
      | inl known ↦ (whole files.first_lacks first_new.written copied (known.2
          ∙ ap Some (seen_bytes _ bytes.one known.0 known.4 bytes.of_first))
          ∙ sym (whole files.second_lacks second_new.written others (known.3
          ∙ ap Some (seen_bytes _ bytes.other known.1 known.5 bytes.of_second))))
      | inr none ↦ (unseen none.0 ∙ sym (others_unseen none.1))
    ] in (
      same,
      now ∙ (same ∙ sym others_now),
      λ least all is written. let e = ap length (some_is first_new.written least all (sym now ∙ is) written) in
          omega (arith, e),
    )

-- ---- at a fault

-- why two files are not level, and both disks are unchanged
pub not_level : (s t : Option (List ℕ)) (First Second : Type 0) (why : LevelFault) → Differ s t why → First
    → Second → (bytes : Bytes s t) × IsNotLevel bytes.one bytes.other First Second why
not_level s t First Second (fault.Differs place) found first second = (found.0, (found.1, first, second))
not_level s t First Second fault.Failed found first second = (
  record {
    one = rest_of s;
    other = rest_of t;
    of_first = has_any s;
    of_second = has_any t;
  },
  tt,
)

-- Two disks with the same bytes: what they have in common, and what a crash leaves of them.
use Rattle.std.proofs.Common.{◌≡◌, ◌≤◌, ◌+◌, ◌⊎◌, inl, inr, ℕ, Bool, false, List, [], ◌∷◌, ◌++◌, length}
use Rattle.std.proofs.Common.{take, Option, Some, None, refl, sym, ap, ◌∙◌, subst, arith, length-append}
use Rattle.std.proofs.Common.{Result, Ok, Err}
use Rattle.std.specs.Prelude.{◌||◌, OnErr, OnOk, if◌then◌else◌, option_map}
use Rattle.std.proofs.lemmas.List.{take_all, take_at, take-take, length-take, length-take-le}
use Rattle.std.proofs.lemmas.Bool.{cases_lt, or_parts}
use Rattle.std.proofs.Math.Seq.{take-append-add}
use Rattle.clock_device.specs.Streams.{HasWritten, HasWrittenFront, WritesText}
use Rattle.clock_journal.specs.Disks.{CutsTo, MayBeLeft, Moment, Passes}
use Rattle.clock_journal.specs.Mirrors.{AreAlike, DiskState, IsPartOf, IsPrefix, IsUnder}
use Rattle.clock_journal.specs.Mirrors.{LeftOfTwo, MirrorState, MirrorsKeep, RestUnder, RunUnder, RunsUnder, at_rest}
use Rattle.clock_journal.specs.Mirrors.{StartsKeep, joined, longer, shorter}
use Rattle.clock_journal.proofs.Moments.{all_is_front}
use Rattle.clock_journal.proofs.Tested.{lt_true, lt_false}

-- until a call fails, both are alike
abbrev StayAlike : DiskState → DiskState → Type 0
StayAlike first second = first.has_failed ≡ false → second.has_failed ≡ false → AreAlike first second

-- while the longer file is copied: of the copy any prefix is left, and of the file what a disk
-- leaves. The longer of these is again what the disk of the file may leave
abbrev CopiesKeep : Type 0
CopiesKeep = (synced bytes one other : List ℕ) → MayBeLeft (Some synced) (Some bytes) one
    → IsPrefix other bytes → MayBeLeft (Some synced) (Some bytes) (longer one other)
    × IsPrefix (shorter one other) (longer one other)

-- ---- prefixes

-- a prefix is as long as itself
by_length : (one all : List ℕ) → IsPrefix one all → one ≡ take (length one) all
by_length one all (count, is) =
    elim (cases_lt (length all) count) [
      | inl more ↦ (let same : one ≡ all = is ∙ take_all count all (omega (arith, more)) in
          same ∙ (sym (take_all (length all) all (omega arith)) ∙ ap (λ (l : List ℕ). take (length l) all) (sym same)))
      | inr less ↦ (let size : length one ≡ count = ap length is ∙ length-take-le count all less in
          is ∙ ap (λ (k : ℕ). take k all) (sym size))
    ]

pub prefix_of : (one mid all : List ℕ) → IsPrefix one mid → IsPrefix mid all → IsPrefix one all
prefix_of one mid all (count, is) (more, within) =
    let e : one ≡ take count (take more all) = is ∙ ap (take count) within in
    elim (cases_lt more count) [
      | inl less ↦ (more, e ∙ take_all count (take more all) (omega (arith, less, length-take more all)))
      | inr further ↦ (count, e ∙ take-take count more all further)
    ]

of_longer : (one other all : List ℕ) → IsPrefix one all → IsPrefix other all → length one ≤ length other
    → IsPrefix one other
of_longer one other all front others less = (
  length one,
  by_length one all front
      ∙ (sym (take-take (length one) (length other) all less)
      ∙ ap (take (length one)) (sym (by_length other all others))),
)

-- of two prefixes, one of which has all that is synced, the longer one has
keep_two : (least all one other : List ℕ) → IsPrefix one all → IsPrefix other all
    → (length least ≤ length one) ⊎ (length least ≤ length other)
    → MayBeLeft (Some least) (Some all) (longer one other) × IsPrefix (shorter one other) (longer one other)
keep_two least all one other front others enough =
    elim (cases_lt (length one) (length other)) [
      | inl less ↦ (let size : length least ≤ length other = elim enough [
        | inl a ↦ (omega (arith, a, less))
        | inr b ↦ b
      ] in
          subst (λ (passed : Bool). MayBeLeft (Some least) (Some all) (if passed then other else one)
          × IsPrefix (if passed then one else other) (if passed then other else one))
          (sym (lt_true (length one) (length other) less)) (
            (length other, size, by_length other all others),
            of_longer one other all front others (omega (arith, less)),
          ))
      | inr more ↦ (let size : length least ≤ length one = elim enough [
        | inl a ↦ a
        | inr b ↦ (omega (arith, b, more))
      ] in
          subst (λ (passed : Bool). MayBeLeft (Some least) (Some all) (if passed then other else one)
          × IsPrefix (if passed then one else other) (if passed then other else one))
          (sym (lt_false (length one) (length other) more))
          ((length one, size, by_length one all front), of_longer other one all others front more))
    ]

-- what a disk leaves has all that is synced
has_all : (synced written left : List ℕ) (least : ℕ) → MayBeLeft (Some synced) (Some written) left
    → least ≤ length synced → least ≤ length written → least ≤ length left
has_all synced written left least (count, enough, is) some within =
    let size = ap length is in
    elim (cases_lt (length written) count) [
      | inl more ↦ (let all = ap length (take_all count written (omega (arith, more))) in
          omega (arith, size, all, within))
      | inr less ↦ (let all = length-take-le count written less in omega (arith, size, all, enough, some))
    ]

-- ---- a crash at one moment of a mirror

left_by : (one : Moment) (synced written left : List ℕ) → one.synced ≡ Some synced → one.written ≡ Some written
    → MayBeLeft one.synced one.written left → MayBeLeft (Some synced) (Some written) left
left_by one synced written left is same may =
    subst (λ (s : Option (List ℕ)). MayBeLeft s (Some written) left) is
    (subst (λ (w : Option (List ℕ)). MayBeLeft one.synced w left) same may)

front_left : (joint one : Moment) (left : List ℕ) (under : IsUnder joint one)
    → MayBeLeft one.synced one.written left → IsPrefix left under.all × (length under.least ≤ length left)
front_left joint one left under may =
    let may_be = left_by one under.synced under.written left under.has_synced under.has_written may in (
      prefix_of left under.written under.all (may_be.0, may_be.2) under.front,
      has_all under.synced under.written left (length under.least) may_be under.enough under.within,
    )

front_part : (joint one : Moment) (left : List ℕ) (under : IsUnder joint one) → IsPartOf left one.written
    → IsPrefix left under.all
front_part joint one left under part =
    prefix_of left under.written under.all
    (subst (λ (w : Option (List ℕ)). IsPartOf left w) under.has_written part) under.front

pub some_is : (known : Option (List ℕ)) (one other : List ℕ) → known ≡ Some one → known ≡ Some other → one ≡ other
some_is known one other is same = let e : Some one ≡ Some other = sym is ∙ same in cc

-- the moment at which both disks were under this one
keep_at : (joint first second : Moment) (one other : List ℕ) → IsUnder joint first → IsUnder joint second
    → LeftOfTwo first second one other
    → MayBeLeft joint.synced joint.written (longer one other) × IsPrefix (shorter one other) (longer one other)
keep_at joint first second one other under others left =
    let all_is : others.all ≡ under.all =
    some_is joint.written others.all under.all others.joint_written under.joint_written in
    let least_is : others.least ≡ under.least =
    some_is joint.synced others.least under.least others.joint_synced under.joint_synced in
    let kept : MayBeLeft (Some under.least) (Some under.all) (longer one other)
    × IsPrefix (shorter one other) (longer one other) = elim left [
      | inl good ↦ (let front = front_left joint first one under good.0 in
          keep_two under.least under.all one other front.0 (subst (IsPrefix other) all_is
          (front_part joint second other others good.1)) (inl front.1))
      | inr good ↦ (let front = front_left joint second other others good.1 in
          keep_two under.least under.all one other (front_part joint first one under good.0)
          (subst (IsPrefix other) all_is front.0)
          (inr (subst (λ (l : List ℕ). length l ≤ length other) least_is front.1)))
    ] in (
      subst (λ (s : Option (List ℕ)). MayBeLeft s joint.written (longer one other)) (sym under.joint_synced)
          (subst (λ (w : Option (List ℕ)). MayBeLeft (Some under.least) w (longer one other))
          (sym under.joint_written) kept.0),
      kept.1,
    )

pub mirrors_keep : MirrorsKeep
mirrors_keep [] one other left = absurd left
mirrors_keep (joint ∷ moments) one other (inl (first, second, under, others, left)) =
    let kept = keep_at joint first second one other under others left in
    (inl kept.0, kept.1)
mirrors_keep (joint ∷ moments) one other (inr later) =
    let kept = mirrors_keep moments one other later in
    (inr kept.0, kept.1)

-- ---- a crash while the longer file is copied

copies_keep : CopiesKeep
copies_keep synced bytes one other may front =
    elim (cases_lt (length bytes) (length synced)) [
      | inl more ↦ (let whole : one ≡ bytes = may.2 ∙ take_all may.0 bytes (let enough = may.1 in
          omega (arith, enough, more)) in
          let size = ap length whole in
          let kept = keep_two bytes bytes one other (may.0, may.2) front (inl (omega (arith, size))) in (
            (
              length synced,
              omega arith,
              (let m = kept.0 in
                  m.2 ∙ (take_all m.0 bytes m.1 ∙ sym (take_all (length synced) bytes (omega (arith, more))))),
            ),
            kept.1,
          ))
      | inr within ↦ keep_two synced bytes one other (may.0, may.2) front
          (inl (has_all synced bytes one (length synced) may (omega arith) within))
    ]

-- ---- calls of a mirror

-- a write of the whole text, and then a write that failed, wrote a prefix of it on the first disk
pub written_all : {U E : Type 0} (old new : Option (List ℕ)) (text : List ℕ) (result : Result U E)
    → HasWritten old new text → WritesText old new text result
written_all old new text (Ok done) written = written
written_all old new text (Err failed) written = all_is_front old new text written

under_joint : (joint one : Moment) (all least written synced : List ℕ) → joint.written ≡ Some all
    → joint.synced ≡ Some least → one.written ≡ Some written → one.synced ≡ Some synced → IsPrefix written all
    → length least ≤ length synced → length least ≤ length written → IsUnder joint one
under_joint joint one all least written synced joint_written joint_synced has_written has_synced front enough within =
    record {
      all = all;
      least = least;
      written = written;
      synced = synced;
      joint_written = joint_written;
      joint_synced = joint_synced;
      has_written = has_written;
      has_synced = has_synced;
      front = front;
      enough = enough;
      within = within;
    }

known_new : (new : Option (List ℕ)) (w text : List ℕ) → HasWrittenFront (Some w) new text
    → (count : ℕ) × (new ≡ Some (w ++ take count text))
known_new None w text front = absurd front.1
known_new (Some ys) w text front = (front.0, ap Some front.1)

pub known_front : (old new : Option (List ℕ)) (w text : List ℕ) → old ≡ Some w → HasWrittenFront old new text
    → (count : ℕ) × (new ≡ Some (w ++ take count text))
known_front old new w text is front =
    known_new new w text (subst (λ (known : Option (List ℕ)). HasWrittenFront known new text) is front)

known_all_new : (new : Option (List ℕ)) (w text : List ℕ) → HasWritten (Some w) new text → new ≡ Some (w ++ text)
known_all_new None w text all = absurd all
known_all_new (Some ys) w text all = ap Some all

pub known_all : (old new : Option (List ℕ)) (w text : List ℕ) → old ≡ Some w → HasWritten old new text
    → new ≡ Some (w ++ text)
known_all old new w text is all =
    known_all_new new w text (subst (λ (known : Option (List ℕ)). HasWritten known new text) is all)

pub text_front : {U E : Type 0} (old new : Option (List ℕ)) (text : List ℕ) (result : Result U E)
    → WritesText old new text result → HasWrittenFront old new text
text_front old new text (Ok done) writes = all_is_front old new text writes
text_front old new text (Err failed) writes = writes

pub itself : (all : List ℕ) → IsPrefix all all
itself all = (length all, sym (take_all (length all) all (omega arith)))

pub before_more : (w text : List ℕ) → IsPrefix w (w ++ text)
before_more w text = (length w, sym (take_at w text (length w) refl))

pub before_rest : (w text : List ℕ) (count : ℕ) → IsPrefix (w ++ take count text) (w ++ text)
before_rest w text count = (length w + count, sym (take-append-add w text count))

-- what is known of a mirror whose calls have not failed, if contracts see its bytes
record IsKnown (at : MirrorState) (w s : List ℕ) : Type 0 where
  pub first_written : at.first.written ≡ Some w
  pub first_synced : at.first.synced ≡ Some s
  pub second_written : at.second.written ≡ Some w
  pub second_synced : at.second.synced ≡ Some s
  pub within : length s ≤ length w

known_alike : (at : MirrorState) (w s : List ℕ) → (at.first.has_failed || at.second.has_failed) ≡ false
    → StayAlike at.first at.second → at.first.written ≡ Some w → at.first.synced ≡ Some s → IsKnown at w s
known_alike at w s unfailed alike written synced =
    let both = or_parts at.first.has_failed at.second.has_failed unfailed in
    let same = alike both.0 both.1 in
    record {
      first_written = written;
      first_synced = synced;
      second_written = sym same.0 ∙ written;
      second_synced = sym same.1 ∙ synced;
      within = same.2 s w synced written;
    }

-- the first disk failed to append
module _ (at : MirrorState) (unfailed : (at.first.has_failed || at.second.has_failed) ≡ false)
    (alike : StayAlike at.first at.second) (text : List ℕ) (new : DiskState) where
  pub first_under : HasWrittenFront at.first.written new.written text
      → Passes at.first.moments new.moments at.first.synced new.written
      → RunUnder (record { synced = at.second.synced; written = new.written }) at
      (record { first = new; second = at.second })
  first_under front passes w s written synced =
      let known = known_alike at w s unfailed alike written synced in
      let part = known_front at.first.written new.written w text written front in
      let joint : Moment = record { synced = at.second.synced; written = new.written } in
      let all = w ++ take part.0 text in
      let size = length-append w (take part.0 text) in
      let within = known.within in (
        record {
          before = under_joint joint (at_rest at.first) all s w s part.1 known.second_synced written synced
              (before_more w (take part.0 text)) (omega arith) within;
          during = inr (
            record { synced = at.first.synced; written = new.written },
            under_joint joint (record { synced = at.first.synced; written = new.written }) all s all s part.1
                known.second_synced part.1 synced (itself all) (omega arith) (omega (arith, size, within)),
            passes,
          );
        },
        record {
          before = under_joint joint (at_rest at.second) all s w s part.1 known.second_synced known.second_written
              known.second_synced (before_more w (take part.0 text)) (omega arith) within;
          during = inl refl;
        },
      )

  pub first_rests : HasWrittenFront at.first.written new.written text → new.synced ≡ at.first.synced
      → RestUnder at (record { first = new; second = at.second })
  first_rests front same w s written synced =
      let known = known_alike at w s unfailed alike written synced in
      let part = known_front at.first.written new.written w text written front in
      let joint : Moment = record { synced = at.second.synced; written = new.written } in
      let all = w ++ take part.0 text in
      let size = length-append w (take part.0 text) in
      let within = known.within in (
        under_joint joint (at_rest new) all s all s part.1 known.second_synced part.1 (same ∙ synced) (itself all)
            (omega arith) (omega (arith, size, within)),
        under_joint joint (at_rest at.second) all s w s part.1 known.second_synced known.second_written
            known.second_synced (before_more w (take part.0 text)) (omega arith) within,
      )

  module _ (other : DiskState) (all_written : HasWritten at.first.written new.written text) where
    pub both_under : HasWrittenFront at.second.written other.written text
        → Passes at.first.moments new.moments at.first.synced new.written
        → Passes at.second.moments other.moments at.second.synced other.written
        → RunUnder (record { synced = at.second.synced; written = new.written }) at
        (record { first = new; second = other })
    both_under front passes others w s written synced =
        let known = known_alike at w s unfailed alike written synced in
        let whole = known_all at.first.written new.written w text written all_written in
        let part = known_front at.second.written other.written w text known.second_written front in
        let joint : Moment = record { synced = at.second.synced; written = new.written } in
        let all = w ++ text in
        let some = w ++ take part.0 text in
        let size = length-append w text in
        let some_size = length-append w (take part.0 text) in
        let within = known.within in (
          record {
            before = under_joint joint (at_rest at.first) all s w s whole known.second_synced written synced
                (before_more w text) (omega arith) within;
            during = inr (
              record { synced = at.first.synced; written = new.written },
              under_joint joint (record { synced = at.first.synced; written = new.written }) all s all s whole
                  known.second_synced whole synced (itself all) (omega arith) (omega (arith, size, within)),
              passes,
            );
          },
          record {
            before = under_joint joint (at_rest at.second) all s w s whole known.second_synced known.second_written
                known.second_synced (before_more w text) (omega arith) within;
            during = inr (
              record { synced = at.second.synced; written = other.written },
              under_joint joint (record { synced = at.second.synced; written = other.written }) all s some s whole
                  known.second_synced part.1 known.second_synced (before_rest w text part.0) (omega arith)
                  (omega (arith, some_size, within)),
              others,
            );
          },
        )

    pub both_rest : HasWrittenFront at.second.written other.written text → new.synced ≡ at.first.synced
        → other.synced ≡ at.second.synced → RestUnder at (record { first = new; second = other })
    both_rest front same others w s written synced =
        let known = known_alike at w s unfailed alike written synced in
        let whole = known_all at.first.written new.written w text written all_written in
        let part = known_front at.second.written other.written w text known.second_written front in
        let joint : Moment = record { synced = other.synced; written = new.written } in
        let all = w ++ text in
        let some = w ++ take part.0 text in
        let size = length-append w text in
        let some_size = length-append w (take part.0 text) in
        let within = known.within in (
          under_joint joint (at_rest new) all s all s whole (others ∙ known.second_synced) whole (same ∙ synced)
              (itself all) (omega arith) (omega (arith, size, within)),
          under_joint joint (at_rest other) all s some s whole (others ∙ known.second_synced) part.1
              (others ∙ known.second_synced) (before_rest w text part.0) (omega arith)
              (omega (arith, some_size, within)),
        )

-- ---- the same of a mirror whose view has another name

module _ (view at : MirrorState) (is : view ≡ at)
    (unfailed : (at.first.has_failed || at.second.has_failed) ≡ false) (alike : StayAlike view.first view.second) where
  still : (view.first.has_failed || view.second.has_failed) ≡ false
  still = subst (λ (one : MirrorState). (one.first.has_failed || one.second.has_failed) ≡ false) (sym is) unfailed

  module _ (text : List ℕ) (new : DiskState) where
    pub appends_first : HasWrittenFront view.first.written new.written text
        → Passes view.first.moments new.moments view.first.synced new.written
        → RunUnder (record { synced = at.second.synced; written = new.written }) at
        (record { first = new; second = view.second })
    appends_first front passes = subst (λ (one : MirrorState).
        RunUnder (record { synced = one.second.synced; written = new.written }) one
        (record { first = new; second = view.second })) is (first_under view still alike text new front passes)

    pub appends_first_rest : HasWrittenFront view.first.written new.written text → new.synced ≡ view.first.synced
        → RestUnder at (record { first = new; second = view.second })
    appends_first_rest front same = subst (λ (one : MirrorState).
        RestUnder one (record { first = new; second = view.second })) is
        (first_rests view still alike text new front same)

    module _ (other : DiskState) (all_written : HasWritten view.first.written new.written text)
        (front : HasWrittenFront view.second.written other.written text) where
      pub appends_both : Passes view.first.moments new.moments view.first.synced new.written
          → Passes view.second.moments other.moments view.second.synced other.written
          → RunUnder (record { synced = at.second.synced; written = new.written }) at
          (record { first = new; second = other })
      appends_both passes others = subst (λ (one : MirrorState).
          RunUnder (record { synced = one.second.synced; written = new.written }) one
          (record { first = new; second = other })) is
          (both_under view still alike text new other all_written front passes others)

      pub appends_both_rest : new.synced ≡ view.first.synced → other.synced ≡ view.second.synced
          → RestUnder at (record { first = new; second = other })
      appends_both_rest same others = subst (λ (one : MirrorState).
          RestUnder one (record { first = new; second = other })) is
          (both_rest view still alike text new other all_written front same others)

  -- a disk in a call that is under its own bytes, with fewer of them synced
  passes_under : (joint : Moment) (old new : DiskState) (w s least cut : List ℕ) → joint.written ≡ Some w
      → joint.synced ≡ Some least → old.written ≡ Some w → old.synced ≡ Some s → length least ≤ length s
      → length s ≤ length w → (synced : Option (List ℕ)) → synced ≡ Some cut → length least ≤ length cut
      → Passes old.moments new.moments synced old.written → RunsUnder joint old new
  passes_under joint old new w s least cut joint_written joint_synced has_written has_synced enough within synced is_cut
      some passes = record {
        before = under_joint joint (at_rest old) w least w s joint_written joint_synced has_written has_synced
            (itself w) enough (omega (arith, enough, within));
        during = inr (
          record { synced = synced; written = old.written },
          under_joint joint (record { synced = synced; written = old.written }) w least w cut joint_written joint_synced
              has_written is_cut (itself w) some (omega (arith, enough, within)),
          passes,
        );
      }

  idle_under : (joint : Moment) (old : DiskState) (w s least : List ℕ) → joint.written ≡ Some w
      → joint.synced ≡ Some least → old.written ≡ Some w → old.synced ≡ Some s → length least ≤ length s
      → length s ≤ length w → RunsUnder joint old old
  idle_under joint old w s least joint_written joint_synced has_written has_synced enough within = record {
    before = under_joint joint (at_rest old) w least w s joint_written joint_synced has_written has_synced (itself w)
        enough (omega (arith, enough, within));
    during = inl refl;
  }

  module _ (new : DiskState) where
    pub syncs_first : Passes view.first.moments new.moments view.first.synced view.first.written
        → RunUnder (joined at) at (record { first = new; second = view.second })
    syncs_first passes = subst (λ (one : MirrorState).
        RunUnder (joined one) one (record { first = new; second = view.second })) is (λ w s written synced.
        let known = known_alike view w s still alike written synced in (
          passes_under (joined view) view.first new w s s s written known.second_synced written synced (omega arith)
              known.within view.first.synced synced (omega arith) passes,
          idle_under (joined view) view.second w s s written
              known.second_synced known.second_written known.second_synced (omega arith) known.within,
        ))

    pub syncs_first_rest : new.written ≡ view.first.written → new.synced ≡ view.first.synced
        → RestUnder at (record { first = new; second = view.second })
    syncs_first_rest same_written same = subst (λ (one : MirrorState).
        RestUnder one (record { first = new; second = view.second })) is (λ w s written synced.
        let known = known_alike view w s still alike written synced in
        let joint : Moment = record { synced = view.second.synced; written = new.written } in
        let within = known.within in (
          under_joint joint (at_rest new) w s w s (same_written ∙ written) known.second_synced (same_written ∙ written)
              (same ∙ synced) (itself w) (omega arith) within,
          under_joint joint (at_rest view.second) w s w s (same_written
              ∙ written) known.second_synced known.second_written known.second_synced (itself w) (omega arith) within,
        ))

    pub cuts_first : (place : ℕ)
        → Passes view.first.moments new.moments (option_map (take place) view.first.synced) view.first.written
        → RunUnder (record { synced = option_map (take place) at.second.synced; written = at.first.written }) at
        (record { first = new; second = view.second })
    cuts_first place passes = subst (λ (one : MirrorState).
        RunUnder (record { synced = option_map (take place) one.second.synced; written = one.first.written }) one
        (record { first = new; second = view.second })) is (λ w s written synced.
        let known = known_alike view w s still alike written synced in
        let joint : Moment =
        record { synced = option_map (take place) view.second.synced; written = view.first.written } in
        let cut = ap (option_map (take place)) known.second_synced in
        let cut_first = ap (option_map (take place)) synced in
        let size = length-take place s in (
          passes_under joint view.first new w s (take place s) (take place s) written cut written synced
              (omega (arith, size)) known.within (option_map (take place) view.first.synced) cut_first
              (omega arith) passes,
          idle_under joint view.second w s (take place s) written cut known.second_written known.second_synced
              (omega (arith, size)) known.within,
        ))

    module _ (other : DiskState) where
      pub syncs_both : Passes view.first.moments new.moments view.first.synced view.first.written
          → Passes view.second.moments other.moments view.second.synced view.second.written
          → RunUnder (joined at) at (record { first = new; second = other })
      syncs_both passes others = subst (λ (one : MirrorState).
          RunUnder (joined one) one (record { first = new; second = other })) is (λ w s written synced.
          let known = known_alike view w s still alike written synced in (
            passes_under (joined view) view.first new w s s s written known.second_synced written synced (omega arith)
                known.within view.first.synced synced (omega arith) passes,
            passes_under (joined view) view.second other w s
                s s written known.second_synced known.second_written known.second_synced (omega arith) known.within
                view.second.synced known.second_synced (omega arith) others,
          ))

      synced_now : {U E : Type 0} (result : Result U E) (w s : List ℕ) → IsKnown view w s
          → OnOk result (other.synced ≡ view.second.written) → OnErr result (other.synced ≡ view.second.synced)
          → (least : List ℕ) × (other.synced ≡ Some least) × (length least ≤ length w)
      synced_now (Ok done) w s known ok err = (w, ok ∙ known.second_written, omega arith)
      synced_now (Err failed) w s known ok err = (s, err ∙ known.second_synced, known.within)

      pub syncs_both_rest : {U E : Type 0} (result : Result U E) → new.written ≡ view.first.written
          → new.synced ≡ view.first.written → other.written ≡ view.second.written
          → OnOk result (other.synced ≡ view.second.written) → OnErr result (other.synced ≡ view.second.synced)
          → RestUnder at (record { first = new; second = other })
      syncs_both_rest result same_written now same_other ok err = subst (λ (one : MirrorState).
          RestUnder one (record { first = new; second = other })) is (λ w s written synced.
          let known = known_alike view w s still alike written synced in
          let part = synced_now result w s known ok err in
          let joint : Moment = record { synced = other.synced; written = new.written } in
          let within = part.2 in (
            under_joint joint (at_rest new) w part.0 w w (same_written ∙ written) part.1 (same_written ∙ written)
                (now ∙ written) (itself w) within within,
            under_joint joint (at_rest other) w part.0 w part.0 (same_written ∙ written) part.1
                (same_other ∙ known.second_written) part.1 (itself w) (omega arith) within,
          ))

      pub cuts_both : (place : ℕ)
          → Passes view.first.moments new.moments (option_map (take place) view.first.synced) view.first.written
          → Passes view.second.moments other.moments (option_map (take place) view.second.synced) view.second.written
          → RunUnder (record { synced = option_map (take place) at.second.synced; written = at.first.written }) at
          (record { first = new; second = other })
      cuts_both place passes others = subst (λ (one : MirrorState).
          RunUnder (record { synced = option_map (take place) one.second.synced; written = one.first.written }) one
          (record { first = new; second = other })) is (λ w s written synced.
          let known = known_alike view w s still alike written synced in
          let joint : Moment =
          record { synced = option_map (take place) view.second.synced; written = view.first.written } in
          let cut = ap (option_map (take place)) known.second_synced in
          let cut_first = ap (option_map (take place)) synced in
          let size = length-take place s in (
            passes_under joint view.first new w s (take place s) (take place s) written cut written synced
                (omega (arith, size)) known.within (option_map (take place) view.first.synced) cut_first
                (omega arith) passes,
            passes_under joint view.second other w s (take place s) (take place s) written cut known.second_written
                known.second_synced (omega (arith, size)) known.within (option_map (take place) view.second.synced) cut
                (omega arith) others,
          ))

      pub cuts_both_rest : {U E : Type 0} (result : Result U E) (place : ℕ)
          → new.written ≡ option_map (take place) view.first.written → new.synced ≡ new.written
          → CutsTo view.second.written other.written place result → OnOk result (other.synced ≡ other.written)
          → OnOk result (RestUnder at (record { first = new; second = other }))
      cuts_both_rest (Err failed) place same now cuts synced_now_too = tt
      cuts_both_rest (Ok done) place same now cuts synced_now_too = subst (λ (one : MirrorState).
          RestUnder one (record { first = new; second = other })) is (λ w s written synced.
          let known = known_alike view w s still alike written synced in
          let joint : Moment = record { synced = other.synced; written = new.written } in
          let first_cut = same ∙ ap (option_map (take place)) written in
          let second_cut = cuts ∙ ap (option_map (take place)) known.second_written in
          let all = take place w in (
            under_joint joint (at_rest new) all all all all first_cut (synced_now_too ∙ second_cut) first_cut
                (now ∙ first_cut) (itself all) (omega arith) (omega arith),
            under_joint joint (at_rest other) all all all all first_cut (synced_now_too ∙ second_cut) second_cut
                (synced_now_too ∙ second_cut) (itself all) (omega arith) (omega arith),
          ))

-- ---- a crash in a start

all_of : (bytes now : List ℕ) → IsPrefix bytes now → IsPrefix now bytes → now ≡ bytes
all_of bytes now front back =
    let one = by_length bytes now front in
    let other = by_length now bytes back in
    let size = ap length one in
    let other_size = ap length other in
    let most = length-take (length bytes) now in
    let other_most = length-take (length now) bytes in
    other ∙ take_all (length now) bytes (omega (arith, size, other_size, most, other_most))

pub starts_keep : StartsKeep
starts_keep synced bytes before behind first second one other (now, written, front, back, on_disk)
    (others, has, other_front, within, was) may part =
    let whole = all_of bytes now front back in
    let left = left_by first synced bytes one on_disk (written ∙ ap Some whole) may in
    copies_keep synced bytes one other left
    (prefix_of other others bytes (subst (λ (w : Option (List ℕ)). IsPartOf other w) has part) within)

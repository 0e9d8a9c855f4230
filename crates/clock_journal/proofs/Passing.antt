-- What a crash at the moments of a call could have left.
use Rattle.std.proofs.Common.{◌⊎◌, inl, inr, ◌++◌, ℕ, List, [], ◌∷◌, Option, Some, None, refl, sym, ap, ◌∙◌, subst}
use Rattle.std.proofs.lemmas.List.{append_assoc}
use Rattle.clock_journal.specs.Disks.{CouldBeLeft, LeaveOnly, MayBeLeft, Moment, Passes}

pub leave_none : (moments : Option (List Moment)) (Leaves : List ℕ → Type 0) → LeaveOnly moments moments Leaves
leave_none (Some old) Leaves = ([], refl, λ left could. absurd could)
leave_none None Leaves = tt

pub leave_one : (old new : Option (List Moment)) (synced written : Option (List ℕ)) (Leaves : List ℕ → Type 0)
    → Passes old new synced written → ((left : List ℕ) → MayBeLeft synced written left → Leaves left)
    → LeaveOnly old new Leaves
leave_one (Some old) new synced written Leaves passes may = (
  record { synced = synced; written = written } ∷ [],
  passes,
  λ left could. elim could [
    | inl this ↦ may left this
    | inr later ↦ absurd later
  ],
)
leave_one None new synced written Leaves passes may = tt

could_be_of : (first behind : List Moment) (left : List ℕ) → CouldBeLeft (first ++ behind) left
    → CouldBeLeft first left ⊎ CouldBeLeft behind left
could_be_of [] behind left could = inr could
could_be_of (moment ∷ first) behind left (inl this) = inl (inl this)
could_be_of (moment ∷ first) behind left (inr later) =
    elim (could_be_of first behind left later) [
      | inl one ↦ inl (inr one)
      | inr other ↦ inr other
    ]

leave_both : (old since : List Moment) (new : Option (List Moment)) (Leaves : List ℕ → Type 0)
    → ((left : List ℕ) → CouldBeLeft since left → Leaves left) → LeaveOnly (Some (since ++ old)) new Leaves
    → LeaveOnly (Some old) new Leaves
leave_both old since new Leaves before more = (
  more.0 ++ since,
  more.1 ∙ ap Some (sym (append_assoc more.0 since old)),
  λ left could. elim (could_be_of more.0 since left could) [
    | inl late ↦ more.2 left late
    | inr early ↦ before left early
  ],
)

pub leave_then : (old mid new : Option (List Moment)) (Leaves : List ℕ → Type 0)
    → LeaveOnly old mid Leaves → LeaveOnly mid new Leaves → LeaveOnly old new Leaves
leave_then (Some old) mid new Leaves first then_ = leave_both old first.0 new Leaves first.2
    (subst (λ (at : Option (List Moment)). LeaveOnly at new Leaves) first.1 then_)
leave_then None mid new Leaves first then_ = tt

-- What every application and every admission preserves holds at the end of bid processing.
use Rattle.std.proofs.Common.{◌≡◌, ℕ, zero, suc, ◌<◌, List, Bool, true, false, cond, refl, ltb-true}
use Rattle.std.specs.Prelude.{Option, Some, None, length, nat_lt}
use Rattle.clock_terms.specs.declared.setup.Product.{Product}
use Rattle.clock_terms.specs.declared.change.Change.{Change}
use Rattle.clock_processor.specs.Settling.{Progress, next_by, first_with_room, with_application, with_admission}
use Rattle.clock_processor.specs.Settling.{after_steps, settled, start_of, most_steps}

module _ (products : List Product) (eligibilities : List ℕ) (changes : List Change) (P : Progress → Type 0)
    (applied : (s : Progress) (i : ℕ) → first_with_room products eligibilities changes s ≡ Some i → P s
    → P (with_application products eligibilities changes s i)) (admitted : (s : Progress) → s.admitted < length changes
    → P s → P (with_admission products eligibilities changes s)) where
  after_next : (n : ℕ) → ((s : Progress) → P s → P (after_steps products eligibilities changes n s))
      → (s : Progress) (more : Bool) → nat_lt s.admitted (length changes) ≡ more → P s
      → P (elim (cond more (Some (with_admission products eligibilities changes s))
      None) [ None ↦ s | Some t ↦ after_steps products eligibilities changes n t ])
  after_next n later s true is h =
      later (with_admission products eligibilities changes s) (admitted s (ltb-true s.admitted (length changes) is) h)
  after_next n later s false is h = h

  after_choice : (n : ℕ) → ((s : Progress) → P s → P (after_steps products eligibilities changes n s)) → (s : Progress)
      (choice : Option ℕ) → first_with_room products eligibilities changes s ≡ choice → P s → P (elim (next_by products
      eligibilities changes s choice) [ None ↦ s | Some t ↦ after_steps products eligibilities changes n t ])
  after_choice n later s (Some i) chosen h =
      later (with_application products eligibilities changes s i) (applied s i chosen h)
  after_choice n later s None chosen h = after_next n later s (nat_lt s.admitted (length changes)) refl h

  -- it holds after any number of steps
  pub steps_keep : (n : ℕ) (s : Progress) → P s → P (after_steps products eligibilities changes n s)
  steps_keep zero s h = h
  steps_keep (suc n) s h = after_choice n (steps_keep n) s (first_with_room products eligibilities changes s) refl h

  -- it holds at the end
  pub settled_keep : (grid : List (List ℕ)) → P (start_of products eligibilities changes grid)
      → P (settled products eligibilities changes grid)
  settled_keep grid h =
      steps_keep (most_steps products eligibilities changes) (start_of products eligibilities changes grid) h

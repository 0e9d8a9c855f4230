-- Exactly the texts without an end of a head or of a body need more.
use Rattle.std.proofs.Common.{◌≡◌, ℕ, false, List, refl, inl, inr, sym, ◌∙◌, ap}
use Rattle.clock_http.specs.declared.head.EndedHead.{EndedHead}
use Rattle.clock_http.specs.declared.progress.Progress.{Progress}
use Rattle.clock_http.specs.declared.progress.Progress.TheVariants as so_far
use Rattle.clock_http.specs.Framing.{needs_more}
use Rattle.clock_http.specs.Shown.{Knows, shown_progress}
use Rattle.clock_http.proofs.ProgressLaws.{needs_more_of}
use Rattle.clock_http.proofs.progress.Progress.needs_more.Goals as goal

pub returns-in-Unended : goal.returns-in-Unended
returns-in-Unended c = λ text knows. elim c.in-Unended.is [
  | inl h ↦ needs_more_of text _ (ap (shown_progress text) (sym h.1) ∙ knows.is)
  | inr h ↦ needs_more_of text _ (ap (shown_progress text) (sym h.1) ∙ knows.is)
]

-- a text that is neither unended nor waiting is decided
decided : (text : List ℕ) (progress : Progress) → ((looked : ℕ) → progress ≡ so_far.Unended looked → ⊥)
    → ((head : EndedHead) → progress ≡ so_far.Waiting head → ⊥) → Knows text progress → false ≡ needs_more text
decided text (so_far.Unended looked) ended come knows = absurd (ended looked refl)
decided text (so_far.Waiting head) ended come knows = absurd (come head refl)
decided text (so_far.Complete head) ended come knows = needs_more_of text _ knows.is
decided text (so_far.Refused fault) ended come knows = needs_more_of text _ knows.is

pub returns-in_default : goal.returns-in_default
returns-in_default c = λ text knows. decided text c.args.self c.in_default.not-Unended c.in_default.not-Waiting knows

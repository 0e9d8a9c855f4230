-- In each case, what is known of a text gives its framing.
use Rattle.std.proofs.Common.{inl, inr, sym, ◌∙◌, ap}
use Rattle.clock_http.specs.Shown.{shown_progress}
use Rattle.clock_http.proofs.ProgressLaws.{framed_of, whole_of}
use Rattle.clock_http.proofs.progress.Progress.framing.Goals as goal

pub returns-in-Unended : goal.returns-in-Unended
returns-in-Unended c = elim c.in-Unended.is [
  | inl h ↦ framed_of c.args.text.now _ (ap (shown_progress c.args.text.now) (sym h.1) ∙ c.requires.is)
  | inr h ↦ framed_of c.args.text.now _ (ap (shown_progress c.args.text.now) (sym h.1) ∙ c.requires.is)
]

pub returns-in-Complete : goal.returns-in-Complete
returns-in-Complete c =
    whole_of c.args.text.now _ _ c.in-Complete.head.length c.in-Complete.head.body c.head_in.ensures
    (ap (shown_progress c.args.text.now) (sym c.in-Complete.is) ∙ c.requires.is)

pub returns-in-Refused : goal.returns-in-Refused
returns-in-Refused c =
    framed_of c.args.text.now _ (ap (shown_progress c.args.text.now) (sym c.in-Refused.is) ∙ c.requires.is)

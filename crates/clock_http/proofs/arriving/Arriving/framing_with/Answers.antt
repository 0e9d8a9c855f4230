-- The bytes are exactly a head, so with its body they are a whole request.
use Rattle.std.proofs.Common.{◌≡◌, List, ℕ, length, sym, ◌∙◌, ap, subst, arith}
use Rattle.std.proofs.lemmas.List.{length-take}
use Rattle.clock_http.specs.Framing.{is_incomplete}
use Rattle.clock_http.specs.Shown.{shown_ended, shown_progress, Knows}
use Rattle.clock_http.proofs.ProgressLaws.{whole_with}
use Rattle.clock_http.proofs.arriving.Arriving.framing_with.Goals as goal

pub returns-in-Waiting-clause-is : goal.returns-in-Waiting-clause-is
returns-in-Waiting-clause-is c =
    let text = c.args.self.now in
    let head = c.in-Waiting.head in
    let knows : Knows text c.self.inside.progress =
    subst (λ (t : List ℕ). Knows t c.self.inside.progress) c.self.view_is c.self.invariant.knows in
    let size : head.length ≡ length text =
    omega (arith, ap length c.self.view_is, length-take c.self.inside.count c.self.inside.room.items) in
    whole_with text c.args.piece.now _ head (ap (shown_progress text) (sym c.in-Waiting.is) ∙ knows.is)
    (c.head_in.ensures ∙ ap (λ (t : List ℕ). shown_ended t head) c.as_slice.ensures) size c.if-head-piece.true

pub returns-in-Waiting-clause-whole : goal.returns-in-Waiting-clause-whole
returns-in-Waiting-clause-whole c = ap is_incomplete (sym (returns-in-Waiting-clause-is c))

-- In each case, what is known of the prefix and the length of the text decide. Decisions are final.
use Rattle.std.proofs.Common.{◌≡◌, ℕ, List, take, length, refl, sym, ◌∙◌, ap, subst, arith}
use Rattle.clock_http.specs.Framing as spec
use Rattle.clock_http.specs.declared.head.EndedHead.{EndedHead}
use Rattle.clock_http.specs.declared.progress.Progress.{Progress}
use Rattle.clock_http.specs.declared.progress.Progress.TheVariants as so_far
use Rattle.clock_http.specs.Scans.{head_length}
use Rattle.clock_http.specs.Shown.{Knows}
use Rattle.clock_http.proofs.ProgressLaws.{unended_is, known_waiting, known_complete, request_longer, brought_on, fewer}
use Rattle.clock_http.proofs.ProgressLaws.{looked_at}
use Rattle.clock_http.proofs.progress.Progress.advance.Goals as goal

pub read_on-requires-clause-within : goal.read_on-requires-clause-within
read_on-requires-clause-within c =
    let front = take c.requires.0 c.args.text.now in
    let is = unended_is front c.in-Unended.looked_at (subst (Knows front) c.in-Unended.is c.requires.1).is in
    let le = fewer c.args.text.now c.requires.0 in
    omega arith

pub read_on-requires-clause-short : goal.read_on-requires-clause-short
read_on-requires-clause-short c =
    let front = take c.requires.0 c.args.text.now in
    let is = unended_is front c.in-Unended.looked_at (subst (Knows front) c.in-Unended.is c.requires.1).is in
    omega arith

pub read_on-requires-clause-unended : goal.read_on-requires-clause-unended
read_on-requires-clause-unended c =
    let front = take c.requires.0 c.args.text.now in
    let is = unended_is front c.in-Unended.looked_at (subst (Knows front) c.in-Unended.is c.requires.1).is in
    ap head_length (looked_at c.args.text.now c.requires.0 c.in-Unended.looked_at is.all) ∙ is.none

pub returns-in-Waiting : goal.returns-in-Waiting
returns-in-Waiting c =
    let text = c.args.text.now in
    let knows = subst (Knows (take c.requires.0 text)) c.in-Waiting.is c.requires.1 in
    record {
      is = c.with_body.ensures.shown text ∙ known_waiting text c.requires.0 c.in-Waiting.head knows.is knows.within;
      within = c.with_body.ensures.within;
    }

-- what is decided of a prefix is decided of the text
decided_longer : (text : List ℕ) (n : ℕ) (progress : Progress) → ((looked : ℕ) → progress ≡ so_far.Unended looked → ⊥)
    → ((head : EndedHead) → progress ≡ so_far.Waiting head → ⊥) → Knows (take n text) progress → Knows text progress
decided_longer text n (so_far.Unended looked) ended come knows = absurd (ended looked refl)
decided_longer text n (so_far.Waiting head) ended come knows = absurd (come head refl)
decided_longer text n (so_far.Complete head) ended come knows = record {
  is = known_complete text n head knows.is knows.within.head;
  within = request_longer (length (take n text)) (length text) head (fewer text n) knows.within;
}
decided_longer text n (so_far.Refused fault) ended come knows = record {
  is = sym (brought_on text n (spec.refused fault) knows.is);
  within = tt;
}

pub returns-in_default : goal.returns-in_default
returns-in_default c = decided_longer c.args.text.now c.requires.0 c.args.self c.in_default.not-Unended
    c.in_default.not-Waiting c.requires.1

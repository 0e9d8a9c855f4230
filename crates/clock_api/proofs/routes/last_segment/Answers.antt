-- The bytes after the last slash that the search finds.
use Rattle.std.proofs.Common.{◌≡◌, ◌+◌, ◌-◌, ◌∙◌, ℕ, ap, get_or, length, refl, sym, arith}
use Rattle.std.proofs.lemmas.Bool.Decides.{nat_tests}
use Rattle.std.proofs.lemmas.List.{take_rest}
use Rattle.clock_api.proofs.RouteLaws.{segment_is}
use Rattle.clock_api.proofs.routes.last_segment.Goals as goal

pub returns-in-Some : goal.returns-in-Some
returns-in-Some c =
    let path = c.args.path.now in
    let slash = c.in-Some.slash in
    let found = c.in-Some.ensures in
    let test = found.1 in
    let is : get_or path slash 0 ≡ 47 = grind (arith, nat_tests) in
    let back : slash + 1 - 1 ≡ slash = omega arith in
    segment_is path (slash + 1) (length path) (omega (arith, found.0.high)) refl
    (λ k low high same. found.0.after k low high (rw same refl)) (λ some. ap (λ (n : ℕ). get_or path n 0) back ∙ is)

pub returns-in-None : goal.returns-in-None
returns-in-None c =
    let path = c.args.path.now in
    sym (take_rest path 0) ∙ segment_is path 0 (length path) (omega arith) refl
    (λ k low high same. c.in-None.ensures k low high (rw same refl)) (λ some. absurd (omega (arith, some)))

use Rattle.std.proofs.Common.{◌+◌, [], drop, replicate, refl, sym, ap, subst, ◌∙◌, arith}
use Rattle.std.proofs.lemmas.Bool.{and_parts, eqb-true}
use Rattle.json.specs.Lex.{lex, between}
use Rattle.clock_json.specs.Left.{left}
use Rattle.clock_json.specs.Reading.{numbers, ReadsAll}
use Rattle.clock_json.specs.declared.scan.Expected.TheVariants.{AfterComma}
use Rattle.clock_json.proofs.CompactLaws.{empty_at, empty_reads, replicate_push}
use Rattle.clock_json.proofs.Steps.{all_next}
use Rattle.clock_json.proofs.scan.Scan.empty_arrays.Goals as goal

pub returns-then-not-is_after_comma : goal.returns-then-not-is_after_comma
unfolding ReadsAll
returns-then-not-is_after_comma c = refl

pub lists-init : goal.lists-init
unfolding ReadsAll
lists-init c =
    let s = c.self.inside in
    let behind = c.is_after_comma.ensures.comma c.if-not-is_after_comma.false in
    (sym (ap (λ expected. left expected (drop s.at s.bytes.now)) behind) ∙ c.self.view_is, omega arith)

pub lists-preserved : goal.lists-preserved
lists-preserved c =
    let l = c.lists in
    let bytes = c.self.inside.bytes.now in
    let new = left AfterComma (drop (l.at + 3) bytes) in
    let two = and_parts _ _ c.if-bytes-at.true in
    let one = and_parts _ _ two.0 in
    let empty = empty_at bytes l.at (c.has_room.ensures c.lists-test.true) (eqb-true _ 91 one.0) (eqb-true _ 93 one.1)
    (eqb-true _ 44 two.1) in (
      subst (λ values. ReadsAll 1 c.args.self.now values new) (sym (replicate_push l.count (numbers [])))
          (all_next 1 c.args.self.now (left AfterComma (drop l.at bytes)) new _ (numbers []) l.invariant.0
          (empty_reads (lex between (drop l.at bytes)) (lex between (drop (l.at + 3) bytes)) empty)),
      omega (arith, l.invariant.1),
    )

pub returns : goal.returns
returns c =
    let l = c.lists in
    let s = c.self.inside in
    let behind = c.is_after_comma.ensures.comma c.if-not-is_after_comma.false in
    subst (λ expected. ReadsAll 1 c.args.self.now (replicate l.count (numbers []))
    (left expected (drop l.at s.bytes.now))) (sym behind) l.invariant.0

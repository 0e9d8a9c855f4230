use Rattle.std.proofs.Common.{◌∷◌, ◌++◌, [], drop, map, refl, sym, ap, subst, ◌∙◌}
use Rattle.std.proofs.lemmas.List.{append-nil, append_assoc}
use Rattle.json.specs.Lex.{lex, between}
use Rattle.clock_json.specs.Left.{left}
use Rattle.clock_json.specs.Reading.{whole_number, ReadsAll}
use Rattle.clock_json.specs.declared.scan.Expected.TheVariants.{AfterComma}
use Rattle.clock_json.proofs.CompactLaws.{separated_reads}
use Rattle.clock_json.proofs.Steps.{all_push_next}
use Rattle.clock_json.proofs.scan.Scan.further_numbers.Goals as goal

pub returns-then-not-is_after_comma : goal.returns-then-not-is_after_comma
unfolding ReadsAll
returns-then-not-is_after_comma c = ([], sym (append-nil c.args.list.now.items), refl)

pub numbers-init : goal.numbers-init
unfolding ReadsAll
numbers-init c =
    let s = c.self.inside in
    let behind = c.is_after_comma.ensures.comma c.if-not-is_after_comma.false in (
      [],
      sym (append-nil c.args.list.now.items),
      sym (ap (λ expected. left expected (drop s.at s.bytes.now)) behind) ∙ c.self.view_is,
    )

pub numbers-preserved : goal.numbers-preserved
numbers-preserved c =
    let l = c.numbers in
    let bytes = c.self.inside.bytes.now in
    let row = l.invariant.0 in
    let n = c.in-Some.n in (
      row ++ n ∷ [],
      c.in_ok-push.ensures.items ∙ ap (λ known. known ++ n ∷ []) l.invariant.1
          ∙ append_assoc c.args.list.now.items row (n ∷ []),
      all_push_next 0 whole_number c.args.self.now (left AfterComma (drop l.at bytes)) (left AfterComma
          (drop c.in-Some.end bytes)) row n l.invariant.2 (separated_reads (lex between (drop l.at bytes))
          (lex between (drop c.in-Some.end bytes)) n c.in-Some.ensures.small c.in-Some.ensures.value),
    )

pub returns : goal.returns
returns c =
    let l = c.numbers in
    let s = c.self.inside in
    let behind = c.is_after_comma.ensures.comma c.if-not-is_after_comma.false in (
      l.invariant.0,
      l.invariant.1,
      subst (λ expected. ReadsAll 0 c.args.self.now (map whole_number l.invariant.0)
          (left expected (drop l.at s.bytes.now))) (sym behind) l.invariant.2,
    )

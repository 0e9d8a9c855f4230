-- Each turn of the loop reads one more part.
use Rattle.std.proofs.Common.{◌≡◌, ◌+◌, ◌∷◌, ◌++◌, [], drop, map, refl, sym, subst, ◌∙◌, arith}
use Rattle.std.proofs.lemmas.List.{append-nil}
use Rattle.json.specs.Lex.{lex, between}
use Rattle.clock_json.specs.Left.{left, place_of}
use Rattle.clock_json.specs.Reading.{ReadsAll}
use Rattle.clock_json.proofs.LexLaws.{comma_at, comma_follows}
use Rattle.clock_json.proofs.CompactLaws.{grown, one_part_more}
use Rattle.clock_json.proofs.scan.Scan.compact_parts.Goals as goal

pub returns-then-not-may_begin : goal.returns-then-not-may_begin
unfolding ReadsAll
returns-then-not-may_begin g c = ([], sym (append-nil c.args.list.items), refl)

pub parts-init : goal.parts-init
unfolding ReadsAll
parts-init g c = (
  refl,
  [],
  sym (append-nil c.args.list.items),
  c.self.view_is,
  sym c.may_begin.ensures ∙ c.if-not-may_begin.false,
)

pub invariant_of-self : goal.invariant_of-self
invariant_of-self g c = subst (λ s. s.text.now ≡ s.bytes.now) (sym c.parts.invariant.0) c.self.invariant

pub invariant_of-self-then-bytes-end-ne44 : goal.invariant_of-self-then-bytes-end-ne44
invariant_of-self-then-bytes-end-ne44 g c =
    subst (λ s. s.text.now ≡ s.bytes.now) (sym c.parts.invariant.0) c.self.invariant

pub invariant_of-self-2 : goal.invariant_of-self-2
invariant_of-self-2 g c = subst (λ s. s.text.now ≡ s.bytes.now) (sym c.parts.invariant.0) c.self.invariant

pub returns-then-bytes-end-ne44 : goal.returns-then-bytes-end-ne44
returns-then-bytes-end-ne44 g c =
    let l = c.parts in
    let shown = g.R.CompactPart.shown in
    let row = l.invariant.1 in
    let part = c.in-Some.part in
    let all = one_part_more shown c.args.self.now c.self.inside.bytes.now (place_of l.expected) l.at c.in-Some.end row
    part l.invariant.3 l.invariant.4 c.in-Some.ensures.value in (
      row ++ part ∷ [],
      grown c.args.list.items row l.all.items c.push.new.list.items part l.invariant.2 c.in_ok-push.ensures.items,
      subst (λ s. ReadsAll 1 c.args.self.now (map shown (row ++ part ∷ []))
          (left c.after_value.result.0 (drop c.after_value.result.1 s.bytes.now))) (sym l.invariant.0)
          (subst (λ ts. ReadsAll 1 c.args.self.now (map shown (row ++ part ∷ [])) ts) (sym c.after_value.ensures) all),
    )

pub parts-smaller : goal.parts-smaller
parts-smaller g c = omega (arith, c.in-Some.ensures.order.0, c.in-Some.ensures.order.1)

pub parts-preserved : goal.parts-preserved
parts-preserved g c =
    let l = c.parts in
    let bytes = c.self.inside.bytes.now in
    let end = c.in-Some.end in
    let shown = g.R.CompactPart.shown in
    let row = l.invariant.1 in
    let part = c.in-Some.part in
    let found = c.in-Some.ensures in
    let all = one_part_more shown c.args.self.now bytes (place_of l.expected) l.at end row part l.invariant.3
    l.invariant.4 found.value in (
      l.invariant.0,
      row ++ part ∷ [],
      grown c.args.list.items row l.all.items c.push.new.list.items part l.invariant.2 c.in_ok-push.ensures.items,
      subst (λ ts. ReadsAll 1 c.args.self.now (map shown (row ++ part ∷ [])) ts)
          (comma_follows (lex between (drop end bytes)) (lex between (drop (end + 1) bytes))
          (comma_at bytes end found.order.1 c.if-bytes-end-ne44.false)) all,
      refl,
    )

pub returns : goal.returns
returns g c =
    let l = c.parts in (
      l.invariant.1,
      l.invariant.2,
      subst (λ s. ReadsAll 1 c.args.self.now (map g.R.CompactPart.shown l.invariant.1)
          (left l.expected (drop l.at s.bytes.now))) (sym l.invariant.0) l.invariant.3,
    )

use Rattle.std.proofs.Common.{◌≡◌, ◌≤◌, ◌<◌, ◌++◌, ◌∷◌, [], ◌∙◌, ap, ap₂, get_or, length, nat_lt, refl, sym, subst, zip}
use Rattle.std.proofs.Common.{arith}
use Rattle.std.specs.Prelude.{codes, false}
use Rattle.std.proofs.lemmas.List.{drop_all}
use Rattle.clock_terms.specs.Limits.{SetupFields}
use Rattle.clock_views.specs.PublicPages.{line_value}
use Rattle.clock_views.specs.inside.Values.{rest_text}
use Rattle.clock_views.proofs.Lists.{array_between, row_more}
use Rattle.clock_views.proofs.Pushes.{added, before, headed, refused, together}
use Rattle.clock_views.proofs.Texts.{sheet_in_pieces}
use Rattle.clock_views.proofs.Rooms.{sheet_most}
use Rattle.clock_terms.specs.Limits.{public_setup}
use Rattle.clock_views.proofs.pages.headed_round_results.Goals as goal

pub loop-i-preserved : goal.loop-i-preserved
loop-i-preserved c =
    let lines = c.args.sheet.now.lines in
    let i = c.loop-i.i in
    let product = c.index-deref-i.result in
    let line = c.line-item.result in
    let within : i < length lines = omega (arith, c.loop-i-test.true, ap length c.deref-line-items.ensures) in
    record {
      adds = row_more (λ row. line_value row.0 row.1) _ _ c.args.setup.now.products lines i product line
          (omega (arith, within, c.requires)) within (c.index-deref-i.is ∙ ap (λ list. get_or list i product)
          (c.deref.ensures ∙ ap (λ (setup : SetupFields). setup.products) c.setup.view_is))
          (c.line-item.is ∙ ap (λ list. get_or list i line) c.deref-line-items.ensures) c.push_line.ensures.adds
          ∙ c.loop-i.invariant.adds;
      room = omega (arith, c.loop-i.invariant.room, c.push_line.ensures.room);
    }

pub returns : goal.returns
returns c =
    let sheet = c.args.sheet.now in
    let products = c.args.setup.now.products in
    let i = c.loop-i.i in
    let text = c.loop-i.text.items in
    let opened = c.extend_from_slice.new.self.items in
    let done : length sheet.lines ≤ i = omega (arith, c.loop-i-test.false, ap length c.deref-line-items.ensures) in
    let all : text ++ 93 ∷ [] ≡ opened ++ rest_text (λ row. line_value row.0 row.1) false (zip products sheet.lines) =
    ap₂ (λ left lines. text ++ rest_text (λ row. line_value row.0 row.1) (nat_lt 0 i) (zip left lines))
    (sym (drop_all i products (omega (arith, done, c.requires)))) (sym (drop_all i sheet.lines done))
    ∙ c.loop-i.invariant.adds in
    rw (← c.setup.view_is)
    (headed c.into_items.ensures c.in_ok-text.ensures.head
    (together (sheet_in_pieces _ sheet)
    (before c.push_truth.ensures.adds
    (array_between (λ row. line_value row.0 row.1) (zip c.setup.inside.products sheet.lines)
    (codes ",\"products\":") refl refl (added c.extend_from_slice.ensures.items)
    (subst (λ (setup : SetupFields). text ++ 93 ∷ []
    ≡ opened ++ rest_text (λ row. line_value row.0 row.1) false (zip setup.products sheet.lines))
    (sym c.setup.view_is) all)
    (before c.push_number.ensures.adds (added c.extend_from_slice-2.ensures.items))))))

pub returns-in_err-text : goal.returns-in_err-text
returns-in_err-text c =
    refused _ _ c.from_residual.result _ c.from_residual.ensures.1 (omega (
      arith,
      c.in_err-text.ensures.refused,
      sheet_most (public_setup c.args.setup.now) c.args.sheet.now c.requires,
      c.len.ensures,
    ))

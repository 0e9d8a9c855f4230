-- For a list: `all` tests each increment, and the comparison its length.
use Rattle.std.proofs.Common.{rules, tests, ◌≡◌, ◌==◌, ◌&&◌, Bool, true, length, sym, ap, ◌∙◌, arith}
use Rattle.std.proofs.lemmas.Bool.Decides.{nat_tests}
use Rattle.std.proofs.lemmas.Iterator.{YieldsList-from_slice}
use Rattle.std.proofs.lemmas.Iterator.Search.{all_from_yields_List}
use Rattle.std.specs.List.{list_all}
use Rattle.clock_terms.specs.Increments.{are_increments, is_increment}
use Rattle.clock_terms.proofs.increments.Increments.are_within.Goals as goal

pub returns-then-len-products : goal.returns-then-len-products
returns-then-len-products c =
    let list = c.in-PerProduct.increments in
    let each : c.all.result ≡ list_all is_increment c.deref.result.now = all_from_yields_List is_increment _ _
    c.all.result c.all.ensures.ran (YieldsList-from_slice c.deref.result.now cc) (λ x b q k. search (rules, tests)) in
    let size : length list ≡ c.args.products = sym c.len.ensures ∙ c.if-len-products.true in
    let counted : (length list == c.args.products) ≡ true = grind (arith, nat_tests) in
    each ∙ ap (list_all is_increment) c.deref.ensures
    ∙ ap (λ (test : Bool). test && list_all is_increment list) (sym counted)
    ∙ ap (are_increments c.args.products) (sym c.in-PerProduct.is)

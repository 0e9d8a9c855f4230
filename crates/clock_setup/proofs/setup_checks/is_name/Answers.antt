-- `all` tests each character, and the comparison the length.
use Rattle.std.proofs.Common.{rules, tests, ◌≡◌, Bool, ◌&&◌, sym, ap, ◌∙◌}
use Rattle.std.proofs.lemmas.Iterator.{YieldsList-from_slice}
use Rattle.std.proofs.lemmas.Iterator.Search.{all_from_yields_List}
use Rattle.std.specs.List.{list_all}
use Rattle.clock_terms.specs.Limits.{is_name_character}
use Rattle.clock_setup.proofs.setup_checks.is_name.Goals as goal

pub returns-then-is_within : goal.returns-then-is_within
returns-then-is_within c =
    let text = c.args.name.now in
    let all : c.all-fits.result ≡ list_all is_name_character text = all_from_yields_List is_name_character _ _
    c.all-fits.result c.all-fits.ensures.ran (YieldsList-from_slice text cc) (λ x b q k. search (rules, tests)) in
    all ∙ ap (λ (test : Bool). test && list_all is_name_character text)
    (sym (sym c.is_within.ensures ∙ c.if-is_within.true))

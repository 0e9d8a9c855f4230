-- `all` tests each character, and the comparison the length.
use Rattle.std.proofs.Common.{rules, tests, ◌≡◌, Bool, ◌&&◌, sym, ap, ◌∙◌}
use Rattle.std.proofs.lemmas.Iterator.{YieldsList-from_slice}
use Rattle.std.proofs.lemmas.Iterator.Search.{all_from_yields_List}
use Rattle.std.specs.List.{list_all}
use Rattle.clock_terms.specs.Limits.{is_letter_or_digit}
use Rattle.clock_setup.proofs.setup_checks.is_token.Goals as goal

pub returns-then-is_within : goal.returns-then-is_within
returns-then-is_within c =
    let text = c.args.token.now in
    let all : c.all-fits.result ≡ list_all is_letter_or_digit text = all_from_yields_List is_letter_or_digit _ _
    c.all-fits.result c.all-fits.ensures.ran (YieldsList-from_slice text cc) (λ x b q k. search (rules, tests)) in
    all ∙ ap (λ (test : Bool). test && list_all is_letter_or_digit text)
    (sym (sym c.is_within.ensures ∙ c.if-is_within.true))

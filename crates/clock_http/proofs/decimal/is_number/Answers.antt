-- An empty text is no number.
use Rattle.std.proofs.Common.{rules, tests, ◌≡◌, Bool, true, ◌&&◌, nat_lt, length, sym, ap, ◌∙◌, arith}
use Rattle.std.proofs.lemmas.Bool.Decides.{nat_tests}
use Rattle.std.proofs.lemmas.Iterator.{YieldsList-from_slice}
use Rattle.std.proofs.lemmas.Iterator.Search.{all_from_yields_List}
use Rattle.std.specs.Char.{is_ascii_digit}
use Rattle.std.specs.List.{list_all}
use Rattle.clock_http.proofs.decimal.is_number.Goals as goal

pub returns-then-not-is_empty : goal.returns-then-not-is_empty
returns-then-not-is_empty c =
    let text = c.args.text.now in
    let all : c.all.result ≡ list_all is_ascii_digit text = all_from_yields_List is_ascii_digit _ _ c.all.result
    c.all.ensures.ran (YieldsList-from_slice text cc) (λ x b q k. search (rules, tests)) in
    let some : nat_lt 0 (length text) ≡ true = grind (arith, nat_tests) in
    all ∙ ap (λ (test : Bool). test && list_all is_ascii_digit text) (sym some)

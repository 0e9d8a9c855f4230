-- `all` tests the length of each row, and the comparison the number of rows.
use Rattle.std.proofs.Common.{rules, tests, ◌≡◌, ◌==◌, ◌&&◌, true, Bool, List, ℕ, length, sym, ap, ◌∙◌, arith}
use Rattle.std.specs.List.{list_all}
use Rattle.std.proofs.lemmas.Bool.Decides.{nat_tests}
use Rattle.std.proofs.lemmas.Iterator.{YieldsList-from_slice}
use Rattle.std.proofs.lemmas.Iterator.Search.{all_from_yields_List}
use Rattle.clock_terms.specs.Limits.{SetupFields}
use Rattle.clock_setup.proofs.opening_scan.has_counts.Goals as goal

pub returns-then-demands-len : goal.returns-then-demands-len
returns-then-demands-len c =
    let setup = c.args.setup.now in
    let demands : List (List ℕ) = c.args.demands.now in
    let all : c.all.result ≡ list_all (λ (row : List ℕ). length row == c.len-width.result) demands =
    all_from_yields_List (λ (row : List ℕ). length row == c.len-width.result) _ _ c.all.result c.all.ensures.ran
    (YieldsList-from_slice demands cc) (λ x b q k. search (rules, tests)) in
    let width : c.len-width.result ≡ length setup.products =
    c.len-width.ensures ∙ ap (λ (s : SetupFields). length s.products) c.setup.view_is in
    let count : c.len.result ≡ length setup.bidders =
    c.len.ensures ∙ ap (λ (s : SetupFields). length s.bidders) c.setup.view_is in
    let same : (length demands == length setup.bidders) ≡ true = grind (arith, nat_tests) in
    all ∙ ap (λ n. list_all (λ (row : List ℕ). length row == n) demands) width
    ∙ ap (λ (test : Bool). test && list_all (λ (row : List ℕ). length row == length setup.products) demands) (sym same)

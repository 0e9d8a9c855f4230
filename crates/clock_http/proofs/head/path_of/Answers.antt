-- The span that ends at the first question mark covers the path.
use Rattle.std.proofs.Common.{rules, tests, ◌≡◌, ◌==◌, arith}
use Rattle.std.proofs.lemmas.Grind.{common_steps}
use Rattle.std.proofs.lemmas.Iterator.{YieldsList-from_slice}
use Rattle.std.proofs.lemmas.Iterator.Search.{position_from_yields_List}
use Rattle.std.specs.Prelude.{position}
use Rattle.http_uri.specs.ByteClasses.{question_mark}
use Rattle.clock_http.proofs.head.path_of.Goals as goal

pub returns-in-Some-clause-shown : goal.returns-in-Some-clause-shown
returns-in-Some-clause-shown c =
    let first : c.position.result ≡ position (λ b. b == question_mark) c.of.result.now =
    position_from_yields_List (λ b. b == question_mark) _ _ c.position.result c.position.ensures.ran
    (YieldsList-from_slice c.of.result.now cc) (λ x b q k. search (rules, tests)) in
    grind (arith, common_steps)

pub returns-in_default-clause-shown : goal.returns-in_default-clause-shown
returns-in_default-clause-shown c =
    let first : c.position.result ≡ position (λ b. b == question_mark) c.of.result.now =
    position_from_yields_List (λ b. b == question_mark) _ _ c.position.result c.position.ensures.ran
    (YieldsList-from_slice c.of.result.now cc) (λ x b q k. search (rules, tests)) in
    grind (arith, common_steps)

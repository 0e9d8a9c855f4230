-- In both branches the number of keys is that of the definition.
use Rattle.std.proofs.Common.{◌≡◌, ap, ◌∙◌, arith}
use Rattle.std.proofs.lemmas.Bool.Decides.{nat_tests}
use Rattle.serde_json.specs.View.{view}
use Rattle.clock_json.specs.Tree.{has_members}
use Rattle.clock_setup.specs.SetupShape.{key_count}
use Rattle.clock_setup.proofs.setup_tree.has_keys.Goals.{then-version-eq1, else-version-eq1}
use Rattle.clock_setup.proofs.setup_tree.has_keys.Goals as goal

pub returns : goal.returns
returns c =
    let same : c.if-version-eq1.count ≡ key_count c.args.version c.args.in_first = elim c.if-version-eq1.branch [
      | then-version-eq1 w ↦ grind (arith, nat_tests)
      | else-version-eq1 w ↦ grind (arith, nat_tests)
    ] in
    c.has_members.ensures ∙ ap (λ count. has_members count (view c.args.value.now)) same

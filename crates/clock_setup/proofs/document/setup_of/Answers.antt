-- A document of the right shape has a version of 1 or 2 and, in version 1, the values of version 1. So only the limits
-- are left, and the checks refuse nothing within them.
use Rattle.std.proofs.Common.{◌≡◌, Some, codes, sym, ◌∙◌}
use Rattle.serde_json.specs.View.{view}
use Rattle.clock_json.specs.Tree.{number_at}
use Rattle.clock_setup.proofs.LimitLaws.{accepted}
use Rattle.clock_setup.proofs.ShapeLaws.{known_version, of_first_version}
use Rattle.clock_setup.proofs.document.setup_of.Goals as goal

pub within_limits-judged-requires-clause-version : goal.within_limits-judged-requires-clause-version
within_limits-judged-requires-clause-version c =
    let value = view c.args.value.now in
    let read = sym (rw c.in_ok-entries.ensures.ok_part at c.in_ok-entries_of.ensures) in
    let known : number_at (codes "version") value ≡ Some c.in_ok-version.version =
    sym (rw c.in_ok-version.ensures.ok_part at c.number_at.ensures) in
    known_version value _ c.in_ok-version.version read known (sym c.is_within.ensures ∙ c.if-not-is_within.false)

pub within_limits-judged-requires-clause-first_version : goal.within_limits-judged-requires-clause-first_version
within_limits-judged-requires-clause-first_version c =
    let read = sym (rw c.in_ok-entries.ensures.ok_part at c.in_ok-entries_of.ensures) in
    of_first_version (view c.args.value.now) _ read

pub returns-in_err-entries-clause-accepts : goal.returns-in_err-entries-clause-accepts
returns-in_err-entries-clause-accepts c = accepted (view c.args.value.now)

pub returns-clause-accepts : goal.returns-clause-accepts
returns-clause-accepts c = accepted (view c.args.value.now)

-- The checks in their order; the loop makes those of one script each turn.
use Rattle.std.proofs.Common.{◌≡◌, true, length, None, sym, ap, ◌∙◌, rules}
use Rattle.std.specs.List.{list_all}
use Rattle.clock_terms.specs.Faults.{first_fault}
use Rattle.clock_terms.proofs.FaultLaws.{turn_passed, turn_failed, turn_none}
use Rattle.clock_replays.specs.ReplayChecks.{script_checks, are_of_version, has_lists}
use Rattle.clock_replays.proofs.CheckLaws.{scripts_decide}
use Rattle.clock_replays.proofs.read.replay_fault.Goals as goal

pub returns-in-Some-clause-fault : goal.returns-in-Some-clause-fault
returns-in-Some-clause-fault c =
    let setup = c.args.setup.now in
    let scripts = c.args.scripts.now in
    let products = c.as_slice-products.result.now in
    let of_version : are_of_version setup.version c.args.closings.now ≡ true = search rules in
    let counted : length scripts ≡ length c.as_slice.result.now = search rules in
    let lists : list_all (has_lists (length products)) scripts ≡ true = search rules in
    sym (turn_failed (script_checks products) scripts c.loop-bidder.bidder c.index-scripts-bidder.result c.in-Some.fault
    c.loop-bidder-test.true c.index-scripts-bidder.is (sym c.in-Some.ensures.fault)) ∙ c.loop-bidder.invariant
    ∙ scripts_decide setup scripts c.args.closings.now (c.as_slice-products.ensures ∙ ap (λ s. s.products)
    c.setup.view_is) (c.as_slice.ensures ∙ ap (λ s. s.bidders) c.setup.view_is) of_version counted lists

pub loop-bidder-preserved : goal.loop-bidder-preserved
loop-bidder-preserved c =
    let products = c.as_slice-products.result.now in
    let is : first_fault (script_checks products c.loop-bidder.bidder c.index-scripts-bidder.result)
    ≡ None = search rules in
    sym (turn_passed (script_checks products) c.args.scripts.now c.loop-bidder.bidder c.index-scripts-bidder.result
    c.loop-bidder-test.true c.index-scripts-bidder.is is)
    ∙ c.loop-bidder.invariant

pub returns-clause-fault : goal.returns-clause-fault
returns-clause-fault c =
    let setup = c.args.setup.now in
    let scripts = c.args.scripts.now in
    let products = c.as_slice-products.result.now in
    let of_version : are_of_version setup.version c.args.closings.now ≡ true = search rules in
    let counted : length scripts ≡ length c.as_slice.result.now = search rules in
    let lists : list_all (has_lists (length products)) scripts ≡ true = search rules in
    sym (turn_none (script_checks products) scripts c.loop-bidder.bidder c.loop-bidder-test.false)
    ∙ c.loop-bidder.invariant ∙ scripts_decide setup scripts c.args.closings.now (c.as_slice-products.ensures ∙ ap (λ s.
    s.products) c.setup.view_is) (c.as_slice.ensures ∙ ap (λ s. s.bidders) c.setup.view_is) of_version counted lists

-- By cases: no sheet, or one whose request is submitted.
use Rattle.std.proofs.Common.{◌≡◌, ◌==◌, Bool, Option, Vec, true, length, vec_len, eqb-true, ap, refl, subst, sym}
use Rattle.std.proofs.Common.{◌∙◌, arith}
use Rattle.std.specs.Prelude.{IfSome}
use Rattle.std.specs.declared.alloc.Global.{Global}
use Rattle.clock_house.specs.House.{HouseFields, state_in}
use Rattle.clock_scripts.specs.declared.requests.Written.{Written}
use Rattle.clock_scripts.specs.Pieces.{AwaitsBody}
use Rattle.clock_sim.specs.declared.rounds.Waiting.{Waiting}
use Rattle.clock_sim.specs.inside.Groups.{StillWait}
use Rattle.clock_sim.proofs.TurnLaws.{turn_passed, turn_taken, written_next}
use Rattle.clock_sim.proofs.WrittenLaws.{still_none}
use Rattle.clock_sim.proofs.rounds.put_scripted.Goals.{then-is_empty, else-is_empty}
use Rattle.clock_sim.proofs.rounds.put_scripted.Goals as goal

-- no request waits
counted : (waiting : Vec Waiting Global) (is : Bool) → is ≡ (vec_len waiting == 0) → is ≡ true
    → length waiting.items ≡ 0
counted waiting is same empty =
    let none : vec_len waiting ≡ 0 = eqb-true (vec_len waiting) 0 (sym same ∙ empty) in
    omega (arith, none, waiting.ok.0)

pub returns-in_default-clause-step : goal.returns-in_default-clause-step
returns-in_default-clause-step g c =
    let hub = c.args.hub.now in
    let group = c.args.group.now in
    let room : StillWait group c.if-is_empty.group = elim c.if-is_empty.branch [
      | then-is_empty w ↦ rw w.group-is
          (still_none group w.clear.new.self (counted group.waiting _ c.is_empty.ensures w.if-is_empty.true))
      | else-is_empty w ↦ rw w.group-is (λ all. (refl, all))
    ] in
    let same = c.house-house.ensures ∙ c.front.ensures in
    turn_passed hub group c.if-is_empty.group c.write_put.new.text c.house-house.result.now c.args.bidder
    c.args.script.now c.in_ok-written.field-0 c.requires.under_way room same c.in_ok-written.ensures.writes _
    c.in_default.is

pub submit-requires-clause-next : goal.submit-requires-clause-next
submit-requires-clause-next g c =
    let hub = c.args.hub.now in
    let group = c.args.group.now in
    let room : StillWait group c.if-is_empty.group = elim c.if-is_empty.branch [
      | then-is_empty w ↦ rw w.group-is
          (still_none group w.clear.new.self (counted group.waiting _ c.is_empty.ensures w.if-is_empty.true))
      | else-is_empty w ↦ rw w.group-is (λ all. (refl, all))
    ] in
    let same = c.house-house.ensures ∙ c.front.ensures in
    written_next hub group c.if-is_empty.group c.write_put.new.text c.house-house.result.now c.args.bidder
    c.args.script.now c.in_ok-written.field-0 c.requires.under_way room same c.in_ok-written.ensures.writes
    c.in-Some.written c.in-Some.is

pub submit-requires-clause-awaits : goal.submit-requires-clause-awaits
submit-requires-clause-awaits g c = subst
    (λ (written : Option Written). IfSome written (AwaitsBody c.write_put.new.text.items)) c.in-Some.is
    c.in_ok-written.ensures.awaits

pub returns-clause-step : goal.returns-clause-step
returns-clause-step g c =
    let hub = c.args.hub.now in
    let group = c.args.group.now in
    let room : StillWait group c.if-is_empty.group = elim c.if-is_empty.branch [
      | then-is_empty w ↦ rw w.group-is
          (still_none group w.clear.new.self (counted group.waiting _ c.is_empty.ensures w.if-is_empty.true))
      | else-is_empty w ↦ rw w.group-is (λ all. (refl, all))
    ] in
    let same = c.house-house.ensures ∙ c.front.ensures in
    let at = c.round-round.ensures.is ∙ ap (λ (house : HouseFields). (state_in house).round) same in
    turn_taken hub group c.if-is_empty.group c.write_put.new.text c.house-house.result.now c.args.bidder
    c.args.script.now c.in_ok-written.field-0 c.requires.under_way room same c.in_ok-written.ensures.writes
    c.in-Some.written c.round-round.result c.submit.new.hub c.submit.new.group c.submit.result c.in-Some.is at
    c.submit.ensures.step

-- Proves that the loop builds the results of each bidder, in order.
use Rattle.std.proofs.Common.{◌≡◌, ◌<◌, ℕ, List, [], ◌∷◌, ◌++◌, length, ap, sym, subst, ◌∙◌, arith}
use Rattle.std.specs.Prelude.{map}
use Rattle.std.specs.List.{range_with_len}
use Rattle.std.proofs.lemmas.List.{length-map}
use Rattle.std.proofs.lemmas.List.FromFn.{map-range_with_len_more}
use Rattle.clock_terms.specs.Demands.{row_of}
use Rattle.clock_terms.specs.Limits.{IsRow, public_setup}
use Rattle.clock_closing.specs.declared.closed_round.Slip.{Slip}
use Rattle.clock_closing.specs.Holdings.{Holding}
use Rattle.clock_closing.specs.OpenRound.{holding_at}
use Rattle.clock_closing.specs.Closing.{slip_after}
use Rattle.clock_closing.specs.Results.{result_demands}
use Rattle.clock_closing.proofs.SlipDemands.{slips_demands}
use Rattle.clock_closing.proofs.open_round.OpenRound.slips.Goals as goal

pub row-requires : goal.row-requires
row-requires c = omega (
  arith,
  c.loop-bidder-test.true,
  c.bidders-bidder-end.ensures.held,
  c.requires.bidders,
  length-map c.args.self.now.before.holdings (λ (held : Holding). held.eligibility),
)

pub slip_after-requires-clause-bidder : goal.slip_after-requires-clause-bidder
slip_after-requires-clause-bidder c = omega (arith, c.loop-bidder-test.true, c.bidders-bidder-end.ensures.each)

pub slip_after-requires-clause-row : goal.slip_after-requires-clause-row
slip_after-requires-clause-row c =
    let known : c.loop-bidder.bidder < length c.args.demands.now = omega (
      arith,
      c.loop-bidder-test.true,
      c.bidders-bidder-end.ensures.held,
      c.requires.bidders,
      length-map c.args.self.now.before.holdings (λ (held : Holding). held.eligibility),
    ) in
    subst (IsRow c.args.self.now.setup.products) (sym c.row.ensures) (c.requires.rows c.loop-bidder.bidder [] known)

pub loop-bidder-preserved : goal.loop-bidder-preserved
loop-bidder-preserved c =
    let round = c.args.self.now.before.public_state.round in
    let f = λ (bidder : ℕ). slip_after (public_setup c.args.self.now.setup) c.args.self.now.before.public_state.round
    (holding_at c.args.self.now.before.holdings bidder).eligibility (row_of c.args.demands.now bidder) in
    let slip = rw c.row.ensures at c.in_ok-slip_after.ensures in
    let pushed : c.push.new.self.items ≡ c.loop-bidder.slips.items ++ c.in_ok-slip_after.field-0 ∷ [] =
    c.in_ok-push.ensures.items in
    pushed
    ∙ ap (λ (xs : List Slip). xs ++ c.in_ok-slip_after.field-0 ∷ []) c.loop-bidder.invariant
    ∙ ap (λ (one : Slip). map f (range_with_len 0 c.loop-bidder.bidder) ++ one ∷ []) slip
    ∙ sym (map-range_with_len_more f 0 c.loop-bidder.bidder c.loop-bidder.bidder (omega arith))

pub returns-clause-slips : goal.returns-clause-slips
returns-clause-slips c =
    let done : c.loop-bidder.bidder ≡ c.bidders-bidder-end.result = omega arith in
    c.from_vec.ensures ∙ c.loop-bidder.invariant ∙ ap (λ (n : ℕ).
    map (λ (bidder : ℕ). slip_after (public_setup c.args.self.now.setup) c.args.self.now.before.public_state.round
    (holding_at c.args.self.now.before.holdings bidder).eligibility (row_of c.args.demands.now bidder))
    (range_with_len 0 n)) (done ∙ c.bidders-bidder-end.ensures.held)

pub returns-clause-demands : goal.returns-clause-demands
returns-clause-demands c =
    slips_demands (public_setup c.args.self.now.setup) c.args.self.now.before c.args.demands.now
    (c.requires.bidders ∙ length-map c.args.self.now.before.holdings (λ (held : Holding). held.eligibility))
    ∙ ap result_demands (sym (returns-clause-slips c))

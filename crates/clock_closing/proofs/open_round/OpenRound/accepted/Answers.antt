-- Proves that a closing with these increments and tie-breaking numbers passes its checks up to the last one.
use Rattle.std.proofs.Common.{◌≡◌, List, ap, sym, ◌∙◌}
use Rattle.clock_terms.specs.Limits.{SetupFields}
use Rattle.clock_terms.specs.declared.increments.Increments.{Increments}
use Rattle.clock_terms.proofs.IncrementLaws.{increments_of_test}
use Rattle.clock_order.specs.declared.ties.Tie.{Tie}
use Rattle.clock_closing.specs.OpenRound.{OpenRoundFields}
use Rattle.clock_closing.specs.Closing.{closing_now}
use Rattle.clock_closing.specs.inside.Postings.{posted_now}
use Rattle.clock_closing.proofs.Steps.{is_open, closes-tested}
use Rattle.clock_closing.proofs.open_round.OpenRound.accepted.Goals as goal

-- A closing with copies of its arguments is that closing.
with_copies : (now : OpenRoundFields) (increments copy : Increments) (ties listed : List Tie) → copy ≡ increments
    → listed ≡ ties → closing_now now increments ties ≡ posted_now now increments ties
    → closing_now now increments ties ≡ posted_now now copy listed
with_copies now increments copy ties listed copied list good =
    good ∙ sym (ap (λ (one : Increments). posted_now now one listed) copied ∙ ap (posted_now now increments) list)

pub returns-clause-allowed : goal.returns-clause-allowed
returns-clause-allowed c =
    let setup : c.self.inside.setup.now ≡ c.args.self.now.setup =
    ap (λ (round : OpenRoundFields). round.setup) c.self.view_is in
    let products : c.setup.inside.products ≡ c.args.self.now.setup.products =
    ap (λ (one : SetupFields). one.products) (c.setup.view_is ∙ setup) in
    rw c.in_ok-copy_of.ensures (increments_of_test _ c.args.increments.now
    (sym (rw (c.as_slice.ensures, products) at c.if-not-are_within.ensures)))

pub returns-clause-produced : goal.returns-clause-produced
returns-clause-produced c = with_copies c.args.self.now c.args.increments.now c.in_ok-copy_of.field-0
    c.args.ties.now c.in_ok-ties.ties c.in_ok-copy_of.ensures c.in_ok-ties.ensures.listed (closes-tested
    c.args.self.now (is_open c.self.view_is c.self.invariant.1) c.self.inside.setup.now c.as_slice.result.now
    c.args.increments.now c.args.ties.now (ap (λ (round : OpenRoundFields). round.before.public_state.ended)
    (sym c.self.view_is)) (ap (λ (round : OpenRoundFields). round.setup) c.self.view_is)
    (c.as_slice.ensures ∙ ap (λ (one : SetupFields). one.products) c.setup.view_is)
    (sym c.if-not-are_within.ensures) c.in_ok-ties.ensures.good)

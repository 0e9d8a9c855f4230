-- Proves that the loop collects all bidders' requests, and that no two of them have the same bidder, product, and
-- index.
use Rattle.std.proofs.Common.{◌≡◌, ℕ, List, ◌++◌, ap, sym, ◌∙◌, arith}
use Rattle.std.specs.Prelude.{flat_map}
use Rattle.std.specs.List.{range_with_len}
use Rattle.clock_terms.specs.declared.change.Change.{Change}
use Rattle.clock_closing.specs.Holdings.{Holding}
use Rattle.clock_closing.specs.OpenRound.{OpenRoundFields}
use Rattle.clock_closing.specs.Closing.{requests_by}
use Rattle.clock_closing.proofs.Joined.{flat_map-range_more}
use Rattle.clock_closing.proofs.OpenRounds.{own_places}
use Rattle.clock_closing.proofs.open_round.OpenRound.requests.Goals as goal

pub loop-bidder-preserved : goal.loop-bidder-preserved
loop-bidder-preserved c =
    let prices : c.self.inside.prices.now ≡ c.args.self.now.before.public_state.prices =
    ap (λ (round : OpenRoundFields). round.before.public_state.prices) c.self.view_is in
    let demands = ap (λ (held : Holding). held.demands) c.own.ensures.held in
    let added = rw (prices, demands, c.sheet.ensures) at c.in_ok-changes-2.ensures.exact in
    added
    ∙ ap (λ (xs : List Change). xs ++ requests_by c.args.self.now.before c.loop-bidder.bidder) c.loop-bidder.invariant
    ∙ sym (flat_map-range_more (requests_by c.args.self.now.before) c.loop-bidder.bidder)

pub ordered-requires : goal.ordered-requires
ordered-requires c =
    let done : c.loop-bidder.bidder ≡ c.bidders-bidder-end.result = omega arith in
    let all = c.loop-bidder.invariant ∙ ap (λ (n : ℕ). flat_map (requests_by c.args.self.now.before)
    (range_with_len 0 n)) (done ∙ c.bidders-bidder-end.ensures.held) in
    rw (all, ← c.self.view_is) (own_places _ _ c.self.invariant.1.sound (rw (← c.self.view_is) at c.requires))

-- The loop collects the operator's token and then the token of each bidder in order.
use Rattle.std.proofs.Common.{ap, arith}
use Rattle.clock_terms.specs.declared.setup.Bidder.{Bidder}
use Rattle.clock_setup.proofs.NameLaws.{text_pushed_behind, texts_end_behind, distinct_texts}
use Rattle.clock_setup.proofs.setup_checks.has_distinct_tokens.Goals as goal

pub loop-bidder-preserved : goal.loop-bidder-preserved
loop-bidder-preserved c =
    let at = c.loop-bidder in
    let push = c.push-in-loop-bidder in
    record {
      so_far = text_pushed_behind (λ bidder. bidder.token) at.tokens.items c.args.bidders.now at.bidder-index
          c.args.operator.now push.new.self.items c.bidder.inside.token c.bidder-item.result push.ensures.items
          c.loop-bidder-test.true c.bidder-item.is
          (ap (λ (bidder : Bidder). bidder.token) c.bidder.view_is) at.invariant.so_far;
      room = omega (arith, push.ensures.room, at.invariant.room);
    }

pub returns : goal.returns
returns c =
    let at = c.loop-bidder in
    distinct_texts c.is_distinct-distinct.result _ _ _ c.as_slice.ensures
    (texts_end_behind (λ bidder. bidder.token) at.tokens.items c.args.bidders.now at.bidder-index c.args.operator.now
    c.loop-bidder-test.false at.invariant.so_far) c.is_distinct-distinct.ensures

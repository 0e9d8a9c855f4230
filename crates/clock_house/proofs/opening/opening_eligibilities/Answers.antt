-- Proves that the loop builds the initial eligibilities in order.
use Rattle.std.proofs.Common.{◌++◌, ◌∷◌, [], ℕ, List, map, take, ap, sym, ◌∙◌, arith, get_or}
use Rattle.std.proofs.lemmas.List.{map-append, take_more}
use Rattle.clock_terms.specs.declared.setup.Bidder.{Bidder}
use Rattle.clock_house.proofs.opening.opening_eligibilities.Goals as goal

pub push-requires : goal.push-requires
push-requires c = omega (arith, c.loop-bidder.invariant.room, c.loop-bidder-test.true)

pub loop-bidder-preserved : goal.loop-bidder-preserved
loop-bidder-preserved c =
    let i = c.loop-bidder.bidder-index in
    let all = c.as_slice-bidders.result.now in
    let here = c.bidder-item.result in
    let held = λ (bidder : Bidder). bidder.eligibility in
    record {
      items = c.push.ensures.items
          ∙ ap (λ (xs : List ℕ). xs ++ here.eligibility ∷ []) c.loop-bidder.invariant.items
          ∙ ap (λ (one : Bidder). map held (take i all) ++ one.eligibility ∷ []) c.bidder-item.is
          ∙ sym (map-append held (take i all) (get_or all i here ∷ []))
          ∙ ap (map held) (sym (take_more all i here c.loop-bidder-test.true));
      room = omega (arith, c.loop-bidder.invariant.room, c.push.ensures.room);
    }

-- Each entry is checked against the map of those before it.
use Rattle.std.proofs.Common.{◌≡◌, ℕ, ◌<◌, true, ◌∙◌, ap, map, rules, sym}
use Rattle.std.proofs.lemmas.Bool.{lt-ltb}
use Rattle.indexmap.proofs.CallerLemmas.{insert_entry-new}
use Rattle.clock_order.specs.declared.ties.Tie.{Tie}
use Rattle.clock_order.specs.Entries.{tie_of}
use Rattle.clock_order.specs.inside.TieTests.{is_in_range}
use Rattle.clock_order.proofs.Listed.{is_key}
use Rattle.clock_order.proofs.TieSteps.{tie_at, listed_more, repeated_first, ahead_more, none_from_test}
use Rattle.clock_order.proofs.ties.note_ties.Goals as goal

in_range : (bidders products : ℕ) (tie : Tie) → tie.bidder < bidders → tie.product < products
    → true ≡ is_in_range bidders products tie
in_range bidders products tie bidder product =
    rw (lt-ltb tie.bidder bidders bidder, lt-ltb tie.product products product) cc

pub returns-then-is_some-clause-fault : goal.returns-then-is_some-clause-fault
returns-then-is_some-clause-fault c =
    let bidders = c.args.bidders in
    let products = c.args.products in
    let found = repeated_first bidders products c.args.ties.now c.loop-i.i c.loop-i.numbers.entries
    c.in_ok-earlier.earlier c.loop-i-test.true c.loop-i.invariant.ahead c.loop-i.invariant.listed
    (in_range bidders products (tie_at c.args.ties.now c.loop-i.i) c.if-tie-bidders.false c.if-tie-products.false)
    c.in_ok-earlier.ensures.old c.if-is_some.ensures in
    search rules

pub loop-i-preserved : goal.loop-i-preserved
loop-i-preserved c =
    let ties = c.args.ties.now in
    let i = c.loop-i.i in
    let tie = tie_at ties i in
    let fresh = sym c.in_ok-earlier.ensures.old ∙ none_from_test c.in_ok-earlier.earlier c.if-is_some.ensures in
    record {
      listed =
          ap (map tie_of)
          (c.in_ok-earlier.ensures.entries
          ∙ insert_entry-new (λ x y. is_key x.0 x.1 y) c.loop-i.numbers (tie.bidder, tie.product) tie.number fresh)
          ∙ listed_more ties i c.loop-i.numbers.entries c.loop-i-test.true c.loop-i.invariant.listed;
      ahead =
          ahead_more c.args.bidders c.args.products ties i c.loop-i.numbers.entries c.in_ok-earlier.earlier
          c.loop-i-test.true c.loop-i.invariant.ahead c.loop-i.invariant.listed
          (in_range c.args.bidders c.args.products tie c.if-tie-bidders.false c.if-tie-products.false)
          c.in_ok-earlier.ensures.old c.if-is_some.ensures;
    }

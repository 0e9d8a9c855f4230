-- If the bid directly before is for the product, it is the last one for it.
use Rattle.std.proofs.Common.{◌≡◌, ◌+◌, ◌<◌, Bool, true, false, Bor, Option, Some, get_or, length, nat_eq, refl, rules}
use Rattle.std.specs.Prelude.{OnSome}
use Rattle.std.specs.Bool.{then_some}
use Rattle.std.specs.Option.{option_copied}
use Rattle.clock_bids.specs.declared.sheet.Bid.{Bid}
use Rattle.clock_bids.proofs.Tables.{no_bid}
use Rattle.clock_bids.proofs.LastBids.{last_before}
use Rattle.clock_bids.proofs.check.bid_before.Goals as goal

-- a property that holds if a test passes is a property of what the test lets through
where_met : (test : Bool) (before : Bor Bid) (last : Option Bid) → (test ≡ true → Some before.now ≡ last)
    → OnSome (then_some test before) (option_copied (then_some test before) ≡ last)
where_met true before last is = is refl
where_met false before last is = tt

pub returns : goal.returns
returns c = λ products known.
    let bids = c.args.bids.now in
    let i = c.in_ok-checked_sub.field-0 in
    let before = c.in_ok-before.before in
    let from : c.args.place ≡ i + 1 = search rules in
    let within : i < length bids = search rules in
    let is : before.now ≡ get_or bids i no_bid = search rules in
    rw c.then_some.ensures (where_met (nat_eq before.now.product c.args.product) before _ (λ met.
    last_before products c.args.product c.args.place i bids before.now from within is (search (rules, met)) known))

-- Proves that the page of an account has the values of the rules, part by part.
use Rattle.std.proofs.Common.{◌<◌, length, ap, sym, subst, ◌∙◌, ℕ, Bool}
use Rattle.clock_terms.specs.Limits.{SetupFields, IsRow}
use Rattle.clock_bids.specs.Holding.{Holding, holding_of}
use Rattle.clock_house.specs.History.{bidder_at}
use Rattle.clock_house.specs.House.{state_in, holding_in}
use Rattle.clock_views.specs.BidderPages.{account_value}
use Rattle.clock_front.specs.Outcomes.{done}
use Rattle.clock_front.specs.Requests as asked
use Rattle.clock_front.proofs.PageLaws.{held_is, page_in}
use Rattle.clock_front.proofs.front.replies.account.Goals as goal

pub own-own-requires : goal.own-own-requires
own-own-requires g c = c.requires

pub headed_account-requires-clause-bidder : goal.headed_account-requires-clause-bidder
headed_account-requires-clause-bidder g c =
    subst (λ (setup : SetupFields). c.args.bidder < length setup.bidders) (sym c.setup.ensures) c.requires

pub headed_account-requires-clause-row : goal.headed_account-requires-clause-row
headed_account-requires-clause-row g c = subst (λ (setup : SetupFields). IsRow setup.products
    c.own-own.result.demands.now) (sym c.setup.ensures) c.own-own.ensures.limits.row

pub page_reply-requires : goal.page_reply-requires
page_reply-requires g c = (
  account_value c.setup.result.now.products (bidder_at c.setup.result.now c.args.bidder).name c.own-own.result.round
      (holding_of c.own-own.result) c.ended.result,
  c.headed_account.ensures,
)

pub returns : goal.returns
returns g c =
    let house = c.args.house.now in
    let own = c.own-own.result in
    let name = (bidder_at house.setup c.args.bidder).name in
    let shown = account_value c.setup.result.now.products (bidder_at c.setup.result.now c.args.bidder).name own.round
    (holding_of own) c.ended.result in
    let held = held_is (holding_in house c.args.bidder) own.eligibility own.demands.now c.own-own.ensures.eligibility
    c.own-own.ensures.demands in
    page_in asked.account c.page_reply.result (done shown) (done (account_value house.setup.products name
    (state_in house).round (holding_in house c.args.bidder) (state_in house).ended))
    (ap (λ (setup : SetupFields). done (account_value setup.products (bidder_at setup c.args.bidder).name own.round
    (holding_of own) c.ended.result)) c.setup.ensures
    ∙ ap (λ (round : ℕ). done (account_value house.setup.products name round (holding_of own) c.ended.result))
    c.own-own.ensures.round
    ∙ ap (λ (held : Holding). done (account_value house.setup.products name (state_in house).round held
    c.ended.result)) held
    ∙ ap (λ (ended : Bool). done (account_value house.setup.products name (state_in house).round
    (holding_in house c.args.bidder) ended)) c.ended.ensures.is) (c.page_reply.ensures shown c.headed_account.ensures)

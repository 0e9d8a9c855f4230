-- Proves the reply to a request that asks for no change, by the page that its path names.
use Rattle.std.proofs.Common.{List, ℕ, Option, length, sym, subst, ◌∙◌}
use Rattle.clock_api.specs.Routes.{last_segment}
use Rattle.clock_http.specs.Shown.{shown_head}
use Rattle.clock_api.specs.declared.routes.Page.{Page}
use Rattle.clock_api.specs.declared.routes.Page.TheVariants as pages
use Rattle.clock_front.specs.Requests as asked
use Rattle.clock_front.specs.declared.front.callers.Caller.{Caller}
use Rattle.clock_front.specs.declared.front.callers.Caller.TheVariants.{Nobody, Bidder}
use Rattle.clock_front.specs.inside.Callers.{IsKnown}
use Rattle.clock_front.specs.inside.Replies.{IsReplyOrFailure}
use Rattle.clock_front.proofs.AskLaws.{for_page}
use Rattle.clock_front.proofs.front.answering.reply_without_change.Goals as goal

pub returns-in_default : goal.returns-in_default
returns-in_default g c =
    λ body asks. subst (λ (page : Option Page). IsReplyOrFailure c.args.house.now c.args.caller (asked.ask_by_route page
    (shown_head c.args.head.now) body) c.bare_refusal.result) (sym c.in_default.is) c.bare_refusal.ensures

pub returns-in-Status-default : goal.returns-in-Status-default
returns-in-Status-default g c = λ body asks.
    let house = c.args.house.now in
    for_page c.args.page c.in-Some.page pages.Status c.args.caller (shown_head c.args.head.now) body house
    c.status.result c.in-Some.is (sym c.has_method.ensures ∙ c.if-not-has_method.false) c.in-Status-default.is-0
    c.status.ensures

pub returns-in-RoundResults-default : goal.returns-in-RoundResults-default
returns-in-RoundResults-default g c = λ body asks.
    let house = c.args.house.now in
    for_page c.args.page c.in-Some.page pages.RoundResults c.args.caller (shown_head c.args.head.now) body house
    c.round_results.result c.in-Some.is (sym c.has_method.ensures
    ∙ c.if-not-has_method.false) c.in-RoundResults-default.is-0
    (subst (λ (segment : List ℕ). IsReplyOrFailure house Nobody (asked.round_results segment) c.round_results.result)
    c.last_segment.ensures c.round_results.ensures)

pub returns-in-Account-Bidder : goal.returns-in-Account-Bidder
returns-in-Account-Bidder g c = λ body asks.
    let house = c.args.house.now in
    for_page c.args.page c.in-Some.page pages.Account c.args.caller (shown_head c.args.head.now) body house
    c.account.result c.in-Some.is (sym c.has_method.ensures ∙ c.if-not-has_method.false) c.in-Account-Bidder.is-0
    (subst (λ (who : Caller). IsReplyOrFailure house who asked.account c.account.result)
    (sym c.in-Account-Bidder.is-1) c.account.ensures)

pub returns-in-BidderResults-Bidder : goal.returns-in-BidderResults-Bidder
returns-in-BidderResults-Bidder g c = λ body asks.
    let house = c.args.house.now in
    for_page c.args.page c.in-Some.page pages.BidderResults c.args.caller (shown_head c.args.head.now) body house
    c.bidder_results.result c.in-Some.is (sym c.has_method.ensures
    ∙ c.if-not-has_method.false) c.in-BidderResults-Bidder.is-0
    (subst (λ (who : Caller). IsReplyOrFailure house who (asked.bidder_results (last_segment c.args.head.now.path.now))
    c.bidder_results.result) (sym c.in-BidderResults-Bidder.is-1) (subst (λ (segment : List ℕ). IsReplyOrFailure house
    (Bidder c.in-BidderResults-Bidder.bidder)
    (asked.bidder_results segment) c.bidder_results.result) c.last_segment-in-BidderResults-Bidder.ensures
    c.bidder_results.ensures))

pub returns-in-Results-Operator : goal.returns-in-Results-Operator
returns-in-Results-Operator g c = λ body asks.
    let house = c.args.house.now in
    for_page c.args.page c.in-Some.page pages.Results c.args.caller (shown_head c.args.head.now) body house
    c.results.result c.in-Some.is (sym c.has_method.ensures ∙ c.if-not-has_method.false) c.in-Results-Operator.is-0
    (subst (λ (who : Caller). IsReplyOrFailure house who asked.results c.results.result)
    (sym c.in-Results-Operator.is-1) c.results.ensures)

pub account-requires : goal.account-requires
account-requires g c = subst (IsKnown (length c.args.house.now.setup.bidders)) c.in-Account-Bidder.is-1 c.requires.known

pub bids-requires : goal.bids-requires
bids-requires g c = subst (IsKnown (length c.args.house.now.setup.bidders)) c.in-Bids-Bidder.is-1 c.requires.known

pub bidder_results-requires : goal.bidder_results-requires
bidder_results-requires g c = subst (IsKnown
    (length c.args.house.now.setup.bidders)) c.in-BidderResults-Bidder.is-1 c.requires.known

-- Proves that checking a sheet returns what the rules say, check by check, and that this follows from the bidder's
-- view.
use Rattle.std.proofs.Common.{ap, sym, ◌∙◌, length, rules}
use Rattle.std.specs.Prelude.{Ok, Err}
use Rattle.clock_bids.specs.declared.sheet.BidFault.TheVariants as bid_faults
use Rattle.clock_house.specs.declared.fault.PutFault.TheVariants as put_faults
use Rattle.clock_house.specs.Prepared.{PreparedSheet}
use Rattle.clock_house.specs.House.{HouseFields, state_in}
use Rattle.clock_house.proofs.Stored.{stands_sound}
use Rattle.clock_house.proofs.Rounds.{current_of}
use Rattle.clock_house.proofs.Puts.{put-round, put-good, put-bad, put-memory, round-no_bid}
use Rattle.clock_house.proofs.Puts.{fits-judged, judged-followed}
use Rattle.clock_house.proofs.Seen.{answers-by_view}
use Rattle.clock_house.proofs.house.House.prepare_sheet.Goals as goal

pub returns-in-Some-clause-answer : goal.returns-in-Some-clause-answer
returns-in-Some-clause-answer g c = λ other. put-round c.args.self.now c.args.bidder c.args.round c.args.bids
    c.in-Some.fault (sym c.put_round_fault.ensures ∙ c.in-Some.is)

pub returns-in-Some-clause-seen : goal.returns-in-Some-clause-seen
returns-in-Some-clause-seen g c = answers-by_view {T = PreparedSheet} c.args.self.now c.args.bidder c.args.round
    c.args.bids (Err c.in-Some.fault) (returns-in-Some-clause-answer g c)

pub returns-in-Some-clause-followed : goal.returns-in-Some-clause-followed
returns-in-Some-clause-followed g c = judged-followed c.args.self.now c.args.bidder c.args.round c.args.bids
    (Err c.in-Some.fault) (returns-in-Some-clause-answer g c)

pub take_sheet-requires-clause-prices : goal.take_sheet-requires-clause-prices
take_sheet-requires-clause-prices g c =
    let current = current_of put_faults.Ended put_faults.WrongRound (state_in c.args.self.now) c.args.round
    (sym c.put_round_fault.ensures ∙ c.in_default.is) in
    let going = rw (← c.self.view_is) at current.going in
    ap length (c.self.invariant.prices_are (c.self.invariant.ended_is ∙ going)) ∙ ((stands_sound _
    c.self.invariant.limits c.self.invariant.commands c.self.invariant.stands).priced going).pairs

pub take_sheet-requires-clause-demands : goal.take_sheet-requires-clause-demands
take_sheet-requires-clause-demands g c = rw (← c.self.view_is) at c.own-own.ensures.limits.row

pub returns-in-Ok-clause-answer : goal.returns-in-Ok-clause-answer
returns-in-Ok-clause-answer g c =
    let current = current_of put_faults.Ended put_faults.WrongRound (state_in c.args.self.now) c.args.round
    (sym c.put_round_fault.ensures ∙ c.in_default.is) in
    let going = rw (← c.self.view_is) at current.going in
    put-good c.args.self.now c.args.bidder c.args.round c.args.bids current c.self.inside.setup c.own-own.result.round
    c.self.inside.prices c.own-own.result.eligibility c.own-own.result.demands.now
    (ap (λ (house : HouseFields). house.setup) c.self.view_is) c.own-own.ensures.round
    (rw (← c.self.view_is) (c.self.invariant.prices_are (c.self.invariant.ended_is ∙ going)))
    c.own-own.ensures.eligibility c.own-own.ensures.demands c.in-Ok.ensures.good

pub returns-in-Ok-clause-seen : goal.returns-in-Ok-clause-seen
returns-in-Ok-clause-seen g c =
    answers-by_view {T = PreparedSheet} c.args.self.now c.args.bidder c.args.round c.args.bids (Ok
    (record { bidder = c.args.bidder; round = c.args.round; bids = c.in-Ok.sheet })) (returns-in-Ok-clause-answer g c)

pub returns-in-Ok-clause-asked : goal.returns-in-Ok-clause-asked
returns-in-Ok-clause-asked g c = search rules

pub returns-in-Ok-clause-fits : goal.returns-in-Ok-clause-fits
returns-in-Ok-clause-fits g c = fits-judged c.args.self.now c.args.bidder c.args.round c.args.bids
    (Ok (record { bidder = c.args.bidder; round = c.args.round; bids = c.in-Ok.sheet })) c.requires
    (returns-in-Ok-clause-answer g c) (returns-in-Ok-clause-asked g c)

pub returns-in-Err-clause-answer : goal.returns-in-Err-clause-answer
returns-in-Err-clause-answer g c =
    let current = current_of put_faults.Ended put_faults.WrongRound (state_in c.args.self.now) c.args.round
    (sym c.put_round_fault.ensures ∙ c.in_default.is) in
    let going = rw (← c.self.view_is) at current.going in
    put-bad c.args.self.now c.args.bidder c.args.round c.args.bids current c.self.inside.setup c.own-own.result.round
    c.self.inside.prices c.own-own.result.eligibility c.own-own.result.demands.now
    (ap (λ (house : HouseFields). house.setup) c.self.view_is) c.own-own.ensures.round
    (rw (← c.self.view_is) (c.self.invariant.prices_are (c.self.invariant.ended_is ∙ going)))
    c.own-own.ensures.eligibility c.own-own.ensures.demands c.in-Err.fault c.from.result c.from.ensures
    c.in-Err.ensures.fault

pub returns-in-Err-clause-seen : goal.returns-in-Err-clause-seen
returns-in-Err-clause-seen g c = answers-by_view {T = PreparedSheet} c.args.self.now c.args.bidder c.args.round
    c.args.bids (Err c.from.result) (returns-in-Err-clause-answer g c)

pub returns-in-Err-clause-followed : goal.returns-in-Err-clause-followed
returns-in-Err-clause-followed g c = judged-followed c.args.self.now c.args.bidder c.args.round c.args.bids
    (Err c.from.result) (returns-in-Err-clause-answer g c)

pub returns-in-Some-clause-memory : goal.returns-in-Some-clause-memory
returns-in-Some-clause-memory g c = λ e. round-no_bid c.args.self.now c.args.round c.in-Some.fault
    (sym c.put_round_fault.ensures ∙ c.in-Some.is) bid_faults.NoMemory (let same = e in cc)

pub returns-in-Err-clause-memory : goal.returns-in-Err-clause-memory
returns-in-Err-clause-memory g c =
    λ e. put-memory c.in-Err.fault c.from.result c.from.ensures (let same = e in cc)

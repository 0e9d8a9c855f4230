-- Proves that the page of a closed round has its round results, and that another round is refused.
use Rattle.std.proofs.Common.{◌≡◌, ap, sym, subst, ◌∙◌, length, ℕ, Option}
use Rattle.std.specs.Prelude.{option_map, option_and_then}
use Rattle.clock_terms.specs.Limits.{SetupFields, public_setup}
use Rattle.clock_house.specs.History.{round_at}
use Rattle.clock_closing.specs.declared.closed_round.ClosedRound.{ClosedRound}
use Rattle.clock_posting.specs.declared.sheet.RoundSheet.{RoundSheet}
use Rattle.clock_views.specs.PublicPages.{round_results_value}
use Rattle.clock_front.specs.Outcomes.{done, page_or_no_round, round_in}
use Rattle.clock_front.specs.Requests as asked
use Rattle.clock_front.proofs.OutcomeLaws.{found_page}
use Rattle.clock_front.proofs.PageLaws.{page_in}
use Rattle.clock_front.proofs.front.replies.round_results.Goals as goal

abbrev part : ClosedRound → RoundSheet
part closed = closed.sheet

pub headed_round_results-requires : goal.headed_round_results-requires
headed_round_results-requires g c = subst (λ (setup : SetupFields). length c.in-Some-sheet.sheet.now.lines
    ≡ length setup.products) (sym c.setup.ensures) c.in-Some-sheet.ensures.lines

pub page_reply-requires : goal.page_reply-requires
page_reply-requires g c =
    (round_results_value (public_setup c.setup.result.now) c.in-Some-sheet.sheet.now, c.headed_round_results.ensures)

pub returns : goal.returns
returns g c =
    let house = c.args.house.now in
    let one = c.in-Some-sheet.sheet.now in
    let shown = round_results_value (public_setup c.setup.result.now) one in
    let found = c.in-Some-sheet.ensures.found
    ∙ ap (λ (n : Option ℕ). option_map part (option_and_then (λ n. round_at n house.closed) n)) c.in-Some.ensures in
    page_in (asked.round_results c.args.segment.now) c.page_reply.result (done shown) (page_or_no_round (option_map
    (λ closed. round_results_value (public_setup house.setup) closed.sheet) (round_in house c.args.segment.now)))
    (ap (λ (setup : SetupFields). done (round_results_value (public_setup setup) one)) c.setup.ensures
    ∙ found_page (round_results_value (public_setup house.setup)) part (round_in house c.args.segment.now) one found)
    (c.page_reply.ensures shown c.headed_round_results.ensures)

use Rattle.std.proofs.Common.{◌≡◌, ap, ◌∙◌, arith}
use Rattle.clock_terms.specs.Limits.{SetupFields}
use Rattle.clock_house.specs.History.{bidder_at}
use Rattle.clock_views.proofs.Pushes.{added, before, headed, refused, together}
use Rattle.clock_views.proofs.Texts.{account_in_pieces}
use Rattle.clock_views.proofs.Rooms.{account_most}
use Rattle.clock_views.proofs.pages.headed_account.Goals as goal

pub returns : goal.returns
returns c =
    let products : c.as_slice.result.now ≡ c.args.setup.now.products =
    c.as_slice.ensures ∙ ap (λ (s : SetupFields). s.products) c.setup.view_is in
    headed c.into_items.ensures c.in_ok-text.ensures.head
    (together
    (account_in_pieces c.args.setup.now.products (bidder_at c.args.setup.now c.args.bidder).name c.args.own.round
    (record { eligibility = c.args.own.eligibility; demands = c.args.own.demands.now }) c.args.ended)
    (before (rw (c.units_held-activity.ensures.exact, products) at c.push_number.ensures.adds)
    (before (rw c.held.ensures.row at c.push_demands.ensures.adds)
    (before c.push_number-2.ensures.adds
    (before c.push_truth.ensures.adds
    (before (rw c.name_of.ensures.value at c.push_name.ensures.adds)
    (before c.push_number-3.ensures.adds (added c.extend_from_slice.ensures.items))))))))

pub returns-in_err-text : goal.returns-in_err-text
returns-in_err-text c =
    refused _ _ c.from_residual.result _ c.from_residual.ensures.1 (omega (
      arith,
      c.in_err-text.ensures.refused,
      account_most c.args.setup.now.products (bidder_at c.args.setup.now c.args.bidder).name c.args.own.round
          (record { eligibility = c.args.own.eligibility; demands = c.args.own.demands.now }) c.args.ended,
      c.len.ensures.is,
    ))

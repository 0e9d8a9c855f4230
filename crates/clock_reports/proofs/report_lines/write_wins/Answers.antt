-- The lines of the bidders, one after the other.
use Rattle.std.proofs.Common.{◌≡◌, ◌<◌, ◌≤◌, ℕ, List, [], ap, get_or, length, subst, sym, ◌∙◌}
use Rattle.clock_terms.specs.Limits.{SetupFields}
use Rattle.clock_terms.specs.declared.setup.Bidder.{Bidder}
use Rattle.clock_device.proofs.Buffers.{way_begins, way_ends, way_on}
use Rattle.clock_reports.specs.ReportText.{won_text}
use Rattle.clock_reports.proofs.Rows.{next_pair, no_pair}
use Rattle.clock_reports.proofs.report_lines.write_wins.Goals as goal

pub loop-number-init : goal.loop-number-init
loop-number-init g c = way_begins _ _

pub loop-number-preserved : goal.loop-number-preserved
loop-number-preserved g c =
    let bidders = c.args.setup.now.bidders in
    let grid = c.args.grid.now in
    let number = c.loop-number.number in
    let bidder = c.bidder-item.result in
    let same : c.deref-bidder-items.result.now ≡ bidders =
    c.deref-bidder-items.ensures ∙ ap (λ (setup : SetupFields). setup.bidders) c.setup.view_is in
    let within : number < length bidders =
    subst (λ (list : List Bidder). number < length list) same c.loop-number-test.true in
    let among : number < length grid = subst (λ (n : ℕ). number < n) (sym c.requires.bidders) within in
    let is : bidder ≡ get_or bidders number bidder =
    subst (λ (list : List Bidder). bidder ≡ get_or list number bidder) same c.bidder-item.is in
    way_on _ _ _ _ _ _ _ c.write_win.ensures (next_pair (won_text c.args.lines.now) bidders grid number bidder bidder
    c.row.result.now [] within among is c.row.ensures) c.loop-number.invariant

pub returns : goal.returns
returns g c =
    let bidders = c.args.setup.now.bidders in
    let number = c.loop-number.number in
    let same : c.deref-bidder-items.result.now ≡ bidders =
    c.deref-bidder-items.ensures ∙ ap (λ (setup : SetupFields). setup.bidders) c.setup.view_is in
    let past : length bidders ≤ number =
    subst (λ (list : List Bidder). length list ≤ number) same c.loop-number-test.false in
    way_ends _ _ _ _ (no_pair (won_text c.args.lines.now) bidders c.args.grid.now number past) c.loop-number.invariant

use Rattle.std.proofs.Common.{◌≡◌, ◌<◌, ◌≤◌, ◌+◌, ◌++◌, ◌-◌, ◌∙◌, ℕ, ap, length, nat_lt, refl, arith}
use Rattle.std.specs.Prelude.{codes}
use Rattle.std.specs.List.{range_with_len}
use Rattle.clock_house.specs.History.{bidder_at}
use Rattle.clock_house.specs.House.{HouseFields, holding_in}
use Rattle.clock_terms.specs.Limits.{SetupFields}
use Rattle.clock_views.specs.OperatorPages.{result_in}
use Rattle.clock_views.specs.Rooms.{most_items, most_text}
use Rattle.clock_views.specs.Values.{items_of, list_of}
use Rattle.clock_views.specs.inside.Rooms.{room_of_result}
use Rattle.clock_views.specs.inside.Values.{rest_text}
use Rattle.clock_views.proofs.Lists.{one_number, array_between}
use Rattle.clock_views.proofs.Pushes.{added, before, headed, refused, together}
use Rattle.clock_views.proofs.Rooms.{none_most, result_in_most, results_most}
use Rattle.clock_views.proofs.Texts.{result_in_pieces, results_in_pieces}
use Rattle.clock_views.proofs.pages.headed_results.Goals as goal

-- what is left of the room serves what a bidder holds
has_room : (house : HouseFields) (setup : SetupFields) (bidder bidders demands wanted given opened now : ℕ)
    → setup ≡ house.setup → bidders ≡ length setup.bidders → bidder < bidders
    → demands ≡ length (holding_in house bidder).demands → wanted ≡ 56 + most_text (list_of (result_in house)
    (range_with_len 0 (length house.setup.bidders))) → wanted ≤ given → given ≤ opened + 12 → opened + most_items
    (items_of (result_in house) (range_with_len bidder (length house.setup.bidders - bidder))) ≤ now + most_items
    (items_of (result_in house) (range_with_len 0 (length house.setup.bidders))) → room_of_result demands ≤ now
has_room house setup bidder bidders demands wanted given opened now same all below held is asked label left =
    let rest = result_in_most house bidder (length house.setup.bidders) (rw (all, same) at below) in
    omega (arith, rest, held, is, asked, label, left)

pub extend_from_slice-requires : goal.extend_from_slice-requires
extend_from_slice-requires g c =
    omega (arith, c.results_capacity.ensures, results_most c.args.house.now, c.in_ok-text.ensures.room)

pub push_comma_if-requires : goal.push_comma_if-requires
push_comma_if-requires g c =
    omega (
      arith,
      c.results_capacity.ensures,
      results_most c.args.house.now,
      c.in_ok-text.ensures.room,
      c.extend_from_slice.ensures.room,
      c.loop-bidder.invariant.room,
    )

pub push_demands-requires-clause-room : goal.push_demands-requires-clause-room
push_demands-requires-clause-room g c =
    let room = has_room c.args.house.now _ c.loop-bidder.bidder _ _ _ _ _ _ c.setup.ensures
    c.bidder_count-bidder-end.ensures c.loop-bidder-test.true (ap length
    (c.held.ensures.row ∙ c.own-own.ensures.demands)) (c.results_capacity.ensures ∙ results_most c.args.house.now)
    c.in_ok-text.ensures.room c.extend_from_slice.ensures.room c.loop-bidder.invariant.room in
    omega (arith, room, c.push_comma_if.ensures.room)

pub push_number-requires : goal.push_number-requires
push_number-requires g c =
    let room = has_room c.args.house.now _ c.loop-bidder.bidder _ _ _ _ _ _ c.setup.ensures
    c.bidder_count-bidder-end.ensures c.loop-bidder-test.true (ap length
    (c.held.ensures.row ∙ c.own-own.ensures.demands)) (c.results_capacity.ensures ∙ results_most c.args.house.now)
    c.in_ok-text.ensures.room c.extend_from_slice.ensures.room c.loop-bidder.invariant.room in
    omega (arith, room, c.push_comma_if.ensures.room, c.push_demands.ensures.room)

pub push_name-requires-clause-room : goal.push_name-requires-clause-room
push_name-requires-clause-room g c =
    let room = has_room c.args.house.now _ c.loop-bidder.bidder _ _ _ _ _ _ c.setup.ensures
    c.bidder_count-bidder-end.ensures c.loop-bidder-test.true (ap length
    (c.held.ensures.row ∙ c.own-own.ensures.demands)) (c.results_capacity.ensures ∙ results_most c.args.house.now)
    c.in_ok-text.ensures.room c.extend_from_slice.ensures.room c.loop-bidder.invariant.room in
    omega (arith, room, c.push_comma_if.ensures.room, c.push_demands.ensures.room, c.push_number.ensures.room)

pub extend_from_slice-requires-in-loop-bidder : goal.extend_from_slice-requires-in-loop-bidder
extend_from_slice-requires-in-loop-bidder g c =
    let room = has_room c.args.house.now _ c.loop-bidder.bidder _ _ _ _ _ _ c.setup.ensures
    c.bidder_count-bidder-end.ensures c.loop-bidder-test.true (ap length
    (c.held.ensures.row ∙ c.own-own.ensures.demands)) (c.results_capacity.ensures ∙ results_most c.args.house.now)
    c.in_ok-text.ensures.room c.extend_from_slice.ensures.room c.loop-bidder.invariant.room in
    omega (
      arith,
      room,
      c.push_comma_if.ensures.room,
      c.push_demands.ensures.room,
      c.push_number.ensures.room,
      c.push_name.ensures.room,
    )

pub loop-bidder-preserved : goal.loop-bidder-preserved
loop-bidder-preserved g c =
    let house = c.args.house.now in
    let bidders = length house.setup.bidders in
    let bidder = c.loop-bidder.bidder in
    let below : bidder < bidders = rw (c.bidder_count-bidder-end.ensures, c.setup.ensures) at c.loop-bidder-test.true in
    let demands = ap length (c.held.ensures.row ∙ c.own-own.ensures.demands) in
    let rest = result_in_most house bidder bidders below in
    let added = before c.push_comma_if.ensures.adds (together (result_in_pieces (bidder_at house.setup bidder).name
    (holding_in house bidder)) (before (rw (c.held.ensures.row, c.own-own.ensures.demands)
    at c.push_demands.ensures.adds) (before (rw c.own-own.ensures.eligibility at c.push_number.ensures.adds)
    (before (rw (c.name_of.ensures.value, c.setup-in-loop-bidder.ensures) at c.push_name.ensures.adds)
    (added c.extend_from_slice-in-loop-bidder.ensures.items))))) in
    record {
      adds = one_number (result_in house) c.loop-bidder.text.items c.extend_from_slice-in-loop-bidder.new.self.items
          bidder bidders below added ∙ c.loop-bidder.invariant.adds;
      room = omega (
        arith,
        c.loop-bidder.invariant.room,
        rest,
        demands,
        c.push_comma_if.ensures.room,
        c.push_demands.ensures.room,
        c.push_number.ensures.room,
        c.push_name.ensures.room,
        c.extend_from_slice-in-loop-bidder.ensures.room,
      );
    }

pub push_truth-requires : goal.push_truth-requires
push_truth-requires g c =
    let house = c.args.house.now in
    let bidders = length house.setup.bidders in
    let done : bidders ≤ c.loop-bidder.bidder =
    rw (c.bidder_count-bidder-end.ensures, c.setup.ensures) at c.loop-bidder-test.false in
    omega (
      arith,
      c.results_capacity.ensures,
      results_most house,
      c.in_ok-text.ensures.room,
      c.extend_from_slice.ensures.room,
      c.loop-bidder.invariant.room,
      none_most (result_in house) c.loop-bidder.bidder bidders done,
    )

pub push_number-requires-2 : goal.push_number-requires-2
push_number-requires-2 g c =
    omega (
      arith,
      c.results_capacity.ensures,
      results_most c.args.house.now,
      c.in_ok-text.ensures.room,
      c.extend_from_slice.ensures.room,
      c.loop-bidder.invariant.room,
      c.push_truth.ensures.room,
    )

pub extend_from_slice-requires-2 : goal.extend_from_slice-requires-2
extend_from_slice-requires-2 g c =
    omega (
      arith,
      c.results_capacity.ensures,
      results_most c.args.house.now,
      c.in_ok-text.ensures.room,
      c.extend_from_slice.ensures.room,
      c.loop-bidder.invariant.room,
      c.push_truth.ensures.room,
      c.push_number-2.ensures.room,
    )

pub returns : goal.returns
returns g c =
    let house = c.args.house.now in
    let bidders = length house.setup.bidders in
    let bidder = c.loop-bidder.bidder in
    let done : bidders ≤ bidder = rw (c.bidder_count-bidder-end.ensures, c.setup.ensures) at c.loop-bidder-test.false in
    let none : 0 ≡ bidders - bidder = omega (arith, done) in
    let all = ap (λ left. c.loop-bidder.text.items ++ rest_text (result_in house) (nat_lt 0 bidder)
    (range_with_len bidder left)) none ∙ c.loop-bidder.invariant.adds in
    headed c.into_items.ensures c.in_ok-text.ensures.head (together (results_in_pieces house)
    (array_between (result_in house) (range_with_len 0 bidders) (codes "{\"bidders\":") refl refl
    (added c.extend_from_slice.ensures.items) all (before (rw c.ended.ensures.is at c.push_truth.ensures.adds)
    (before (rw c.round.ensures.is at c.push_number-2.ensures.adds) (added c.extend_from_slice-2.ensures.items)))))

pub returns-in_err-text : goal.returns-in_err-text
returns-in_err-text g c = refused _ _ c.from_residual.result _ c.from_residual.ensures.1
    (c.in_err-text.ensures.refused ∙ c.results_capacity.ensures)

use Rattle.std.proofs.Common.{◌≡◌, ◌-◌, ◌/◌, ◌<◌, ℕ, min, length, get_or, ap, ap₂, sym, ◌∙◌, arith}
use Rattle.std.proofs.lemmas.List.{get_or_read}
use Rattle.clock_terms.specs.declared.change.Kind.{Kind}
use Rattle.clock_terms.specs.declared.setup.Product.{Product}
use Rattle.clock_terms.specs.Demands.{row_of}
use Rattle.clock_terms.specs.Eligibility.{activity}
use Rattle.clock_terms.specs.Limits.{no_product, supply_of}
use Rattle.clock_processor.specs.Board.{BoardFields, tested}
use Rattle.clock_processor.specs.Room.{room, room_of}
use Rattle.clock_processor.proofs.BoardKept.{units_read}
use Rattle.clock_processor.proofs.board.Board.room.Goals as goal
use Rattle.clock_processor.proofs.board.Board.room.Goals.{in-Reduction, in-Increase}

pub returns-clause-room : goal.returns-clause-room
returns-clause-room c =
    let change = c.args.change.now in
    let left = c.args.left in
    let products = c.self.inside.products.now in
    let eligibilities = c.self.inside.eligibilities.now in
    let grid = c.self.inside.grid in
    let one = c.index-self-product in
    let known : change.product < length products = rw (← c.self.view_is) at c.requires.product in
    let bidder : change.bidder < length eligibilities = rw (← c.self.view_is) at c.requires.bidder in
    let supply : (get_or products change.product one.result).supply ≡ supply_of products change.product =
    ap (λ (product : Product). product.supply)
    (sym one.is ∙ get_or_read products change.product one.result known one.is no_product) in
    let unused : get_or c.self.inside.unused change.bidder 0 ≡ get_or eligibilities change.bidder 0 - activity products
    (row_of grid change.bidder) = omega (arith, c.self.invariant.keeps_unused.sums change.bidder bidder) in
    let most = λ (kind : Kind). min left (room_of kind products eligibilities grid change.bidder change.product) in
    elim c.match-change.branch [
      | in-Reduction w ↦
          w.result-is ∙ w.min.ensures ∙ ap (min left) w.saturating_sub.ensures
          ∙ ap₂ (λ total supply. min left (total - supply)) w.total.ensures supply
          ∙ ap most (sym w.in-Reduction.is)
      | in-Increase w ↦ w.result-is ∙ w.min-in-Increase.ensures ∙ ap₂ (λ unused units. min left (unused / units))
          (ap (λ list. get_or list change.bidder 0) w.deref.ensures ∙ unused)
          (units_read products change.product one.result known one.is) ∙ ap most (sym w.in-Increase.is)
    ]
    ∙ ap (λ (board : BoardFields). room board.products board.eligibilities board.grid change left) c.self.view_is

pub returns-clause-counted : goal.returns-clause-counted
returns-clause-counted c =
    let inside = c.self.inside in
    let with_tests : ℕ → BoardFields = λ tests. record {
      products = inside.products.now;
      eligibilities = inside.eligibilities.now;
      grid = inside.grid;
      applied = inside.applied;
      tests = tests;
    } in
    ap with_tests c.saturating_add-self-inside.ensures ∙ ap tested c.self.view_is

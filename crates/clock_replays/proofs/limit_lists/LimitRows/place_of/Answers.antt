-- If the row before `from` is for a lower product, so are all before it.
use Rattle.std.proofs.Common.{◌-◌, ◌<◌, ◌≤◌, ℕ, List, length, get_or, sym, subst, arith, rules}
use Rattle.std.specs.List.{AllWithin}
use Rattle.clock_replays.specs.inside.PackedLimits.{AreRising}
use Rattle.clock_replays.proofs.PackedLimitLaws.{smaller_before}
use Rattle.clock_replays.proofs.limit_lists.LimitRows.place_of.Goals.{then-place-products}
use Rattle.clock_replays.proofs.limit_lists.LimitRows.place_of.Goals.{else-place-products+else-products-place}
use Rattle.clock_replays.proofs.limit_lists.LimitRows.place_of.Goals.{then-place-gt0, else-place-gt0}
use Rattle.clock_replays.proofs.limit_lists.LimitRows.place_of.Goals as goal

pub lesser-init : goal.lesser-init
lesser-init c =
    let products = c.as_slice-products.result.now in
    let product = c.args.product in
    let from = c.args.from in
    let rising : AreRising 0 products c.args.self.now.count = subst
    (λ (list : List ℕ). AreRising 0 list c.args.self.now.count) (sym c.as_slice-products.ensures.value) c.requires.2 in
    elim c.if-place-products.branch [
      | then-place-products w ↦ (omega (arith, w.place-is), λ k d low high. absurd (omega (arith, w.place-is, high)))
      | else-place-products+else-products-place w ↦
          let within : from ≤ length products = omega (arith, w.if-place-products.false) in
          let ahead : 0 < from → get_or products (from - 1) 0 < product =
          λ some. elim w.if-place-gt0.branch [
            | then-place-gt0 w' ↦ search rules
            | else-place-gt0 w' ↦ absurd (omega (arith, w'.if-place-gt0.false, some))
          ] in (
            omega (arith, w.place-is, within),
            subst (λ (place : ℕ). AllWithin (λ other. other < product) products 0 place) (sym w.place-is)
                (smaller_before products c.args.self.now.count product from rising within ahead),
          )
    ]

-- Each product that is read adds an item of the common version to the list.
use Rattle.std.proofs.Common.{◌≡◌, ◌∷◌, ◌⊎◌, inl, inr, length, map, All, sym, ap, subst, arith}
use Rattle.std.proofs.lemmas.List.Elements.{All-nil, All-push}
use Rattle.clock_json.specs.Reading.{Token, ReadsValue}
use Rattle.clock_json.specs.inside.Reading.{HasItems}
use Rattle.clock_json.proofs.Steps.{items_start, items_end, items_push_next}
use Rattle.clock_terms.specs.declared.setup.Product.{Product}
use Rattle.clock_terms.specs.Limits.{first_granule}
use Rattle.clock_setup.specs.SetupData.{product_data}
use Rattle.clock_setup.proofs.ScanLaws.{of_common_version, of_first_version}
use Rattle.clock_setup.proofs.setup_scan.products.Goals as goal
use Rattle.clock_setup.proofs.setup_scan.products.Goals.{else-version-ne0-via-then-version-ne0+else-version-next}
use Rattle.clock_setup.proofs.setup_scan.products.Goals.{else-version-ne0-via-else-version-ne0}

pub items-init : goal.items-init
items-init c =
    let start = c.opens.new.self in (
      subst (λ list. HasItems 1 start (map (product_data 0) list) start) (sym c.new-entries.ensures)
          (items_start 1 start),
      omega arith,
      λ _. c.new-entries.ensures,
      λ _. subst (All (λ (product : Product). product.granule ≡ first_granule)) (sym c.new-entries.ensures)
          (All-nil (λ (product : Product). product.granule ≡ first_granule)),
    )

pub items-preserved : goal.items-preserved
items-preserved c =
    let l = c.items in
    let start = c.opens.new.self in
    let after = c.part.new.scan in
    let next = c.in_ok-next.next in
    let version = next.version in
    let entry = next.entry in
    let agrees : (l.version ≡ 0) ⊎ (l.version ≡ version) =
    elim c.else-version-ne0.branch [
      | else-version-ne0-via-then-version-ne0+else-version-next w ↦ inr w.if-version-next.false
      | else-version-ne0-via-else-version-ne0 w ↦ inl w.if-version-ne0.false
    ] in
    let P = λ (product : Product). product.granule ≡ first_granule in
    let same : c.closes.new.self ≡ l.scan = grind arith in
    let reads : ReadsValue 1 l.scan (product_data version entry) after =
    subst (λ ts. ReadsValue 1 ts (product_data version entry) after) same c.in_ok-next.ensures.value
    in
    let kept = of_common_version l.version version l.entries l.invariant.2 agrees in (
      subst (λ list. HasItems 1 start (map (product_data version) list) after) (sym c.in_ok-push.ensures.ok)
          (items_push_next 1 (product_data version) start l.scan after l.entries entry
          (subst (λ values. HasItems 1 start values l.scan) kept l.invariant.0) reads),
      omega (arith, l.invariant.1, c.in_ok-next.ensures.shorter, ap length same),
      λ zero. absurd (omega (arith, zero, next.known.0)),
      λ one. subst (All P) (sym c.in_ok-push.ensures.ok) (All-push P l.entries entry (of_first_version l.version version
          l.entries l.invariant.2 l.invariant.3 agrees one) (next.first_version one)),
    )

pub returns-clause-value : goal.returns-clause-value
returns-clause-value c =
    let l = c.items in
    let closed : l.scan ≡ Token.end_array ∷ c.closes.new.self = grind arith in
    items_end 1 c.args.scan.now c.opens.new.self l.scan c.closes.new.self (map (product_data l.version) l.entries)
    c.in_ok-opens.ensures l.invariant.0 closed

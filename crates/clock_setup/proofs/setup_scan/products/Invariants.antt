-- The bytes so far are a list of the products so far, all of one version; in version 1 their granules are one dollar.
use Rattle.std.proofs.Common.{◌≡◌, length, map, All, [], ◌≤◌}
use Rattle.clock_json.specs.inside.Reading.{HasItems}
use Rattle.clock_terms.specs.Limits.{first_granule}
use Rattle.clock_setup.specs.SetupData.{product_data}
use Rattle.clock_setup.proofs.setup_scan.products.Given as goal

abbrev pub invariant-items : goal.invariant-items
invariant-items l =
    HasItems 1 l.initial.scan (map (product_data l.version) l.entries) l.scan
    × (length l.scan ≤ length l.initial.scan)
    × (l.version ≡ 0 → l.entries ≡ [])
    × (l.version ≡ 1 → All (λ entry. entry.granule ≡ first_granule) l.entries)

abbrev pub decreases-items : goal.decreases-items
decreases-items l = length l.scan

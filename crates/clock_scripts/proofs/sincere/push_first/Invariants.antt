use Rattle.std.proofs.Common.{◌≡◌, ◌≤◌, ◌++◌, ◌-◌, length, flat_map}
use Rattle.std.specs.List.{range_with_len}
use Rattle.clock_scripts.proofs.SheetWalks.{first_text}
use Rattle.clock_scripts.proofs.sincere.push_first.Given as goal

-- with the bids for the other products it is the whole sheet
abbrev pub invariant-limited : goal.invariant-limited
invariant-limited l =
    let n = length l.prices in
    let f = first_text l.prices l.limits in record {
      within : l.product ≤ n;
      rest : l.text.items ++ flat_map f (range_with_len l.product (n - l.product))
          ≡ l.initial.text.items ++ flat_map f (range_with_len 0 n);
    }

abbrev pub decreases-limited : goal.decreases-limited
decreases-limited l = length l.prices - l.product

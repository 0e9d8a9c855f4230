use Rattle.std.proofs.Common.{◌≡◌, ◌++◌, ◌-◌, min, length, flat_map}
use Rattle.std.specs.List.{range_with_len}
use Rattle.clock_scripts.proofs.SheetWalks.{later_text}
use Rattle.clock_scripts.proofs.sincere.push_later.Given as goal

-- with the bids for the products that were not looked at it is the whole sheet
abbrev pub invariant-held : goal.invariant-held
invariant-held l =
    let n = length l.prices in
    let f = later_text l.prices l.demands l.limits in
    let from = min l.held.from n in record {
      row : l.held.demands ≡ l.demands;
      rest : l.text.items ++ flat_map f (range_with_len from (n - from))
          ≡ l.initial.text.items ++ flat_map f (range_with_len 0 n);
    }

abbrev pub decreases-held : goal.decreases-held
decreases-held l = length l.prices - l.held.from

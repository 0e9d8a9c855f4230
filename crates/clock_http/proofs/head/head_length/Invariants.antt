use Rattle.std.proofs.Common.{◌≡◌, ◌≤◌, ◌+◌, ◌-◌, drop, length}
use Rattle.std.specs.Prelude.{option_map}
use Rattle.clock_http.specs.Scans.{head_length as length_of_head}
use Rattle.clock_http.proofs.head.head_length.Given as goal

-- no empty line begins before this index
abbrev pub invariant-returns : goal.invariant-returns
invariant-returns l = record {
  within : l.from ≤ length l.text;
  none : length_of_head l.text ≡ option_map (λ k. l.from + k) (length_of_head (drop l.from l.text));
}

abbrev pub decreases-returns : goal.decreases-returns
decreases-returns l = length l.text - l.from

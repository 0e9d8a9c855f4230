use Rattle.std.proofs.Common.{◌≡◌, ℕ, ◌+◌, ◌-◌, ◌<◌, ◌≤◌, ◌^◌, List, ◌++◌, length, drop}
use Rattle.std.specs.Str.Parse.{AllDigits, digits_value}
use Rattle.clock_json.proofs.digits.digits_up_to.Given as goal

abbrev pub invariant-digits : goal.invariant-digits
invariant-digits l =
    (ds : List ℕ) × (drop l.start l.bytes ≡ ds ++ drop l.end l.bytes) × AllDigits 10 ds × (digits_value 10 ds ≡ l.value)
    × (l.start + length ds ≡ l.end) × (l.value < 10 ^ length ds) × (l.value < 10000000000000000000) × (l.end ≤ l.stop)

abbrev pub decreases-digits : goal.decreases-digits
decreases-digits l = l.stop - l.end

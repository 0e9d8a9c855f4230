-- The vector's capacity is the one requested.
use Rattle.std.proofs.Common.{refl}
use Rattle.std.proofs.Math.Nat.{sub-zero}
use Rattle.clock_device.proofs.items.Items.with_capacity.Goals as goal

pub returns : goal.returns
returns g c =
    let made = c.in_ok-with_capacity.ensures in
    rw (made.items, made.len, made.exact, sub-zero) refl

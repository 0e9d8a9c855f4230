-- The bytes before them are unchanged.
use Rattle.std.proofs.Common.{◌≡◌, ◌+◌, ◌++◌, ℕ, arith, drop, length, refl, subst, take}
use Rattle.clock_device.proofs.Buffers.{copied}
use Rattle.clock_device.proofs.buffer.copied_in.Goals as goal

pub returns-clause-copied : goal.returns-clause-copied
returns-clause-copied c =
    let used = c.args.used in
    let written = c.put_before.ensures in
    let start : c.put_before.result ≡ used = omega (arith, written.start) in
    copied c.args.all.now c.put_before.new.bytes c.args.bytes.now used (used + length c.args.bytes.now) refl
    (subst (λ (n : ℕ). take n c.put_before.new.bytes ≡ take n c.args.all.now) start written.ahead)
    (subst (λ (n : ℕ). drop n c.put_before.new.bytes ≡ c.args.bytes.now ++ drop (used + length c.args.bytes.now)
    c.args.all.now) start written.put)

-- What contracts say of the bytes of one connection.
use Rattle.std.proofs.Common.{◌≡◌, ◌++◌, ℕ, List, Option, Some, sym, subst}
use Rattle.clock_device.specs.Streams.{HasRead}
use Rattle.clock_server.specs.Laws.{ReportedBytes}

read_bytes : (before after : Option (List ℕ)) (text offered left : List ℕ) → HasRead before after text
    → before ≡ Some offered → after ≡ Some left → offered ≡ text ++ left
read_bytes before after text offered left read from to = subst (λ (bytes : Option (List ℕ)).
    HasRead (Some offered) bytes text) to (subst (λ (bytes : Option (List ℕ)). HasRead bytes after text) from read)

pub reported_bytes : ReportedBytes
reported_bytes reading text offered left arrived from to =
    read_bytes reading.before.left reading.after.left text offered left (subst (λ (bytes : List ℕ).
    HasRead reading.before.left reading.after.left bytes) (sym arrived.2.is) arrived.2.by_need.read) from to

-- Proves that a price fits, as a number has at most 20 digits.
use Rattle.std.proofs.Common.{◌≤◌, arith, decimal, length, rules}
use Rattle.std.proofs.lemmas.Fmt.{length-decimal-le}
use Rattle.clock_console.proofs.prices.put_or_dash.Goals as goal

pub write_digits-requires : goal.write_digits-requires
write_digits-requires c = search (rules, length-decimal-le 20)

pub returns-in-Some-clause-start : goal.returns-in-Some-clause-start
returns-in-Some-clause-start c =
    let short : length (decimal c.get.result) ≤ 20 = search (rules, length-decimal-le 20) in
    omega (arith, c.write_digits.ensures.start, short)

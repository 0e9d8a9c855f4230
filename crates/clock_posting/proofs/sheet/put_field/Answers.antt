-- Proves that a field fits, as a number has at most 20 digits.
use Rattle.std.proofs.Common.{◌≤◌, arith, decimal, length, rules}
use Rattle.std.proofs.lemmas.Fmt.{length-decimal-le}
use Rattle.clock_posting.proofs.sheet.put_field.Goals.{in-Some, in-None}
use Rattle.clock_posting.proofs.sheet.put_field.Goals as goal

pub write_digits-start-requires : goal.write_digits-start-requires
write_digits-start-requires c = search (rules, length-decimal-le 20)

pub put_before-requires-clause-room : goal.put_before-requires-clause-room
put_before-requires-clause-room c = elim c.match-number.branch [
  | in-Some w ↦
      let short : length (decimal w.in-Some.number) ≤ 20 = search (rules, length-decimal-le 20) in
      omega (arith, w.start-is, w.write_digits-start.ensures.start, short, c.requires.room)
  | in-None w ↦ omega (arith, w.start-is, w.put_before-start.ensures.start, c.requires.room)
]

pub returns-clause-start : goal.returns-clause-start
returns-clause-start c = elim c.match-number.branch [
  | in-Some w ↦
      let short : length (decimal w.in-Some.number) ≤ 20 = search (rules, length-decimal-le 20) in
      omega (arith, w.start-is, w.write_digits-start.ensures.start, short, c.put_before.ensures.start)
  | in-None w ↦ omega (arith, w.start-is, w.put_before-start.ensures.start, c.put_before.ensures.start)
]

use Rattle.std.proofs.Common.{◌≡◌, length, take, drop, sym, ap, ◌∙◌, arith, rules}
use Rattle.std.specs.Int.{w32, to_le_bytes}
use Rattle.std.proofs.lemmas.Nat.{le_bytes_4}
use Rattle.clock_json.proofs.CompactLaws.{are_bytes}
use Rattle.clock_json.proofs.compact.has_four.Goals as goal

pub returns : goal.returns
returns c = λ same.
    let equal : c.from_le_bytes.result ≡ c.from_le_bytes-2.result = grind arith in
    let whole : c.in-Ok.there ≡ take 4 (drop c.args.at c.args.bytes.now) = search rules in
    let count : length c.in-Ok.there ≡ 4 = search rules in
    let first = le_bytes_4 c.in-Ok.there _ count (are_bytes 4 c.args.bytes.now _ c.args.at whole count
    (λ i. omega (arith, c.type_inv.bytes i))) c.from_le_bytes.ensures in
    let second = le_bytes_4 c.args.word.now _ (search rules) c.fits-word c.from_le_bytes-2.ensures in
    sym whole ∙ sym first ∙ ap (to_le_bytes w32) equal ∙ second

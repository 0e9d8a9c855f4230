use Rattle.std.proofs.Common.{◌++◌, sym, ap, subst, ◌∙◌}
use Rattle.clock_json.specs.Reading.{numbers, ReadsValue}
use Rattle.clock_json.proofs.scan.Scan.numbers.Goals as goal

pub returns-clause-value : goal.returns-clause-value
returns-clause-value c =
    let read = c.in_ok-numbers_after.ensures.value in
    let same = read.1 ∙ ap (λ known. known ++ read.0) c.new-list.ensures.items in
    subst (λ row. ReadsValue 1 c.args.self.now (numbers row) c.numbers_after.new.self)
    (sym (c.from_vec.ensures ∙ same)) read.2

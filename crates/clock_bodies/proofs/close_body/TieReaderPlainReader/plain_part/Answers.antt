-- A list of another length than three is not a tie-breaking number.
use Rattle.std.proofs.Common.{length, sym, ap, ◌∙◌}
use Rattle.std.specs.Prelude.{option_and_then}
use Rattle.clock_bodies.specs.CloseBodies.{tie_from}
use Rattle.clock_bodies.proofs.TieLaws.{no_tie}
use Rattle.clock_bodies.proofs.close_body.TieReaderPlainReader.plain_part.Goals as goal

pub returns-then-items-ne3 : goal.returns-then-items-ne3
returns-then-items-ne3 c =
    let items = c.in_ok-as_array.field-0.now.items in
    sym (ap (option_and_then tie_from) (sym c.in_ok-as_array.ensures)
    ∙ no_tie items (λ e. c.if-items-ne3.true (ap length c.as_slice-items.ensures.value ∙ e)))

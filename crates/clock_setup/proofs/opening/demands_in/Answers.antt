-- Each row is read as a slice, and then shortened.
use Rattle.std.proofs.Common.{ap, sym, ◌∙◌}
use Rattle.std.specs.Prelude.{Some, map, option_map}
use Rattle.clock_json.specs.Rows.{shortened}
use Rattle.clock_setup.proofs.opening.demands_in.Goals as goal

pub returns : goal.returns
returns c = ap Some (c.in_ok-demands.ensures ∙ ap (map (map shortened)) c.as_slice.ensures)
    ∙ ap (option_map (map (map shortened))) (sym c.in-Some.is ∙ c.in_ok-rows.ensures)

-- The builder's settings are those of the grammar.
use Rattle.std.proofs.Common.{rules}
use Rattle.clock_console.proofs.commands.program_only.Goals as goal

pub returns : goal.returns
returns c = search rules

-- Adding the commands one by one gives the grammar of the program.
use Rattle.std.proofs.Common.{codes}
use Rattle.clap.specs.Words.{new_app}
use Rattle.clock_console.specs.Words.{files_grammar, prices_grammar, program_only_grammar, serve_grammar}
use Rattle.clock_console.proofs.commands.program.Goals as goal

pub returns : goal.returns
returns c =
    let priced = c.with_command-program.ensures program_only_grammar prices_grammar c.program_only.ensures
    c.prices_command.ensures in
    let opened = c.with_command-program-2.ensures _ (new_app (codes "opening")) priced c.named.ensures in
    let replayed = c.with_command-program-3.ensures _ (new_app (codes "replay")) opened c.named-2.ensures in
    let served = c.with_command-program-4.ensures _ serve_grammar replayed c.serve_command.ensures in
    let reported =
    c.with_command-program-5.ensures _ (files_grammar (codes "journal")) served c.files_command.ensures in
    c.with_command.ensures _ (files_grammar (codes "audit")) reported c.files_command-2.ensures

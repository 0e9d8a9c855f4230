-- Adding a command to a program adds it to its grammar.
use Rattle.clock_console.proofs.Grammar.{with_below}
use Rattle.clock_console.proofs.commands.with_command.Goals as goal

pub returns-in-Ok-command : goal.returns-in-Ok-command
returns-in-Ok-command c app below is is_below = with_below app c.in-Ok.program (rw c.in-Ok.is at is) below
    c.in-Ok-command.command c.subcommand.result (rw c.in-Ok-command.is at is_below) c.subcommand.ensures

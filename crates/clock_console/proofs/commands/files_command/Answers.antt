-- Adding the options one by one gives the grammar of the command.
use Rattle.std.proofs.Common.{codes}
use Rattle.clap.specs.Words.{new_app}
use Rattle.clock_console.specs.Words.{needed_rule}
use Rattle.clock_console.proofs.Grammar.{with_one, with_one_more}
use Rattle.clock_console.proofs.commands.files_command.Goals as goal

pub returns : goal.returns
returns c =
    let first = with_one (new_app c.args.name.now) c.named.result c.named.ensures (needed_rule (codes "setup"))
    c.needed_option.result c.in_ok-arg.field-0 c.needed_option.ensures c.in_ok-arg.ensures in
    with_one_more _ c.in_ok-arg.field-0 first
    (needed_rule (codes "journal")) c.needed_option-2.result c.arg-2.result c.needed_option-2.ensures c.arg-2.ensures

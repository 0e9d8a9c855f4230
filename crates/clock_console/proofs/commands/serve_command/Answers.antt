-- Adding the options one by one gives the grammar of `serve`.
use Rattle.std.proofs.Common.{codes}
use Rattle.clap.specs.Words.{new_app}
use Rattle.clock_console.specs.Words.{most_port, most_served, needed_rule, number_rule, option_rule}
use Rattle.clock_console.proofs.Grammar.{with_one, with_one_more}
use Rattle.clock_console.proofs.commands.serve_command.Goals as goal

pub returns : goal.returns
returns c =
    let first = with_one (new_app (codes "serve")) c.named.result c.named.ensures (needed_rule (codes "setup"))
    c.needed_option.result c.in_ok-arg.field-0 c.needed_option.ensures c.in_ok-arg.ensures in
    let second = with_one _ c.in_ok-arg.field-0 first (number_rule (codes "port") most_port) c.number_option.result
    c.in_ok-arg-2.field-0 c.number_option.ensures c.in_ok-arg-2.ensures in
    let third = with_one _ c.in_ok-arg-2.field-0 second (number_rule (codes "connections") most_served)
    c.number_option-2.result c.in_ok-arg-3.field-0 c.number_option-2.ensures c.in_ok-arg-3.ensures in
    let fourth = with_one _ c.in_ok-arg-3.field-0 third (option_rule (codes "journal")) c.option.result
    c.in_ok-arg-4.field-0 c.option.ensures c.in_ok-arg-4.ensures in
    with_one_more _ c.in_ok-arg-4.field-0 fourth
    (option_rule (codes "mirror")) c.option-2.result c.arg-5.result c.option-2.ensures c.arg-5.ensures

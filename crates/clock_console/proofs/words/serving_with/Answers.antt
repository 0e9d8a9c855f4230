-- Option by option.
use Rattle.std.specs.Prelude.{option_map}
use Rattle.clap.specs.Words.{found_of, rows_of}
use Rattle.clock_console.proofs.ServeOptions.{serving_is}
use Rattle.clock_console.proofs.words.serving_with.Goals as goal

pub returns : goal.returns
returns c = serving_is (rows_of (found_of c.args.options.now)) c.in_ok-setup.setup.now c.in_ok-port.port
    c.in_ok-connections.connections (option_map (λ text. text.now) c.text_in-2.result)
    (option_map (λ text. text.now) c.text_in-3.result) c.in_ok-setup.ensures
    c.in_ok-port.ensures.value c.in_ok-connections.ensures.value c.text_in-2.ensures c.text_in-3.ensures

-- clap refuses the words exactly if their faults are not empty, and otherwise names the command.
use Rattle.std.proofs.Common.{◌∙◌, Ok, Err, ap, map}
use Rattle.std.proofs.lemmas.Result.{err_from_is_err_and}
use Rattle.clap.specs.Words.{fault_of, kind_of}
use Rattle.clock_console.proofs.Grammar.{found_by, meant_where_taken, none_meant, none_refused, some_refused}
use Rattle.clock_console.specs.Words.{asked_meant, asked_met, grammar}
use Rattle.clock_console.proofs.words.read_words.Goals as goal

pub returns-in_err-matches-clause-parsed : goal.returns-in_err-matches-clause-parsed
returns-in_err-matches-clause-parsed c =
    let words = map (λ word. word.now) c.words_given.result.now in
    let p = err_from_is_err_and c.from_residual-in_err-matches.result c.from_residual-in_err-matches.ensures.1 in
    rw (p.1, ← c.words_given.ensures) (λ other. none_meant _ _ (some_refused _ c.in_ok-program.ensures.shape words
    (Err c.in_err-matches.field-0.0) c.in_err-matches.ensures.kinds (λ memory. other (ap kind_of p.2 ∙ memory))))

pub returns-clause-parsed : goal.returns-clause-parsed
returns-clause-parsed c =
    let words = map (λ word. word.now) c.words_given.result.now in
    let shape = c.in_ok-program.ensures.shape in
    c.asked_in-asked.ensures.met ∙ ap asked_met (found_by _ shape words (Ok c.in_ok-matches.matches)
    c.in_ok-matches.ensures.matches) ∙ meant_where_taken _ (fault_of grammar words) (none_refused _ shape words
    (Ok c.in_ok-matches.matches) c.in_ok-matches.ensures.kinds) ∙ ap asked_meant c.words_given.ensures

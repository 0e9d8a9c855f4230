-- By cases: a number within the limits, or none.
use Rattle.std.proofs.Common.{◌∙◌, sym}
use Rattle.std.specs.Str.Parse.{ParsesUnsigned, ExplainsUnsignedError, HasUnsignedDigitsIfOk}
use Rattle.clock_console.proofs.NumberText.{kept, left_out, none_read}
use Rattle.clap.specs.Words.{found_of, one_text}
use Rattle.clap.proofs.WalkLemmas.{one_text-rows}
use Rattle.clock_console.proofs.words.number_in.Goals as goal

pub returns-in-Some-clause-value : goal.returns-in-Some-clause-value
returns-in-Some-clause-value c = rw (← one_text-rows) (kept (λ bs r. ParsesUnsigned 64 10 bs r
    × ExplainsUnsignedError 10 bs r × HasUnsignedDigitsIfOk bs r) (λ t r g. g.0) c.args.least c.args.most
    (one_text (found_of c.args.options.now) c.args.name.now) c.get_one.result c.in-Some.number c.in-Some.is
    (sym c.is_within.ensures ∙ c.if-is_within.true) c.get_one.ensures.none c.get_one.ensures.value)

pub returns-in_default-clause-value : goal.returns-in_default-clause-value
returns-in_default-clause-value c = rw (← one_text-rows) (left_out (λ bs r. ParsesUnsigned 64 10 bs r
    × ExplainsUnsignedError 10 bs r × HasUnsignedDigitsIfOk bs r) (λ t r g. g.0) c.args.least c.args.most
    (one_text (found_of c.args.options.now) c.args.name.now) c.get_one.result c.in-Some.number c.in-Some.is
    (sym c.is_within.ensures ∙ c.if-is_within.false) c.get_one.ensures.none c.get_one.ensures.value)

pub returns-in_default-2-clause-value : goal.returns-in_default-2-clause-value
returns-in_default-2-clause-value c =
    rw (← one_text-rows) (none_read (λ bs r. ParsesUnsigned 64 10 bs r × ExplainsUnsignedError 10 bs r
    × HasUnsignedDigitsIfOk bs r) (λ t r g. g.0) c.args.least c.args.most (one_text (found_of c.args.options.now)
    c.args.name.now) c.get_one.result c.in_default.is c.get_one.ensures.none c.get_one.ensures.value)

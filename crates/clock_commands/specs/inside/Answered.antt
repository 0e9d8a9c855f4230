-- The text of an answer.
use Rattle.std.specs.Prelude.{ℕ, List}
use Rattle.clock_commands.specs.declared.answer.JobAnswer.{JobAnswer}
use Rattle.clock_commands.specs.declared.answer.JobAnswer.TheVariants as answer

-- the text of an answer: itself, or of a report
abbrev pub text_of_answer : JobAnswer → List ℕ
text_of_answer (answer.Text text) = text
text_of_answer (answer.Report text) = text

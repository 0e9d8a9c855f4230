-- If reading fails, the run has that fault.
use Rattle.std.proofs.lemmas.Result.{err_from_is_err_and}
use Rattle.clock_commands.proofs.RunEndings.{read_failed}
use Rattle.clock_commands.proofs.run.run.Goals as goal

pub returns-in_err-document-clause-run : goal.returns-in_err-document-clause-run
returns-in_err-document-clause-run g c =
    let p = err_from_is_err_and c.from_residual.result c.from_residual.ensures.1 in
    rw (p.1, p.2) (read_failed _ _ _ _ c.requires.unwritten c.in_err-document.ensures.reading)

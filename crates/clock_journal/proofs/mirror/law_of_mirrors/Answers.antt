use Rattle.clock_journal.proofs.Mirrored.{mirrors_keep, starts_keep}
use Rattle.clock_journal.proofs.mirror.law_of_mirrors.Goals as goal

pub returns-clause-keep : goal.returns-clause-keep
returns-clause-keep c = mirrors_keep

pub returns-clause-starts : goal.returns-clause-starts
returns-clause-starts c = starts_keep

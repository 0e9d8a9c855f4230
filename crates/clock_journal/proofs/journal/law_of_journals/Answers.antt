use Rattle.clock_journal.proofs.Chains.{chain_binds, journals_bind}
use Rattle.clock_journal.proofs.Cuts.{every_front}
use Rattle.clock_journal.proofs.Files.{begins_first}
use Rattle.clock_journal.proofs.Whole.{read_back}
use Rattle.clock_journal.proofs.journal.law_of_journals.Goals as goal

pub returns : goal.returns
returns c = record {
  as_many = chain_binds;
  any = journals_bind;
  every_front = every_front;
  whatever_follows = begins_first;
  read_back = read_back;
}

use Rattle.clock_server.proofs.Untouched.{untouched}
use Rattle.clock_server.proofs.request_log.JournalRequestLog.log.Goals as goal

pub returns-then-text-gt-MOST_TEXT-clause-moments : goal.returns-then-text-gt-MOST_TEXT-clause-moments
returns-then-text-gt-MOST_TEXT-clause-moments g c = untouched c.args.text.now c.args.self.now

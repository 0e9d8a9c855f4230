-- HeadLaws proves the law.
use Rattle.clock_http.proofs.HeadLaws.{head_of_grammar}
use Rattle.clock_http.proofs.laws.law_head_of_grammar.Goals as goal

pub returns : goal.returns
returns c = head_of_grammar

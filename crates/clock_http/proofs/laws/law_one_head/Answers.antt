-- Prefixes proves the law.
use Rattle.clock_http.proofs.Prefixes.{one_head}
use Rattle.clock_http.proofs.laws.law_one_head.Goals as goal

pub returns : goal.returns
returns c = one_head

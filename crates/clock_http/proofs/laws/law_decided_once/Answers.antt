-- Prefixes proves the law.
use Rattle.clock_http.proofs.Prefixes.{decided_once}
use Rattle.clock_http.proofs.laws.law_decided_once.Goals as goal

pub returns : goal.returns
returns c = decided_once

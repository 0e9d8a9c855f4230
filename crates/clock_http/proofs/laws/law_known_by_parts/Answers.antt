-- Prefixes proves the law.
use Rattle.clock_http.proofs.Prefixes.{known_by_parts}
use Rattle.clock_http.proofs.laws.law_known_by_parts.Goals as goal

pub returns : goal.returns
returns c = known_by_parts

-- The minimum in the body is the one in the definition.
use Rattle.clock_terms.proofs.eligibility.next_eligibility.Goals as goal

pub returns-clause-exact : goal.returns-clause-exact
returns-clause-exact c = c.min.ensures

-- Proves that the result is that of preparing the sheet.
use Rattle.clock_house.proofs.house.House.put_sheet.Goals as goal

pub returns-clause-answer : goal.returns-clause-answer
returns-clause-answer g c = c.in_ok-prepared.ensures.answer

pub returns-clause-seen : goal.returns-clause-seen
returns-clause-seen g c = c.in_ok-prepared.ensures.seen

pub returns-clause-err : goal.returns-clause-err
returns-clause-err g c = tt

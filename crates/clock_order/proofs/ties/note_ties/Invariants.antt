-- The map has the entries so far, and the others decide the first fault of the list.
use Rattle.std.proofs.Common.{◌≡◌, take}
use Rattle.clock_order.specs.Entries.{ties_listed as listed_in}
use Rattle.clock_order.proofs.TieSteps.{AreAhead}
use Rattle.clock_order.proofs.ties.note_ties.Given as goal

abbrev pub invariant-loop-i : goal.invariant-loop-i
invariant-loop-i l = record {
  listed : listed_in l.numbers.entries ≡ take l.i l.ties;
  ahead : AreAhead l.bidders l.products l.ties l.i;
}

-- A closing that is accepted, but not yet in effect.
--     PreparedClosing      what contracts see of it
--     Answers closing result      it adds the round of the rules, or is refused as they say
use Rattle.std.specs.Prelude.{◌≡◌, ℕ, List, Result, Ok, MatchResult}
use Rattle.clock_terms.specs.declared.increments.Increments.{Increments}
use Rattle.clock_terms.specs.Faults.{IsRefusal}
use Rattle.clock_order.specs.declared.ties.Tie.{Tie}
use Rattle.clock_closing.specs.declared.fault.CloseFault.{CloseFault}
use Rattle.clock_closing.specs.declared.fault.CloseFault.TheVariants as close_faults
use Rattle.clock_closing.specs.Closing.{ClosedRound}

-- A closing of a round with its increments and tie-breaking numbers, and the round that it adds.
pub record PreparedClosing : Type 0 where
  pub round : ℕ
  pub increments : Increments
  pub ties : List Tie
  pub closed : ClosedRound

-- If the closing is accepted, it adds the round that the rules say. If it is refused, the rules
-- refuse it for the same fault, or it is out of memory.
abbrev pub Answers : Result ClosedRound CloseFault → Result PreparedClosing CloseFault → Type 0
Answers closing result = MatchResult result (λ prepared. closing ≡ Ok prepared.closed)
    (IsRefusal close_faults.NoMemory closing)

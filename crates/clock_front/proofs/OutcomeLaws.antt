-- Proves the reply for a closed round that exists, and that a request turned away by its bytes or path is no command.
use Rattle.std.proofs.Common.{◌≡◌, Option, Some, None, refl, ap}
use Rattle.std.specs.Prelude.{option_map}
use Rattle.serde_json.specs.Data.{Data}
use Rattle.clock_terms.specs.Limits.{SetupFields}
use Rattle.clock_house.specs.Command.{other}
use Rattle.clock_closing.specs.declared.closed_round.ClosedRound.{ClosedRound}
use Rattle.clock_api.specs.declared.code.Code.{Code}
use Rattle.clock_front.specs.declared.front.callers.Caller.{Caller}
use Rattle.clock_front.specs.declared.front.callers.Caller.TheVariants.{Nobody, Operator, Bidder}
use Rattle.clock_front.specs.Requests as asked
use Rattle.clock_front.specs.Outcomes.{done, page_or_no_round, command_of}

-- The page of a part of a closed round, if that round exists.
pub found_page : {T : Type 0} (value : T → Data) (part : ClosedRound → T) (closed : Option ClosedRound) (x : T) → Some x
    ≡ option_map part closed → done (value x) ≡ page_or_no_round (option_map (λ round. value (part round)) closed)
found_page value part None x is = absurd cc
found_page value part (Some round) x is = (let same : x ≡ part round = cc in ap (λ y. done (value y)) same)

-- ---- requests that are no commands

pub away_other : (setup : SetupFields) (caller : Caller) (code : Code)
    → command_of setup caller (asked.turned_away code) ≡ other
away_other setup Nobody code = refl
away_other setup Operator code = refl
away_other setup (Bidder b) code = refl

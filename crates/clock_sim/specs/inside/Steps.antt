-- The result of a step of a rehearsal, for the functions that make it.
--     replay_of house scripts closings      the replay of scripts and closings in the auction of a
--         house
--     IsPlayed house writer      the auction has ended, and its report can be written
--     AreScriptsOf setup scripts      there is a script for each bidder
--     IsGoing house      the auction of a house has not ended
--     IsResultByCode code fault result      the result of a request, by the code of its reply
--     ComesTo answer house      the step has texts, and the house stands for them
--     MakesStep step old new result      from any texts, the step was made, or its fault is
--         returned
--     IsLeft rest answer house      the steps that are left, from what the house stands for, have
--         this answer
--     MakesWay whole rest old new result      some of the steps were made, and the rest is left
use Rattle.std.specs.Prelude.{◌≡◌, ◌≢◌, ℕ, List, All, length, true, false, Result, Ok, Err}
use Rattle.std.specs.Prelude.{MatchResult}
use Rattle.clock_terms.specs.Faults.{IsRefusal}
use Rattle.clock_house.specs.House.{HouseFields, state_in}
use Rattle.clock_api.specs.declared.code.Code.{Code}
use Rattle.clock_api.specs.declared.code.Code.TheVariants.{Done, Memory}
use Rattle.clock_front.specs.Fronts.{StandsForTexts}
use Rattle.clock_replays.specs.declared.replay.Script.{Script}
use Rattle.clock_replays.specs.declared.replay.Closing.{Closing}
use Rattle.clock_terms.specs.Limits.{SetupFields}
use Rattle.clock_replays.specs.Replays.{ReplayFields, IsScript}
use Rattle.clock_reports.specs.Writers.{WriterFields, new_writer}
use Rattle.clock_scripts.specs.declared.fault.SimFault.{SimFault}
use Rattle.clock_scripts.specs.declared.fault.SimFault.TheVariants.{NoMemory}

-- the scripts and closings, with the set-up of a house
abbrev pub replay_of : HouseFields → List Script → List Closing → ReplayFields
replay_of house scripts closings =
    record { setup = house.setup; scripts = scripts; closings = closings }

-- the auction of a house has ended, and the writer of its report has written nothing
pub record IsPlayed (house : HouseFields) (writer : WriterFields) : Type 0 where
  pub ended : (state_in house).ended ≡ true
  pub fresh : writer ≡ new_writer (length house.setup.products)

-- a script for each bidder, made for the products
pub record AreScriptsOf (setup : SetupFields) (scripts : List Script) : Type 0 where
  pub each : length scripts ≡ length setup.bidders
  pub all : All (IsScript setup.products) scripts

-- the auction has not ended, and the house stands for some texts
pub record IsGoing (house : HouseFields) : Type 0 where
  pub going : (state_in house).ended ≡ false
  pub texts : List (List ℕ)
  pub stands : StandsForTexts texts house

-- a fault is returned if a reply is neither done nor out of memory
pub record IsRefusedWith (code : Code) (fault reported : SimFault) : Type 0 where
  pub reported_is : reported ≡ fault
  pub not_done : code ≢ Done
  pub not_memory : code ≢ Memory

abbrev pub IsResultByCode : {T : Type 0} → Code → SimFault → Result T SimFault → Type 0
IsResultByCode code fault (Ok done) = code ≡ Done
IsResultByCode code fault (Err reported) = reported ≢ NoMemory → IsRefusedWith code fault reported

-- the step has these texts, and the house stands for them
pub record ComesTo (answer : Result (List (List ℕ)) SimFault) (house : HouseFields) : Type 0 where
  pub texts : List (List ℕ)
  pub is : answer ≡ Ok texts
  pub stands : StandsForTexts texts house

-- From any texts that the house stood for, it now stands for those of the step. Or the fault of the
-- step is returned, or out of memory.
pub record MakesStep {T : Type 0} (step : List (List ℕ) → Result (List (List ℕ)) SimFault)
    (old new : HouseFields) (result : Result T SimFault) : Type 0 where
  pub setup : new.setup ≡ old.setup
  pub comes : (texts : List (List ℕ)) → StandsForTexts texts old
      → MatchResult result (λ done. ComesTo (step texts) new) (IsRefusal NoMemory (step texts))

-- the steps that are left, from the texts that the house stands for, have this answer
pub record IsLeft (rest : List (List ℕ) → Result (List (List ℕ)) SimFault)
    (answer : Result (List (List ℕ)) SimFault) (house : HouseFields) : Type 0 where
  pub texts : List (List ℕ)
  pub stands : StandsForTexts texts house
  pub same : rest texts ≡ answer

-- from any texts of the house, the rest of the steps is left; or their fault, or out of memory
pub record MakesWay {T : Type 0} (whole rest : List (List ℕ) → Result (List (List ℕ)) SimFault)
    (old new : HouseFields) (result : Result T SimFault) : Type 0 where
  pub setup : new.setup ≡ old.setup
  pub comes : (texts : List (List ℕ)) → StandsForTexts texts old → MatchResult result
      (λ done. IsLeft rest (whole texts) new) (IsRefusal NoMemory (whole texts))

-- A rehearsal: the requests that scripts and closings send, as texts of bytes, and the result.
-- Lists of texts have the newest first.
--     HasRefusalCode fault      the code in a fault is that of a refusal
--     after_request setup texts sender round text      the texts after a request
--     after_puts setup bidder scripts texts      the texts after the sheets of the bidders from
--         this one on
--     after_close setup closing texts      the texts after the closing of the round
--     rehearsed setup scripts closings texts      all texts until the auction ends, or the first
--         fault
--     simulated replay, played_text replay      the report, or its text; or the first fault
use Rattle.std.specs.Prelude.{◌≢◌, ⊤, ℕ, ◌+◌, List, [], ◌∷◌, Option, Some, None, Result, Ok, Err}
use Rattle.std.specs.Prelude.{if◌then◌else◌}
use Rattle.clock_terms.specs.Limits.{SetupFields}
use Rattle.clock_terms.specs.Faults.{◌>>=◌}
use Rattle.clock_house.specs.History.{history, public_state}
use Rattle.clock_closing.specs.declared.closed_round.ClosedRound.{ClosedRound}
use Rattle.clock_api.specs.declared.code.Code.{Code}
use Rattle.clock_api.specs.declared.code.Code.TheVariants as codes
use Rattle.clock_front.specs.Fronts.{commands_of, reply}
use Rattle.clock_replays.specs.declared.replay.Script.{Script}
use Rattle.clock_replays.specs.declared.replay.Closing.{Closing}
use Rattle.clock_scripts.specs.declared.fault.SimFault.{SimFault}
use Rattle.clock_scripts.specs.declared.fault.SimFault.TheVariants as faults
use Rattle.clock_replays.specs.Replays.{ReplayFields}
use Rattle.clock_reports.specs.Reports.{ReportFields}
use Rattle.clock_reports.specs.FinalReport.{report_of}
use Rattle.clock_reports.specs.ReportText.{report_text}
use Rattle.clock_scripts.specs.ScriptedRequests.{scripted_put, scripted_close}

-- the closed rounds after these texts
abbrev pub rounds_after : SetupFields → List (List ℕ) → List ClosedRound
rounds_after setup texts = (history setup (commands_of setup texts)).closed

-- the fault of a refused request: of a bidder, or of the operator
abbrev pub refused_by : Option ℕ → ℕ → Code → SimFault
refused_by (Some bidder) round code = faults.Refused bidder round code
refused_by None round code = faults.Closing round code

-- the code of a refused request is neither `done` nor `memory`
abbrev pub HasRefusalCode : SimFault → Type 0
HasRefusalCode (faults.Refused bidder round code) = (code ≢ codes.Done) × (code ≢ codes.Memory)
HasRefusalCode (faults.Closing round code) = (code ≢ codes.Done) × (code ≢ codes.Memory)
HasRefusalCode faults.ClosingsSpent = ⊤
HasRefusalCode faults.NoMemory = ⊤

-- if the request is done, the texts with it; any other reply is a fault
abbrev pub if_done : {T : Type 0} → Code → T → SimFault → Result T SimFault
if_done codes.Done done fault = Ok done
if_done code done fault = Err fault

-- a request has the reply that the front gives after the texts before it
unfoldable pub after_request : SetupFields → List (List ℕ) → Option ℕ → ℕ → List ℕ
    → Result (List (List ℕ)) SimFault
after_request setup texts sender round text = if_done (reply setup texts text).code (text ∷ texts)
    (refused_by sender round (reply setup texts text).code)

-- a request is sent if there is one
abbrev pub after_request_if : SetupFields → List (List ℕ) → Option ℕ → ℕ → Option (List ℕ)
    → Result (List (List ℕ)) SimFault
after_request_if setup texts sender round None = Ok texts
after_request_if setup texts sender round (Some text) = after_request setup texts sender round text

-- a bidder submits its sheet, if its script gives one
abbrev pub after_put : SetupFields → ℕ → Script → List (List ℕ) → Result (List (List ℕ)) SimFault
after_put setup bidder script texts =
    after_request_if setup texts (Some bidder) (public_state setup.products
    (rounds_after setup texts)).round (scripted_put setup (rounds_after setup texts) bidder script)

-- the bidders from this one on submit their sheets
abbrev pub after_puts : SetupFields → ℕ → List Script → List (List ℕ)
    → Result (List (List ℕ)) SimFault
after_puts setup bidder [] texts = Ok texts
after_puts setup bidder (script ∷ scripts) texts =
    after_put setup bidder script texts >>= after_puts setup (bidder + 1) scripts

-- the operator closes the round
abbrev pub after_close : SetupFields → Closing → List (List ℕ) → Result (List (List ℕ)) SimFault
after_close setup closing texts =
    after_request setup texts None (public_state setup.products (rounds_after setup texts)).round
    (scripted_close setup (rounds_after setup texts) closing)

-- a round: all sheets, then the closing
abbrev pub after_round : SetupFields → List Script → Closing → List (List ℕ)
    → Result (List (List ℕ)) SimFault
after_round setup scripts closing texts =
    after_puts setup 0 scripts texts >>= after_close setup closing

-- round after round until the end; without a closing left, the sheets are still submitted
abbrev pub rehearsed : SetupFields → List Script → List Closing → List (List ℕ)
    → Result (List (List ℕ)) SimFault
rehearsed setup scripts [] texts =
    after_puts setup 0 scripts texts >>= (λ put. Err faults.ClosingsSpent)
rehearsed setup scripts (closing ∷ closings) texts = after_round setup scripts closing texts
    >>= (λ closed. if (public_state setup.products (rounds_after setup closed)).ended then Ok closed
    else rehearsed setup scripts closings closed)

-- the report of a rehearsal, or its first fault
abbrev pub simulated : ReplayFields → Result ReportFields SimFault
simulated replay = rehearsed replay.setup replay.scripts replay.closings []
    >>= (λ texts. Ok (report_of replay.setup (rounds_after replay.setup texts)))

-- the text of that report, or the fault
abbrev pub played_text : ReplayFields → Result (List ℕ) SimFault
played_text replay = simulated replay >>= (λ report. Ok (report_text report))

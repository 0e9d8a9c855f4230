-- What `audit` computes from a set-up document and a journal. Lists have the newest entry first.
--     closed_after setup texts      the rounds that texts have closed
--     with_digest effect digests digest      one more digest if a round was closed
--     closing_digests setup first texts      the digests of the texts that closed a round, in
--         digits, the oldest first
--     IsRecounted first texts house digests      the auction stands for the texts, with the digests
--         of its closings
--     IsAuditFault setup first bytes before after fault      the reported fault is one of this
--         file, or its source was not read
--     audited setup first texts      what an audit prints of the rounds
--     IsAuditOf setup first bytes shown recovered      this is printed of all texts of a file
use Rattle.std.specs.Prelude.{◌≡◌, ◌++◌, ℕ, List, [], ◌∷◌, reverse}
use Rattle.hex.specs.Hex.{encode_lower}
use Rattle.clock_terms.specs.Limits.{SetupFields}
use Rattle.clock_closing.specs.declared.closed_round.ClosedRound.{ClosedRound}
use Rattle.clock_house.specs.History.{history}
use Rattle.clock_house.specs.House.{HouseFields}
use Rattle.clock_front.specs.Effects.{effect}
use Rattle.clock_front.specs.Fronts.{StandsForTexts, commands_of}
use Rattle.clock_front.specs.declared.front.response.Effect.{Effect}
use Rattle.clock_front.specs.declared.front.response.Effect.TheVariants.{Nothing, Sheet, Closing}
use Rattle.clock_console.specs.FaultLines.{of_journal}
use Rattle.clock_console.specs.declared.fault.Fault.{Fault}
use Rattle.clock_device.specs.Reports.{SourceReport}
use Rattle.clock_journal.specs.Recovering.{AreTextsOf, record_at}
use Rattle.clock_journal.specs.Resuming.{NoneRefused}
use Rattle.clock_journal.specs.Sources.{IsNotRead}
use Rattle.clock_journal.specs.declared.recovery.JournalFault.{JournalFault}
use Rattle.clock_journal.specs.declared.recovery.Recovered.{Recovered}
use Rattle.clock_server.specs.Keeping.{IsRefused}
use Rattle.clock_reports.specs.FinalReport.{report_of}
use Rattle.clock_reports.specs.ReportText.{audit_text}

abbrev pub closed_after : SetupFields → List (List ℕ) → List ClosedRound
closed_after setup texts = (history setup (commands_of setup texts)).closed

-- one more digest if a round was closed
abbrev pub with_digest : Effect → List (List ℕ) → List ℕ → List (List ℕ)
with_digest Nothing digests digest = digests
with_digest Sheet digests digest = digests
with_digest (Closing round) digests digest = digests ++ encode_lower digest ∷ []

abbrev pub closing_digests : SetupFields → List ℕ → List (List ℕ) → List (List ℕ)
closing_digests setup first [] = []
closing_digests setup first (text ∷ past) = with_digest (effect setup past text)
    (closing_digests setup first past) (record_at first past text).digest

-- the auction stands for the texts, and the digests are those of its closings
pub record IsRecounted (first : List ℕ) (texts : List (List ℕ)) (house : HouseFields)
    (digests : List (List ℕ)) : Type 0 where
  pub stands : StandsForTexts texts house
  pub digests_are : digests ≡ closing_digests house.setup first texts

-- the file has this fault, and a text that is reported as refused is refused after those before it;
-- or its source, with these reports before and after, was not read
pub record IsAuditFault (setup : SetupFields) (first bytes : List ℕ) (before after : SourceReport)
    (reported : Fault) : Type 0 where
  pub fault : JournalFault
  pub reported_is : reported ≡ of_journal fault
  pub is : IsNotRead (IsRefused setup) first bytes before after fault

-- the lines of the closed rounds, each with its closing's digest, and what each bidder won if the
-- auction has ended
abbrev pub text_of_rounds : SetupFields → List ClosedRound → List (List ℕ) → List ℕ
text_of_rounds setup [] digests = []
text_of_rounds setup (round ∷ closed) digests =
    audit_text (report_of setup (round ∷ closed)) digests

abbrev pub audited : SetupFields → List ℕ → List (List ℕ) → List ℕ
audited setup first texts =
    text_of_rounds setup (closed_after setup texts) (closing_digests setup first texts)

-- these are the texts of the file, each is accepted after those before it, and the rounds of all of
-- them are printed
pub record IsAuditOf (setup : SetupFields) (first bytes shown : List ℕ)
    (recovered : Recovered) : Type 0 where
  pub texts : List (List ℕ)
  pub are : AreTextsOf first bytes texts recovered
  pub accepted : NoneRefused (IsRefused setup) [] texts
  pub shown_is : shown ≡ audited setup first (reverse texts)

-- Each closed round has a digest, and so an audit prints what a file's texts determine.
use Rattle.std.proofs.Common.{◌≡◌, ◌≤◌, ℕ, List, [], ◌∷◌, length, ap, sym, ◌∙◌, subst, arith, reverse}
use Rattle.std.proofs.Common.{length-append}
use Rattle.std.specs.Prelude.{reverse}
use Rattle.std.proofs.lemmas.List.{length-map, length-reverse}
use Rattle.hex.specs.Hex.{encode_lower}
use Rattle.clock_terms.specs.Limits.{SetupFields}
use Rattle.clock_closing.specs.declared.closed_round.ClosedRound.{ClosedRound}
use Rattle.clock_house.specs.House.{HouseFields}
use Rattle.clock_front.specs.Effects.{effect}
use Rattle.clock_front.specs.declared.front.response.Effect.{Effect}
use Rattle.clock_front.specs.declared.front.response.Effect.TheVariants.{Nothing, Sheet, Closing}
use Rattle.clock_reports.specs.FinalReport.{report_of}
use Rattle.clock_reports.specs.Reports.{ReportFields}
use Rattle.clock_journal.specs.Recovering.{AreTextsOf, record_at}
use Rattle.clock_journal.specs.Resuming.{NoneRefused}
use Rattle.clock_journal.specs.declared.recovery.Recovered.{Recovered}
use Rattle.clock_server.specs.Keeping.{IsRefused}
use Rattle.clock_server.proofs.Telling.{CountsOn, counts_text}
use Rattle.clock_files.specs.Audits.{IsAuditOf, IsRecounted, audited, closed_after, closing_digests, with_digest}

still_enough : (one : Effect) (before after : ℕ) (digests : List (List ℕ)) (chain : List ℕ) → CountsOn one before after
    → before ≤ length digests → after ≤ length (with_digest one digests chain)
still_enough Nothing before after digests chain counts enough = omega (arith, counts, enough)
still_enough Sheet before after digests chain counts enough = omega (arith, counts, enough)
still_enough (Closing round) before after digests chain counts enough =
    omega (arith, counts.1, enough, length-append digests (encode_lower chain ∷ []))

enough_digests : (setup : SetupFields) (first : List ℕ) (texts : List (List ℕ))
    → length (closed_after setup texts) ≤ length (closing_digests setup first texts)
enough_digests setup first [] = omega arith
enough_digests setup first (text ∷ past) =
    still_enough (effect setup past text) (length (closed_after setup past)) (length (closed_after setup (text ∷ past)))
    (closing_digests setup first past) (record_at first past text).digest (counts_text setup past text)
    (enough_digests setup first past)

enough_for : (first : List ℕ) (texts : List (List ℕ)) (house : HouseFields) (digests : List (List ℕ))
    → IsRecounted first texts house digests → length house.closed ≤ length digests
enough_for first texts house digests is = subst (λ (all : List (List ℕ)). length house.closed ≤ length all)
    (sym is.digests_are) (subst (λ (closed : List ClosedRound). length closed
    ≤ length (closing_digests house.setup first texts)) (sym is.stands.closed) (enough_digests house.setup first texts))

-- a digest for each sheet of the report
pub enough_for_report : (first : List ℕ) (texts : List (List ℕ)) (house : HouseFields) (digests given : List (List ℕ))
    (report : ReportFields) → IsRecounted first texts house digests → report ≡ report_of house.setup house.closed
    → given ≡ digests → length report.sheets ≤ length given
enough_for_report first texts house digests given report recounted is same =
    let many = length-map (reverse house.closed) (λ (closed : ClosedRound). closed.sheet) in
    omega (
      arith,
      ap (λ (r : ReportFields). length r.sheets) is,
      many,
      length-reverse house.closed,
      ap length same,
      enough_for first texts house digests recounted,
    )

-- what is printed for an auction that stands for all texts of a file
pub audit_is : (setup setup_new : SetupFields) (first bytes shown : List ℕ) (texts : List (List ℕ))
    (recovered : Recovered) → setup_new ≡ setup → AreTextsOf first bytes texts recovered
    → NoneRefused (IsRefused setup) [] texts → shown ≡ audited setup_new first (reverse texts)
    → IsAuditOf setup first bytes shown recovered
audit_is setup setup_new first bytes shown texts recovered same_setup are accepted is = record {
  texts = texts;
  are = are;
  accepted = accepted;
  shown_is = is ∙ ap (λ (of_setup : SetupFields). audited of_setup first (reverse texts)) same_setup;
}

-- A run continues with one connection that was served.
use Rattle.std.proofs.Common.{◌≡◌, inl, inr, ℕ, List, [], ◌∷◌, ◌++◌, Option, length, reverse}
use Rattle.std.proofs.Common.{refl, sym, ap, ◌∙◌, subst}
use Rattle.clock_terms.specs.Limits.{SetupFields}
use Rattle.clock_house.specs.House.{HouseFields}
use Rattle.clock_front.specs.Effects.{IsRightResponse, RespondsTo}
use Rattle.clock_front.specs.Fronts.{StandsForTexts}
use Rattle.clock_front.specs.declared.front.response.Effect.{Effect}
use Rattle.clock_front.specs.declared.front.response.Effect.TheVariants.{Nothing, Sheet, Closing}
use Rattle.clock_front.specs.declared.front.response.Response.{Response}
use Rattle.clock_front.proofs.AnswerLaws.{stands_still}
use Rattle.clock_journal.specs.Crash.{LeavesSince, LeavesTexts}
use Rattle.clock_journal.specs.Logged.{HasTexts, IsAppended, JournalState}
use Rattle.clock_journal.proofs.Lists.{reverse-push}
use Rattle.clock_journal.proofs.Passing.{leave_none}
use Rattle.clock_server.specs.Exchanges.{Exchange}
use Rattle.clock_server.specs.Keeping.{GrowsBy, is_change, round_closed}
use Rattle.clock_server.specs.Serving.{AreServed, LogsText, RepliesTo, ServerState}
use Rattle.clock_server.specs.inside.Served.{IsAnswered, IsReported, IsServed, LogsChange}
use Rattle.clock_server.proofs.EffectLaws.{logged_when, right_after}
use Rattle.clock_server.proofs.Untouched.{left_all}
use Rattle.clock_server.proofs.Walking.{grown_none, walks_on}

-- these texts, this journal, and these rounds
abbrev pub state : List (List ℕ) → JournalState → Option (List ℕ) → ServerState
state texts journal rounds = record { texts = texts; journal = journal; rounds = rounds }

-- all texts are on the disk, and a crash since leaves the texts before, and at most the one logged now
abbrev IsLogged : List ℕ → ServerState → ServerState → Type 0
IsLogged digest before after = HasTexts digest after.texts after.journal
    × LeavesSince before.journal after.journal (λ left. LeavesTexts digest left after.texts (length before.texts))

-- the closed round, if any, is appended
reported_as : (changed : Effect) (rounds_old rounds_new : Option (List ℕ)) → IsReported rounds_old rounds_new changed
    → GrowsBy rounds_old rounds_new (round_closed changed)
reported_as Nothing rounds_old rounds_new same =
    subst (λ (rounds : Option (List ℕ)). GrowsBy rounds_old rounds []) (sym same) (grown_none rounds_old)
reported_as Sheet rounds_old rounds_new same =
    subst (λ (rounds : Option (List ℕ)). GrowsBy rounds_old rounds []) (sym same) (grown_none rounds_old)
reported_as (Closing round) rounds_old rounds_new grows = grows

-- what one connection made of the state before it
pub record HasNext (setup : SetupFields) (past : List (List ℕ)) (one : Exchange) (journal_old
    journal_new : JournalState) (rounds_old rounds_new : Option (List ℕ)) (new : HouseFields) : Type 0 where
  pub next : List (List ℕ)
  pub logs : LogsText setup (state past journal_old rounds_old) one (state next journal_new rounds_new)
  pub stands : StandsForTexts (reverse next) new

module _ (one : Exchange) (journal_old journal_new : JournalState) (rounds_old rounds_new : Option (List ℕ))
    (old new : HouseFields) (past : List (List ℕ)) (stands : StandsForTexts (reverse past) old) where
  abbrev before : ServerState
  before = state past journal_old rounds_old

  -- nothing was appended
  still_logged : (digest : List ℕ) → HasTexts digest past journal_old → IsLogged digest before before
  still_logged digest has = (
    has,
    record {
      at_end = λ left may. left_all digest past journal_old left has may;
      moments = leave_none journal_old.moments (λ left. LeavesTexts digest left past (length past));
    },
  )

  -- it changed nothing
  unchanged : journal_new ≡ journal_old → StandsForTexts (reverse past) new
      → RepliesTo old.setup before one (state past journal_new rounds_new)
      → HasNext old.setup past one journal_old journal_new rounds_old rounds_new new
  unchanged same stands_now replies = record {
    next = past;
    logs = record {
      replies = replies;
      logs = λ digest has. subst (λ (journal : JournalState). IsLogged digest before (state past journal rounds_new))
          (sym same) (still_logged digest has);
    };
    stands = stands_now;
  }

  still_so : journal_new ≡ journal_old → rounds_new ≡ rounds_old → state past journal_new rounds_new ≡ before
  still_so same same_rounds = ap (λ (journal : JournalState). state past journal rounds_new) same
      ∙ ap (state past journal_old) same_rounds

  module _ (changed : Effect) (reported : IsAnswered one changed journal_old journal_new old new) where
    abbrev response : Response
    response = record { reply = reported.reply; effect = changed }

    right_reply : IsRightResponse reported.text old new response → IsReported rounds_old rounds_new changed
        → RepliesTo old.setup before one
        (state (logged_when (is_change changed) past reported.text) journal_new rounds_new)
    right_reply fits told =
        let after = right_after (reverse past) reported.text response old new stands fits in
        inl (
          reported.text,
          reported.reply,
          reported.arrived,
          reported.sends,
          inl (
            fits.answer.after (reverse past) stands,
            ap (λ (e : Effect). logged_when (is_change e) past reported.text) after.changed,
            subst (λ (e : Effect). GrowsBy rounds_old rounds_new (round_closed e)) after.changed
                (reported_as changed rounds_old rounds_new told),
          ),
        )

    -- its text was accepted and logged
    appended : IsRightResponse reported.text old new response → IsAppended reported.text journal_old journal_new
        → RepliesTo old.setup before one (state (past ++ reported.text ∷ []) journal_new rounds_new)
        → HasNext old.setup past one journal_old journal_new rounds_old rounds_new new
    appended fits appends replies =
        let after = right_after (reverse past) reported.text response old new stands fits in
        record {
          next = past ++ reported.text ∷ [];
          logs = record {
            replies = replies;
            logs = λ digest has. (appends digest past has, reported.moments digest past has);
          };
          stands = subst (λ (texts : List (List ℕ)). StandsForTexts texts new) (sym (reverse-push past reported.text))
              after.stands;
        }

  answered : (changed : Effect) (reported : IsAnswered one changed journal_old journal_new old new)
      → IsReported rounds_old rounds_new changed → IsRightResponse reported.text old new (response changed reported)
      → HasNext old.setup past one journal_old journal_new rounds_old rounds_new new
  answered Nothing reported told fits = unchanged reported.logged
      (stands_still (reverse past) old new stands (fits.still refl)) (right_reply Nothing reported fits told)
  answered Sheet reported told fits =
      appended Sheet reported fits reported.logged (right_reply Sheet reported fits told)
  answered (Closing round) reported told fits =
      appended (Closing round) reported fits reported.logged (right_reply (Closing round) reported fits told)

  responded : (changed : Effect) (reported : IsAnswered one changed journal_old journal_new old new)
      → IsReported rounds_old rounds_new changed → RespondsTo reported.text (response changed reported) old new
      → HasNext old.setup past one journal_old journal_new rounds_old rounds_new new
  responded changed reported told (inl fits) = answered changed reported told fits
  responded changed reported told (inr (left_out, nothing, still)) =
      let same = subst (λ (e : Effect). LogsChange e reported.text journal_old journal_new) nothing reported.logged in
      let same_rounds = subst (IsReported rounds_old rounds_new) nothing told in
      unchanged same (stands_still (reverse past) old new stands still) (inl (
        reported.text,
        reported.reply,
        reported.arrived,
        reported.sends,
        inr (left_out, still_so same same_rounds),
      ))

  served_one : (changed : Effect) → IsServed one changed journal_old journal_new old new
      → IsReported rounds_old rounds_new changed
      → HasNext old.setup past one journal_old journal_new rounds_old rounds_new new
  served_one changed (inl reported) told = responded changed reported told reported.responds
  served_one changed (inr (ends, nothing, same, still)) told =
      unchanged same (subst (λ (house : HouseFields). StandsForTexts (reverse past) house) (sym still) stands)
      (inr (ends, still_so same (subst (IsReported rounds_old rounds_new) nothing told)))

-- no connection was served yet
pub served_none : (reported : Option (List ℕ)) (journal : JournalState) (house : HouseFields)
    → AreServed [] reported reported journal journal house house
served_none reported journal house past stands = (past, refl, stands)

-- one more was served
pub served_more : (exchanges : List Exchange) (one : Exchange) (changed : Effect)
    (rounds_old rounds_mid rounds_new : Option (List ℕ)) (journal_old journal_mid journal_new : JournalState)
    (old mid new : HouseFields) → mid.setup ≡ old.setup → AreServed exchanges rounds_old rounds_mid journal_old
    journal_mid old mid → IsServed one changed journal_mid journal_new mid new
    → IsReported rounds_mid rounds_new changed
    → AreServed (exchanges ++ one ∷ []) rounds_old rounds_new journal_old journal_new old new
served_more exchanges one changed rounds_old rounds_mid rounds_new journal_old journal_mid journal_new old mid new
    same before served told past stands =
    let so_far = before past stands in
    let next = subst (λ (setup : SetupFields). HasNext setup so_far.0 one journal_mid journal_new rounds_mid rounds_new
    new) same (served_one one journal_mid journal_new rounds_mid rounds_new mid new so_far.0 so_far.2 changed served
    told) in (
      next.next,
      walks_on old.setup (state past journal_old rounds_old) exchanges (state so_far.0 journal_mid rounds_mid) one
          (state next.next journal_new rounds_new) so_far.1 next.logs,
      next.stands,
    )

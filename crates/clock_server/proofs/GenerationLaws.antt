-- GenerationsContinue, by induction on the generations: each leaves an auction's own file to the next.
use Rattle.std.proofs.Common.{◌≡◌, ◌<◌, ◌≤◌, inl, inr, ℕ, List, [], ◌∷◌, ◌++◌, length, take, Option, Some, None, Result}
use Rattle.std.proofs.Common.{Ok}
use Rattle.std.proofs.Common.{Err}
use Rattle.std.proofs.Common.{refl, sym, ap, ◌∙◌, subst, arith, length-append, append-nil, reverse}
use Rattle.std.proofs.lemmas.List.{take_at}
use Rattle.clock_terms.specs.Limits.{SetupFields}
use Rattle.clock_house.specs.House.{HouseFields}
use Rattle.clock_front.specs.Fronts.{StandsForTexts}
use Rattle.clock_journal.specs.Crash.{IsEnd, IsFile, LeavesJournal}
use Rattle.clock_journal.specs.Disks.{CouldBeLeft, LeaveOnly, MayBeLeft, Moment}
use Rattle.clock_journal.specs.Logged.{HasTexts, JournalState}
use Rattle.clock_journal.proofs.Files.{some_head}
use Rattle.clock_journal.proofs.Starting.{now_left}
use Rattle.clock_journal.proofs.TakenOver.{left_first}
use Rattle.clock_journal.specs.Recovering.{AreTextsOf}
use Rattle.clock_journal.specs.Resuming.{NoneRefused, Resumes}
use Rattle.clock_journal.specs.declared.recovery.Recovered.{Recovered}
use Rattle.clock_journal.proofs.OwnStarts.{not_refused_take}
use Rattle.clock_server.specs.Accepted.{IsOwnFile}
use Rattle.clock_server.specs.Keeping.{IsAccepted, IsRefused}
use Rattle.clock_server.proofs.AcceptedLaws.{accepted_after, accepted_push}
use Rattle.clock_server.specs.Exchanges.{Exchange, SendsNothing}
use Rattle.clock_server.specs.Generations.{AreRestarts, ContinueFrom, EndsGeneration, EndsWith, Generation}
use Rattle.clock_server.specs.Generations.{GenerationsContinue, LeftSince, MayLeave, Serves, ServesFile}
use Rattle.clock_server.specs.Generations.{failed, served}
use Rattle.clock_server.specs.declared.generation.ServerFault.{ServerFault}
use Rattle.clock_server.specs.declared.generation.ServerFault.TheVariants.{Serve}
use Rattle.clock_server.specs.declared.serving.ServeFault.{ServeFault}
use Rattle.clock_server.specs.declared.serving.ServeFault.TheVariants as fault
use Rattle.clock_server.specs.Serving.{ServerState, AreServed, EndsServing, IsUnlogged, RepliesTo}
use Rattle.clock_server.specs.Serving.{Walks}
use Rattle.clock_server.proofs.Served.{served_none, state}
use Rattle.clock_server.proofs.Untouched.{left_all, take_all}

-- ---- accepted texts that are on the disk

abbrev HasAccepted : SetupFields → List ℕ → ServerState → Type 0
HasAccepted setup digest at =
    NoneRefused (IsRefused setup) [] at.texts × HasTexts digest at.texts at.journal

accepted_step : (setup : SetupFields) (before : ServerState) (one : Exchange) (after : ServerState)
    → RepliesTo setup before one after → NoneRefused (IsRefused setup) [] before.texts
    → NoneRefused (IsRefused setup) [] after.texts
accepted_step setup before one after (inl (text, answer, arrived, sends, inl (right, is, reported))) accepted =
    subst (NoneRefused (IsRefused setup) []) (sym is) (accepted_after setup before.texts text accepted)
accepted_step setup before one after (inl (text, answer, arrived, sends, inr (left_out, is))) accepted =
    subst (λ (now : ServerState). NoneRefused (IsRefused setup) [] now.texts) (sym is) accepted
accepted_step setup before one after (inr (unanswered, is)) accepted =
    subst (λ (now : ServerState). NoneRefused (IsRefused setup) [] now.texts) (sym is) accepted

accepted_walk : (setup : SetupFields) (digest : List ℕ) (first : ServerState) (exchanges : List Exchange)
    (last : ServerState) → Walks setup first exchanges last → HasAccepted setup digest first
    → HasAccepted setup digest last
accepted_walk setup digest first [] last walks has = subst (HasAccepted setup digest) (sym walks) has
accepted_walk setup digest first (one ∷ others) last (next, step, walks) has =
    accepted_walk setup digest next others last walks
    (accepted_step setup first one next step.replies has.0, (step.logs digest has.1).0)

-- ---- one generation

-- after texts that the house stands for: what more the file may have at the end. If these are accepted and on the disk,
-- it is an own file
abbrev EndsSo : SetupFields → JournalState → HouseFields → Option Exchange → JournalState → Type 0
EndsSo setup before house unlogged end = (texts : List (List ℕ)) (rounds : Option (List ℕ))
    → StandsForTexts (reverse texts) house → (more : List (List ℕ))
    × EndsWith setup (state texts before rounds) unlogged end more
    × ((digest : List ℕ) → HasAccepted setup digest (state texts before rounds)
    → IsOwnFile setup digest (texts ++ more) (length texts) end)

-- all connections were served
all_logged : (setup : SetupFields) (last : JournalState) (house : HouseFields) → EndsSo setup last house None last
all_logged setup last house texts rounds stands = (
  [],
  (refl, refl),
  λ digest has. subst (λ (all : List (List ℕ)). IsOwnFile setup digest all (length texts) last)
      (sym (append-nil texts)) (record {
        accepted = has.0;
        leaves = λ left may. inl (left_all digest texts last left has.1 may);
      }),
)

-- the text of the last could not be logged
one_unlogged : (setup : SetupFields) (before last : JournalState) (house : HouseFields) (one : Exchange)
    → house.setup ≡ setup → SendsNothing one → IsUnlogged one.reading before last house
    → EndsSo setup before house (Some one) last
one_unlogged setup before last house one same nothing unlogged texts rounds stands =
    let accepted = subst (λ (of_setup : SetupFields). IsAccepted of_setup (reverse texts) unlogged.text) same
    (unlogged.accepted (reverse texts) stands) in (
      unlogged.text ∷ [],
      (unlogged.text, unlogged.arrived, accepted, nothing, unlogged.failed, refl),
      λ digest has. record {
        accepted = accepted_push setup texts unlogged.text has.0 accepted;
        leaves = λ left may. inl ((unlogged.moments digest texts has.1).at_end left
            (subst (λ (bytes : Option (List ℕ)). MayBeLeft bytes last.written left) unlogged.on_disk may));
      },
    )

-- what is in the file is what a crash may leave of it
pub own_left : (setup : SetupFields) (digest : List ℕ) (texts : List (List ℕ)) (least : ℕ) (journal : JournalState)
    (synced bytes : List ℕ) → journal.synced ≡ Some synced → journal.written ≡ Some bytes
    → IsOwnFile setup digest texts least journal → LeavesJournal digest bytes texts least
own_left setup digest texts least journal synced bytes is written own =
    own.leaves bytes (now_left journal.synced journal.written synced bytes is written)

-- the bytes have all of these texts
all_left : (digest bytes : List ℕ) (texts : List (List ℕ)) (recovered : Recovered)
    → AreTextsOf digest bytes texts recovered → LeavesJournal digest bytes texts (length texts)
all_left digest bytes texts recovered those = elim those.end_is [
  | inl whole ↦ inl (record {
    count = length texts;
    enough = omega arith;
    most = omega arith;
    first = subst (λ (all : List (List ℕ)). IsFile digest bytes all IsEnd) (sym (take_all texts)) whole.0;
  })
  | inr torn ↦ inr (ap length torn.1, torn.0)
]

-- the auction stands for the texts of the bytes
module _ (setup : SetupFields) (found first : JournalState) (bytes : List ℕ) (old : HouseFields) (same : old.setup
    ≡ setup) (recovered : Recovered) (resumes : Resumes (IsRefused setup) (λ texts. StandsForTexts texts old) bytes
    found first recovered) (chained : first.chain ≡ recovered.chain) where
  -- from texts that the house stands for
  module _ (exchanges : List Exchange) (rounds : Option (List ℕ)) (before last : JournalState) (house : HouseFields)
      (unlogged : Option Exchange) (are : AreServed exchanges None rounds first before old house) (ends_so : EndsSo
      setup before house unlogged last) (texts : List (List ℕ)) (stands : StandsForTexts (reverse texts) old) where
    abbrev end : List (List ℕ)
    end = (are texts stands).0

    walked : Walks setup (state texts first None) exchanges (state end before rounds)
    walked = subst (λ (of_setup : SetupFields). Walks of_setup (state texts first None) exchanges
        (state end before rounds)) same (are texts stands).1

    abbrev from : Serves setup texts exchanges unlogged last
    from = let ends = ends_so end rounds (are texts stands).2 in record {
      resumed = first;
      last = state end before rounds;
      walks = walked;
      more = ends.0;
      ends = ends.1;
    }

    own_then : NoneRefused (IsRefused setup) [] texts → HasTexts found.chain texts first
        → IsOwnFile setup found.chain (from.last.texts ++ from.more) (length from.last.texts) last
    own_then accepted has = (ends_so end rounds (are texts stands).2).2 found.chain
        (accepted_walk setup found.chain (state texts first None) exchanges (state end before rounds) walked
        (accepted, has))

  serves : (exchanges : List Exchange) (rounds : Option (List ℕ)) (before last : JournalState)
      (house : HouseFields) (unlogged : Option Exchange) → AreServed exchanges None rounds first before old house
      → EndsSo setup before house unlogged last → ServesFile setup bytes exchanges unlogged found last
  serves exchanges rounds before last house unlogged are ends_so = record {
    texts = resumes.texts;
    file = all_left found.chain bytes resumes.texts recovered resumes.are;
    accepted = resumes.accepted;
    serves = from exchanges rounds before last house unlogged are ends_so resumes.texts resumes.taken;
    chained = chained ∙ resumes.are.chain_is;
    generation = λ written texts least synced is own.
        let those = left_first found.chain bytes resumes.texts texts least recovered resumes.are
        (own_left setup found.chain texts least found synced bytes is written own) in
        let has = subst (λ (all : List (List ℕ)). HasTexts found.chain all first) those.3 (resumes.has written) in
        let stands = subst (λ (all : List (List ℕ)). StandsForTexts (reverse all) old) those.3 resumes.taken in
        record {
          count = those.0;
          enough = those.1;
          most = those.2;
          serves = from exchanges rounds before last house unlogged are ends_so (take those.0 texts) stands;
          has = has;
          own = own_then exchanges rounds before last house unlogged are ends_so (take those.0 texts) stands
              (not_refused_take (IsRefused setup) [] texts those.0 own.accepted) has;
        };
  }

  served_all : (exchanges : List Exchange) (rounds : Option (List ℕ)) (last : JournalState)
      (new : HouseFields) → AreServed exchanges None rounds first last old new
      → ServesFile setup bytes exchanges None found last
  served_all exchanges rounds last new are =
      serves exchanges rounds last last new None are (all_logged setup last new)

  -- in EndsGeneration
  abbrev EndsServed : {U : Type 0} → ℕ → List Exchange → JournalState → Result U ServeFault → Type 0
  EndsServed count exchanges last (Ok done) =
      (length exchanges ≡ count) × ServesFile setup bytes exchanges None found last
  EndsServed count exchanges last (Err fault.Accept) =
      (length exchanges < count) × ServesFile setup bytes exchanges None found last
  EndsServed count exchanges last (Err fault.Journal) =
      (some : List Exchange) × (one : Exchange) × (exchanges ≡ some ++ one ∷ [])
      × (length exchanges ≤ count) × ServesFile setup bytes some (Some one) found last

  -- none was accepted
  pub ends_before : ServesFile setup bytes [] None found first
  ends_before = served_all [] None first old (served_none None first old)

  pub ends_by : (U : Type 0) (count : ℕ) (exchanges : List Exchange) (rounds : Option (List ℕ))
      (last : JournalState) (new : HouseFields) (end : Result U ServeFault)
      → EndsServing count exchanges None rounds first last old new end → EndsServed count exchanges last end
  ends_by U count exchanges rounds last new (Ok done) ends =
      (ends.0, served_all exchanges rounds last new ends.1)
  ends_by U count exchanges rounds last new (Err fault.Accept) ends =
      (ends.0, served_all exchanges rounds last new ends.1)
  ends_by U count exchanges rounds last new (Err fault.Journal) ends = (
    ends.0,
    ends.1,
    ends.2,
    ends.3,
    serves ends.0 rounds ends.4 last ends.5 (Some ends.1) ends.6
        (one_unlogged setup ends.4 last ends.5 ends.1 (ends.8 ∙ same) ends.7 ends.9),
  )

  -- the same, of all faults of serving
  pub ends_fault : (U E : Type 0) (count : ℕ) (exchanges : List Exchange) (last : JournalState) (why : ServeFault)
      → EndsServed {U = U} count exchanges last (Err why)
      → EndsGeneration {U = U} {E = E} setup count exchanges bytes found last (Err (Serve why))
  ends_fault U E count exchanges last fault.Accept ends = ends
  ends_fault U E count exchanges last fault.Journal ends = ends

-- the journal at the end is the one that is returned
pub ended_as : {U E : Type 0} (setup : SetupFields) (count : ℕ) (exchanges : List Exchange) (bytes : List ℕ)
    (found last left : JournalState) (result : Result U (ServerFault E)) → left ≡ last
    → EndsGeneration setup count exchanges bytes found last result
    → EndsGeneration setup count exchanges bytes found left result
ended_as setup count exchanges bytes found last left result is ends =
    subst (λ (at : JournalState). EndsGeneration setup count exchanges bytes found at result) (sym is) ends

pub left_as : (setup : SetupFields) (bytes : List ℕ) (exchanges : List Exchange)
    (found last left : JournalState) → left ≡ last → ServesFile setup bytes exchanges None found last
    → ServesFile setup bytes exchanges None found left
left_as setup bytes exchanges found last left is serves =
    subst (λ (at : JournalState). ServesFile setup bytes exchanges None found at) (sym is) serves

-- ---- generations

append_once : {A : Type 0} (some others rest : List A) → some ++ rest ≡ others ++ rest → some ≡ others
append_once some others rest is =
    let lengths = ap length is in
    let size : length some ≡ length others =
    omega (arith, lengths, length-append some rest, length-append others rest) in
    sym (take_at some rest (length some) refl)
    ∙ (ap (take (length some)) is ∙ take_at others rest (length some) (sym size))

some_once : {A : Type 0} (one other : A) → Some one ≡ Some other → one ≡ other
some_once one other is = cc

since_left : (old new : Option (List Moment)) (Leaves : List ℕ → Type 0) (left : List ℕ) → LeaveOnly old new Leaves
    → LeftSince old new left → Leaves left
since_left (Some old) new Leaves left only since =
    only.2 left (subst (λ (moments : List Moment). CouldBeLeft moments left)
    (append_once since.0 only.0 old (some_once (since.0 ++ old) (only.0 ++ old) (sym since.1 ∙ only.1))) since.2)
since_left None new Leaves left only since = absurd since

continue_from : (setup : SetupFields) (digest : List ℕ) (texts : List (List ℕ)) (least : ℕ) (Leaves : List ℕ → Type 0)
    (generations : List Generation) → NoneRefused (IsRefused setup) [] texts
    → ((left : List ℕ) → Leaves left → LeavesJournal digest left texts least)
    → AreRestarts setup digest Leaves generations → ContinueFrom setup digest texts least generations
continue_from setup digest texts least Leaves [] accepted safe follow = tt
continue_from setup digest texts least Leaves (failed found why end ∷ others) accepted safe follow =
    let own : IsOwnFile setup digest texts least found =
    record { accepted = accepted; leaves = λ left may. safe left (follow.2 left may) } in
    let ends = follow.0 texts least follow.1.0 follow.1.1 own in (
      ends.0,
      continue_from setup digest texts least (MayLeave (failed found why end)) others accepted
          (λ left found_there. elim found_there [
            | inl before ↦ own.leaves left before
            | inr since ↦ since_left found.moments end.moments (λ bytes. LeavesJournal digest bytes texts least)
                left ends.1 since
          ]) follow.3,
    )
continue_from setup digest texts least Leaves (served found exchanges unlogged end ∷ others) accepted safe follow =
    let own : IsOwnFile setup digest texts least found =
    record { accepted = accepted; leaves = λ left may. safe left (follow.2 left may) } in
    let from = follow.0 texts least follow.1.0 follow.1.1 own in (
      from,
      continue_from setup digest (from.serves.last.texts ++ from.serves.more) (length from.serves.last.texts)
          (MayLeave (served found exchanges unlogged end)) others from.own.accepted
          (λ left may. from.own.leaves left may) follow.3,
    )

empty_left : (digest left : List ℕ) → left ≡ [] → LeavesJournal digest left [] 0
empty_left digest [] none =
    inr (refl, record { short = let some = some_head digest in omega (arith, some); front = refl })
empty_left digest (byte ∷ rest) none = let no : byte ∷ rest ≡ [] = none in absurd (let bad : ⊥ = cc in bad)

pub generations : GenerationsContinue
generations setup digest all follow =
    continue_from setup digest [] 0 (λ (left : List ℕ). left ≡ []) all tt (empty_left digest) follow

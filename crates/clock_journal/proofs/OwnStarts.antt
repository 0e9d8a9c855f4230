-- Starts on what a crash left of a journal with no text that its machine refuses.
use Rattle.std.proofs.Common.{◌≡◌, ◌+◌, ◌++◌, inl, inr, ℕ, zero, suc, List, [], ◌∷◌}
use Rattle.std.proofs.Common.{append-nil, length, reverse, take, drop, refl, sym, ap, ◌∙◌, subst}
use Rattle.clock_journal.specs.Crash.{IsEnd, IsFile, IsPartOfHead, LeavesJournal, LeavesTexts}
use Rattle.clock_journal.specs.Format.{before_text, head, last_link, link}
use Rattle.clock_journal.specs.Reading.{Next, ended, next, whole}
use Rattle.clock_journal.specs.Recovering.{IsFound}
use Rattle.clock_journal.specs.Resuming.{NoneRefused, IsNotRefused}
use Rattle.clock_journal.specs.declared.recovery.JournalFault.{JournalFault}
use Rattle.clock_journal.specs.declared.recovery.JournalFault.TheVariants as fault
use Rattle.clock_journal.proofs.Files.{reads_of}
use Rattle.clock_journal.proofs.Fronts.{IsNoText, ReadsTexts, end_is_none}
use Rattle.clock_journal.proofs.Lists.{reverse-oldest}
use Rattle.clock_journal.proofs.TakenOver.{left_headed, left_undamaged, none_in_head}

-- a text that is found after some texts of a file is one of the texts that the file reads as
found_among : (chain bytes : List ℕ) (all before : List (List ℕ)) (rest other_rest text : List ℕ) → ReadsTexts chain
    bytes all rest → IsNoText (next (last_link chain all) rest) → ReadsTexts chain bytes before other_rest
    → next (last_link chain before) other_rest ≡ whole text → (more : List (List ℕ)) × (all ≡ before ++ text ∷ more)
found_among chain bytes [] [] rest other_rest text reads stops others is =
    absurd (stops text (ap (next chain) (reads ∙ sym others) ∙ is))
found_among chain bytes [] (one ∷ before) rest other_rest text reads stops others is =
    absurd (stops one (ap (next chain) reads ∙ others.0))
found_among chain bytes (first ∷ all) [] rest other_rest text reads stops others is =
    let twice : whole first ≡ whole text = sym reads.0 ∙ (ap (next chain) (sym others) ∙ is) in
    let same : first ≡ text = cc in
    (all, ap (λ (t : List ℕ). t ∷ all) same)
found_among chain bytes (first ∷ all) (one ∷ before) rest other_rest text reads stops others is =
    let twice : whole one ≡ whole first = sym others.0 ∙ reads.0 in
    let same : one ≡ first = cc in
    let later = subst
    (λ (t : List ℕ). ReadsTexts (link chain t) (drop (before_text + length t) bytes) before other_rest) same others.1 in
    let now = subst (λ (t : List ℕ). next (last_link (link chain t) before) other_rest ≡ whole text) same is in
    let inner = found_among (link chain first) (drop (before_text + length first) bytes) all before rest other_rest text
    reads.1 stops later now in
    (inner.0, ap (λ (t : List ℕ). t ∷ all) (sym same) ∙ ap (λ (others : List (List ℕ)). one ∷ others) inner.1)

-- less than a head has no text
no_text : (digest bytes : List ℕ) (before : List (List ℕ)) (text : List ℕ) → IsPartOfHead digest bytes
    → IsFile digest bytes before (λ found. found ≡ whole text) → ⊥
no_text digest bytes before text part file =
    let none = none_in_head digest bytes before (λ (found : Next). found ≡ whole text) part file in
    let both : ended ≡ whole text = sym none.1 ∙ file.comes in
    cc

module _ (refuses : List (List ℕ) → List ℕ → Type 0) where
  pub not_refused_take : (past texts : List (List ℕ)) (count : ℕ) → NoneRefused refuses past texts
      → NoneRefused refuses past (take count texts)
  not_refused_take past [] zero fine = tt
  not_refused_take past [] (suc count) fine = tt
  not_refused_take past (text ∷ texts) zero fine = tt
  not_refused_take past (text ∷ texts) (suc count) fine =
      (fine.0, not_refused_take (text ∷ past) texts count fine.1)

  not_refused_at : (past before : List (List ℕ)) (text : List ℕ) (more : List (List ℕ))
      → NoneRefused refuses past (before ++ text ∷ more) → refuses (reverse before ++ past) text → ⊥
  not_refused_at past [] text more fine = fine.0
  not_refused_at past (one ∷ before) text more fine =
      subst (λ (all : List (List ℕ)). refuses all text → ⊥) (sym (reverse-oldest one before past))
      (not_refused_at (one ∷ past) before text more fine.1)

  not_refused_behind : (past texts : List (List ℕ)) (text : List ℕ) → NoneRefused refuses past texts
      → (refuses (reverse texts ++ past) text → ⊥) → NoneRefused refuses past (texts ++ text ∷ [])
  not_refused_behind past [] text fine is = (is, tt)
  not_refused_behind past (one ∷ texts) text fine is = (
    fine.0,
    not_refused_behind (one ∷ past) texts text fine.1
        (subst (λ (all : List (List ℕ)). refuses all text → ⊥) (reverse-oldest one texts past) is),
  )

  pub not_refused_push : (texts : List (List ℕ)) (text : List ℕ) → NoneRefused refuses [] texts
      → (refuses (reverse texts) text → ⊥) → NoneRefused refuses [] (texts ++ text ∷ [])
  not_refused_push texts text fine is = not_refused_behind [] texts text fine
      (subst (λ (all : List (List ℕ)). refuses all text → ⊥) (sym (append-nil (reverse texts))) is)

  -- so no text of the file is refused
  none_refused : (digest bytes : List ℕ) (texts : List (List ℕ)) (least : ℕ) (before : List (List ℕ))
      (text : List ℕ) → NoneRefused refuses [] texts → LeavesTexts digest bytes texts least
      → IsFile digest bytes before (λ found. found ≡ whole text) → refuses (reverse before) text → ⊥
  none_refused digest bytes texts least before text fine leaves file refused =
      let some = take leaves.count texts in
      let first = leaves.first in
      let among = found_among digest (drop (length (head digest)) bytes) some before first.rest file.rest text
      (reads_of digest bytes some IsEnd first) (end_is_none _ first.comes)
      (reads_of digest bytes before (λ (found : Next). found ≡ whole text) file) file.comes in
      let all = subst (λ (list : List (List ℕ)). NoneRefused refuses [] list) among.1
      (not_refused_take [] texts leaves.count fine) in
      subst (λ (past : List (List ℕ)). refuses past text → ⊥) (append-nil (reverse before))
      (not_refused_at [] before text among.0 all) refused

  -- each fault that a start may then report is of memory
  pub own_starts : (digest bytes : List ℕ) (texts : List (List ℕ)) (least : ℕ) (why : JournalFault)
      → NoneRefused refuses [] texts → LeavesJournal digest bytes texts least
      → IsFound refuses digest bytes why → IsNotRefused why
  own_starts digest bytes texts least fault.Unknown fine leaves found =
      absurd (found.0 (left_headed digest bytes texts least leaves))
  own_starts digest bytes texts least fault.Setup fine leaves found =
      absurd (found.0 (left_headed digest bytes texts least leaves))
  own_starts digest bytes texts least (fault.Damaged place) fine leaves found =
      absurd (left_undamaged digest bytes found.0 texts least found.1 leaves)
  own_starts digest bytes texts least (fault.Refused place) fine (inl leaves) found =
      absurd (none_refused digest bytes texts least found.0 found.1 fine leaves found.2 found.4)
  own_starts digest bytes texts least (fault.Refused place) fine (inr part) found =
      absurd (no_text digest bytes found.0 found.1 part.1 found.2)
  own_starts digest bytes texts least fault.NoMemory fine leaves found = inl refl
  own_starts digest bytes texts least fault.Failed fine leaves found = absurd found
  own_starts digest bytes texts least fault.Unread fine leaves found = absurd found

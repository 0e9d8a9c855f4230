-- A machine takes the next text of a journal.
use Rattle.std.proofs.Common.{◌≡◌, ◌+◌, List, [], ◌∷◌, ℕ, length, sym, ap, ◌∙◌, arith, reverse}
use Rattle.std.specs.Prelude.{IfErr, IfOk, Result, Ok, Err}
use Rattle.std.proofs.lemmas.List.{length-reverse, reverse-reverse}
use Rattle.clock_journal.specs.Format.{link, last_link}
use Rattle.clock_journal.specs.Recovering.{record_at}
use Rattle.clock_journal.specs.Resuming.{NoneRefused}
use Rattle.clock_journal.specs.Logged.{file_of}
use Rattle.clock_journal.specs.declared.recovery.Record.{Record}
use Rattle.clock_journal.proofs.Lists.{reverse-newest}
use Rattle.clock_journal.proofs.Moments.{last_link-push}

-- none is refused in addition to what holds
pub none_given : (Holds : Type 0) (refuses : List (List ℕ) → List ℕ → Type 0) (past texts : List (List ℕ)) → Holds
    → NoneRefused (λ past text. Holds × refuses past text) past texts → NoneRefused refuses past texts
none_given Holds refuses past [] holds none = tt
none_given Holds refuses past (text ∷ texts) holds none =
    (λ is. none.0 (holds, is), none_given Holds refuses (text ∷ past) texts holds none.1)

-- the record that the code makes is that of the next text
pub next_entry : (first : List ℕ) (texts : List (List ℕ)) (text chain : List ℕ) (count place : ℕ) (digest : List ℕ)
    → count ≡ length texts → place ≡ length (file_of first texts) → chain ≡ last_link first texts
    → digest ≡ link chain text → (let made : Record = record { number = count + 1; place = place; digest = digest } in
    made) ≡ record_at first (reverse texts) text
next_entry first texts text chain count place digest counts places linked is =
    ap (λ (n : ℕ). let made : Record = record { number = n + 1; place = place; digest = digest } in made)
    (let size = length-reverse texts in omega (arith, counts, size))
    ∙ ap (λ (at : ℕ). let made : Record = record { number = length (reverse texts) + 1; place = at; digest = digest } in
    made) (places ∙ ap (λ (all : List (List ℕ)). length (file_of first all)) (sym (reverse-reverse texts)))
    ∙ ap (λ (last : List ℕ). let made : Record = record {
      number = length (reverse texts) + 1;
      place = length (file_of first (reverse (reverse texts)));
      digest = last;
    } in made) (is ∙ ap (λ (before : List ℕ). link before text) linked ∙ sym (last_link-push first texts text)
    ∙ ap (last_link first) (sym (reverse-newest texts text)))

pub if_err : {T E : Type 0} (result : Result T E) (Some Other : E → Type 0) → ((why : E) → Some why → Other why)
    → IfErr result Some → IfErr result Other
if_err (Ok value) Some Other follows is = tt
if_err (Err why) Some Other follows is = follows why is

pub if_ok : {T E : Type 0} (result : Result T E) (Some Other : T → Type 0)
    → ((value : T) → Some value → Other value) → IfOk result Some → IfOk result Other
if_ok (Ok value) Some Other follows is = follows value is
if_ok (Err why) Some Other follows is = tt

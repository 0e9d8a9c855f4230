-- The lines of a listing are written piece by piece, and are those of the texts that were found.
use Rattle.std.proofs.Common.{◌≡◌, ◌<◌, ◌+◌, ◌++◌, inl, inr, ℕ, List, [], ◌∷◌, Option, Some, None, length, reverse}
use Rattle.std.proofs.Common.{append-nil, append_assoc, ap, refl, sym, ◌∙◌, subst, arith}
use Rattle.std.proofs.lemmas.List.{length-reverse, reverse-reverse}
use Rattle.clock_device.specs.Streams.{HasWritten}
use Rattle.clock_journal.specs.Recovering.{AreTextsOf, record_at}
use Rattle.clock_journal.specs.declared.recovery.Record.{Record}
use Rattle.clock_journal.specs.declared.recovery.Recovered.{Recovered}
use Rattle.clock_journal.proofs.Chains.{chain_binds}
use Rattle.clock_files.specs.Listings.{IsListingOf, IsShown, listing_text, text_listed}
use Rattle.clock_files.specs.inside.Listed.{IsListed, IsPrinted}

-- a text stays shown if its lines are written
pub written_shown : (old new : Option (List ℕ)) (lines written none text : List ℕ) → written ≡ lines → none ≡ []
    → HasWritten old new written → IsShown old lines text → IsShown new none text
written_shown None new lines written none text same empty has shown = absurd shown
written_shown (Some before) None lines written none text same empty has shown = absurd has
written_shown (Some before) (Some after) lines written none text same empty has shown =
    ap (λ (rest : List ℕ). after ++ rest) empty ∙ (append-nil after ∙ (has
    ∙ (ap (λ (bytes : List ℕ). before ++ bytes) same ∙ shown)))

-- a text with more lines
shown_more : (taken : Option (List ℕ)) (lines more text : List ℕ) → IsShown taken lines text
    → IsShown taken (lines ++ more) (text ++ more)
shown_more None lines more text shown = absurd shown
shown_more (Some bytes) lines more text shown =
    sym (append_assoc bytes lines more) ∙ ap (λ (all : List ℕ). all ++ more) shown

-- one more text is listed
pub list_more : (first : List ℕ) (past : List (List ℕ)) (text : List ℕ) (at : Record)
    (taken taken_new : Option (List ℕ)) (lines pushed lines_new : List ℕ) (most count : ℕ) (chain : List ℕ)
    → IsListed first past taken lines most count chain → at ≡ record_at first past text → count < most
    → pushed ≡ lines ++ text_listed at text
    → ((all : List ℕ) → IsShown taken pushed all → IsShown taken_new lines_new all)
    → IsListed first (text ∷ past) taken_new lines_new most (count + 1) at.digest
list_more first past text at taken taken_new lines pushed lines_new most count chain is same less pushed_is written =
    let now = is.all less in
    let before = subst (λ (listed : List (List ℕ)). IsShown taken lines (listing_text first listed)) now is.shown in
    let after = subst (λ (all : List ℕ). IsShown taken all (listing_text first past ++ text_listed at text))
    (sym pushed_is) (shown_more taken lines (text_listed at text) (listing_text first past) before) in
    record {
      listed = text ∷ past;
      shown = written (listing_text first (text ∷ past)) (subst (λ (record_is : Record). IsShown taken pushed
          (listing_text first past ++ text_listed record_is text)) same after);
      count_is = omega (arith, is.count_is, ap (λ (listed : List (List ℕ)). length listed) now);
      chain_is = ap (λ (record_is : Record). record_is.digest) same;
      all = λ more. refl;
    }

-- all lines are written
pub all_printed : (first last : List ℕ) (texts : List (List ℕ)) (taken taken_new : Option (List ℕ))
    (lines lines_new : List ℕ) (most wanted count : ℕ) (chain : List ℕ)
    → IsListed first texts taken lines most count chain → count ≡ most → most ≡ wanted → chain ≡ last
    → ((all : List ℕ) → IsShown taken lines all → IsShown taken_new lines_new all) → lines_new ≡ []
    → IsPrinted first wanted last taken_new
all_printed first last texts taken taken_new lines lines_new most wanted count chain is all same chain_is written
    empty =
    record {
      texts = reverse is.listed;
      count_is = length-reverse is.listed ∙ (sym is.count_is ∙ (all ∙ same));
      chain_is = sym is.chain_is ∙ chain_is;
      shown = subst (λ (rest : List ℕ). IsShown taken_new rest (listing_text first (reverse (reverse is.listed)))) empty
          (subst (λ (listed : List (List ℕ)). IsShown taken_new lines_new (listing_text first listed))
          (sym (reverse-reverse is.listed)) (written (listing_text first is.listed) is.shown));
    }

-- what is listed are the texts of the file, or others with equal digests
pub listing_is : (first bytes : List ℕ) (texts : List (List ℕ)) (old new : Option (List ℕ)) (recovered : Recovered)
    → length first ≡ 32 → AreTextsOf first bytes texts recovered
    → (IsShown old [] [] → IsPrinted first recovered.texts recovered.chain new)
    → IsListingOf first bytes old new recovered
listing_is first bytes texts old new recovered size are printed = record {
  texts = texts;
  are = are;
  listing = λ none. let is = printed none in record {
    listed = is.texts;
    same = elim (chain_binds first first is.texts texts size size (is.count_is ∙ are.count_is)
        (is.chain_is ∙ are.chain_is)) [
          | inl both ↦ inl both.1
          | inr found ↦ inr found
        ];
    shown = is.shown;
  };
}

-- What the command `journal` lists of a journal. Lists have the newest entry first. (Own format.)
--     text_listed record text      the line of a text, and its bytes as they came
--     listing_text first texts      the line of the set-up document's digest, and then the texts
--     IsShown taken lines text      a sink has this text once these lines are written
--     IsListing first texts taken      these texts are listed, or others with the same digests
--     IsListingOf first bytes old new recovered      all texts of a file are listed
--     IsListFault first bytes before after fault      the reported fault is one of this file, or
--         its source was not read
--     IsFaultOf first bytes before after old new fault      nothing was written, since the file
--         has this fault; or it has none, and was not listed
use Rattle.std.specs.Prelude.{◌≡◌, ◌⊎◌, ◌++◌, ℕ, List, Option, Some, None, [], ◌∷◌, codes, decimal}
use Rattle.std.specs.Prelude.{length, reverse}
use Rattle.hex.specs.Hex.{encode_lower}
use Rattle.clock_device.specs.Reports.{SourceReport}
use Rattle.clock_journal.specs.Chain.{CollisionIn, messages}
use Rattle.clock_journal.specs.Recovering.{AreTextsOf, record_at}
use Rattle.clock_journal.specs.Sources.{IsNotRead}
use Rattle.clock_journal.specs.declared.recovery.JournalFault.{JournalFault}
use Rattle.clock_journal.specs.declared.recovery.Record.{Record}
use Rattle.clock_journal.specs.declared.recovery.Recovered.{Recovered}
use Rattle.clock_console.specs.FaultLines.{of_journal}
use Rattle.clock_console.specs.declared.fault.Fault.{Fault}
use Rattle.clock_console.specs.declared.fault.Fault.TheVariants.{Journal, Memory, Output}

-- a number, and a space
abbrev pub spaced : ℕ → List ℕ
spaced number = decimal number ++ codes " "

-- a digest in digits, and the end of its line
abbrev pub digest_line : List ℕ → List ℕ
digest_line digest = encode_lower digest ++ codes "\n"

-- the word `text`, the number, place, and length, each with a space after it, the digest, and the
-- text
abbrev pub text_listed : Record → List ℕ → List ℕ
text_listed at text = codes "text " ++ spaced at.number ++ spaced at.place ++ spaced (length text)
    ++ digest_line at.digest ++ text ++ codes "\n"

-- the line of the set-up document, and then each text's lines, the oldest first
abbrev pub listing_text : List ℕ → List (List ℕ) → List ℕ
listing_text first [] = codes "setup " ++ digest_line first
listing_text first (text ∷ past) =
    listing_text first past ++ text_listed (record_at first past text) text

-- a sink reports its bytes, and with these lines after them, they are this text
abbrev pub IsShown : Option (List ℕ) → List ℕ → List ℕ → Type 0
IsShown None lines text = ⊥
IsShown (Some taken) lines text = taken ++ lines ≡ text

-- these texts are listed, or others with the same number and the same last digest
pub record IsListing (first : List ℕ) (texts : List (List ℕ)) (taken : Option (List ℕ))
    : Type 0 where
  pub listed : List (List ℕ)
  pub same : (listed ≡ texts) ⊎ CollisionIn (messages first listed) (messages first texts)
  pub shown : IsShown taken [] (listing_text first (reverse listed))

-- these are the texts of the file, and all of them are listed, if the sink reports that it had no
-- bytes
pub record IsListingOf (first bytes : List ℕ) (old new : Option (List ℕ)) (recovered : Recovered)
    : Type 0 where
  pub texts : List (List ℕ)
  pub are : AreTextsOf first bytes texts recovered
  pub listing : IsShown old [] [] → IsListing first texts new

-- the file has this fault, or memory ran out, or its source was not read; no text is refused
pub record IsListFault (first bytes : List ℕ) (before after : SourceReport) (reported : Fault)
    : Type 0 where
  pub fault : JournalFault
  pub reported_is : reported ≡ of_journal fault
  pub is : IsNotRead (λ past text. ⊥) first bytes before after fault

-- memory ran out, a write failed, or the file could not be read again, or has other texts now
abbrev pub IsUnlisted : Fault → Type 0
IsUnlisted reported = (reported ≡ Memory) ⊎ ((reported ≡ Output) ⊎ (reported ≡ Journal))

-- nothing was written, since the file has this fault; or it has none, and was not listed
abbrev pub IsFaultOf : List ℕ → List ℕ → SourceReport → SourceReport → Option (List ℕ)
    → Option (List ℕ) → Fault → Type 0
IsFaultOf first bytes before after old new reported =
    ((new ≡ old) × IsListFault first bytes before after reported)
    ⊎ ((texts : List (List ℕ)) × (recovered : Recovered) × AreTextsOf first bytes texts recovered
    × IsUnlisted reported)

-- Laws of every journal's file, whatever a crash leaves of it.
--     EveryFront      a prefix of a file has the first of its texts
--     WhateverFollows      a file that begins with a journal has that journal's texts first
--     ReadsBack      what reads as a text is its record, and the other way round
use Rattle.std.specs.Prelude.{◌≡◌, ◌<◌, ◌≤◌, ◌++◌, ℕ, List, get_or, length, take}
use Rattle.clock_journal.specs.Crash.{BeginsWithTexts, IsEnd, IsFile, LeavesTexts}
use Rattle.clock_journal.specs.Format.{Fits, record_of}
use Rattle.clock_journal.specs.Logged.{file_of}
use Rattle.clock_journal.specs.Reading.{next, whole}

-- a prefix with all bytes of the first `least` texts has these, and perhaps further ones in order
abbrev pub EveryFront : Type 0
EveryFront = (digest bytes : List ℕ) (texts : List (List ℕ)) (least count : ℕ)
    → IsFile digest bytes texts IsEnd → least ≤ length texts
    → length (file_of digest (take least texts)) ≤ count
    → LeavesTexts digest (take count bytes) texts least

-- a file that begins with a journal has that journal's texts first: it has one list of texts only
abbrev pub WhateverFollows : Type 0
WhateverFollows = (digest bytes : List ℕ) (first texts : List (List ℕ))
    → BeginsWithTexts digest bytes first
    → IsFile digest bytes texts (λ found. (text : List ℕ) → found ≡ whole text → ⊥)
    → (further : List (List ℕ)) × (texts ≡ first ++ further)

-- bytes read as a text if and only if they begin with its record: it has one encoding only
abbrev pub ReadsBack : Type 0
ReadsBack = (chain bytes text : List ℕ) → (((place : ℕ) → get_or bytes place 0 < 256)
    → next chain bytes ≡ whole text
    → Fits text × ((rest : List ℕ) × (bytes ≡ record_of chain text ++ rest)))
    × ((rest : List ℕ) → Fits text → next chain (record_of chain text ++ rest) ≡ whole text)

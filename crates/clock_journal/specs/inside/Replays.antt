-- How a machine takes the texts of a journal, one after the other.
--     IsOnWay new digest bytes chain count rest      `count` texts were taken, and `rest` is
--         left
use Rattle.std.specs.Prelude.{◌≡◌, ◌++◌, ℕ, List, length, All, reverse}
use Rattle.clock_journal.specs.Format.{last_link, Fits}
use Rattle.clock_journal.specs.Logged.{file_of}

-- the file is the journal of `count` texts, which were taken, and `rest` is left
pub record IsOnWay (new : List ℕ → List (List ℕ) → Type 0) (digest bytes chain : List ℕ)
    (count : ℕ) (rest : List ℕ) : Type 0 where
  pub texts : List (List ℕ)
  pub fit : All Fits texts
  pub file : bytes ≡ file_of digest texts ++ rest
  pub chain_is : chain ≡ last_link digest texts
  pub count_is : count ≡ length texts
  pub stands : new digest (reverse texts)

-- Texts that are listed one after the other. Lists have the newest entry first.
--     IsListed first texts taken lines most count chain      the first of the texts are listed
--     IsPrinted first count chain taken      all texts of this number and last digest are listed
use Rattle.std.specs.Prelude.{◌≡◌, ◌<◌, ℕ, List, [], Option, length, reverse}
use Rattle.clock_journal.specs.Format.{last_link}
use Rattle.clock_files.specs.Listings.{IsShown, listing_text}

-- the first texts are listed, at most this number of them, with their number and last digest
pub record IsListed (first : List ℕ) (texts : List (List ℕ)) (taken : Option (List ℕ))
    (lines : List ℕ) (most count : ℕ) (chain : List ℕ) : Type 0 where
  pub listed : List (List ℕ)
  pub shown : IsShown taken lines (listing_text first listed)
  pub count_is : count ≡ length listed
  pub chain_is : chain ≡ last_link first (reverse listed)
  pub all : count < most → listed ≡ texts

-- texts of this number and this last digest are listed
pub record IsPrinted (first : List ℕ) (count : ℕ) (chain : List ℕ) (taken : Option (List ℕ))
    : Type 0 where
  pub texts : List (List ℕ)
  pub count_is : length texts ≡ count
  pub chain_is : last_link first texts ≡ chain
  pub shown : IsShown taken [] (listing_text first (reverse texts))

-- Laws of framing. For each, clock_http has a function `law_..` that carries its proof.
--     IsDecidedOnce      a decided text has the same framing, whatever follows
--     IsKnownByParts      what is known of a text follows from what is known of a prefix
--     IsHeadOfGrammar      our head of bytes is their only one by the grammar of HTTP
--     HasOneHead      a decided text has the same head, whatever follows
use Rattle.std.specs.Prelude.{◌≡◌, ◌++◌, ◌↔◌, ℕ, List, [], Some, false}
use Rattle.httparse.specs.Grammar.{RequestHead, ReadsRequest}
use Rattle.clock_http.specs.Scans.{is_loose}
use Rattle.clock_http.specs.Heads.{head_of}
use Rattle.clock_http.specs.Framing.{framing, known, advanced, head_in, IsDecided}

-- if no line of the bytes ends loosely, our head of them is their only one by the grammar
abbrev pub IsHeadOfGrammar : Type 0
IsHeadOfGrammar = (bytes : List ℕ) (head : RequestHead) → is_loose bytes ≡ false
    → (head_of bytes ≡ Some head) ↔ ReadsRequest bytes head []

-- adding bytes to a decided text does not change its framing
abbrev pub IsDecidedOnce : Type 0
IsDecidedOnce = (text more : List ℕ) → IsDecided text → framing (text ++ more) ≡ framing text

-- what is known of a text follows from what was known of a prefix
abbrev pub IsKnownByParts : Type 0
IsKnownByParts = (text more : List ℕ) → known (text ++ more) ≡ advanced (known text) (text ++ more)

-- adding bytes to a decided text does not change its head
abbrev pub HasOneHead : Type 0
HasOneHead = (text more : List ℕ) → IsDecided text → head_in (text ++ more) ≡ head_in text

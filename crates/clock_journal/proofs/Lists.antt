-- Lists with the newest first, and how many texts a file has.
use Rattle.std.proofs.Common.{◌≡◌, ◌≤◌, ◌++◌, ℕ, List, [], ◌∷◌, length, reverse, ap, ◌∙◌, arith, length-append}
use Rattle.std.proofs.lemmas.List.{append_assoc, reverse-append, reverse-reverse}
use mathlib.Core.List.{reverse-cons}
use Rattle.clock_journal.specs.Format.{link, record_of, records}
use Rattle.clock_journal.proofs.Records.{length-record}

-- one more text is the newest
pub reverse-push : (texts : List (List ℕ)) (text : List ℕ) → reverse (texts ++ text ∷ []) ≡ text ∷ reverse texts
reverse-push texts text = reverse-append texts (text ∷ [])

-- the newest text is the last one
pub reverse-newest : (texts : List (List ℕ)) (text : List ℕ) → reverse (text ∷ reverse texts) ≡ texts ++ text ∷ []
reverse-newest texts text = reverse-cons text (reverse texts)
    ∙ ap (λ (all : List (List ℕ)). all ++ text ∷ []) (reverse-reverse texts)

-- the oldest text comes before the past
pub reverse-oldest : (text : List ℕ) (texts past : List (List ℕ))
    → reverse (text ∷ texts) ++ past ≡ reverse texts ++ text ∷ past
reverse-oldest text texts past = ap (λ (all : List (List ℕ)). all ++ past) (reverse-cons text texts)
    ∙ append_assoc (reverse texts) (text ∷ []) past

-- each record has at least one byte, so there are no more texts than bytes
pub many_bytes : (chain : List ℕ) (texts : List (List ℕ)) → length texts ≤ length (records chain texts)
many_bytes chain [] = omega arith
many_bytes chain (text ∷ texts) =
    let one = length-record chain text in
    let all = length-append (record_of chain text) (records (link chain text) texts) in
    omega (arith, one, all, many_bytes (link chain text) texts)

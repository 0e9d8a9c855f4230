-- Proves the bytes of a product's line, whose numbers are written from its end to its start, and the lines of a list.
use Rattle.std.proofs.Common.{◌≡◌, List, ℕ, ◌++◌, codes, ap, append_assoc, ◌∙◌}

in_order : (text name a b c d e : List ℕ) → (text ++ name) ++ (codes " "
    ++ (a ++ (codes " " ++ (b ++ (codes " " ++ (c ++ (codes " " ++ (d ++ (codes " " ++ (e ++ codes "\n")))))))))) ≡ text
    ++ (name ++ codes " " ++ a ++ codes " " ++ b ++ codes " " ++ c ++ codes " " ++ d ++ codes " " ++ e ++ codes "\n")
in_order text name a b c d e = simp append_assoc

-- The numbers come after the name.
pub line_added : (text name written a b c d e : List ℕ) → written ≡ codes " " ++ (a ++ (codes " "
    ++ (b ++ (codes " " ++ (c ++ (codes " " ++ (d ++ (codes " " ++ (e ++ codes "\n"))))))))) → (text ++ name) ++ written
    ≡ text
    ++ (name ++ codes " " ++ a ++ codes " " ++ b ++ codes " " ++ c ++ codes " " ++ d ++ codes " " ++ e ++ codes "\n")
line_added text name written a b c d e is =
    ap (λ (numbers : List ℕ). (text ++ name) ++ numbers) is ∙ in_order text name a b c d e

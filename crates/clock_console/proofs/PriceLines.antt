-- Proves the bytes of a price line, whose numbers are written from its end to its start.
use Rattle.std.proofs.Common.{◌≡◌, List, ℕ, ◌++◌, codes, ap, append_assoc, ◌∙◌}
use Rattle.std.specs.Prelude.{Result, Ok, Err, OnOk}

in_order : (text name a b : List ℕ) → (text ++ name) ++ (codes " " ++ (a ++ (codes " " ++ (b ++ codes "\n"))))
    ≡ text ++ (name ++ codes " " ++ a ++ codes " " ++ b ++ codes "\n")
in_order text name a b = simp append_assoc

-- the numbers come after the name
pub line_added : {T E : Type 0} (text name next written a b : List ℕ) (result : Result T E)
    → OnOk result (next ≡ (text ++ name) ++ written)
    → written ≡ codes " " ++ (a ++ (codes " " ++ (b ++ codes "\n")))
    → OnOk result (next ≡ text ++ (name ++ codes " " ++ a ++ codes " " ++ b ++ codes "\n"))
line_added text name next written a b (Ok done) added is =
    added ∙ ap (λ (numbers : List ℕ). (text ++ name) ++ numbers) is ∙ in_order text name a b
line_added text name next written a b (Err fault) added is = tt

-- The texts of bodies in the pieces in which they are pushed.
use Rattle.std.proofs.Common.{◌≡◌, ℕ, List, ◌∷◌, ◌++◌, codes, decimal, refl, ap, ◌∙◌, append_assoc}
use Rattle.std.specs.Prelude.{Result, Ok, Err, OnOk}
use Rattle.serde_json.specs.Written.{compact_text}
use Rattle.serde_json.proofs.OnLiterals.{serde_json_on_literals}
use Rattle.clock_terms.specs.declared.increments.Increments.{Increments}
use Rattle.clock_terms.specs.declared.increments.Increments.TheVariants.{Single, PerProduct}
use Rattle.clock_bids.specs.declared.sheet.Bid.{Bid}
use Rattle.clock_order.specs.declared.ties.Tie.{Tie}
use Rattle.clock_views.specs.Values.{list_of}
use Rattle.clock_views.specs.inside.Values.{Adds}
use Rattle.clock_views.proofs.Pushes.{before, together}
use Rattle.clock_views.proofs.Texts.{bid_in_pieces}
use Rattle.clock_scripts.specs.RequestTexts.{tie_value, close_value}
use Rattle.clock_scripts.specs.inside.{Arrays.{with_comma}, Bodies.{bid_text}}
use Rattle.clock_scripts.specs.inside.RequestTexts.{increments_text}

-- a piece, and what the last call adds after it
pub before_ok : {T E : Type 0} {piece text next : List ℕ} (rest whole : List ℕ) (result : Result T E)
    → Adds piece text next → OnOk result (Adds rest next whole) → OnOk result (Adds (piece ++ rest) text whole)
before_ok rest whole (Ok done) first others = before first others
before_ok rest whole (Err fault) first others = tt

-- and pieces that are together a text
pub together_ok : {T E : Type 0} {pieces piece : List ℕ} (text whole : List ℕ) (result : Result T E) → piece ≡ pieces
    → OnOk result (Adds pieces text whole) → OnOk result (Adds piece text whole)
together_ok text whole (Ok done) is added = together is added
together_ok text whole (Err fault) is added = tt

bid_regrouped : (z a b c d e f g : List ℕ) → z ++ ((a ++ b) ++ ((c ++ d) ++ ((e ++ f) ++ g)))
    ≡ (z ++ a) ++ (b ++ (c ++ (d ++ (e ++ (f ++ g)))))
bid_regrouped z a b c d e f g = simp append_assoc

-- a bid with its comma
pub bid_with_comma : (bid : Bid) → bid_text bid
    ≡ codes ",{\"price\":" ++ (decimal bid.price ++ (codes ",\"product\":" ++ (decimal bid.product
    ++ (codes ",\"quantity\":" ++ (decimal bid.quantity ++ codes "}")))))
bid_with_comma bid =
    ap (λ (text : List ℕ). 44 ∷ text) (bid_in_pieces bid)
    ∙ bid_regrouped (codes ",") (codes "{\"price\":") (decimal bid.price) (codes ",\"product\":") (decimal bid.product)
    (codes ",\"quantity\":") (decimal bid.quantity) (codes "}")

-- a tie-breaking number with its comma
pub tie_with_comma : (tie : Tie) → with_comma tie_value tie
    ≡ codes ",[" ++ (decimal tie.bidder ++ (codes "," ++ (decimal tie.product
    ++ (codes "," ++ (decimal tie.number ++ codes "]")))))
unfolding serde_json_on_literals
tie_with_comma tie = refl

pub close_in_pieces : (round : ℕ) (increments : Increments) (ties : List Tie)
    → compact_text (close_value round increments ties)
    ≡ increments_text increments ++ ((codes ",\"round\":" ++ decimal round)
    ++ (codes ",\"ties\":" ++ (compact_text (list_of tie_value ties) ++ codes "}")))
unfolding close_value serde_json_on_literals
close_in_pieces round (Single increment) ties = refl
close_in_pieces round (PerProduct increments) ties = refl

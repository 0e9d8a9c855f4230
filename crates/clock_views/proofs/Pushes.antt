-- Pieces that are added one after the other.
use Rattle.std.proofs.Common.{◌≡◌, ℕ, List, ◌++◌, Result, Ok, Err, append_assoc, ap, sym, ◌∙◌}
use Rattle.std.specs.Result.{IsErrAnd}
use Rattle.serde_json.specs.Data.{Data}
use Rattle.clock_views.specs.Rooms.{IsHeaded, most_text}
use Rattle.clock_views.specs.inside.Values.{Adds}

pub added : {piece old new : List ℕ} → new ≡ old ++ piece → Adds piece old new
added is = record { is = is }

-- a piece, and what is added after it
pub before : {piece rest text next whole : List ℕ} → Adds piece text next → Adds rest next whole
    → Adds (piece ++ rest) text whole
before {piece = piece} {rest = rest} {text = text} first others =
    record { is = others.is ∙ ap (λ s. s ++ rest) first.is ∙ append_assoc text piece rest }

-- pieces that are together a text
pub together : {pieces text whole piece : List ℕ} → piece ≡ pieces → Adds pieces text whole → Adds piece text whole
together {text = text} is added = record { is = added.is ∙ ap (λ s. text ++ s) (sym is) }

-- a page that was added to a head
pub headed : {page head first last text : List ℕ} → text ≡ last → first ≡ head → Adds page first last
    → text ≡ head ++ page
headed {page = page} given begun adds = given ∙ adds.is ∙ ap (λ s. s ++ page) begun

-- the room for a page that was refused
pub refused : (head : List ℕ) (value : Data) (result : Result (List ℕ) ℕ) (room : ℕ)
    → IsErrAnd result (λ reported. reported ≡ room) → room ≡ most_text value → IsHeaded head value result
refused head value (Ok text) room reported is = absurd reported
refused head value (Err same) room reported is = reported ∙ is

-- Texts that an auction accepted are not refused.
use Rattle.std.proofs.Common.{◌≡◌, ◌++◌, ℕ, Bool, true, false, List, [], ◌∷◌, reverse, refl, sym, ◌∙◌}
use Rattle.clock_terms.specs.Limits.{SetupFields}
use Rattle.clock_front.specs.Effects.{effect}
use Rattle.clock_journal.specs.Resuming.{NoneRefused}
use Rattle.clock_journal.proofs.OwnStarts.{not_refused_push}
use Rattle.clock_server.specs.Keeping.{IsAccepted, IsRefused, is_change, logged_after}
use Rattle.clock_server.proofs.EffectLaws.{logged_when}

pub not_both : (changes : Bool) → changes ≡ true → changes ≡ false → ⊥
not_both changes one other = let bad : true ≡ false = sym one ∙ other in cc

pub accepted_push : (setup : SetupFields) (texts : List (List ℕ)) (text : List ℕ)
    → NoneRefused (IsRefused setup) [] texts → IsAccepted setup (reverse texts) text
    → NoneRefused (IsRefused setup) [] (texts ++ text ∷ [])
accepted_push setup texts text accepted is = not_refused_push (IsRefused setup) texts text accepted
    (not_both (is_change (effect setup (reverse texts) text)) is)

-- a text is logged only if it is accepted
logged_if : (changes : Bool) (setup : SetupFields) (texts : List (List ℕ)) (text : List ℕ)
    → is_change (effect setup (reverse texts) text) ≡ changes → NoneRefused (IsRefused setup) [] texts
    → NoneRefused (IsRefused setup) [] (logged_when changes texts text)
logged_if true setup texts text is accepted = accepted_push setup texts text accepted is
logged_if false setup texts text is accepted = accepted

pub accepted_after : (setup : SetupFields) (texts : List (List ℕ)) (text : List ℕ)
    → NoneRefused (IsRefused setup) [] texts → NoneRefused (IsRefused setup) [] (logged_after setup texts text)
accepted_after setup texts text accepted =
    logged_if (is_change (effect setup (reverse texts) text)) setup texts text refl accepted

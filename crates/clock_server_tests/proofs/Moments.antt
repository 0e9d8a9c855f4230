-- One more moment has passed.
use Rattle.std.proofs.Common.{◌≡◌, ◌++◌, ℕ, List, [], ◌∷◌, Some, refl, ap, ◌∙◌}
use Rattle.clock_journal.specs.Disks.{Moment}
use Rattle.clock_server_tests.specs.inside.Moments.{newest_first}

newest-push : {A : Type 0} (shown : A → Moment) (list : List A) (one : A) (past : List Moment)
    → newest_first shown (list ++ one ∷ []) past ≡ shown one ∷ newest_first shown list past
newest-push shown [] one past = refl
newest-push shown (first ∷ others) one past = newest-push shown others one (shown first ∷ past)

pub one_more : {A : Type 0} (shown : A → Moment) (old new : List A) (one : A) → new ≡ old ++ one ∷ []
    → newest_first shown new [] ≡ shown one ∷ newest_first shown old []
one_more {A = A} shown old new one is =
    ap (λ (list : List A). newest_first shown list []) is ∙ newest-push shown old one []

-- with what was synced and written then
pub passes : {A : Type 0} (synced_of written_of : A → List ℕ) (old new : List A) (one : A) (synced written : List ℕ)
    → new ≡ old ++ one ∷ [] → synced_of one ≡ synced → written_of one ≡ written
    → newest_first (λ (p : A). record { synced = Some (synced_of p); written = Some (written_of p) }) new []
    ≡ record { synced = Some synced; written = Some written }
    ∷ newest_first (λ (p : A). record { synced = Some (synced_of p); written = Some (written_of p) }) old []
passes {A = A} synced_of written_of old new one synced written is on_disk all =
    one_more (λ (p : A). record { synced = Some (synced_of p); written = Some (written_of p) }) old new one is
    ∙ ap (λ (bytes : List ℕ). (let moment : Moment = record { synced = Some bytes; written = Some (written_of one) } in
    moment) ∷ newest_first (λ (p : A). record { synced = Some (synced_of p); written = Some (written_of p) }) old [])
    on_disk
    ∙ ap (λ (bytes : List ℕ). (let moment : Moment = record { synced = Some synced; written = Some bytes } in
    moment) ∷ newest_first (λ (p : A). record { synced = Some (synced_of p); written = Some (written_of p) }) old [])
    all

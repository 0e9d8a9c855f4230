-- Lists that grow by one connection at a time.
use Rattle.std.proofs.Common.{ℕ, List, [], ◌∷◌, ◌++◌, map, Option, Some, None}
use Rattle.std.proofs.Common.{refl, sym, ap, ◌∙◌, subst, append_assoc, append-nil}
use Rattle.clock_terms.specs.Limits.{SetupFields}
use Rattle.std.proofs.lemmas.List.{map-append}
use Rattle.clock_server.specs.Keeping.{GrowsBy}
use Rattle.clock_server.specs.Exchanges.{Came, Exchange, bytes_given}
use Rattle.clock_server.specs.Serving.{ServerState, LogsText, Walks}

-- nothing was appended
pub grown_none : {A : Type 0} (list : Option (List A)) → GrowsBy list list []
grown_none None = tt
grown_none (Some old) = ap Some (sym (append-nil old))

-- these were appended, and then those
pub grown_more : {A : Type 0} (first mid last : Option (List A)) (some others : List A) → GrowsBy first mid some
    → GrowsBy mid last others → GrowsBy first last (some ++ others)
grown_more None mid last some others before after = tt
grown_more {A = A} (Some old) mid last some others before after =
    subst (λ (list : Option (List A)). GrowsBy list last others) before after ∙ ap Some (append_assoc old some others)

-- none came
pub came_none : (coming : Option (List (List ℕ))) → Came coming coming []
came_none None = tt
came_none (Some coming) = (coming, refl, refl)

came_then : (first mid last : Option (List (List ℕ))) (some others : List (Option (List ℕ))) → Came first mid some
    → Came mid last others → Came first last (some ++ others)
came_then None mid last some others before after = tt
came_then (Some coming) mid last some others before after =
    let later : Came (Some before.0) last others =
    subst (λ (left : Option (List (List ℕ))). Came left last others) before.1 after in (
      later.0,
      later.1,
      before.2 ∙ ap (λ (given : List (Option (List ℕ))). some ++ given) later.2
          ∙ sym (append_assoc some others (map Some later.0)),
    )

-- these came, and then one more
pub came_more : (first mid last : Option (List (List ℕ))) (exchanges : List Exchange) (one : Exchange)
    → Came first mid (bytes_given exchanges) → Came mid last (bytes_given (one ∷ []))
    → Came first last (bytes_given (exchanges ++ one ∷ []))
came_more first mid last exchanges one before after = subst (λ (given : List (Option (List ℕ))). Came first last given)
    (sym (map-append (λ one. one.reading.before.left) exchanges (one ∷ [])))
    (came_then first mid last (bytes_given exchanges) (bytes_given (one ∷ [])) before after)

-- one more connection
pub walks_on : (setup : SetupFields) (past : ServerState) (exchanges : List Exchange) (end : ServerState)
    (one : Exchange) (next : ServerState) → Walks setup past exchanges end → LogsText setup end one next
    → Walks setup past (exchanges ++ one ∷ []) next
walks_on setup past [] end one next walks logs =
    (next, subst (λ (now : ServerState). LogsText setup now one next) walks logs, refl)
walks_on setup past (first ∷ others) end one next walks logs =
    (walks.0, walks.1, walks_on setup walks.0 others end one next walks.2 logs)

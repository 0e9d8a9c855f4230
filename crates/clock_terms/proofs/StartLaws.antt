-- The starts of groups, from which a search for a product begins. They are right in an empty row and when a row is
-- read. Inserting or removing an entry moves the starts of all later groups by one.
use Rattle.std.proofs.Common.{◌≡◌, ℕ, ◌+◌, ◌-◌, ◌*◌, ◌/◌, ◌<◌, ◌≤◌, List, [], length, get_or, insert, remove, replicate}
use Rattle.std.proofs.Common.{ap, sym, subst, take, drop, ◌∙◌, ◌++◌, ⊎_elim, arith}
use Rattle.std.proofs.Math.Seq.{take-append_seam}
use Rattle.std.proofs.lemmas.Bool.{cases_lt, cases_eq}
use Rattle.std.proofs.lemmas.List.{get_or_default, get_or-replicate, length-replicate}
use Rattle.std.proofs.lemmas.List.Edits.{length-insert, length-remove, get_or-insert_at, get_or-insert_below}
use Rattle.std.proofs.lemmas.List.Edits.{get_or-insert_above}
use Rattle.std.proofs.lemmas.List.Edits.{get_or-remove_below, get_or-remove_above}
use Rattle.clock_terms.specs.declared.held_list.PositiveDemand.{PositiveDemand}
use Rattle.clock_terms.specs.HeldDemands.{demands_of}
use Rattle.clock_terms.specs.inside.Rows.{ArePositiveDemands, AreStarts, IsFirstFrom, IsPackedRow, IsStart, IsAtIndex}
use Rattle.clock_terms.specs.inside.Rows.{BelongsAtIndex, group_size}
use Rattle.clock_terms.proofs.HeldLaws.{below_count, rising}

-- without entries each group starts at index 0
pub starts_none : (held : List PositiveDemand) (starts : List ℕ) (count : ℕ) → held ≡ [] → starts ≡ replicate count 0
    → AreStarts held starts
starts_none held starts count empty zeros = λ group within.
    let none : get_or starts group 0 ≡ 0 = ap (λ (list : List ℕ). get_or list group 0) zeros ∙ get_or-replicate count
    group 0 0 (omega (arith, within, ap (λ (list : List ℕ). length list) zeros, length-replicate {A = ℕ} count 0)) in (
      (omega (arith, none), λ k d low high. absurd (omega (arith, high, none))),
      λ d inside. absurd (omega (arith, inside, ap (λ (list : List PositiveDemand). length list) empty)),
    )

-- the start of a product's group, as it is read from the row, is a start for the product
pub start_read : (count : ℕ) (held seen : List PositiveDemand) (starts : List ℕ) (capacity : ℕ) (row : List ℕ)
    (product start : ℕ) → IsPackedRow count held starts capacity → demands_of count held ≡ row → product < length row
    → seen ≡ held → start ≡ get_or starts (product / group_size) start → IsStart seen product start
start_read count held seen starts capacity row product start kept is within same read =
    let group = product / group_size in
    let known : group < length starts = omega (arith, kept.searched, below_count count held row product is within) in
    let first = kept.starts group known in
    let whole : start ≡ get_or starts group 0 = read ∙ get_or_default starts group start 0 known in
    subst (λ (list : List PositiveDemand). IsStart list product start) (sym same)
    (omega (arith, whole, first.0.0), λ k d low high. omega (arith, first.0.1 k d low (omega (arith, whole, high))))

-- ---- an entry is inserted

-- entries after index `place` move up by one
behind_insert : (held : List PositiveDemand) (one d : PositiveDemand) (place k : ℕ) → place ≤ length held → place < k
    → get_or (insert held place one) k d ≡ get_or held (k - 1) d
behind_insert held one d place k within above =
    let next : k ≡ (k - 1) + 1 = omega (arith, above) in
    ap (λ (n : ℕ). get_or (insert held place one) n d) next
    ∙ get_or-insert_above held place one d (k - 1) (omega (arith, above)) within

-- the entries before a later start are still for lower products, with the new one among them
smaller_insert : (held : List PositiveDemand) (one : PositiveDemand) (place product start k : ℕ) (d : PositiveDemand)
    → place ≤ length held → one.product < product → IsStart held product start → k < start + 1 → place ≤ start
    → (get_or (insert held place one) k d).product < product
smaller_insert held one place product start k d within smaller is high before =
    let IsSmaller : PositiveDemand → Type 0 = λ o. o.product < product in
    ⊎_elim (λ (ahead : k < place). subst IsSmaller (sym (get_or-insert_below held place one d k ahead within))
    (is.1 k d (omega arith) (omega (arith, ahead, before)))) (λ (rest : place ≤ k).
    ⊎_elim (λ (here : place ≡ k). subst (λ (n : ℕ). IsSmaller (get_or (insert held place one) n d)) here
    (subst IsSmaller (sym (get_or-insert_at held place one d within)) smaller))
    (λ other. subst IsSmaller (sym (behind_insert held one d place k within (omega (arith, rest, other))))
    (is.1 (k - 1) d (omega arith) (omega (arith, high, rest, other)))) (cases_eq place k)) (cases_lt k place)

-- inserting an entry moves the start of a later group up by one
pub start_moved : (held : List PositiveDemand) (one : PositiveDemand) (place product start : ℕ)
    → BelongsAtIndex held one.product place → one.product < product → IsFirstFrom held product start
    → IsFirstFrom (insert held place one) product (start + 1)
start_moved held one place product start would smaller first =
    let within = would.0.0 in
    let before : place ≤ start = ⊎_elim (λ (later : start < place). absurd
    (omega (arith, first.1 one (omega (arith, later, within)), would.0.1 start one (omega arith) later, smaller)))
    (λ (is : place ≤ start). is) (cases_lt start place) in
    let size = length-insert held place one within in (
      (
        omega (arith, size, first.0.0),
        λ k d low high. smaller_insert held one place product start k d within smaller first.0 high before,
      ),
      λ d inside. subst (λ (o : PositiveDemand). product ≤ o.product)
          (sym (get_or-insert_above held place one d start before within)) (first.1 d (omega (arith, inside, size))),
    )

-- and leaves the start of its own group and of earlier ones
pub start_stays : (held : List PositiveDemand) (one : PositiveDemand) (place product start : ℕ)
    → BelongsAtIndex held one.product place → product ≤ one.product → IsFirstFrom held product start
    → IsFirstFrom (insert held place one) product start
start_stays held one place product start would smaller first =
    let within = would.0.0 in
    let before : start ≤ place = ⊎_elim (λ (later : place < start). absurd
    (omega (arith, would.1 one (omega (arith, later, first.0.0)), first.0.1 place one (omega arith) later, smaller)))
    (λ (is : start ≤ place). is) (cases_lt place start) in
    let size = length-insert held place one within in
    let IsFrom : PositiveDemand → Type 0 = λ o. product ≤ o.product in (
      (
        omega (arith, size, first.0.0),
        λ k d low high. subst (λ (o : PositiveDemand). o.product < product) (sym (get_or-insert_below held place one d k
            (omega (arith, high, before)) within)) (first.0.1 k d low high),
      ),
      λ d inside. ⊎_elim (λ (ahead : start < place). subst IsFrom (sym (get_or-insert_below held place one d start ahead
          within)) (first.1 d (omega (arith, ahead, within)))) (λ (at : place ≤ start).
          let here : place ≡ start = omega (arith, at, before) in
          subst (λ (n : ℕ). IsFrom (get_or (insert held place one) n d)) here
          (subst IsFrom (sym (get_or-insert_at held place one d within)) smaller)) (cases_lt start place),
    )

-- ---- an entry is removed

-- a later group starts after the removed entry
pub start_behind : (held : List PositiveDemand) (place product taken start : ℕ) → IsAtIndex held taken place
    → taken < product → IsFirstFrom held product start → place < start
start_behind held place product taken start stands smaller first =
    let none : PositiveDemand = record { product = 0; demand = 0 } in
    ⊎_elim
    (λ (is : place < start). is)
    (λ (later : start ≤ place).
    let from = first.1 none (omega (arith, later, stands.1)) in
    ⊎_elim
    (λ (here : start ≡ place).
    absurd (omega (arith, from, ap (λ (n : ℕ). (get_or held n none).product) here, stands.2 none, smaller)))
    (λ other. absurd (omega (arith, from, stands.0.1 start none (omega arith) (omega (arith, later, other)), smaller)))
    (cases_eq start place))
    (cases_lt place start)

-- so its start moves down by one
pub start_moved_back : (held : List PositiveDemand) (place product taken start : ℕ) → IsAtIndex held taken place
    → taken < product → IsFirstFrom held product start → IsFirstFrom (remove held place) product (start - 1)
start_moved_back held place product taken start stands smaller first =
    let within = stands.1 in
    let behind = start_behind held place product taken start stands smaller first in
    let size = length-remove held place within in
    let last : (start - 1) + 1 ≡ start = omega (arith, behind) in
    let IsSmaller : PositiveDemand → Type 0 = λ o. o.product < product in (
      (
        omega (arith, size, first.0.0),
        λ k d low high. ⊎_elim (λ (ahead : k < place). subst IsSmaller
            (sym (get_or-remove_below held place d k ahead within)) (first.0.1 k d low (omega (arith, ahead, behind))))
            (λ (rest : place ≤ k). subst IsSmaller (sym (get_or-remove_above held place d k rest within))
            (first.0.1 (k + 1) d (omega arith) (omega (arith, high)))) (cases_lt k place),
      ),
      λ d inside.
          let moved : get_or (remove held place) (start - 1) d ≡ get_or held start d = get_or-remove_above held place d
          (start - 1) (omega (arith, behind)) within ∙ ap (λ (n : ℕ). get_or held n d) last in
          subst (λ (o : PositiveDemand). product ≤ o.product) (sym moved)
          (first.1 d (omega (arith, inside, size, behind))),
    )

-- the start of its own group and of earlier ones does not move
pub start_stays_behind : (held : List PositiveDemand) (count place product taken start : ℕ)
    → ArePositiveDemands 0 held count → IsAtIndex held taken place → product ≤ taken → IsFirstFrom held product start
    → IsFirstFrom (remove held place) product start
start_stays_behind held count place product taken start are stands smaller first =
    let none : PositiveDemand = record { product = 0; demand = 0 } in
    let within = stands.1 in
    let size = length-remove held place within in
    let before : start ≤ place = ⊎_elim (λ (later : place < start).
    absurd (omega (arith, first.0.1 place none (omega arith) later, stands.2 none, smaller)))
    (λ (is : start ≤ place). is) (cases_lt place start) in
    let IsFrom : PositiveDemand → Type 0 = λ o. product ≤ o.product in (
      (
        omega (arith, size, before, within),
        λ k d low high. subst (λ (o : PositiveDemand). o.product < product)
            (sym (get_or-remove_below held place d k (omega (arith, high, before)) within)) (first.0.1 k d low high),
      ),
      λ d inside. ⊎_elim (λ (ahead : start < place). subst IsFrom (sym (get_or-remove_below held place d start ahead
          within)) (first.1 d (omega (arith, ahead, within)))) (λ (at : place ≤ start).
          let next : get_or (remove held place) start d ≡ get_or held (start + 1) d =
          get_or-remove_above held place d start at within in
          let rises =
          rising 0 held count place (start + 1) none d are (omega (arith, at)) (omega (arith, inside, size)) in
          subst IsFrom (sym next) (omega (arith, rises, stands.2 none, smaller)))
          (cases_lt start place),
    )

-- ---- the starts of all groups

-- after an entry is inserted, the starts of all later groups are moved
pub starts_put : (held after : List PositiveDemand) (one : PositiveDemand) (place : ℕ) (starts moved : List ℕ)
    → after ≡ insert held place one → BelongsAtIndex held one.product place → AreStarts held starts
    → length moved ≡ length starts → ((group : ℕ) → group < one.product / group_size + 1
    → get_or moved group 0 ≡ get_or starts group 0) → ((group : ℕ) → one.product / group_size + 1 ≤ group
    → group < length moved → get_or moved group 0 ≡ get_or starts group 0 + 1) → AreStarts after moved
starts_put held after one place starts moved put would are each stay move group within =
    let first = are group (omega (arith, within, each)) in
    let IsFirst : ℕ → Type 0 = IsFirstFrom (insert held place one) (group * group_size) in
    subst (λ (list : List PositiveDemand). IsFirstFrom list (group * group_size) (get_or moved group 0)) (sym put)
    (⊎_elim (λ (own : group < one.product / group_size + 1). subst IsFirst (sym (stay group own))
    (start_stays held one place (group * group_size) (get_or starts group 0) would (omega (arith, own)) first))
    (λ (behind : one.product / group_size + 1 ≤ group). subst IsFirst (sym (move group behind within))
    (start_moved held one place (group * group_size) (get_or starts group 0) would (omega (arith, behind)) first))
    (cases_lt group (one.product / group_size + 1)))

-- the start of a later group than the removed entry's is at least 1
pub some_before : (held : List PositiveDemand) (place taken : ℕ) (starts : List ℕ) (group : ℕ) → IsAtIndex held taken
    place → AreStarts held starts → group < length starts → taken / group_size + 1 ≤ group → 1 ≤ get_or starts group 0
some_before held place taken starts group stands are within behind =
    omega (
      arith,
      start_behind held place (group * group_size) taken (get_or starts group 0) stands
          (omega (arith, behind)) (are group within),
    )

-- after an entry is removed, the starts of all later groups are moved
pub starts_taken : (held after : List PositiveDemand) (count place taken : ℕ) (starts moved : List ℕ)
    → after ≡ remove held place → ArePositiveDemands 0 held count → IsAtIndex held taken place → AreStarts held starts
    → length moved ≡ length starts → ((group : ℕ) → group < taken / group_size + 1
    → get_or moved group 0 ≡ get_or starts group 0) → ((group : ℕ) → taken / group_size + 1 ≤ group
    → group < length moved → get_or moved group 0 ≡ get_or starts group 0 - 1) → AreStarts after moved
starts_taken held after count place taken starts moved took order stands are each stay move group within =
    let first = are group (omega (arith, within, each)) in
    let IsFirst : ℕ → Type 0 = IsFirstFrom (remove held place) (group * group_size) in
    subst (λ (list : List PositiveDemand). IsFirstFrom list (group * group_size) (get_or moved group 0)) (sym took)
    (⊎_elim (λ (own : group < taken / group_size + 1). subst IsFirst (sym (stay group own)) (start_stays_behind held
    count place (group * group_size) taken (get_or starts group 0) order stands (omega (arith, own)) first))
    (λ (behind : taken / group_size + 1 ≤ group). subst IsFirst (sym (move group behind within)) (start_moved_back held
    place (group * group_size) taken (get_or starts group 0) stands (omega (arith, behind)) first))
    (cases_lt group (taken / group_size + 1)))

-- a list of which each entry was written through a slice
pub rewritten : (count : ℕ) (now old : List ℕ) → count ≡ length now → take count (now ++ drop (length now) old) ≡ now
rewritten count now old whole = ap (λ (n : ℕ). take n (now ++ drop (length now) old)) whole
    ∙ take-append_seam now (drop (length now) old)

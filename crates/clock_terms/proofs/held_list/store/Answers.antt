-- Each of the four cases (replace, remove, insert, nothing) leaves the entries in order, changes only this product's
-- demand, and leaves the starts of groups right.
use Rattle.std.proofs.Common.{◌≡◌, ◌<◌, ◌≤◌, ℕ, List, Result, Ok, Err, IfOk, IfErr, length, insert, sym, subst, arith}
use Rattle.std.proofs.lemmas.List.Edits.{length-insert}
use Rattle.clock_terms.specs.declared.held_list.PositiveDemand.{PositiveDemand}
use Rattle.clock_terms.specs.inside.Rows.{ArePositiveDemands, IsStored, IsAtIndex, BelongsAtIndex}
use Rattle.clock_terms.specs.Limits.{most_supply}
use Rattle.clock_terms.proofs.HeldLaws.{missing, counted, held_set, held_insert, held_remove, stored_none, stored_set}
use Rattle.clock_terms.proofs.HeldLaws.{stored_insert, stored_remove}
use Rattle.clock_terms.proofs.held_list.store.Goals as goal

-- the default entry, in the form of the goals
abbrev none : PositiveDemand
none = record { product = 0; demand = 0 }

-- the search found the product's entry
standing : (held : List PositiveDemand) (product : ℕ) {found : Result ℕ ℕ} {place : ℕ} → found ≡ Ok place
    → IfOk found (IsAtIndex held product) → IsAtIndex held product place
standing held product same stands = subst (λ found. IfOk found (IsAtIndex held product)) same stands

-- the search found no entry
lacking : (held : List PositiveDemand) (product : ℕ) {found : Result ℕ ℕ} {place : ℕ} → found ≡ Err place
    → IfErr found (BelongsAtIndex held product) → BelongsAtIndex held product place
lacking held product same lacks = subst (λ found. IfErr found (BelongsAtIndex held product)) same lacks

-- the entries are in order after one is inserted
put : (count : ℕ) (held : List PositiveDemand) (one : PositiveDemand) (place : ℕ) → ArePositiveDemands 0 held count
    → BelongsAtIndex held one.product place → one.product < count → 0 < one.demand → one.demand ≤ most_supply
    → ArePositiveDemands 0 (insert held place one) count
put count held one place are lacks within some few = held_insert 0 held count place one are
    (omega arith) within some few lacks.0.1 lacks.0.0 (λ inside. lacks.1 one inside)

-- so before it there was capacity for one more
room : (count : ℕ) (held : List PositiveDemand) (one : PositiveDemand) (place : ℕ)
    → ArePositiveDemands 0 held count × (one.product < count) → BelongsAtIndex held one.product place → 0 < one.demand
    → one.demand ≤ most_supply → length held < count
room count held one place are lacks some few =
    omega (
      arith,
      counted 0 (insert held place one) count (put count held one place are.0 lacks are.1 some few),
      length-insert held place one lacks.0.0,
    )

pub put_in-requires-clause-few : goal.put_in-requires-clause-few
put_in-requires-clause-few c =
    let all = c.requires.room in
    let lacks = lacking c.args.held.now.items c.args.one.product c.in-Err.is c.requires.lacks in
    omega (
      arith,
      all.3,
      room all.0 c.args.held.now.items c.args.one c.in-Err.place
          (all.1, all.2) lacks c.if-one-gt0-2.true c.requires.small,
    )

pub put_in-requires-clause-room : goal.put_in-requires-clause-room
put_in-requires-clause-room c =
    let all = c.requires.room in
    let lacks = lacking c.args.held.now.items c.args.one.product c.in-Err.is c.requires.lacks in
    omega (
      arith,
      all.4,
      room all.0 c.args.held.now.items c.args.one c.in-Err.place
          (all.1, all.2) lacks c.if-one-gt0-2.true c.requires.small,
    )

pub returns-in-Ok-clause-order : goal.returns-in-Ok-clause-order
returns-in-Ok-clause-order c count are within =
    let held = c.args.held.now.items in
    let stands = standing held c.args.one.product c.in-Ok.is c.requires.stands in
    held_set 0 held count c.in-Ok.place c.args.one are stands.1 (stands.2 c.args.one) c.if-one-gt0.true c.requires.small

pub returns-in-Ok-clause-stored : goal.returns-in-Ok-clause-stored
returns-in-Ok-clause-stored c =
    let held = c.args.held.now.items in
    let stands = standing held c.args.one.product c.in-Ok.is c.requires.stands in
    stored_set held c.in-Ok.place c.args.one stands.0.1 stands.1 (stands.2 c.args.one)

pub returns-in-Ok-2-clause-order : goal.returns-in-Ok-2-clause-order
returns-in-Ok-2-clause-order c count are within =
    let held = c.args.held.now.items in
    let stands = standing held c.args.one.product c.in-Ok-2.is c.requires.stands in
    subst (λ (after : List PositiveDemand). ArePositiveDemands 0 after count) (sym c.take_out.ensures.taken)
    (held_remove 0 held count c.in-Ok-2.place are stands.1)

pub returns-in-Ok-2-clause-stored : goal.returns-in-Ok-2-clause-stored
returns-in-Ok-2-clause-stored c =
    let held = c.args.held.now.items in
    let all = c.requires.room in
    let stands = standing held c.args.one.product c.in-Ok-2.is c.requires.stands in
    let nothing : 0 ≡ c.args.one.demand = omega (arith, c.if-one-gt0.false) in
    subst (λ (demand : ℕ). IsStored held c.take_out.new.held.items c.args.one.product demand) nothing
    (subst (λ (after : List PositiveDemand). IsStored held after c.args.one.product 0) (sym c.take_out.ensures.taken)
    (stored_remove 0 held all.0 c.in-Ok-2.place c.args.one.product none all.1 stands.0.1 stands.1 (stands.2 none)))

pub returns-in-Err-clause-order : goal.returns-in-Err-clause-order
returns-in-Err-clause-order c count are within =
    let held = c.args.held.now.items in
    let lacks = lacking held c.args.one.product c.in-Err.is c.requires.lacks in
    subst (λ (after : List PositiveDemand). ArePositiveDemands 0 after count) (sym c.put_in.ensures.put)
    (put count held c.args.one c.in-Err.place are lacks within c.if-one-gt0-2.true c.requires.small)

pub returns-in-Err-clause-stored : goal.returns-in-Err-clause-stored
returns-in-Err-clause-stored c =
    let held = c.args.held.now.items in
    let lacks = lacking held c.args.one.product c.in-Err.is c.requires.lacks in
    subst (λ (after : List PositiveDemand). IsStored held after c.args.one.product c.args.one.demand)
    (sym c.put_in.ensures.put) (stored_insert held c.in-Err.place c.args.one lacks.0.1 lacks.0.0)

pub returns-else-one-gt0-2-clause-stored : goal.returns-else-one-gt0-2-clause-stored
returns-else-one-gt0-2-clause-stored c =
    let held = c.args.held.now.items in
    let all = c.requires.room in
    let lacks = lacking held c.args.one.product c.in-Err.is c.requires.lacks in
    let nothing : 0 ≡ c.args.one.demand = omega (arith, c.if-one-gt0-2.false) in
    subst (λ (demand : ℕ). IsStored held held c.args.one.product demand) nothing (stored_none held c.args.one.product
    (missing 0 held all.0 c.args.one.product c.in-Err.place none all.1 lacks.0.1 (lacks.1 none)))

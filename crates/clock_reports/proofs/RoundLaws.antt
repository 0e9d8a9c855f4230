-- The round results of a house, by index: they are those of the closed rounds in order, with a line for each product.
-- The laws of houses say so.
use Rattle.std.proofs.Common.{◌≡◌, ℕ, zero, suc, ◌+◌, ◌<◌, ◌≤◌, List, [], ◌∷◌, ◌++◌, true, length, map, take, drop}
use Rattle.std.proofs.Common.{Some, None, refl}
use Rattle.std.proofs.Common.{sym, ◌∙◌, ap, subst, add-one, All, arith}
use Rattle.std.specs.Prelude.{reverse, slice_get, slice_index_or, option_map}
use Rattle.std.proofs.lemmas.List.{reverse-append, length-reverse, length-map, map-append}
use Rattle.std.specs.List.{range_with_len}
use Rattle.std.proofs.lemmas.List.Elements.{All-nil, All-push}
use Rattle.std.proofs.lemmas.List.FromFn.{length-map-range_with_len, get_or-map-range_with_len}
use Rattle.clock_terms.specs.Limits.{SetupFields, IsRow}
use Rattle.clock_posting.specs.declared.sheet.RoundSheet.{RoundSheet}
use Rattle.clock_house.specs.Command.{Command}
use Rattle.clock_house.specs.History.{history, public_state, round_at}
use Rattle.clock_closing.specs.declared.closed_round.ClosedRound.{ClosedRound}
use Rattle.clock_house.specs.House.{HouseFields, StandsFor}
use Rattle.clock_house.specs.Laws.{AreNumbered, IsSound}

-- closed rounds are numbered from 1
pub numbered_in : (house : HouseFields) → (commands : List Command) × StandsFor commands house
    → ((commands : List Command) → IsSound house.setup (history house.setup commands))
    → AreNumbered (length house.setup.bidders) (length house.setup.products) house.closed
numbered_in house some sound = subst (AreNumbered (length house.setup.bidders) (length house.setup.products))
    (sym some.1.closed) (sound some.0).numbered

-- ---- round results in order

get_map : {A B : Type 0} (f : A → B) (xs : List A) (n : ℕ) → slice_get (map f xs) n ≡ option_map f (slice_get xs n)
get_map f [] n = refl
get_map f (x ∷ xs) zero = refl
get_map f (x ∷ xs) (suc n) = get_map f xs n

get_within : {A : Type 0} (xs : List A) (n : ℕ) → n < length xs → slice_get xs n ≡ None → ⊥
get_within [] n below none = omega arith
get_within (x ∷ xs) zero below none = cc
get_within (x ∷ xs) (suc n) below none = get_within xs n (omega arith) none

-- the results that a house returns for a round
pub reported_sheet : (closed : List ClosedRound) (n : ℕ) → option_map (λ (round : ClosedRound). round.sheet)
    (round_at (n + 1) closed) ≡ slice_get (map (λ (round : ClosedRound). round.sheet) (reverse closed)) n
reported_sheet closed n =
    ap (λ (k : ℕ). option_map (λ (round : ClosedRound). round.sheet) (round_at k closed)) (add-one n)
    ∙ sym (get_map (λ (round : ClosedRound). round.sheet) (reverse closed) n)

-- each closed round has results
pub some_sheet : (closed : List ClosedRound) (n : ℕ) → n < length closed
    → slice_get (map (λ (round : ClosedRound). round.sheet) (reverse closed)) n ≡ None → ⊥
some_sheet closed n below none =
    get_within (map (λ (round : ClosedRound). round.sheet) (reverse closed)) n
    (omega (arith, length-map (reverse closed) (λ (round : ClosedRound). round.sheet), length-reverse closed)) none

take_suc : {A : Type 0} (xs : List A) (n : ℕ) (x : A) → slice_get xs n ≡ Some x → take (suc n) xs ≡ take n xs ++ x ∷ []
take_suc [] n x e = absurd (cc)
take_suc (y ∷ ys) zero x e = let same : y ≡ x = cc in ap (λ z. z ∷ []) same
take_suc (y ∷ ys) (suc n) x e = ap (λ zs. y ∷ zs) (take_suc ys n x e)

-- the first items of a list, and one more
pub take_next : {A : Type 0} (xs : List A) (n : ℕ) (x : A) → slice_get xs n ≡ Some x
    → take (n + 1) xs ≡ take n xs ++ x ∷ []
take_next xs n x e = ap (λ k. take k xs) (add-one n) ∙ take_suc xs n x e

-- the items of a list from an index on
pub drop_next : {A : Type 0} (xs : List A) (n : ℕ) (x : A) → slice_get xs n ≡ Some x → drop n xs ≡ x ∷ drop (n + 1) xs
drop_next xs n x e = from_one xs n x e ∙ ap (λ k. x ∷ drop k xs) (sym (add-one n))
  where
    from_one : {A : Type 0} (xs : List A) (n : ℕ) (x : A) → slice_get xs n ≡ Some x → drop n xs ≡ x ∷ drop (suc n) xs
    from_one [] n x e = absurd (cc)
    from_one (y ∷ ys) zero x e = let same : y ≡ x = cc in ap (λ z. z ∷ ys) same
    from_one (y ∷ ys) (suc n) x e = from_one ys n x e

-- reading an item that is in the list
pub index_got : {A : Type 0} (xs : List A) (n : ℕ) (x d : A) → slice_get xs n ≡ Some x → slice_index_or xs n d ≡ x
index_got [] n x d e = absurd (cc)
index_got (y ∷ ys) zero x d e = let same : y ≡ x = cc in same
index_got (y ∷ ys) (suc n) x d e = index_got ys n x d e

-- ---- the limits of a report

-- the results of each closed round have a line for each product
pub lined : (setup : SetupFields) (closed : List ClosedRound)
    → AreNumbered (length setup.bidders) (length setup.products) closed → All (λ (sheet : RoundSheet).
    length sheet.lines ≡ length setup.products) (map (λ (round : ClosedRound). round.sheet) (reverse closed))
lined setup [] all = All-nil (λ (sheet : RoundSheet). length sheet.lines ≡ length setup.products)
lined setup (last ∷ rounds) all =
    let P : RoundSheet → Type 0 = λ sheet. length sheet.lines ≡ length setup.products in
    let sheet : ClosedRound → RoundSheet = λ round. round.sheet in
    let split : map sheet (reverse (last ∷ rounds)) ≡ map sheet (reverse rounds) ++ last.sheet ∷ [] =
    ap (map sheet) (reverse-append (last ∷ []) rounds) ∙ map-append sheet (reverse rounds) (last ∷ []) in
    subst (All P) (sym split) (All-push P (map sheet (reverse rounds)) last.sheet (lined setup rounds all.3) all.2)

-- rows that each have a demand for each product
pub rows_of : (setup : SetupFields) (f : ℕ → List ℕ) (n : ℕ) → ((bidder : ℕ) → bidder < n → IsRow setup.products
    (f bidder)) → All (λ (demands : List ℕ). length demands ≡ length setup.products) (map f (range_with_len 0 n))
rows_of setup f n each k d within =
    let count = length-map-range_with_len f 0 n in
    let below : k < n = omega arith in
    subst (λ (demands : List ℕ). length demands ≡ length setup.products)
    (sym (get_or-map-range_with_len f 0 n k k d below (omega arith))) (each k below).each

-- if the auction has ended, at least one round is closed
pub some_closed : (setup : SetupFields) (closed : List ClosedRound)
    → (public_state setup.products closed).ended ≡ true → 1 ≤ length closed
some_closed setup [] ended = absurd (cc)
some_closed setup (last ∷ rounds) ended = omega arith

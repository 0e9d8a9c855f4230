-- Sheets of bids that are written from one product to the next.
use Rattle.std.proofs.Common.{◌≡◌, ◌≢◌, ℕ, ◌+◌, ◌-◌, ◌<◌, ◌≤◌, ◌==◌, Bool, true, false, zero, suc, List, [], ◌∷◌, ◌++◌}
use Rattle.std.proofs.Common.{flat_map, get_or, slice_index}
use Rattle.std.proofs.Common.{append_assoc, append-nil, length, refl, sym, ap, ap₂, ◌∙◌, arith}
use Rattle.std.specs.List.{AllWithin, range_with_len}
use Rattle.std.specs.Prelude.{if◌then◌else◌}
use Rattle.std.proofs.lemmas.Bool.{ne_eqb}
use Rattle.std.proofs.lemmas.Grind.{flat_map-append}
use Rattle.std.proofs.lemmas.List.{get_or_default}
use Rattle.clock_terms.specs.declared.prices.PricePair.{PricePair}
use Rattle.clock_terms.specs.Prices.{prices_at}
use Rattle.clock_terms.specs.Demands.{row_of}
use Rattle.clock_bids.specs.declared.sheet.Bid.{Bid}
use Rattle.clock_views.specs.inside.Values.{Adds}
use Rattle.clock_views.proofs.Pushes.{together}
use Rattle.clock_scripts.specs.Sincere.{bid_for, bid_if_any, sincere_sheet, opening_bids, later_bids, wanted}
use Rattle.clock_scripts.specs.inside.Bodies.{bid_text, bids_text}
use Rattle.clock_scripts.specs.inside.SincereSheets.{first_bids, bids_held, first_sheet, later_sheet}

-- the bids for a product precede those for the products after it
pub one_more : (f : ℕ → List ℕ) (text next all : List ℕ) (p n : ℕ) → p < n → Adds (f p) text next → text
    ++ flat_map f (range_with_len p (n - p)) ≡ all → next ++ flat_map f (range_with_len (p + 1) (n - (p + 1))) ≡ all
one_more f text next all p n below added rest =
    let left : suc (n - (p + 1)) ≡ n - p = omega arith in
    ap (λ (now : List ℕ). now ++ flat_map f (range_with_len (p + 1) (n - (p + 1)))) added.is
    ∙ append_assoc text (f p) (flat_map f (range_with_len (p + 1) (n - (p + 1))))
    ∙ ap (λ (k : ℕ). text ++ flat_map f (range_with_len p k)) left ∙ rest

-- products without bids may be left out
so_many_passed : (f : ℕ → List ℕ) (d p n : ℕ) → p + d ≤ n → ((k : ℕ) → p ≤ k → k < p + d → f k ≡ [])
    → flat_map f (range_with_len p (n - p)) ≡ flat_map f (range_with_len (p + d) (n - (p + d)))
so_many_passed f zero p n within none =
    let same : p ≡ p + 0 = omega arith in
    ap (λ (k : ℕ). flat_map f (range_with_len k (n - k))) same
so_many_passed f (suc d) p n within none =
    let left : n - p ≡ suc (n - (p + 1)) = omega arith in
    let same : (p + 1) + d ≡ p + suc d = omega arith in
    ap (λ (k : ℕ). flat_map f (range_with_len p k)) left ∙ ap (λ (first : List ℕ). first
    ++ flat_map f (range_with_len (p + 1) (n - (p + 1)))) (none p (omega arith) (omega arith))
    ∙ so_many_passed f d (p + 1) n (omega arith) (λ k above below. none k (omega (arith, above)) (omega (arith, below)))
    ∙ ap (λ (k : ℕ). flat_map f (range_with_len k (n - k))) same

pub passed : (f : ℕ → List ℕ) (p q n : ℕ) → p ≤ q → q ≤ n → ((k : ℕ) → p ≤ k → k < q → f k ≡ [])
    → flat_map f (range_with_len p (n - p)) ≡ flat_map f (range_with_len q (n - q))
passed f p q n order within none =
    let same : p + (q - p) ≡ q = omega arith in
    so_many_passed f (q - p) p n (omega arith) (λ k above below. none k above (omega (arith, below)))
    ∙ ap (λ (k : ℕ). flat_map f (range_with_len k (n - k))) same

-- ---- the bids for a product

-- the prices at its index
pub priced_at : (prices : List PricePair) (product : ℕ) (other : PricePair) → product < length prices
    → get_or prices product other ≡ prices_at prices product
priced_at prices product other within = get_or_default prices product other (record { start = 0; clock = 0 }) within

-- the texts of lists are that of all
pub texts_of_all : {A : Type 0} (f : A → List Bid) (items : List A)
    → flat_map (λ item. bids_text (f item)) items ≡ bids_text (flat_map f items)
texts_of_all f [] = refl
texts_of_all f (item ∷ items) = ap (λ (rest : List ℕ). bids_text (f item) ++ rest) (texts_of_all f items)
    ∙ sym (flat_map-append bid_text (f item) (flat_map f items))

-- those for a product as they are written, in the first round and in a later one
abbrev pub first_text : List PricePair → List (List ℕ) → ℕ → List ℕ
first_text prices lists product = bids_text (first_bids prices lists product)

abbrev pub later_text : List PricePair → List ℕ → List (List ℕ) → ℕ → List ℕ
later_text prices demands lists product = bids_text (bids_held prices demands lists product)

-- `count` blocks are wanted in the first round, or none
pub none_wanted : (product : ℕ) (pair : PricePair) (list : List ℕ) (count : ℕ) → count ≡ wanted list pair.start
    → count ≡ 0 → opening_bids product pair list ≡ []
none_wanted product pair list count is none = ap (bid_if_any product pair.start) (sym is ∙ none)

pub some_wanted : (product : ℕ) (pair : PricePair) (list : List ℕ) (count : ℕ) → count ≡ wanted list pair.start
    → count ≢ 0 → bids_text (opening_bids product pair list) ≡ bid_text (bid_for product count pair.start)
some_wanted product pair list count is some =
    ap (λ (k : ℕ). bids_text (bid_if_any product pair.start k)) (sym is)
    ∙ ap (λ (none : Bool). bids_text (if none then [] else bid_for product count pair.start ∷ [])) (ne_eqb count 0 some)
    ∙ append-nil (bid_text (bid_for product count pair.start))

pub opening_for : (prices : List PricePair) (lists : List (List ℕ)) (product : ℕ) (pair : PricePair)
    (list text next : List ℕ) → pair ≡ prices_at prices product → list ≡ row_of lists product
    → Adds (bids_text (opening_bids product pair list)) text next → Adds (first_text prices lists product) text next
opening_for prices lists product pair list text next priced listed added =
    together (ap bids_text (sym (ap₂ (opening_bids product) priced listed))) added

-- products without limits have no bids in the first round
pub no_limits_for : (prices : List PricePair) (lists : List (List ℕ)) (from to : ℕ)
    → AllWithin (λ limits. limits ≡ []) lists from to → (product : ℕ) → from ≤ product → product < to
    → first_text prices lists product ≡ []
no_limits_for prices lists from to none product low high =
    ap bids_text (ap (opening_bids product (prices_at prices product)) (none product [] low high)
    ∙ none_wanted product (prices_at prices product) [] 0 refl refl)

-- the processed demand in a later one
pub later_for : (prices : List PricePair) (demands : List ℕ) (lists : List (List ℕ)) (product held : ℕ)
    (pair : PricePair) (list text next : List ℕ) → pair ≡ prices_at prices product → held ≡ slice_index demands product
    → list ≡ row_of lists product → Adds (bids_text (later_bids product pair held list)) text next
    → Adds (later_text prices demands lists product) text next
later_for prices demands lists product held pair list text next priced held_is listed added =
    together (ap bids_text (sym (ap (λ (at : PricePair). later_bids product at held list) priced
    ∙ ap₂ (later_bids product (prices_at prices product)) held_is listed)))
    added

-- a product without processed demand has no bids in a later round
none_held : (product held : ℕ) (pair : PricePair) (list : List ℕ) → held ≡ 0 → later_bids product pair held list ≡ []
none_held product held pair list none = rw none refl

pub none_for : (prices : List PricePair) (demands : List ℕ) (lists : List (List ℕ)) (product : ℕ)
    → slice_index demands product ≡ 0 → later_text prices demands lists product ≡ []
none_for prices demands lists product none = ap bids_text
    (none_held product (slice_index demands product) (prices_at prices product) (row_of lists product) none)

-- those of all products are the sheet
pub whole_first : (prices : List PricePair) (lists : List (List ℕ))
    → flat_map (first_text prices lists) (range_with_len 0 (length prices)) ≡ bids_text (first_sheet prices lists)
whole_first prices lists = texts_of_all (first_bids prices lists) (range_with_len 0 (length prices))

pub whole_later : (prices : List PricePair) (demands : List ℕ) (lists : List (List ℕ)) → flat_map
    (later_text prices demands lists) (range_with_len 0 (length prices)) ≡ bids_text (later_sheet prices demands lists)
whole_later prices demands lists = texts_of_all (bids_held prices demands lists) (range_with_len 0 (length prices))

-- the sheet of a round is that of the first or of a later one
pub sheet_by : (round : ℕ) (prices : List PricePair) (demands : List ℕ) (lists : List (List ℕ)) (first : Bool)
    → (round == 1) ≡ first → sincere_sheet round prices demands lists
    ≡ (if first then first_sheet prices lists else later_sheet prices demands lists)
sheet_by round prices demands lists true is = ap (λ (first : Bool). flat_map (λ product. if first then first_bids prices
    lists product else bids_held prices demands lists product) (range_with_len 0 (length prices))) is
sheet_by round prices demands lists false is = ap (λ (first : Bool). flat_map (λ product. if first then first_bids
    prices lists product else bids_held prices demands lists product) (range_with_len 0 (length prices))) is

-- Packed limits have the limits of each product: products with a row rise, so a search finds the row, and a product
-- that is missed has none.
use Rattle.std.proofs.Common.{◌≡◌, ◌≢◌, ℕ, ◌+◌, ◌-◌, ◌<◌, ◌≤◌, ◌==◌, zero, suc, List, [], ◌∷◌, ◌++◌, length, map}
use Rattle.std.proofs.Common.{get_or, replicate, if◌then◌else◌, refl, sym, ap, ap₂, subst, ◌∙◌, append_assoc}
use Rattle.std.proofs.Common.{append-nil, arith}
use Rattle.std.proofs.lemmas.Bool.{ne_eqb, eq-eqb}
use Rattle.std.proofs.lemmas.List.FromFn.{length-map-range_with_len, get_or-map-range_with_len, map-range_with_len_more}
use Rattle.std.proofs.lemmas.List.FromFn.{fill_by_all}
use Rattle.std.specs.List.{range_with_len, AllWithin}
use Rattle.clock_replays.specs.PackedLimits.{limits_for, limits_of}
use Rattle.std.proofs.lemmas.List.{length-append, get_or_default}
use Rattle.clock_terms.specs.Demands.{row_of}
use Rattle.clock_replays.specs.EndedRows.{rows_from}
use Rattle.clock_replays.specs.inside.EndedRows.{AreEnds}
use Rattle.clock_replays.specs.inside.PackedLimits.{AreRising, packed_limits}
use Rattle.clock_replays.specs.declared.limit_lists.LimitRows.{LimitRows}
use Rattle.clock_replays.proofs.EndedRowLaws.{length-rows, one_more}

-- the first product with a row has the first one
at_first : (limited : ℕ) (products row : List ℕ) (rows : List (List ℕ)) (product : ℕ) → limited ≡ product
    → limits_for (limited ∷ products) (row ∷ rows) product ≡ row
unfolding limits_for
at_first limited products row rows product same =
    ap (λ test. if test then row else limits_for products rows product) (eq-eqb limited product same)

-- every other product has another row, or none
behind : (limited : ℕ) (products row : List ℕ) (rows : List (List ℕ)) (product : ℕ) → limited ≢ product
    → limits_for (limited ∷ products) (row ∷ rows) product ≡ limits_for products rows product
unfolding limits_for
behind limited products row rows product other =
    ap (λ test. if test then row else limits_for products rows product) (ne_eqb limited product other)

-- a product after lower ones has the row at its index
pub found : (products : List ℕ) (rows : List (List ℕ)) (product place : ℕ) → length products ≡ length rows
    → AllWithin (λ other. other < product) products 0 place → place < length products
    → get_or products place 0 ≡ product → limits_for products rows product ≡ get_or rows place []
found [] rows product place each smaller within here = absurd (omega (arith, within))
found (limited ∷ products) [] product place each smaller within here = absurd (omega (arith, each))
found (limited ∷ products) (row ∷ rows) product zero each smaller within here =
    at_first limited products row rows product here
found (limited ∷ products) (row ∷ rows) product (suc place) each smaller within here =
    behind limited products row rows product (λ same. omega (arith, same, smaller 0 0 (omega arith) (omega arith)))
    ∙ found products rows product place (omega (arith, each))
    (λ k d low high. smaller (suc k) d (omega arith) (omega (arith, high))) (omega (arith, within)) here

-- products below the first have no row
none_before : (from : ℕ) (products : List ℕ) (rows : List (List ℕ)) (count product : ℕ) → AreRising from products count
    → product < from → limits_for products rows product ≡ []
unfolding AreRising limits_for
none_before from [] rows count product rising below = refl
none_before from (limited ∷ products) [] count product rising below = refl
none_before from (limited ∷ products) (row ∷ rows) count product rising below =
    behind limited products row rows product (λ same. omega (arith, same, rising.0, below))
    ∙ none_before (limited + 1) products rows count product rising.1 (omega (arith, rising.0, below))

-- the products are between `from` and the count
from_within : (from : ℕ) (products : List ℕ) (count : ℕ) → AreRising from products count → from ≤ count
unfolding AreRising
from_within from [] count rising = rising
from_within from (limited ∷ products) count rising =
    omega (arith, rising.0, from_within (limited + 1) products count rising.1)

-- products from the count on have no row
none_past : (from : ℕ) (products : List ℕ) (rows : List (List ℕ)) (count product : ℕ) → AreRising from products count
    → count ≤ product → limits_for products rows product ≡ []
unfolding AreRising limits_for
none_past from [] rows count product rising above = refl
none_past from (limited ∷ products) [] count product rising above = refl
none_past from (limited ∷ products) (row ∷ rows) count product rising above = behind limited products row rows product
    (λ same. omega (arith, same, from_within (limited + 1) products count rising.1, above))
    ∙ none_past (limited + 1) products rows count product rising.1 above

-- a product has no row if those before an index are lower, and the one there is higher or missing
pub missing : (from : ℕ) (products : List ℕ) (rows : List (List ℕ)) (count product place : ℕ)
    → AreRising from products count → AllWithin (λ other. other < product) products 0 place
    → (place < length products → product < get_or products place 0) → limits_for products rows product ≡ []
unfolding AreRising limits_for
missing from [] rows count product place rising smaller next = refl
missing from (limited ∷ products) [] count product place rising smaller next = refl
missing from (limited ∷ products) (row ∷ rows) count product zero rising smaller next =
    let above : product < limited = next (omega arith) in
    behind limited products row rows product (λ same. omega (arith, same, above))
    ∙ none_before (limited + 1) products rows count product rising.1 (omega (arith, above))
missing from (limited ∷ products) (row ∷ rows) count product (suc place) rising smaller next =
    behind limited products row rows product (λ same. omega (arith, same, smaller 0 0 (omega arith) (omega arith)))
    ∙ missing (limited + 1) products rows count product place rising.1
    (λ k d low high. smaller (suc k) d (omega arith) (omega (arith, high))) (λ within. next (omega (arith, within)))

at_least : (from : ℕ) (products : List ℕ) (count place : ℕ) → AreRising from products count → place < length products
    → from ≤ get_or products place 0
unfolding AreRising
at_least from [] count place rising within = absurd (omega (arith, within))
at_least from (limited ∷ products) count zero rising within = rising.0
at_least from (limited ∷ products) count (suc place) rising within =
    omega (arith, rising.0, at_least (limited + 1) products count place rising.1 (omega (arith, within)))

-- if a product is lower, so are those before it
smaller_up_to : (from : ℕ) (products : List ℕ) (count product place : ℕ) → AreRising from products count → place
    < length products → get_or products place 0 < product → AllWithin (λ other. other < product) products 0 (place + 1)
unfolding AreRising
smaller_up_to from [] count product place rising within smaller k d low high = absurd (omega (arith, within))
smaller_up_to from (limited ∷ products) count product zero rising within smaller zero d low high = smaller
smaller_up_to from (limited ∷ products) count product zero rising within smaller (suc k) d low high =
    absurd (omega (arith, high))
smaller_up_to from (limited ∷ products) count product (suc place) rising within smaller zero d low high =
    omega (arith, smaller, at_least (limited + 1) products count place rising.1 (omega (arith, within)))
smaller_up_to from (limited ∷ products) count product (suc place) rising within smaller (suc k) d low high =
    smaller_up_to (limited + 1) products count product place rising.1 (omega (arith, within)) smaller k d (omega arith)
    (omega (arith, high))

-- if the product before an index is lower, so are all before it
pub smaller_before : (products : List ℕ) (count product place : ℕ) → AreRising 0 products count
    → place ≤ length products → (0 < place → get_or products (place - 1) 0 < product)
    → AllWithin (λ other. other < product) products 0 place
smaller_before products count product zero rising within ahead k d low high = absurd (omega (arith, high))
smaller_before products count product (suc place) rising within ahead k d low high =
    let same : suc place - 1 ≡ place = omega arith in
    smaller_up_to 0 products count product place rising (omega (arith, within))
    (subst (λ (n : ℕ). get_or products n 0 < product) same (ahead (omega arith))) k d low (omega (arith, high))

-- a product with a row is below the count
pub below_count : (from : ℕ) (products : List ℕ) (count place : ℕ) → AreRising from products count
    → place < length products → get_or products place 0 < count
unfolding AreRising
below_count from [] count place rising within = absurd (omega (arith, within))
below_count from (limited ∷ products) count zero rising within =
    omega (arith, from_within (limited + 1) products count rising.1)
below_count from (limited ∷ products) count (suc place) rising within =
    below_count (limited + 1) products count place rising.1 (omega (arith, within))

-- the list of a product is its row
pub listed : (rows : LimitRows) (lists : List (List ℕ)) (product : ℕ) → packed_limits rows ≡ lists
    → product < length lists
    → limits_for rows.products.items (rows_from 0 rows.ends.items rows.prices.items) product ≡ row_of lists product
listed rows lists product same below =
    let limits = limits_for rows.products.items (rows_from 0 rows.ends.items rows.prices.items) in
    let within : product < rows.count =
    omega (arith, length-map-range_with_len limits 0 rows.count, ap length same, below) in
    sym (get_or-map-range_with_len limits 0 rows.count product product [] within (omega arith))
    ∙ ap (λ (all : List (List ℕ)). row_of all product) same

-- the number of products that have lists is the one that was counted
pub counted : (rows : LimitRows) (lists : List (List ℕ)) → packed_limits rows ≡ lists → rows.count ≡ length lists
counted rows lists same =
    let limits = limits_for rows.products.items (rows_from 0 rows.ends.items rows.prices.items) in
    omega (arith, length-map-range_with_len limits 0 rows.count, ap length same)

-- from a product up to that of the row at its place, or up to the count, none has limits
pub none_between : (rows : LimitRows) (lists : List (List ℕ)) (product place to : ℕ) → packed_limits rows ≡ lists
    → AreRising 0 rows.products.items rows.count → AllWithin (λ other. other < product) rows.products.items 0 place
    → (place < length rows.products.items → to ≤ get_or rows.products.items place 0) → to ≤ length lists
    → AllWithin (λ limits. limits ≡ []) lists product to
none_between rows lists product place to same rising smaller next most k d low high =
    let within : k < length lists = omega (arith, high, most) in
    get_or_default lists k d [] within ∙ sym (listed rows lists k same within)
    ∙ missing 0 rows.products.items (rows_from 0 rows.ends.items rows.prices.items) rows.count k place rising
    (λ i e first last. omega (arith, smaller i e first last, low)) (λ inside. omega (arith, next inside, high))

-- one more row does not change other products
others : (products : List ℕ) (rows : List (List ℕ)) (new : ℕ) (row : List ℕ) (product : ℕ)
    → length products ≡ length rows → new ≢ product
    → limits_for (products ++ new ∷ []) (rows ++ row ∷ []) product ≡ limits_for products rows product
unfolding limits_for
others [] [] new row product each other = behind new [] row [] product other
others [] (first ∷ rows) new row product each other = absurd (omega (arith, each))
others (limited ∷ products) [] new row product each other = absurd (omega (arith, each))
others (limited ∷ products) (first ∷ rows) new row product each other = ap (λ rest. if limited == product then first
    else rest) (others products rows new row product (omega (arith, each)) other)

-- one more row is that of its product
own : (from : ℕ) (products : List ℕ) (rows : List (List ℕ)) (count : ℕ) (row : List ℕ) → AreRising from products count
    → length products ≡ length rows → limits_for (products ++ count ∷ []) (rows ++ row ∷ []) count ≡ row
unfolding AreRising
own from [] [] count row rising each = at_first count [] row [] count refl
own from [] (first ∷ rows) count row rising each = absurd (omega (arith, each))
own from (limited ∷ products) [] count row rising each = absurd (omega (arith, each))
own from (limited ∷ products) (first ∷ rows) count row rising each =
    behind limited (products ++ count ∷ []) first (rows ++ row ∷ []) count
    (λ same. omega (arith, same, from_within (limited + 1) products count rising.1))
    ∙ own (limited + 1) products rows count row rising.1 (omega (arith, each))

-- one more row adds a list
limits_more : (count : ℕ) (products : List ℕ) (rows : List (List ℕ)) (row : List ℕ) → AreRising 0 products count
    → length products ≡ length rows
    → limits_of (count + 1) (products ++ count ∷ []) (rows ++ row ∷ []) ≡ limits_of count products rows ++ row ∷ []
limits_more count products rows row rising each =
    let old = limits_for products rows in
    let new = limits_for (products ++ count ∷ []) (rows ++ row ∷ []) in
    let same : map new (range_with_len 0 count) ≡ map old (range_with_len 0 count) =
    fill_by_all old (map new (range_with_len 0 count)) count [] (length-map-range_with_len new 0 count)
    (λ k below. get_or-map-range_with_len new 0 count k k [] below (omega arith)
    ∙ others products rows count row k each (λ at. omega (arith, at, below))) in
    map-range_with_len_more new 0 count count (omega arith)
    ∙ ap₂ (λ lists last. lists ++ last ∷ []) same (own 0 products rows count row rising each)

-- products without a row have no limits
pub rising_more : (from : ℕ) (products : List ℕ) (count more : ℕ) → AreRising from products count → count ≤ more
    → AreRising from products more
unfolding AreRising
rising_more from [] count more rising above = omega (arith, rising, above)
rising_more from (limited ∷ products) count more rising above =
    (rising.0, rising_more (limited + 1) products count more rising.1 above)

rising_push : (from : ℕ) (products : List ℕ) (count : ℕ) → AreRising from products count
    → AreRising from (products ++ count ∷ []) (count + 1)
unfolding AreRising
rising_push from [] count rising = (rising, omega arith)
rising_push from (limited ∷ products) count rising = (rising.0, rising_push (limited + 1) products count rising.1)

-- the limits with one more row for the next product, and that all are in order
pub row_pushed : (count end product : ℕ)
    (products ends prices row products_after ends_after prices_after known : List ℕ) → AreEnds 0 ends (length prices)
    × (length products ≡ length ends) × AreRising 0 products count → prices_after ≡ prices ++ row → end ≡ length known
    → known ≡ prices_after → ends_after ≡ ends ++ end ∷ [] → products_after ≡ products ++ product ∷ [] → product ≡ count
    → (limits_of (count + 1) products_after (rows_from 0 ends_after prices_after)
    ≡ limits_of count products (rows_from 0 ends prices) ++ row ∷ []) × (AreEnds 0 ends_after (length prices_after)
    × (length products_after ≡ length ends_after) × AreRising 0 products_after (count + 1))
row_pushed count end product products ends prices row products_after ends_after prices_after known packed priced last
    same ended added next =
    let one =
    one_more ends prices row prices_after end packed.0 priced (last ∙ ap (λ (list : List ℕ). length list) same) in
    let limited : products_after ≡ products ++ count ∷ [] = added ∙ ap (λ (n : ℕ). products ++ n ∷ []) next in
    let rows : rows_from 0 ends_after prices_after ≡ rows_from 0 ends prices ++ row ∷ [] =
    ap (λ (all : List ℕ). rows_from 0 all prices_after) ended ∙ one.0 in (
      ap₂ (λ (all : List ℕ) (lists : List (List ℕ)). limits_of (count + 1) all lists) limited rows ∙ limits_more count
          products (rows_from 0 ends prices) row packed.2 (packed.1 ∙ sym (length-rows 0 ends prices)),
      (
        subst (λ (all : List ℕ). AreEnds 0 all (length prices_after)) (sym ended) one.1,
        omega (
          arith,
          ap (λ (all : List ℕ). length all) ended,
          ap (λ (all : List ℕ). length all) limited,
          length-append ends (end ∷ []),
          length-append products (count ∷ []),
          packed.1,
        ),
        subst (λ (all : List ℕ). AreRising 0 all (count + 1)) (sym limited) (rising_push 0 products count packed.2),
      ),
    )

pub limits_empty : (more count : ℕ) (products : List ℕ) (rows : List (List ℕ)) → AreRising 0 products count
    → limits_of (count + more) products rows ≡ limits_of count products rows ++ replicate more []
limits_empty zero count products rows rising =
    let same : count + 0 ≡ count = omega arith in
    ap (λ n. limits_of n products rows) same ∙ sym (append-nil (limits_of count products rows))
limits_empty (suc more) count products rows rising =
    let old = limits_for products rows in
    let on : count + suc more ≡ (count + 1) + more = omega arith in
    ap (λ n. limits_of n products rows) on ∙ limits_empty more (count + 1) products rows (rising_more 0 products count
    (count + 1) rising (omega arith)) ∙ ap (λ lists. lists ++ replicate more []) (map-range_with_len_more old 0 count
    count (omega arith) ∙ ap (λ last. limits_of count products rows ++ last ∷ []) (none_past 0 products rows count count
    rising (omega arith))) ∙ append_assoc (limits_of count products rows) ([] ∷ []) (replicate more [])

-- the empty list rises
pub rising_none : (products : List ℕ) → products ≡ [] → AreRising 0 products 0
unfolding AreRising
rising_none products none = subst (λ (list : List ℕ). AreRising 0 list 0) (sym none) (omega arith)

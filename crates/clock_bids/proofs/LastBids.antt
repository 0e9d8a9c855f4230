-- The last bid for a product among the first bids of a sheet, as the pass that checks a sheet finds it. Either there is
-- none, or it is the bid directly before, or a table has its index.
use Rattle.std.proofs.Common.{◌≡◌, ℕ, zero, suc, ◌+◌, ◌-◌, ◌<◌, ◌≤◌, List, [], ◌==◌, true, false, cond, map, length}
use Rattle.std.proofs.Common.{replicate, take, inl, inr, refl, ap, ap₂, sym, subst, ◌∙◌, arith, get_or, set, All, Bor}
use Rattle.std.specs.Prelude.{Option, Some, None, IfSome, nat_lt, slice_get}
use Rattle.std.specs.Option.{is_some, option_copied}
use Rattle.std.proofs.lemmas.Bool.{cases_lt, ltb-true, ltb-false, ne_eqb}
use Rattle.std.proofs.lemmas.Option.{slice_get-get_or, slice_get_past}
use Rattle.std.proofs.lemmas.List.{get_or-set_same, get_or-take, get_or_past, length-take-le, take_more}
use Rattle.std.proofs.lemmas.List.{get_or-map, length-map, length-replicate, length-set, map-set}
use Rattle.std.proofs.lemmas.List.Elements.{All-push, All-weaker}
use Rattle.std.proofs.lemmas.List.FromFn.{get_or-map-range_with_len, length-map-range_with_len}
use Rattle.clock_terms.specs.declared.setup.Product.{Product}
use Rattle.clock_bids.specs.declared.sheet.Bid.{Bid}
use Rattle.clock_bids.specs.Sheet.{chain_of}
use Rattle.clock_bids.specs.inside.Chains.{bid_at, last_of, last_bids}
use Rattle.clock_bids.specs.inside.LastBids.{AreLastPlaces, IsTableBefore}
use Rattle.clock_bids.proofs.ByProduct.{filter_none}
use Rattle.clock_bids.proofs.Tables.{no_bid, last_bids-nil, last_bids-more, none_at, bid_here}

-- a product without bids has no last one, nor has a number that is no product's
pub none_last : (products product : ℕ) (bids : List Bid) → chain_of product bids ≡ []
    → None ≡ get_or (last_bids products bids) product None
none_last products product bids empty =
    elim (cases_lt product products) as (λ _. None ≡ get_or (last_bids products bids) product None) [
      | inl known ↦ sym (get_or-map-range_with_len
          (λ p. last_of (chain_of p bids)) 0 products product product None known (omega arith) ∙ ap last_of empty)
      | inr unknown ↦ sym (get_or_past (last_bids products bids) product None
          (omega (arith, unknown, length-map-range_with_len (λ p. last_of (chain_of p bids)) 0 products)))
    ]

-- a product above those of all bids has none
pub none_below : (products least product : ℕ) (bids : List Bid) → All (λ bid. bid.product < least) bids
    → least ≤ product → None ≡ get_or (last_bids products bids) product None
none_below products least product bids below high =
    none_last products product bids
    (filter_none (λ (bid : Bid). bid.product == product) bids
    (All-weaker (λ (bid : Bid). bid.product < least) (λ (bid : Bid). (bid.product == product) ≡ false)
    (λ bid low. ne_eqb bid.product product (λ e. omega (arith, e, low, high))) bids below))

-- bids for products of a list are for products of an equal list
pub known_all : (products seen : List Product) (bids : List Bid) → seen ≡ products
    → All (λ bid. bid.product < length products) bids → All (λ bid. bid.product < length seen) bids
known_all products seen bids same known =
    subst (λ (list : List Product). All (λ bid. bid.product < length list) bids) (sym same) known

-- each of the first `place` bids is for a product
pub known_at : (products : ℕ) (bids : List Bid) (place i : ℕ) → place ≤ length bids
    → All (λ bid. bid.product < products) (take place bids) → i < place → (get_or bids i no_bid).product < products
known_at products bids place i within known below =
    subst (λ (bid : Bid). bid.product < products) (get_or-take place bids i no_bid below)
    (known i no_bid (omega (arith, below, length-take-le place bids within)))

-- in a table of zeros no product has a last bid
pub no_places : (products : ℕ) (bids : List Bid) (places : List ℕ) → places ≡ replicate products 0
    → AreLastPlaces products bids 0 places
no_places products bids places zeros = record {
  each = ap length zeros ∙ length-replicate products 0;
  table = ap (map (bid_at bids)) zeros ∙ none_at bids products ∙ sym (last_bids-nil products);
}

-- with one more bid, its index replaces that of its product
pub last_places-more : (products : ℕ) (bids : List Bid) (i : ℕ) (places : List ℕ) → i < length bids
    → (get_or bids i no_bid).product < products → AreLastPlaces products bids i places
    → AreLastPlaces products bids (i + 1) (set places (get_or bids i no_bid).product (i + 1))
last_places-more products bids i places within known maintained =
    let bid = get_or bids i no_bid in
    record {
      each = length-set places bid.product (i + 1) ∙ maintained.each;
      table = map-set (bid_at bids) places bid.product (i + 1)
          ∙ ap (λ one. set (map (bid_at bids) places) bid.product one) (bid_here bids i within)
          ∙ ap (λ entries. set entries bid.product (Some bid)) maintained.table
          ∙ sym (last_bids-more products bids i within known);
    }

-- the entry of a product leads to its last bid
pub last_read : (products : ℕ) (bids : List Bid) (i : ℕ) (places slice : List ℕ) (product : ℕ) (last : Option Bid)
    → AreLastPlaces products bids i places → slice ≡ places → last ≡ get_or (map (bid_at bids) slice) product None
    → last ≡ get_or (last_bids products (take i bids)) product None
last_read products bids i places slice product last maintained is read = read ∙ ap (λ (xs : List ℕ).
    get_or (map (bid_at bids) xs) product None) is ∙ ap (λ entries. get_or entries product None) maintained.table

-- with one more bid, all are for products below a number that is above the bid's
pub below_more : (bids : List Bid) (i least next : ℕ) → i < length bids → least ≤ next → (get_or bids i no_bid).product
    < next → All (λ bid. bid.product < least) (take i bids) → All (λ bid. bid.product < next) (take (i + 1) bids)
below_more bids i least next within more high below = subst (λ (list : List Bid). All (λ bid. bid.product < next) list)
    (sym (take_more bids i no_bid within)) (All-push (λ (bid : Bid). bid.product < next) (take i bids)
    (get_or bids i no_bid) (All-weaker (λ (bid : Bid). bid.product < least) (λ (bid : Bid). bid.product < next)
    (λ bid low. omega (arith, low, more)) (take i bids) below) high)

-- the bid directly before an index is the last one for its product
pub last_before : (products product place i : ℕ) (bids : List Bid) (before : Bid) → place ≡ i + 1 → i < length bids
    → before ≡ get_or bids i no_bid → before.product ≡ product → All (λ bid. bid.product < products) (take place bids)
    → Some before ≡ get_or (last_bids products (take place bids)) product None
last_before products product place i bids before from within is same all =
    let bid = get_or bids i no_bid in
    let here : bid.product ≡ product = ap (λ (b : Bid). b.product) (sym is) ∙ same in
    let known : bid.product < products =
    known_at products bids place i (omega (arith, from, within)) all (omega (arith, from)) in
    let earlier = last_bids products (take i bids) in
    let each : length earlier ≡ products =
    length-map-range_with_len (λ p. last_of (chain_of p (take i bids))) 0 products in
    ap Some is
    ∙ sym (ap (λ entries. get_or entries bid.product None) (last_bids-more products bids i within known)
    ∙ get_or-set_same earlier bid.product (Some bid) None (omega (arith, known, each)))
    ∙ ap₂ (λ (n p : ℕ). get_or (last_bids products (take n bids)) p None) (sym from) here

-- the bid whose index a table has for a product
module _ (bids : List Bid) (places : List ℕ) (product : ℕ) where
  pub past_table : false ≡ nat_lt product (length places) → None ≡ get_or (map (bid_at bids) places) product None
  past_table past = sym (get_or_past (map (bid_at bids) places) product None
      (omega (arith, ltb-false product (length places) (sym past), length-map places (bid_at bids))))

  in_table : (place : ℕ) → true ≡ nat_lt product (length places) → place ≡ get_or places product place
      → get_or (map (bid_at bids) places) product None ≡ bid_at bids place
  in_table place within is =
      get_or-map (bid_at bids) places product place None (ltb-true product (length places) (sym within))
      ∙ ap (bid_at bids) (sym is)

  none_at_0 : (place : ℕ) → (1 ≤ place → ⊥) → bid_at bids place ≡ None
  none_at_0 zero none = refl
  none_at_0 (suc n) none = absurd (none (omega arith))

  pub no_place : (place : ℕ) → true ≡ nat_lt product (length places) → place ≡ get_or places product place
      → (1 ≤ place → ⊥) → None ≡ get_or (map (bid_at bids) places) product None
  no_place place within is none = sym (in_table place within is ∙ none_at_0 place none)

  copied : (found : Option (Bor Bid)) (i : ℕ) → is_some found ≡ nat_lt i (length bids)
      → IfSome found (λ bid. bid.now ≡ get_or bids i bid.now) → option_copied found ≡ slice_get bids i
  copied None i none is = sym (slice_get_past bids i (ltb-false i (length bids) (sym none)))
  copied (Some bid) i some is =
      ap Some is ∙ sym (slice_get-get_or bids i bid.now (ltb-true i (length bids) (sym some)))

  at_place : (place i : ℕ) → 1 ≤ place → i ≡ place - 1 → bid_at bids place ≡ slice_get bids i
  at_place place i some is =
      ap (λ none. cond none None (slice_get bids (place - 1))) (ne_eqb place 0 (λ e. omega (arith, e, some)))
      ∙ ap (slice_get bids) (sym is)

  pub some_place : (place i : ℕ) (found : Option (Bor Bid)) → true ≡ nat_lt product (length places)
      → place ≡ get_or places product place → 1 ≤ place → i ≡ place - 1 → is_some found ≡ nat_lt i (length bids)
      → IfSome found (λ bid. bid.now ≡ get_or bids i bid.now)
      → option_copied found ≡ get_or (map (bid_at bids) places) product None
  some_place place i found within is some before lookup same =
      copied found i lookup same ∙ sym (at_place place i some before) ∙ sym (in_table place within is)

-- a table before a bid is one before each later bid too
pub table_later : (products : List Product) (bids : List Bid) (place later placed : ℕ) (places : List ℕ)
    → place ≤ later → IsTableBefore (length products) bids place placed places
    → IsTableBefore (length products) bids later placed places
table_later products bids place later placed places on before = record {
  order = omega (arith, on, before.order);
  table = before.table;
}

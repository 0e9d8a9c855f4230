-- Tables with an entry for each product, made of its chain: one more bid changes only the entry of its product.
use Rattle.std.proofs.Common.{◌≡◌, ℕ, ◌+◌, ◌<◌, List, [], ◌∷◌, ◌++◌, cond, map, length, ◌==◌, ◌-◌, replicate}
use Rattle.std.proofs.Common.{take, zero, suc, inl, inr, refl, ap, sym, ◌∙◌, arith, get_or, set, append-nil}
use Rattle.std.specs.Prelude.{Some, None, slice_get}
use Rattle.std.specs.List.{range_with_len}
use Rattle.std.proofs.lemmas.Bool.{eq-eqb, ne_eqb, cases_eq}
use Rattle.std.proofs.lemmas.List.{take_more, same_lists, length-set, get_or-set_same, get_or-set_other}
use Rattle.std.proofs.lemmas.List.Elements.{filter-append}
use Rattle.std.proofs.lemmas.Option.{slice_get-get_or}
use Rattle.std.proofs.lemmas.List.FromFn.{length-map-range_with_len, get_or-map-range_with_len}
use Rattle.clock_bids.specs.declared.sheet.Bid.{Bid}
use Rattle.clock_bids.specs.Sheet.{chain_of, last_quantity, asked_demands}
use Rattle.clock_bids.specs.inside.Chains.{bid_at, last_of, last_bids}
use Rattle.clock_bids.proofs.Chains.{last_of-push, last_quantity-push}

-- one more bid is the last one of its product's chain, and in no other chain
pub chain_of-own : (product : ℕ) (bids : List Bid) (bid : Bid) → bid.product ≡ product
    → chain_of product (bids ++ bid ∷ []) ≡ chain_of product bids ++ bid ∷ []
chain_of-own product bids bid own = filter-append (λ (b : Bid). b.product == product) bids (bid ∷ [])
    ∙ ap (λ t. chain_of product bids ++ cond t (bid ∷ []) []) (eq-eqb bid.product product own)

pub chain_of-other : (product : ℕ) (bids : List Bid) (bid : Bid) → (bid.product ≡ product → ⊥)
    → chain_of product (bids ++ bid ∷ []) ≡ chain_of product bids
chain_of-other product bids bid other =
    filter-append (λ (b : Bid). b.product == product) bids (bid ∷ [])
    ∙ ap (λ t. chain_of product bids ++ cond t (bid ∷ []) []) (ne_eqb bid.product product other)
    ∙ append-nil (chain_of product bids)

-- so it changes only its product's entry
module _ {A : Type 0} (entry : ℕ → List Bid → A) where
  table : ℕ → List Bid → List A
  table products bids = map (λ product. entry product (chain_of product bids)) (range_with_len 0 products)

  pub table-push : (products : ℕ) (bids : List Bid) (bid : Bid) → bid.product < products →
      map (λ product. entry product (chain_of product (bids ++ bid ∷ []))) (range_with_len 0 products)
      ≡ set (map (λ product. entry product (chain_of product bids)) (range_with_len 0 products)) bid.product
      (entry bid.product (chain_of bid.product bids ++ bid ∷ []))
  table-push products bids bid known =
      let new : ℕ → A = λ product. entry product (chain_of product (bids ++ bid ∷ [])) in
      let old : ℕ → A = λ product. entry product (chain_of product bids) in
      let own : A = entry bid.product (chain_of bid.product bids ++ bid ∷ []) in
      let news = length-map-range_with_len new 0 products in
      let olds = length-map-range_with_len old 0 products in
      let both = length-set (map old (range_with_len 0 products)) bid.product own in
      same_lists (map new (range_with_len 0 products)) (set (map old (range_with_len 0 products)) bid.product own)
      (news ∙ sym olds ∙ sym both) (λ k d within. (let inside : k < products = omega (arith, within, news) in
      get_or-map-range_with_len new 0 products k k d inside (omega arith) ∙ elim (cases_eq bid.product k) as
      (λ _. new k ≡ get_or (set (map old (range_with_len 0 products)) bid.product own) k d) [
        | inl same ↦ ap (λ chain. entry k chain) (chain_of-own k bids bid same)
            ∙ ap (λ (p : ℕ). entry p (chain_of p bids ++ bid ∷ [])) (sym same)
            ∙ sym (get_or-set_same (map old (range_with_len 0 products)) bid.product own d (omega (arith, olds, known)))
            ∙ ap (λ (p : ℕ). get_or (set (map old (range_with_len 0 products)) bid.product own) p d) same
        | inr differ ↦ ap (λ chain. entry k chain) (chain_of-other k bids bid differ)
            ∙ sym (get_or-map-range_with_len old 0 products k k d inside (omega arith))
            ∙ sym (get_or-set_other (map old (range_with_len 0 products)) bid.product k own d (λ e. differ (sym e)))
      ]))

-- the last bids and the requested demands, with one more bid
pub last_bids-push : (products : ℕ) (bids : List Bid) (bid : Bid) → bid.product < products →
    last_bids products (bids ++ bid ∷ []) ≡ set (last_bids products bids) bid.product (Some bid)
last_bids-push products bids bid known =
    table-push (λ _ chain. last_of chain) products bids bid known
    ∙ ap (λ last. set (last_bids products bids) bid.product last) (last_of-push (chain_of bid.product bids) bid)

pub asked_demands-push : (products : ℕ) (bids : List Bid) (bid : Bid) → bid.product < products →
    asked_demands products (bids ++ bid ∷ []) ≡ set (asked_demands products bids) bid.product bid.quantity
asked_demands-push products bids bid known = table-push (λ _ chain. last_quantity 0 chain) products bids bid known
    ∙ ap (λ last. set (asked_demands products bids) bid.product last)
    (last_quantity-push 0 (chain_of bid.product bids) bid)

-- the tables without any bid
no_entries : {A : Type 0} (a : A) (from n : ℕ) → map (λ _. a) (range_with_len from n) ≡ replicate n a
no_entries a from zero = refl
no_entries a from (suc n) = ap (λ rest. a ∷ rest) (no_entries a (from + 1) n)

pub last_bids-nil : (products : ℕ) → last_bids products [] ≡ replicate products None
last_bids-nil products = no_entries None 0 products

pub asked_demands-nil : (products : ℕ) → asked_demands products [] ≡ replicate products 0
asked_demands-nil products = no_entries 0 0 products

-- the tables with one more bid of the sheet
abbrev pub no_bid : Bid
no_bid = record { product = 0; quantity = 0; price = 0 }

pub last_bids-more : (products : ℕ) (bids : List Bid) (i : ℕ) → i < length bids
    → (get_or bids i no_bid).product < products → last_bids products (take (i + 1) bids)
    ≡ set (last_bids products (take i bids)) (get_or bids i no_bid).product (Some (get_or bids i no_bid))
last_bids-more products bids i within known = ap (last_bids products) (take_more bids i no_bid within)
    ∙ last_bids-push products (take i bids) (get_or bids i no_bid) known

pub asked_demands-more : (products : ℕ) (bids : List Bid) (i : ℕ) → i < length bids
    → (get_or bids i no_bid).product < products → asked_demands products (take (i + 1) bids)
    ≡ set (asked_demands products (take i bids)) (get_or bids i no_bid).product (get_or bids i no_bid).quantity
asked_demands-more products bids i within known = ap (asked_demands products) (take_more bids i no_bid within)
    ∙ asked_demands-push products (take i bids) (get_or bids i no_bid) known

pub length-asked_demands : (products : ℕ) (bids : List Bid) → length (asked_demands products bids) ≡ products
length-asked_demands products bids =
    length-map-range_with_len (λ product. last_quantity 0 (chain_of product bids)) 0 products

-- the first items of a list without items
take_none : {A : Type 0} (n : ℕ) → take n (let none : List A = [] in none) ≡ []
take_none zero = refl
take_none (suc n) = refl

pub filled : {A : Type 0} (items fresh : List A) (n had : ℕ) (a : A) → items ≡ take n fresh ++ replicate (n - had) a
    → fresh ≡ [] → had ≡ 0 → items ≡ replicate n a
filled items fresh n had a is none empty =
    is ∙ ap (λ old. take n old ++ replicate (n - had) a) none ∙ ap (λ old. old ++ replicate (n - had) a) (take_none n)
    ∙ ap (λ (k : ℕ). replicate k a) (let all : n - had ≡ n = omega (arith, empty) in all)

-- the bids at the indexes of a table: none for zeros, and the next bid at its own index
pub none_at : (bids : List Bid) (n : ℕ) → map (bid_at bids) (replicate n 0) ≡ replicate n None
none_at bids zero = refl
none_at bids (suc n) = ap (λ rest. None ∷ rest) (none_at bids n)

pub bid_here : (bids : List Bid) (i : ℕ) → i < length bids → bid_at bids (i + 1) ≡ Some (get_or bids i no_bid)
bid_here bids i within =
    ap (λ b. cond b None (slice_get bids ((i + 1) - 1))) (ne_eqb (i + 1) 0 (λ e. omega (arith, e)))
    ∙ ap (λ k. slice_get bids k) (let same : (i + 1) - 1 ≡ i = omega arith in same)
    ∙ slice_get-get_or bids i no_bid within

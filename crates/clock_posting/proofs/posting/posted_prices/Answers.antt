-- Proves that the loop ends with the posted prices: the least ones, raised by each reduction that was applied.
use Rattle.std.proofs.Common.{◌≡◌, ◌+◌, ◌∷◌, List, ℕ, Bool, true, false, cond, length, get_or, drop, map, ◌∙◌, ap, ap₂}
use Rattle.std.proofs.Common.{sym, subst, arith, zero-add}
use Rattle.std.specs.Prelude.{fold, max, filter, zip, if◌then◌else◌}
use Rattle.std.proofs.lemmas.List.{drop_all, drop_more}
use Rattle.std.proofs.lemmas.List.FromFn.{fill_by_all, length-map-range_with_len, get_or-map-range_with_len}
use Rattle.clock_terms.specs.declared.change.Change.{Change}
use Rattle.clock_posting.specs.inside.Parts.{applied_prices, least_price}
use Rattle.clock_posting.specs.PostedPrice.{posted_price, is_applied_reduction, IsWithinPrices}
use Rattle.clock_posting.proofs.Posted.{raised_is_posted}
use Rattle.clock_posting.proofs.posting.posted_prices.Goals as goal

pub loop-i-init : goal.loop-i-init
loop-i-init c =
    let a = c.args in
    let f = least_price a.products.now a.prices.now a.grid.now in
    record {
      lengths = ap (λ (list : List ℕ). length list) c.in_ok-posted.ensures
          ∙ length-map-range_with_len f 0 (length a.products.now) ∙ sym c.requires.prices;
      rest = λ p below. ap (λ price. fold max price (applied_prices a.changes.now a.left.now p))
          (ap (λ (list : List ℕ). get_or list p 0) c.in_ok-posted.ensures ∙ get_or-map-range_with_len f 0
          (length a.products.now) p p 0 (omega (arith, below, c.requires.prices)) (zero-add p));
    }

-- With the request's price, if it is an applied reduction of the product, the highest price is the same.
one_fewer_by : (b : Bool) (change : Change) (left : ℕ) (rest : List (Change × ℕ)) (old new : ℕ)
    → new ≡ (if b then max old change.price else old) → fold max new (map (λ line. line.0.price) rest)
    ≡ fold max old (map (λ line. line.0.price) (cond b ((change, left) ∷ rest) rest))
one_fewer_by true change left rest old new is = ap (λ n. fold max n (map (λ line. line.0.price) rest)) is
one_fewer_by false change left rest old new is = ap (λ n. fold max n (map (λ line. line.0.price) rest)) is

one_fewer : (product : ℕ) (change : Change) (left : ℕ) (changes : List Change) (lefts : List ℕ) (old new : ℕ)
    → new ≡ (if is_applied_reduction product change left then max old change.price else old)
    → fold max new (applied_prices changes lefts product)
    ≡ fold max old (applied_prices (change ∷ changes) (left ∷ lefts) product)
one_fewer product change left changes lefts old new is =
    one_fewer_by (is_applied_reduction product change left) change left
    (filter (λ line. is_applied_reduction product line.0 line.1) (zip changes lefts)) old new is

pub note-requires-clause-lengths : goal.note-requires-clause-lengths
note-requires-clause-lengths c = c.loop-i.invariant.lengths

pub note-requires-clause-priced : goal.note-requires-clause-priced
note-requires-clause-priced c = subst (IsWithinPrices c.args.prices.now) (sym c.index-changes-i.is)
    (c.requires.changes c.loop-i.i c.index-changes-i.result c.loop-i-test.true)

pub loop-i-preserved : goal.loop-i-preserved
loop-i-preserved c =
    let i = c.loop-i.i in
    let changes = c.args.changes.now in
    let left = c.args.left.now in
    let change = c.index-changes-i.result in
    let posted = c.loop-i.posted in
    let these : drop i changes ≡ change ∷ drop (i + 1) changes =
    drop_more changes i change c.loop-i-test.true
    ∙ ap (λ (one : Change). one ∷ drop (i + 1) changes) (sym c.index-changes-i.is) in
    let here : drop i left ≡ get_or left i 0 ∷ drop (i + 1) left =
    drop_more left i 0 (omega (arith, c.loop-i-test.true, c.requires.left)) in
    record {
      lengths = c.note.ensures.lengths ∙ c.loop-i.invariant.lengths;
      rest = λ p below.
          one_fewer p change (get_or left i 0) (drop (i + 1) changes) (drop (i + 1) left) (get_or posted p 0)
          (get_or c.note.new.posted p 0)
          (c.note.ensures.price p (omega (arith, below, c.loop-i.invariant.lengths)))
          ∙ ap₂ (λ (list : List Change) (lefts : List ℕ). fold max (get_or posted p 0) (applied_prices list lefts p))
          (sym these) (sym here)
          ∙ c.loop-i.invariant.rest p below;
    }

pub returns : goal.returns
returns c =
    let a = c.args in
    let none = drop_all c.loop-i.i a.changes.now (omega arith) in
    fill_by_all (posted_price a.products.now a.prices.now a.changes.now a.left.now a.grid.now) c.loop-i.posted
    (length a.products.now) 0 (c.loop-i.invariant.lengths ∙ c.requires.prices) (λ k below.
    let all : get_or c.loop-i.posted k 0
    ≡ fold max (least_price a.products.now a.prices.now a.grid.now k) (applied_prices a.changes.now a.left.now k) =
    rw none at (c.loop-i.invariant.rest k (omega (arith, below, c.requires.prices))) in
    all ∙ raised_is_posted a.products.now a.prices.now a.changes.now a.left.now a.grid.now k c.requires.changes)

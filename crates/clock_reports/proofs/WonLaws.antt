-- Text and price of a bidder's demands, computed from the positive ones only: demands of 0 between them cost nothing,
-- and their text is a prefix of the text of a row of zeros.
use Rattle.std.proofs.Common.{◌≡◌, ℕ, zero, suc, ◌+◌, ◌-◌, ◌*◌, ◌<◌, ◌≤◌, List, ◌∷◌, ◌++◌, flat_map, length, take, drop}
use Rattle.std.proofs.Common.{get_or, None, refl, sym, ap, ap₂}
use Rattle.std.proofs.Common.{◌∙◌, append-nil, arith}
use Rattle.std.specs.Prelude.{codes, replicate, zip}
use Rattle.std.specs.Fmt.{digits}
use Rattle.std.specs.List.{AllWithin}
use Rattle.std.proofs.lemmas.Grind.{flat_map-append}
use Rattle.std.proofs.lemmas.List.{drop_all, drop_more}
use Rattle.std.proofs.lemmas.List.Sums.{sum_by-cons}
use Rattle.clock_posting.specs.declared.sheet.Line.{Line}
use Rattle.clock_reports.specs.ReportText.{payment}
use Rattle.clock_reports.specs.Writers.{demand_text, none_held}

-- ---- the text of demands of 0

zero_text : demand_text 0 ≡ codes "0 "
unfolding digits
zero_text = refl

-- one product more
pub none_more : (n : ℕ) → none_held (suc n) ≡ codes "0 " ++ none_held n
none_more n = ap (λ (first : List ℕ). first ++ none_held n) zero_text

pub length-none_held : (n : ℕ) → length (none_held n) ≡ 2 * n
length-none_held zero = refl
length-none_held (suc n) =
    ap (λ (text : List ℕ). length text) (none_more n) ∙ (let rest = length-none_held n in omega arith)

-- the text for fewer products is a prefix
pub front_of_none : (many products : ℕ) → products ≤ many → take (2 * products) (none_held many) ≡ none_held products
front_of_none many zero few = refl
front_of_none zero (suc products) few = absurd (omega (arith, few))
front_of_none (suc many) (suc products) few =
    let twice : 2 * suc products ≡ suc (suc (2 * products)) = omega arith in
    ap₂ (λ (n : ℕ) (text : List ℕ). take n text) twice (none_more many)
    ∙ ap (λ (text : List ℕ). codes "0 " ++ text) (front_of_none many products (omega (arith, few)))
    ∙ sym (none_more products)

-- ---- skipped products

-- the demands from an index on, if the first `count` of them are 0
none_first : (row : List ℕ) (from count : ℕ) → from + count ≤ length row → AllWithin (λ demand. demand ≡ 0) row from
    (from + count) → drop from row ≡ replicate count 0 ++ drop (from + count) row
none_first row from zero within none =
    let same : from ≡ from + 0 = omega arith in
    ap (λ (n : ℕ). drop n row) same
none_first row from (suc count) within none =
    let same : (from + 1) + count ≡ from + suc count = omega arith in
    drop_more row from 0 (omega (arith, within))
    ∙ ap (λ (first : ℕ). first ∷ drop (from + 1) row) (none from 0 (omega arith) (omega arith))
    ∙ ap (λ (rest : List ℕ). 0 ∷ rest) (none_first row (from + 1) count (omega (arith, within))
    (λ k d low high. none k d (omega (arith, low)) (omega (arith, high))))
    ∙ ap (λ (n : ℕ). replicate (suc count) 0 ++ drop n row) same

-- the text of skipped demands, followed by that of the demands after them
pub none_passed : (row : List ℕ) (from to : ℕ) → from ≤ to → to ≤ length row → AllWithin (λ demand. demand ≡ 0) row from
    to → none_held (to - from) ++ flat_map demand_text (drop to row) ≡ flat_map demand_text (drop from row)
none_passed row from to order within none =
    let same : from + (to - from) ≡ to = omega (arith, order) in
    ap (λ (n : ℕ). none_held (to - from) ++ flat_map demand_text (drop n row)) (sym same)
    ∙ sym (flat_map-append demand_text (replicate (to - from) 0) (drop (from + (to - from)) row))
    ∙ ap (λ (demands : List ℕ). flat_map demand_text demands) (sym (none_first row from (to - from)
    (omega (arith, same, within)) (λ k d low high. none k d low (omega (arith, high, same)))))

-- a positive demand after skipped ones
pub one_held : (row : List ℕ) (from product demand : ℕ) → from ≤ product → product < length row → AllWithin (λ demand.
    demand ≡ 0) row from product → demand ≡ get_or row product 0 → flat_map demand_text (drop from row)
    ≡ none_held (product - from) ++ (demand_text demand ++ flat_map demand_text (drop (product + 1) row))
one_held row from product demand order within none is =
    let behind : List ℕ = flat_map demand_text (drop (product + 1) row) in
    let more : flat_map demand_text (drop product row) ≡ demand_text demand ++ behind =
    ap (λ (demands : List ℕ). flat_map demand_text demands) (drop_more row product 0 within)
    ∙ ap (λ (first : ℕ). demand_text first ++ behind) (sym is) in
    sym (none_passed row from product order (omega (arith, within)) none)
    ∙ ap (λ (left : List ℕ). none_held (product - from) ++ left) more

-- only demands of 0 are left
pub none_left : (row : List ℕ) (from : ℕ) → from ≤ length row → AllWithin (λ demand. demand ≡ 0) row from (length row)
    → flat_map demand_text (drop from row) ≡ none_held (length row - from)
none_left row from order none =
    sym (none_passed row from (length row) order (omega arith) none)
    ∙ ap (λ (left : List ℕ). none_held (length row - from) ++ flat_map demand_text left)
    (drop_all (length row) row (omega arith))
    ∙ append-nil (none_held (length row - from))

-- ---- prices of demands

no_line : Line
no_line = record { start = 0; clock = 0; posted = 0; demand = None; next = None }

-- one product more
paid_more : (line : Line) (lines : List Line) (demand : ℕ) (row : List ℕ)
    → payment (line ∷ lines) (demand ∷ row) ≡ line.posted * demand + payment lines row
paid_more line lines demand row =
    sum_by-cons (λ (pair : Line × ℕ). pair.0.posted * pair.1) (line, demand) (zip lines row)

pub paid_at : (lines : List Line) (row : List ℕ) (product demand : ℕ) (line : Line) → length row ≡ length lines
    → product < length row → line ≡ get_or lines product line → demand ≡ get_or row product 0 → payment (drop product
    lines) (drop product row) ≡ line.posted * demand + payment (drop (product + 1) lines) (drop (product + 1) row)
paid_at lines row product demand line same within line_is is = ap₂ (λ (left : List Line) (demands : List ℕ).
    payment left demands) (drop_more lines product line (omega (arith, within, same))) (drop_more row product 0 within)
    ∙ ap₂ (λ (first : Line) (one : ℕ). payment (first ∷ drop (product + 1) lines) (one ∷ drop (product + 1) row))
    (sym line_is) (sym is) ∙ paid_more line (drop (product + 1) lines) demand (drop (product + 1) row)

so_many_free : (lines : List Line) (row : List ℕ) (from count : ℕ) → length row ≡ length lines
    → from + count ≤ length row → AllWithin (λ demand. demand ≡ 0) row from (from + count)
    → payment (drop from lines) (drop from row) ≡ payment (drop (from + count) lines) (drop (from + count) row)
so_many_free lines row from zero same within none =
    let end : from ≡ from + 0 = omega arith in
    ap (λ (n : ℕ). payment (drop n lines) (drop n row)) end
so_many_free lines row from (suc count) same within none =
    let end : (from + 1) + count ≡ from + suc count = omega arith in
    let line : Line = get_or lines from no_line in
    let rest : ℕ = payment (drop (from + 1) lines) (drop (from + 1) row) in
    let free : line.posted * 0 + rest ≡ rest = omega arith in
    ap₂ (λ (left : List Line) (demands : List ℕ). payment left demands)
    (drop_more lines from no_line (omega (arith, within, same))) (drop_more row from 0 (omega (arith, within)))
    ∙ paid_more line (drop (from + 1) lines) (get_or row from 0) (drop (from + 1) row) ∙ ap (λ (demand : ℕ). line.posted
    * demand + rest) (none from 0 (omega arith) (omega arith)) ∙ free ∙ so_many_free lines row (from + 1) count same
    (omega (arith, within)) (λ k d low high. none k d (omega (arith, low)) (omega (arith, high)))
    ∙ ap (λ (n : ℕ). payment (drop n lines) (drop n row)) end

-- demands of 0 cost nothing
pub free : (lines : List Line) (row : List ℕ) (from to : ℕ) → length row ≡ length lines → from ≤ to → to ≤ length row
    → AllWithin (λ demand. demand ≡ 0) row from to
    → payment (drop from lines) (drop from row) ≡ payment (drop to lines) (drop to row)
free lines row from to same order within none =
    let end : from + (to - from) ≡ to = omega (arith, order) in
    so_many_free lines row from (to - from) same (omega (arith, end, within))
    (λ k d low high. none k d low (omega (arith, high, end))) ∙ ap (λ (n : ℕ). payment (drop n lines) (drop n row)) end

-- Each turn of the loop reads a list and the empty ones that follow it.
use Rattle.std.proofs.Common.{◌≡◌, ◌∷◌, ◌++◌, [], List, ℕ, length, map, replicate, sym, ap, subst, ◌∙◌, arith}
use Rattle.clock_json.specs.Reading.{Token, numbers, rows, ReadsValue}
use Rattle.clock_json.specs.inside.Reading.{HasItems}
use Rattle.clock_json.proofs.Steps.{all_shorter, items_start, items_end, items_push_next, items_push_same}
use Rattle.clock_replays.specs.inside.PackedLimits.{packed_limits}
use Rattle.clock_replays.proofs.limit_lists.limit_lists.Goals as goal

pub items-init : goal.items-init
items-init c =
    let start = c.opens.new.self in
    record {
      read = subst (λ list. HasItems 1 start (map numbers list) start) (sym c.new-limits.ensures.none)
          (items_start 1 start);
      packed = c.new-limits.ensures.packed;
      shorter = omega arith;
    }

pub items-preserved : goal.items-preserved
items-preserved c =
    let l = c.items in
    let start = c.opens.new.self in
    let here = c.numbers_after.new.self in
    let new = c.empty_arrays-empty.new.self in
    let row = c.as_slice.result.now in
    let count = c.empty_arrays-empty.result in
    let before = packed_limits l.limits in
    let same : c.closes.new.self ≡ l.scan = grind arith in
    let read = c.in_ok-numbers_after.ensures.value in
    let is : read.0 ≡ row =
    sym (c.as_slice.ensures.value ∙ read.1 ∙ ap (λ (old : List ℕ). old ++ read.0) c.clear.ensures.items) in
    let reads : ReadsValue 1 l.scan (numbers row) here = subst (λ (ns : List ℕ). ReadsValue 1 l.scan (numbers ns) here)
    is (subst (λ ts. ReadsValue 1 ts (numbers read.0) here) same read.2) in
    let all : packed_limits c.push_empty.new.self ≡ (before ++ row ∷ []) ++ replicate count [] =
    c.in_ok-push_empty.ensures.limits
    ∙ ap (λ (known : List (List ℕ)). known ++ replicate count []) c.in_ok-push.ensures.limits in
    record {
      read = subst (λ list. HasItems 1 start (map numbers list) new) (sym all)
          (items_push_same 1 numbers start here new (before ++ row ∷ []) [] count
          (items_push_next 1 numbers start l.scan here before row l.invariant.read reads) c.empty_arrays-empty.ensures);
      packed = c.in_ok-push_empty.ensures.packed;
      shorter = omega (
        arith,
        l.invariant.shorter,
        c.in_ok-numbers_after.ensures.shorter,
        ap length same,
        all_shorter 1 here (replicate count (numbers [])) new c.empty_arrays-empty.ensures,
      );
    }

pub items-smaller : goal.items-smaller
items-smaller c =
    let here = c.numbers_after.new.self in
    let count = c.empty_arrays-empty.result in
    let same : c.closes.new.self ≡ c.items.scan = grind arith in
    omega (
      arith,
      c.in_ok-numbers_after.ensures.shorter,
      ap length same,
      all_shorter 1 here (replicate count (numbers [])) c.empty_arrays-empty.new.self c.empty_arrays-empty.ensures,
    )

pub returns-clause-value : goal.returns-clause-value
returns-clause-value c =
    let l = c.items in
    let closed : l.scan ≡ Token.end_array ∷ c.closes.new.self = grind arith in
    subst (λ lists. ReadsValue 2 c.args.scan.now (rows lists) c.closes.new.self) (sym c.in_ok-lists.ensures)
    (items_end 1 c.args.scan.now c.opens.new.self l.scan c.closes.new.self (map numbers (packed_limits l.limits))
    c.in_ok-opens.ensures l.invariant.read closed)

use Rattle.std.proofs.Common.{◌≡◌, ◌∷◌, ◌++◌, [], length, map, sym, ap, subst, ◌∙◌, arith}
use Rattle.std.proofs.lemmas.List.{append-nil, append_assoc}
use Rattle.json.specs.Token.{Token}
use Rattle.clock_json.specs.Reading.{whole_number, ReadsValue}
use Rattle.clock_json.proofs.Steps.{all_shorter, items_start, items_end, items_push_next, items_push_all}
use Rattle.clock_json.proofs.scan.Scan.numbers_after.Goals as goal

pub items-init : goal.items-init
items-init c =
    let start = c.opens.new.self in
    ([], sym (append-nil c.args.list.now.items), items_start 0 start, omega arith)

pub items-preserved : goal.items-preserved
items-preserved c =
    let l = c.items in
    let row = l.invariant.0 in
    let next = c.in_ok-next.next in
    let here = c.number.new.self in
    let new = c.further_numbers.new.self in
    let more = c.in_ok-further_numbers.ensures in
    let start = c.opens.new.self in
    let had = c.args.list.now.items in
    let same : c.closes.new.self ≡ l.self = grind arith in
    let reads : ReadsValue 0 l.self (whole_number next) here =
    subst (λ ts. ReadsValue 0 ts (whole_number next) here) same c.in_ok-next.ensures.value in (
      (row ++ next ∷ []) ++ more.0,
      more.1 ∙ ap (λ known. known ++ more.0) (c.in_ok-push.ensures.items ∙ ap (λ known. known ++ next
          ∷ []) l.invariant.1 ∙ append_assoc had row (next ∷ [])) ∙ append_assoc had (row ++ next ∷ []) more.0,
      items_push_all 0 whole_number start here new (row ++ next ∷ []) more.0
          (items_push_next 0 whole_number start l.self here row next l.invariant.2 reads) more.2,
      omega (
        arith,
        l.invariant.3,
        c.in_ok-next.ensures.shorter,
        ap length same,
        all_shorter 0 here (map whole_number more.0) new more.2,
      ),
    )

pub items-smaller : goal.items-smaller
items-smaller c =
    let here = c.number.new.self in
    let more = c.in_ok-further_numbers.ensures in
    let same : c.closes.new.self ≡ c.items.self = grind arith in
    omega (
      arith,
      c.in_ok-next.ensures.shorter,
      ap length same,
      all_shorter 0 here (map whole_number more.0) c.further_numbers.new.self more.2,
    )

pub returns-clause-value : goal.returns-clause-value
returns-clause-value c =
    let l = c.items in
    let closed : l.self ≡ Token.end_array ∷ c.closes.new.self = grind arith in (
      l.invariant.0,
      l.invariant.1,
      items_end 0 c.args.self.now c.opens.new.self l.self c.closes.new.self (map whole_number l.invariant.0)
          c.in_ok-opens.ensures l.invariant.2 closed,
    )

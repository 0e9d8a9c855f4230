-- One step of the loop: the next positive demand is added, and the demands of 0 before it need no addition.
use Rattle.std.proofs.Common.{◌≡◌, ◌+◌, ◌∙◌, ℕ, List, length, ap, subst, get_or}
use Rattle.std.proofs.lemmas.List.{length-set}
use Rattle.std.specs.List.{AllWithin}
use Rattle.clock_terms.proofs.Zeros.{added_more, ahead_more}
use Rattle.clock_terms.proofs.grid.add_row.Goals as goal

pub held-preserved : goal.held-preserved
held-preserved c =
    let found = c.in-Some.ensures in
    let so_far = c.held.invariant in
    let initial = c.args.totals.now in
    let totals = c.held.totals in
    let after = c.set.new.self in
    let row = c.args.row.now in
    let one = c.in-Some.one in
    let read = found.demand ∙ ap (λ (demands : List ℕ). get_or demands one.product 0) so_far.row in
    let passed = subst (λ (demands : List ℕ). AllWithin (λ demand. demand ≡ 0) demands c.held.held.from one.product)
    so_far.row found.passed in
    let next = subst (λ (demands : List ℕ). AllWithin (λ demand. demand ≡ 0) demands
    (one.product + 1) c.next.new.self.from) so_far.row found.ahead in
    let sum = ap (λ (list : List ℕ). get_or list one.product 0 + one.demand) c.deref.ensures in
    record {
      row = found.row ∙ so_far.row;
      each = ap (λ (list : List ℕ). length list) c.set.ensures
          ∙ length-set totals one.product (get_or c.deref.result.now one.product 0 + one.demand) ∙ so_far.each;
      added = added_more initial totals after row c.held.held.from one.product c.next.new.self.from one.demand _
          found.least found.given so_far.each read passed so_far.ahead c.set.ensures sum so_far.added next;
      ahead = ahead_more initial totals after row c.held.held.from one.product c.next.new.self.from one.demand _
          found.least found.given so_far.each read passed so_far.ahead c.set.ensures sum;
    }

-- The two divisions of the body, each rounded up, give `raised`. The clauses follow from the laws of `raise`.
use Rattle.std.proofs.Common.{◌≡◌, ℕ, ◌+◌, ◌*◌, ◌<◌, ◌∙◌, ap, arith, sym, subst, rules}
use Rattle.std.specs.Prelude.{IfSome, IfNone}
use Rattle.clock_money.specs.Price.{rounded_up, raised, IsRaised, highest_price}
use Rattle.clock_money.proofs.RoundingLaws.{div_ceil_rounds_up}
use Rattle.clock_money.proofs.Raising.{raise_some, raise_none}
use Rattle.clock_money.proofs.price.clock_price.Goals as goal

-- the product that the body computes is `raised`
same : (c : goal.After-new) → c.args.granule * c.div_ceil.result ≡ raised c.args.start c.args.percent c.args.granule
same c =
    let whole : c.div_ceil-whole.result ≡ rounded_up (c.args.start * (100 + c.args.percent)) 100 =
    c.div_ceil-whole.ensures ∙ div_ceil_rounds_up (c.get.result * (100 + c.args.percent)) 100 (omega arith)
    ∙ ap (λ price. rounded_up (price * (100 + c.args.percent)) 100) c.get.ensures.value in
    ap (λ count. c.args.granule * count)
    (c.div_ceil.ensures ∙ div_ceil_rounds_up c.div_ceil-whole.result c.args.granule c.requires.granule_least
    ∙ ap (λ dollars. rounded_up dollars c.args.granule) whole)

pub returns-clause-exact : goal.returns-clause-exact
returns-clause-exact c =
    let is = same c in
    search rules

pub returns-clause-raised : goal.returns-clause-raised
returns-clause-raised c =
    subst (λ price. IfSome price (IsRaised c.args.start c.args.percent c.args.granule)) (sym (returns-clause-exact c))
    (raise_some c.args.start c.args.percent c.args.granule c.requires.granule_least)

pub returns-clause-none : goal.returns-clause-none
returns-clause-none c =
    subst (λ price. IfNone price ((p : ℕ) → IsRaised c.args.start c.args.percent c.args.granule p → highest_price < p))
    (sym (returns-clause-exact c)) (raise_none c.args.start c.args.percent c.args.granule c.requires.granule_least)

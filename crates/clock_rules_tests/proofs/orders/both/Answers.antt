-- Two changes of different bidders are apart.
use Rattle.std.proofs.Common.{◌≡◌, zero, suc, [], ◌∷◌, ◌++◌, arith, sym, subst, ap, ◌∙◌, AllPairs}
use Rattle.clock_terms.specs.declared.change.Change.{Change}
use Rattle.clock_terms.specs.Requests.{AreApart}
use Rattle.clock_rules_tests.proofs.orders.both.Goals as goal

two_apart : (a b : Change) → (a.bidder ≡ b.bidder → ⊥) → AllPairs AreApart (a ∷ b ∷ [])
two_apart a b differ zero zero d lt within = absurd (omega (arith, lt))
two_apart a b differ zero (suc zero) d lt within = λ bidder product place. differ bidder
two_apart a b differ zero (suc (suc j)) d lt within = absurd (omega (arith, within))
two_apart a b differ (suc i) zero d lt within = absurd (omega (arith, lt))
two_apart a b differ (suc i) (suc zero) d lt within = absurd (omega (arith, lt))
two_apart a b differ (suc i) (suc (suc j)) d lt within = absurd (omega (arith, within))

pub returns : goal.returns
returns c =
    let first = ap (λ l. l ++ c.args.first.now ∷ []) c.new-changes.ensures in
    subst (AllPairs AreApart)
    (sym (c.in_ok-push-2.ensures.ok ∙ ap (λ l. l ++ c.args.second.now ∷ []) (c.in_ok-push.ensures.ok ∙ first)))
    (two_apart c.args.first.now c.args.second.now c.requires)

-- The copies have the values of the entries.
use Rattle.std.proofs.Common.{ap, sym, subst, ◌∙◌}
use Rattle.std.specs.Prelude.{All, List}
use Rattle.std.proofs.lemmas.List.{map-id}
use Rattle.clock_terms.specs.declared.setup.Bidder.{Bidder}
use Rattle.clock_terms.specs.declared.setup.Product.{Product}
use Rattle.clock_terms.specs.Limits.{SetupFields, IsBidder, IsProduct}
use Rattle.clock_setup.proofs.document.copied.Goals as goal

pub copied_all-requires : goal.copied_all-requires
copied_all-requires c = subst (λ (list : List Product). All IsProduct list)
    (sym (c.deref.ensures ∙ ap (λ (s : SetupFields). s.products) c.entries.view_is)) c.requires.products

pub copied_all-requires-2 : goal.copied_all-requires-2
copied_all-requires-2 c = subst (λ (list : List Bidder). All IsBidder list)
    (sym (c.deref-2.ensures ∙ ap (λ (s : SetupFields). s.bidders) c.entries.view_is)) c.requires.bidders

pub invariant_of-result : goal.invariant_of-result
invariant_of-result c =
    rw (
      c.in_ok-operator.ensures ∙ c.as_bytes.ensures.value,
      c.in_ok-products.ensures,
      map-id,
      c.deref.ensures,
      c.in_ok-bidders.ensures,
      map-id,
      c.deref-2.ensures,
      c.entries.view_is,
    ) c.requires

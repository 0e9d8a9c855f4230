-- Proves that a copy of the stored page is the page of products.
use Rattle.std.proofs.Common.{◌++◌, List, ℕ, ap, replicate, ◌∙◌}
use Rattle.clock_terms.specs.Limits.{public_setup}
use Rattle.clock_views.specs.PublicPages.{products_value}
use Rattle.clock_front.specs.inside.FixedPage.{head_room}
use Rattle.clock_front.proofs.PageLaws.{written_page}
use Rattle.clock_front.proofs.front.replies.products.Goals as goal

pub returns-clause-reply : goal.returns-clause-reply
returns-clause-reply c setup page = written_page _ _ _ _ (products_value (public_setup setup)) c.written.ensures
    (c.into_items.ensures ∙ c.extend_from_slice.ensures.items ∙ ap (λ (head : List ℕ). head
    ++ c.args.page.now) c.in_ok-text.ensures.head ∙ ap (λ (piece : List ℕ). replicate head_room 0 ++ piece) page)

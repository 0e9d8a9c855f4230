-- Proves the bytes of a refusal, from those of its page.
use Rattle.std.proofs.Common.{ap, ◌∙◌}
use Rattle.clock_views.specs.Refusals.{Shown}
use Rattle.clock_views.specs.RefusalPage.{refusal_value}
use Rattle.clock_front.specs.Outcomes.{with_page}
use Rattle.clock_front.proofs.PageLaws.{written_page}
use Rattle.clock_front.proofs.front.replies.refusal.Goals as goal

pub returns : goal.returns
returns c =
    written_page _ _ _ _ _ c.written.ensures c.in_ok-text.ensures.page
    ∙ ap (λ (shown : Shown). with_page shown.code c.args.page (refusal_value c.args.why)) c.why.view_is

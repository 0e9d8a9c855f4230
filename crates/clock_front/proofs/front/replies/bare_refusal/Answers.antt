-- Proves a refusal with only a code.
use Rattle.std.proofs.Common.{None, subst}
use Rattle.std.specs.Prelude.{not, ◌&&◌}
use Rattle.clock_views.specs.Refusals.{Shown, has_place, has_round, is_refusal}
use Rattle.clock_views.specs.RefusalPage.{refusal_value}
use Rattle.clock_front.specs.Outcomes.{with_page}
use Rattle.clock_front.specs.Rooms.{refusal_room}
use Rattle.clock_front.specs.inside.Replies.{IsPageIn}
use Rattle.clock_front.proofs.PageLaws.{both}
use Rattle.clock_front.proofs.front.replies.bare_refusal.Goals as goal

pub bare-requires-clause-refused : goal.bare-requires-clause-refused
bare-requires-clause-refused c =
    let code = c.args.code in (both (is_refusal code) (not (has_place code) && not (has_round code)) c.requires).0

pub bare-requires-clause-placeless : goal.bare-requires-clause-placeless
bare-requires-clause-placeless c =
    let code = c.args.code in
    (both (not (has_place code)) (not (has_round code))
    (both (is_refusal code) (not (has_place code) && not (has_round code)) c.requires).1).0

pub bare-requires-clause-timeless : goal.bare-requires-clause-timeless
bare-requires-clause-timeless c =
    let code = c.args.code in
    (both (not (has_place code)) (not (has_round code))
    (both (is_refusal code) (not (has_place code) && not (has_round code)) c.requires).1).1

pub returns : goal.returns
returns c = subst (λ (shown : Shown). IsPageIn (with_page shown.code None (refusal_value shown)) refusal_room
    c.refusal.result) c.bare.ensures c.refusal.ensures

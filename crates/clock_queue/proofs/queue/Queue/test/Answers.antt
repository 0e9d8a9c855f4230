-- A test changes only the count. An application is the next step.
use Rattle.std.proofs.Common.{◌≡◌, ◌∷◌, ◌∙◌, sym, subst, arith, inl, refl}
use Rattle.clock_queue.specs.declared.queue.Queue.{Queue}
use Rattle.clock_queue.specs.inside.Queue.{HasSoundLines, IsTested, IsTracking, room_in}
use Rattle.clock_queue.proofs.Admits.{kept_tested, tracked_tested, tracked_rest}
use Rattle.clock_queue.proofs.queue.Queue.test.Goals as goal

pub apply-requires-clause-in_order : goal.apply-requires-clause-in_order
apply-requires-clause-in_order c = subst (HasSoundLines c.args.requests.now) (sym c.room-room.ensures.counted)
    (kept_tested c.args.requests.now c.args.self.now c.requires.in_order)

pub apply-requires-clause-tracked : goal.apply-requires-clause-tracked
apply-requires-clause-tracked c = subst (λ (queue : Queue). IsTracking c.args.requests.now queue
    (c.args.place ∷ queue.ready)) (sym c.room-room.ensures.counted)
    (tracked_tested c.args.requests.now c.args.self.now (c.args.place ∷ c.args.self.now.ready) c.requires.tracked)

pub returns-then-room-eq0-clause-tested : goal.returns-then-room-eq0-clause-tested
returns-then-room-eq0-clause-tested c =
    let changes = c.args.requests.now in
    let old : Queue = c.args.self.now in
    let none : room_in changes old c.args.place ≡ 0 = sym c.room-room.ensures.room ∙ c.if-room-eq0.true in
    subst (IsTested changes c.args.place old) (sym c.room-room.ensures.counted) (record {
      in_order = kept_tested changes old c.requires.in_order;
      tracked = tracked_tested changes old old.ready
          (tracked_rest changes old c.args.place old.ready none c.requires.tracked);
      terms = record { products = refl; eligibilities = refl };
      blocks = omega arith;
      step = inl (record { none = none; same = refl });
      no_room = none;
      counts = omega arith;
      less = omega arith;
    })

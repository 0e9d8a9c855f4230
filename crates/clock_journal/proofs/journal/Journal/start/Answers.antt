use Rattle.std.proofs.Common.{◌≡◌, ℕ, List, rules}
use Rattle.clock_journal.proofs.Starting.{Lasts, Stays, emptied, leaves_what_was, stays_begun, stays_cut, stays_last}
use Rattle.clock_journal.proofs.Starting.{stays_synced}
use Rattle.clock_journal.proofs.journal.Journal.start.Given.{Over}
use Rattle.clock_journal.proofs.journal.Journal.start.Goals.{else-recovered-eq0}
use Rattle.clock_journal.proofs.journal.Journal.start.Goals.{then-recovered-eq0+in_ok-append+in_ok-sync-2}
use Rattle.clock_journal.proofs.journal.Journal.start.Goals as goal

pub returns-in_err-sync-clause-leaves : goal.returns-in_err-sync-clause-leaves
returns-in_err-sync-clause-leaves g c bytes read placed =
    leaves_what_was c.self.view_is (search rules) placed (λ synced Leaves lasts.
    stays_synced g.D.Durable _ _ c.self.view_is bytes synced Leaves c.sync.new.self c.sync.ensures.moments)

-- at each exit, what a crash may leave: if the truncation fails
at_cut : (g : Over) (c : goal.After-from_residual-in_err-cut g) (bytes synced : List ℕ)
    (Leaves : List ℕ → List ℕ → Type 0)
    → Lasts c.args.self.now.chain bytes c.args.recovered.now (Leaves c.args.self.now.chain)
    → Stays c.args.self.now bytes synced (g.D.Durable.moments c.cut.new.self) Leaves
at_cut g c bytes synced Leaves lasts =
    stays_cut g.D.Durable _ _ c.self.view_is bytes synced Leaves c.sync.new.self c.sync.ensures.moments
    c.in_ok-sync.ensures.ok c.sync.ensures.written c.args.recovered.now lasts c.cut.new.self c.cut.ensures.moments

pub returns-in_err-cut-clause-leaves : goal.returns-in_err-cut-clause-leaves
returns-in_err-cut-clause-leaves g c bytes read placed =
    leaves_what_was c.self.view_is (search rules) placed (at_cut g c bytes)

-- if the append of the head fails
at_append : (g : Over) (c : goal.After-from_residual-in_err-append g) (bytes synced : List ℕ)
    (Leaves : List ℕ → List ℕ → Type 0)
    → Lasts c.args.self.now.chain bytes c.args.recovered.now (Leaves c.args.self.now.chain)
    → Stays c.args.self.now bytes synced (g.D.Durable.moments c.append.new.self) Leaves
at_append g c bytes synced Leaves lasts =
    let nowhere : c.args.recovered.now.end ≡ 0 = search rules in
    stays_begun g.D.Durable _ _ c.self.view_is bytes synced Leaves c.sync.new.self c.sync.ensures.moments
    c.in_ok-sync.ensures.ok c.sync.ensures.written c.args.recovered.now lasts c.cut.new.self c.cut.ensures.moments
    (emptied _ _ _ bytes c.args.recovered.now.end c.in_ok-cut.ensures.written c.sync.ensures.written
    nowhere) nowhere (search rules) c.head_of-head.result c.head_of-head.ensures c.append.result
    c.append.new.self c.append.ensures.written c.append.ensures.moments

pub returns-in_err-append-clause-leaves : goal.returns-in_err-append-clause-leaves
returns-in_err-append-clause-leaves g c bytes read placed =
    leaves_what_was c.self.view_is (search rules) placed (at_append g c bytes)

-- if the sync of the head fails
at_sync : (g : Over) (c : goal.After-from_residual-in_err-sync-2 g) (bytes synced : List ℕ)
    (Leaves : List ℕ → List ℕ → Type 0)
    → Lasts c.args.self.now.chain bytes c.args.recovered.now (Leaves c.args.self.now.chain)
    → Stays c.args.self.now bytes synced (g.D.Durable.moments c.sync-then-recovered-eq0.new.self) Leaves
at_sync g c bytes synced Leaves lasts =
    let nowhere : c.args.recovered.now.end ≡ 0 = search rules in
    stays_last g.D.Durable _ _ c.self.view_is bytes synced Leaves c.sync.new.self c.sync.ensures.moments
    c.in_ok-sync.ensures.ok c.sync.ensures.written c.args.recovered.now lasts c.cut.new.self c.cut.ensures.moments
    (emptied _ _ _ bytes c.args.recovered.now.end c.in_ok-cut.ensures.written c.sync.ensures.written
    nowhere) nowhere (search rules) c.head_of-head.result c.head_of-head.ensures c.append.result c.append.new.self
    c.append.ensures.written c.append.ensures.moments c.sync-then-recovered-eq0.new.self
    c.sync-then-recovered-eq0.ensures.moments

pub returns-in_err-sync-2-clause-leaves : goal.returns-in_err-sync-2-clause-leaves
returns-in_err-sync-2-clause-leaves g c bytes read placed =
    leaves_what_was c.self.view_is (search rules) placed (at_sync g c bytes)

-- at the end
at_end : (g : Over) (c : goal.After-self-2-1 g) (bytes synced : List ℕ)
    (Leaves : List ℕ → List ℕ → Type 0)
    → Lasts c.args.self.now.chain bytes c.args.recovered.now (Leaves c.args.self.now.chain)
    → Stays c.args.self.now bytes synced (g.D.Durable.moments c.if-recovered-eq0.self-inside.disk) Leaves
at_end g c bytes synced Leaves lasts =
    elim c.if-recovered-eq0.branch [
      | then-recovered-eq0+in_ok-append+in_ok-sync-2 w ↦
          (let nowhere : c.args.recovered.now.end ≡ 0 = search rules in
          rw (w.self-inside-is) (stays_last g.D.Durable _ _ c.self.view_is bytes synced Leaves c.sync.new.self
          c.sync.ensures.moments c.in_ok-sync.ensures.ok c.sync.ensures.written c.args.recovered.now lasts
          c.cut.new.self c.cut.ensures.moments (emptied _ _ _ bytes c.args.recovered.now.end
          c.in_ok-cut.ensures.written c.sync.ensures.written nowhere) nowhere (search rules) w.head_of-head.result
          w.head_of-head.ensures w.append.result w.append.new.self w.append.ensures.written w.append.ensures.moments
          w.sync-then-recovered-eq0.new.self w.sync-then-recovered-eq0.ensures.moments))
      | else-recovered-eq0 w ↦ rw (w.self-inside-is) (stays_cut g.D.Durable _ _ c.self.view_is bytes synced Leaves
          c.sync.new.self c.sync.ensures.moments c.in_ok-sync.ensures.ok c.sync.ensures.written
          c.args.recovered.now lasts c.cut.new.self c.cut.ensures.moments)
    ]

pub returns-clause-leaves : goal.returns-clause-leaves
returns-clause-leaves g c bytes read placed =
    leaves_what_was c.self.view_is (search rules) placed (at_end g c bytes)

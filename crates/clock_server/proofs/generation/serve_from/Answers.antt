use Rattle.std.proofs.Common.{◌≡◌, [], List, Option, Ok, Err, refl, subst, sym, ℕ}
use Rattle.clock_journal.specs.Resuming.{IsNotResumed}
use Rattle.clock_journal.specs.declared.recovery.JournalFault.{JournalFault}
use Rattle.clock_journal.specs.declared.recovery.JournalFault.TheVariants.{Unread}
use Rattle.clock_server.specs.Exchanges.{Came, Exchange, bytes_given}
use Rattle.clock_server.specs.Keeping.{GrowsBy, IsRefused}
use Rattle.clock_front.specs.Fronts.{StandsForTexts}
use Rattle.clock_server.specs.declared.generation.ServerFault.TheVariants.{Serve}
use Rattle.clock_server.proofs.GenerationLaws.{ended_as, ends_by, ends_fault, ends_before, left_as, own_left}
use Rattle.clock_server.proofs.Walking.{came_none, grown_none}
use Rattle.clock_server.proofs.generation.serve_from.Goals as goal

pub returns-in-Err-clause-generation : goal.returns-in-Err-clause-generation
returns-in-Err-clause-generation g c =
    let found = c.args.journal in
    let setup = c.args.auction.now.front.setup in
    let resumed = c.in-Err.ensures.resumed in
    let now = resumed.2 in (
      [],
      resumed.0,
      resumed.1,
      grown_none (g.C.Acceptor.closed c.args.connections.now),
      came_none (g.C.Acceptor.coming c.args.connections.now),
      (
        refl,
        now.left,
        λ written texts least synced is own. (
          now.own texts least own.accepted
              (own_left setup found.chain texts least found synced resumed.0 is written own),
          now.leaves.crash synced texts least written is own.leaves,
        ),
      ),
      λ is. (
        c.resume.new.source,
        refl,
        subst (λ (why : JournalFault). IsNotResumed (IsRefused setup)
            (λ texts. StandsForTexts texts c.resume.new.machine.front) found.chain resumed.0
            (g.S.Source.report c.args.source) (g.S.Source.report c.resume.new.source) why)
            (let same : c.in-Err.fault ≡ Unread = cc in same) now.why,
      ),
    )

pub returns-in-Err-listen-clause-generation : goal.returns-in-Err-listen-clause-generation
returns-in-Err-listen-clause-generation g c =
    let found = c.args.journal in
    let setup = c.args.auction.now.front.setup in
    let first = c.in-Ok.made.0 in
    let front = c.resume.new.machine.front in
    let resumed = c.in-Ok.ensures.resumed in (
      [],
      resumed.0,
      resumed.1,
      subst (λ (new : Option (List Exchange)). GrowsBy (g.C.Acceptor.closed c.args.connections.now) new [])
          (sym c.listen.ensures.closed) (grown_none (g.C.Acceptor.closed c.args.connections.now)),
      subst (λ (new : Option (List (List ℕ))). Came (g.C.Acceptor.coming c.args.connections.now) new [])
          (sym c.listen.ensures.coming) (came_none (g.C.Acceptor.coming c.args.connections.now)),
      (
        refl,
        left_as setup resumed.0 [] found first c.end.result c.end.ensures
            (ends_before setup found first resumed.0 front c.resume.ensures.rules c.in-Ok.made.1 resumed.2
            c.in-Ok.ensures.chain),
      ),
      λ is. absurd (let no : ⊥ = cc in no),
    )

pub returns-in-Ok-serve_all-clause-generation : goal.returns-in-Ok-serve_all-clause-generation
returns-in-Ok-serve_all-clause-generation g c =
    let found = c.args.journal in
    let setup = c.args.auction.now.front.setup in
    let first = c.in-Ok.made.0 in
    let front = c.resume.new.machine.front in
    let resumed = c.in-Ok.ensures.resumed in
    let ends = c.in-Ok-serve_all.ensures.served in (
      ends.0,
      resumed.0,
      resumed.1,
      subst (λ (old : Option (List Exchange)). GrowsBy old (g.C.Acceptor.closed c.serve_all.new.connections) ends.0)
          c.listen.ensures.closed ends.1,
      subst (λ (old : Option (List (List ℕ))). Came old (g.C.Acceptor.coming c.serve_all.new.connections)
          (bytes_given ends.0)) c.listen.ensures.coming ends.2,
      (
          let all = ends_by setup found first resumed.0 front c.resume.ensures.rules c.in-Ok.made.1 resumed.2
          c.in-Ok.ensures.chain (Unit {0}) c.args.count ends.0 _ c.serve_all.new.log.journal c.serve_all.new.front
          (Ok c.in-Ok-serve_all.field-0) ends.3 in (
            all.0,
            left_as setup resumed.0 ends.0 found c.serve_all.new.log.journal c.end-in-Ok-serve_all.result
                c.end-in-Ok-serve_all.ensures all.1,
          )
          ),
      λ is. absurd (let no : ⊥ = cc in no),
    )

pub returns-in-Err-serve_all-clause-generation : goal.returns-in-Err-serve_all-clause-generation
returns-in-Err-serve_all-clause-generation g c =
    let found = c.args.journal in
    let setup = c.args.auction.now.front.setup in
    let first = c.in-Ok.made.0 in
    let front = c.resume.new.machine.front in
    let why = c.in-Err-serve_all.fault in
    let resumed = c.in-Ok.ensures.resumed in
    let ends = c.in-Err-serve_all.ensures.served in (
      ends.0,
      resumed.0,
      resumed.1,
      subst (λ (old : Option (List Exchange)). GrowsBy old (g.C.Acceptor.closed c.serve_all.new.connections) ends.0)
          c.listen.ensures.closed ends.1,
      subst (λ (old : Option (List (List ℕ))). Came old (g.C.Acceptor.coming c.serve_all.new.connections)
          (bytes_given ends.0)) c.listen.ensures.coming ends.2,
      ended_as {U = Unit {0}} {E = g.row.C-Fault.Denot} setup c.args.count ends.0 resumed.0 found
          c.serve_all.new.log.journal c.end-in-Err-serve_all.result (Err (Serve why)) c.end-in-Err-serve_all.ensures
          (ends_fault setup found first resumed.0 front c.resume.ensures.rules c.in-Ok.made.1 resumed.2
          c.in-Ok.ensures.chain (Unit {0}) g.row.C-Fault.Denot c.args.count ends.0 c.serve_all.new.log.journal why
          (ends_by setup found first resumed.0 front c.resume.ensures.rules c.in-Ok.made.1 resumed.2
          c.in-Ok.ensures.chain (Unit {0}) c.args.count ends.0 _ c.serve_all.new.log.journal
          c.serve_all.new.front (Err why) ends.3)),
      λ is. absurd (let no : ⊥ = cc in no),
    )

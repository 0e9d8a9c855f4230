-- What an acceptor shows of one connection that it accepted and closed.
use Rattle.std.proofs.Common.{◌≡◌, [], ◌∷◌, ℕ, List, Option, Some, subst, sym}
use Rattle.clock_device.specs.Reports.{SinkReport, SourceReport}
use Rattle.clock_journal.specs.Logged.{JournalState}
use Rattle.clock_server.specs.Exchanges.{Came, Exchange, Offer}
use Rattle.clock_server.specs.Keeping.{GrowsBy}

-- from these reports before and after
abbrev pub exchange : SourceReport → SourceReport → SinkReport → SinkReport → Option JournalState → Exchange
exchange source source_after sink sink_after logged = record {
  reading = record { before = source; after = source_after };
  writing = record { before = sink; after = sink_after };
  logged = logged;
}

-- it came, and it was appended to the closed ones
pub came_and_closed : (offer : Option Offer) (source source_after : SourceReport) (sink sink_after : SinkReport)
    (logged : Option JournalState) (closed_old closed_mid closed_new : Option (List Exchange))
    (coming_old coming_mid coming_new : Option (List (List ℕ)))
    → offer ≡ Some (record { source = source; sink = sink })
    → ((given : Offer) → offer ≡ Some given → GrowsBy closed_mid closed_new
    (exchange given.source source_after given.sink sink_after logged ∷ [])) → closed_mid ≡ closed_old
    → Came coming_old coming_mid (source.left ∷ []) → coming_new ≡ coming_mid
    → GrowsBy closed_old closed_new (exchange source source_after sink sink_after logged ∷ [])
    × Came coming_old coming_new (source.left ∷ [])
came_and_closed offer source source_after sink sink_after logged closed_old closed_mid closed_new coming_old coming_mid
    coming_new is closes same came still = (
      subst (λ (old : Option (List Exchange)).
          GrowsBy old closed_new (exchange source source_after sink sink_after logged ∷ [])) same
          (closes (record { source = source; sink = sink }) is),
      subst (λ (new : Option (List (List ℕ))). Came coming_old new (source.left ∷ [])) (sym still) came,
    )

-- A run with one more connection: it was served, or its text could not be logged.
use Rattle.std.proofs.Common.{◌≡◌, ◌<◌, ◌+◌, ℕ, List, [], ◌∷◌, ◌++◌, Option, Err, length, refl, sym}
use Rattle.std.proofs.Common.{subst, arith, length-append}
use Rattle.clock_house.specs.House.{HouseFields}
use Rattle.clock_front.specs.declared.front.response.Effect.{Effect}
use Rattle.clock_journal.specs.Logged.{JournalState}
use Rattle.clock_server.specs.Keeping.{GrowsBy}
use Rattle.clock_server.specs.declared.serving.ServeFault.TheVariants.{Journal}
use Rattle.clock_server.specs.Exchanges.{Came, Exchange, SendsNothing, bytes_given}
use Rattle.clock_server.specs.Serving.{AreServed, EndsServing, IsUnlogged}
use Rattle.clock_server.specs.inside.Served.{IsReported, IsServed}
use Rattle.clock_server.proofs.Walking.{came_more, grown_more}
use Rattle.clock_server.proofs.Served.{served_more}

-- `count` connections were served
pub record HasServed (count : ℕ) (coming_old coming_new : Option (List (List ℕ)))
    (closed_old closed_new : Option (List Exchange)) (rounds_old rounds_new : Option (List ℕ))
    (journal_old journal_new : JournalState) (old new : HouseFields) : Type 0 where
  pub exchanges : List Exchange
  pub closed : GrowsBy closed_old closed_new exchanges
  pub came : Came coming_old coming_new (bytes_given exchanges)
  pub counted : length exchanges ≡ count
  pub served : AreServed exchanges rounds_old rounds_new journal_old journal_new old new

module _ (count : ℕ) (coming_old coming_mid coming_new : Option (List (List ℕ)))
    (first mid last : Option (List Exchange)) (rounds_old rounds_mid rounds_new : Option (List ℕ))
    (journal_old journal_mid journal_new : JournalState) (old now new : HouseFields) (same : now.setup ≡ old.setup)
    (before : HasServed count coming_old coming_mid first mid rounds_old rounds_mid
    journal_old journal_mid old now) (one : Exchange) (closed : GrowsBy mid last (one ∷ []))
    (came : Came coming_mid coming_new (bytes_given (one ∷ []))) where
  -- one more was served
  pub one_more : (changed : Effect) → IsServed one changed journal_mid journal_new now new
      → IsReported rounds_mid rounds_new changed
      → HasServed (count + 1) coming_old coming_new first last rounds_old rounds_new journal_old journal_new old new
  one_more changed served reported = record {
    exchanges = before.exchanges ++ one ∷ [];
    closed = grown_more first mid last before.exchanges (one ∷ []) before.closed closed;
    came = came_more coming_old coming_mid coming_new before.exchanges one before.came came;
    counted = omega (arith, length-append before.exchanges (one ∷ []), before.counted);
    served = served_more before.exchanges one changed rounds_old rounds_mid rounds_new journal_old journal_mid
        journal_new old now new same before.served served reported;
  }

  -- its text could not be logged, which ends the run
  pub ends_unlogged : (U : Type 0) (most : ℕ) → count < most → IsUnlogged one.reading journal_mid journal_new now
      → SendsNothing one → rounds_new ≡ rounds_mid → (exchanges : List Exchange) × GrowsBy first last exchanges
      × Came coming_old coming_new (bytes_given exchanges)
      × EndsServing {U = U} most exchanges rounds_old rounds_new journal_old journal_new old new (Err Journal)
  ends_unlogged U most below unlogged nothing still = (
    before.exchanges ++ one ∷ [],
    grown_more first mid last before.exchanges (one ∷ []) before.closed closed,
    came_more coming_old coming_mid coming_new before.exchanges one before.came came,
    (
      before.exchanges,
      one,
      refl,
      omega (arith, length-append before.exchanges (one ∷ []), before.counted, below),
      journal_mid,
      now,
      subst (λ (reported : Option (List ℕ)).
          AreServed before.exchanges rounds_old reported journal_old journal_mid old now) (sym still) before.served,
      nothing,
      same,
      unlogged,
    ),
  )

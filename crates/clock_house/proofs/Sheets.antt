-- Proves that each sheet in force passes the checks of the rules, since only such sheets are accepted.
use Rattle.std.proofs.Common.{◌≡◌, ℕ, List, [], ◌∷◌, ◌==◌, ◌&&◌, Bool, true, false, cond, not, refl, ap, sym, ◌∙◌}
use Rattle.std.specs.Prelude.{Option, Some, None, is_none, slice_get, filter_map}
use Rattle.std.specs.List.{cons_option}
use Rattle.std.proofs.lemmas.Option.{none-some}
use Rattle.clock_terms.specs.Limits.{PublicSetup}
use Rattle.clock_terms.specs.Faults.{first_fault}
use Rattle.clock_bids.specs.declared.sheet.Bid.{Bid}
use Rattle.clock_bids.specs.declared.sheet.BidFault.{BidFault}
use Rattle.clock_bids.specs.Sheet.{sheet_fault, IsGoodSheet}
use Rattle.clock_house.specs.declared.fault.PutFault.{PutFault}
use Rattle.clock_house.specs.declared.fault.PutFault.TheVariants as put_faults
use Rattle.clock_house.specs.Command.{Command, put, close, other}
use Rattle.clock_closing.specs.Faults.{fault_check}
use Rattle.clock_house.specs.PublicState.{PublicState, Holding, put_fault}
use Rattle.clock_house.specs.History.{accepted_bids}

judged : (ended current : Bool) (round : ℕ) (fault : Option BidFault) → first_fault ((put_faults.Ended, not ended)
    ∷ (put_faults.WrongRound round, current) ∷ fault_check put_faults.Bid fault) ≡ None → fault ≡ None
judged true current round fault e = absurd (none-some _ (sym e))
judged false false round fault e = absurd (none-some _ (sym e))
judged false true round None e = refl
judged false true round (Some fault) e = absurd (none-some _ (sym e))

-- A sheet that may be submitted passes the checks.
pub good_of_put : (setup : PublicSetup) (now : PublicState) (held : Holding) (round : ℕ) (bids : List Bid)
    → put_fault setup now held round bids ≡ None → IsGoodSheet setup now.round now.prices held bids
good_of_put setup now held round bids e =
    judged now.ended (round == now.round) now.round (sheet_fault setup now.round now.prices held bids) e

is_none_none : {A : Type 0} (o : Option A) → is_none o ≡ true → o ≡ None
is_none_none None e = refl
is_none_none (Some x) e = let bad : false ≡ true = e in cc

module _ (setup : PublicSetup) (now : PublicState) (held : Holding) (bidder : ℕ) where
  first_good : (command_bids : Option (List Bid)) (rest : List (List Bid)) (bids : List Bid) →
      ((one : List Bid) → command_bids ≡ Some one → IsGoodSheet setup now.round now.prices held one) →
      (slice_get rest 0 ≡ Some bids → IsGoodSheet setup now.round now.prices held bids) →
      slice_get (cons_option command_bids rest) 0 ≡ Some bids → IsGoodSheet setup now.round now.prices held bids
  first_good None rest bids own later e = later e
  first_good (Some one) rest bids own later e = own bids e

  accepted : (own good : Bool) (fault : Option PutFault) (bids one : List Bid) → is_none fault ≡ good
      → cond (own && good) (Some bids) None ≡ Some one → (fault ≡ None) × (bids ≡ one)
  accepted true true fault bids one is e = (is_none_none fault is, cc)
  accepted true false fault bids one is e = absurd (none-some _ e)
  accepted false good fault bids one is e = absurd (none-some _ e)

  accepted_good : (command : Command) (one : List Bid) → accepted_bids setup now held bidder command ≡ Some one →
      IsGoodSheet setup now.round now.prices held one
  accepted_good (put author round bids) one e =
      let found = accepted (author == bidder) (is_none (put_fault setup now held round bids))
      (put_fault setup now held round bids) bids one refl e in
      ap (sheet_fault setup now.round now.prices held) (sym found.1) ∙ good_of_put setup now held round bids found.0
  accepted_good (close round increments ties) one e = absurd (none-some _ e)
  accepted_good other one e = absurd (none-some _ e)

  -- The last accepted sheet passes the checks.
  pub first_accepted_good : (since : List Command) (bids : List Bid) → slice_get (filter_map
      (accepted_bids setup now held bidder) since) 0 ≡ Some bids → IsGoodSheet setup now.round now.prices held bids
  first_accepted_good [] bids e = absurd (none-some _ e)
  first_accepted_good (command ∷ since) bids e = first_good (accepted_bids setup now held bidder command) (filter_map
      (accepted_bids setup now held bidder) since) bids (accepted_good command) (first_accepted_good since bids) e

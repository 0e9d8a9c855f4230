-- Proves that the closing returns what the rules say, from the posting that it has computed and the checks before it.
use Rattle.std.proofs.Common.{◌≡◌, ◌≢◌, ℕ, List, Bool, true, false, ◌==◌, refl, ap, sym, subst, ◌∙◌, eq-eqb}
use Rattle.std.specs.Prelude.{◌↔◌, Option, Some, None, Result, Ok, Err, length, map, IsNone, IsTrue, IfSome, IfOk}
use Rattle.std.specs.Prelude.{IfErr}
use Rattle.std.proofs.lemmas.Option.{none-some}
use Rattle.clock_terms.specs.declared.prices.PricePair.{PricePair}
use Rattle.clock_terms.specs.declared.increments.Increments.{Increments}
use Rattle.clock_terms.specs.Limits.{PublicSetup, public_setup}
use Rattle.clock_terms.specs.Increments.{are_increments}
use Rattle.clock_terms.specs.Faults.{first_fault, unless, IsFirstFault, IsRefusal}
use Rattle.clock_order.specs.declared.ties.Tie.{Tie}
use Rattle.clock_order.specs.declared.ties.TieFault.{TieFault}
use Rattle.clock_order.specs.Ties.{tie_fault}
use Rattle.clock_posting.specs.declared.sheet.RoundSheet.{RoundSheet}
use Rattle.clock_posting.specs.declared.posting.Posting.{Posting}
use Rattle.clock_posting.specs.declared.posting.PostFault.{PostFault}
use Rattle.clock_posting.specs.declared.posting.PostFault.TheVariants as post_faults
use Rattle.clock_posting.specs.Posting.{IsPosting, IsConsistent, next_pair, post_fault, price_limit_fault}
use Rattle.clock_closing.specs.declared.closed_round.Slip.{Slip}
use Rattle.clock_closing.specs.declared.fault.CloseFault.{CloseFault}
use Rattle.clock_closing.specs.declared.fault.CloseFault.TheVariants as close_faults
use Rattle.clock_closing.specs.declared.closed_round.Results.{Results}
use Rattle.clock_closing.specs.Faults.{fault_check}
use Rattle.clock_closing.specs.ReportedFaults.{fault_from_post}
use Rattle.clock_closing.specs.OpenRound.{OpenRound, OpenRoundFields}
use Rattle.clock_closing.specs.Closing.{ClosedRound, RoundResult, round_result, closed_round, closing, slips_after}
use Rattle.clock_closing.specs.Results.{result_demands}
use Rattle.clock_closing.specs.Results.{AreConsistent}
use Rattle.clock_closing.specs.inside.Postings.{AreResults, IsRoundOf, Posts, posted, posted_now}
use Rattle.clock_closing.proofs.Closings.{checks}

module _ (setup : PublicSetup) (now : OpenRound) (increments : Increments) (result : RoundResult) where
  -- The closed round, or the fault that a next clock price would be too high.
  abbrev by_limit : Option ℕ → Result ClosedRound CloseFault
  by_limit limit =
      unless (first_fault (fault_check close_faults.PriceLimit limit)) (closed_round setup now increments result)

  -- The results that a posting and its bidder results make up.
  module _ (posting : Posting) (results : Results) (is : IsPosting now.public_state.round setup.products
      now.public_state.prices result.grid result.posted increments posting) (laws : IsConsistent posting)
      (sheet : results.closed.sheet ≡ posting.sheet) (next : results.next ≡ posting.next) (slips : results.closed.slips
      ≡ slips_after setup now result.grid) (demands : results.demands ≡ result_demands results.closed.slips) where
    consistent : AreConsistent results
    consistent =
        let end : IsNone results.next ↔ IsTrue posting.sheet.ended =
        subst (λ (prices : Option (List PricePair)). IsNone prices ↔ IsTrue posting.sheet.ended) (sym next) laws.end in
        let shown : IfSome results.next (λ list. list ≡ map next_pair posting.sheet.lines) =
        subst (λ (prices : Option (List PricePair)). IfSome prices (λ list. list ≡ map next_pair posting.sheet.lines))
        (sym next) laws.shown in
        record {
          end = subst (λ (one : RoundSheet). IsNone results.next ↔ IsTrue one.ended) (sym sheet) end;
          shown = subst
              (λ (one : RoundSheet). IfSome results.next (λ list. list ≡ map next_pair one.lines)) (sym sheet) shown;
          demands = demands;
        }

    pub posts : AreResults (by_limit (price_limit_fault setup.products result.grid result.posted increments)) results
    posts = record {
      closes = ap by_limit is.possible ∙ ap (λ (one : RoundSheet).
          let round : ClosedRound = record { sheet = one; slips = slips_after setup now result.grid } in
          let done : Result ClosedRound CloseFault = Ok round in done) (sym (sheet ∙ is.sheet))
          ∙ ap (λ (list : List Slip). let round : ClosedRound = record { sheet = results.closed.sheet; slips = list } in
          let done : Result ClosedRound CloseFault = Ok round in done) (sym slips);
      consistent = consistent;
    }

  -- A refused posting refuses the closing for the same reason.
  posts_reported : (limit : Option ℕ) (fault : PostFault) → IsFirstFault post_faults.NoMemory (post_fault limit) fault →
      IsRefusal close_faults.NoMemory (by_limit limit) (fault_from_post fault)
  posts_reported None (post_faults.PriceLimit product) is = λ other. absurd (none-some _ (is (λ same. cc)))
  posts_reported (Some limit) (post_faults.PriceLimit product) is = λ other.
      let same : Some (post_faults.PriceLimit limit) ≡ Some (post_faults.PriceLimit product) = is (λ same. cc) in cc
  posts_reported limit post_faults.NoMemory is = λ other. absurd (other refl)

  pub posts-refused : (fault : PostFault) → IsFirstFault post_faults.NoMemory (post_fault
      (price_limit_fault setup.products result.grid result.posted increments)) fault → IsRefusal close_faults.NoMemory
      (by_limit (price_limit_fault setup.products result.grid result.posted increments)) (fault_from_post fault)
  posts-refused fault is =
      posts_reported (price_limit_fault setup.products result.grid result.posted increments) fault is

-- A posting or a refusal, from what its call returned.
pub posts_by : (round : OpenRoundFields) (increments : Increments) (result : RoundResult)
    (posting : Result Posting PostFault) → IfOk posting (IsPosting round.before.public_state.round round.setup.products
    round.before.public_state.prices result.grid result.posted increments) → IfOk posting IsConsistent
    → IfErr posting (IsFirstFault post_faults.NoMemory (post_fault (price_limit_fault round.setup.products result.grid
    result.posted increments))) → Posts round increments result posting
posts_by round increments result (Ok one) is laws refused = (is, laws)
posts_by round increments result (Err fault) is laws refused = refused

-- The results of a posting of these demands.
module _ (round : OpenRoundFields) (demands : List (List ℕ)) (posting : Result Posting PostFault) where
  pub round-made : (one : Posting) (slips : List Slip) → posting ≡ Ok one → slips ≡ slips_after
      (public_setup round.setup) round.before demands → demands ≡ result_demands slips → IsRoundOf round demands posting
      (Ok (record { closed = record { sheet = one.sheet; slips = slips }; next = one.next; demands = demands }))
  round-made one slips same slips_are demands_are = λ increments list is.
      let result : RoundResult = record { grid = demands; posted = list } in
      let results : Results =
      record { closed = record { sheet = one.sheet; slips = slips }; next = one.next; demands = demands } in
      let both = subst (λ (posted : Result Posting PostFault). Posts round increments result posted) same is in
      posts (public_setup round.setup) round.before increments result one results both.0 both.1 refl refl
      slips_are demands_are

  -- If there is no posting, there are no results.
  pub round-refused : (fault : PostFault) (reported : CloseFault) → posting ≡ Err fault
      → reported ≡ fault_from_post fault → IsRoundOf round demands posting (Err reported)
  round-refused fault reported same is_reported = λ increments list is.
      let result : RoundResult = record { grid = demands; posted = list } in
      subst (λ (one : CloseFault). IsRefusal close_faults.NoMemory (posted (public_setup round.setup) round.before
      increments result) one) (sym is_reported) (posts-refused (public_setup round.setup) round.before increments result
      fault (subst (λ (posted : Result Posting PostFault). Posts round increments result posted) same is))

  pub round-no_memory : (reported : CloseFault) → reported ≡ close_faults.NoMemory
      → IsRoundOf round demands posting (Err reported)
  round-no_memory reported same = λ increments list is other. absurd (other same)

module _ (setup : PublicSetup) (now : OpenRound) (round : ℕ) (increments : Increments) (ties : List Tie) where
  abbrev by_tests : Bool → Bool → Bool → Option TieFault → Result ClosedRound CloseFault
  by_tests ended current within tied = unless (first_fault (checks ended current within now.public_state.round tied
      (price_limit_fault setup.products (round_result setup.products now ties).grid (round_result setup.products now
      ties).posted increments))) (closed_round setup now increments (round_result setup.products now ties))

  -- A closing that has passed the checks before the tie-breaking numbers.
  closes-tied : now.public_state.ended ≡ false → round ≡ now.public_state.round → are_increments (length setup.products)
      increments ≡ true → (tied : Option TieFault) → tie_fault (length now.holdings) (length setup.products) ties ≡ tied
      → closing setup now round increments ties ≡ by_tests false true true tied
  closes-tied going current within tied found = ap (λ ended. by_tests ended (round == now.public_state.round)
      (are_increments (length setup.products) increments) (tie_fault (length now.holdings) (length setup.products)
      ties)) going ∙ ap (λ same. by_tests false same (are_increments (length setup.products) increments)
      (tie_fault (length now.holdings) (length setup.products) ties)) (eq-eqb round now.public_state.round current)
      ∙ ap (λ good. by_tests false true good (tie_fault (length now.holdings) (length setup.products) ties)) within
      ∙ ap (by_tests false true true) found

  -- A closing that has also passed the check of the tie-breaking numbers.
  pub closes-fair : now.public_state.ended ≡ false → round ≡ now.public_state.round
      → are_increments (length setup.products) increments ≡ true → tie_fault (length now.holdings)
      (length setup.products) ties ≡ None → closing setup now round increments ties ≡ by_tests false true true None
  closes-fair going current within fair = closes-tied going current within None fair

no_tie_by : (limit : Option ℕ) (made : ClosedRound) (tie : TieFault)
    → unless (first_fault (fault_check close_faults.PriceLimit limit)) made ≡ Err (close_faults.Tie tie) → ⊥
no_tie_by None made tie e = let bad : Ok made ≡ Err (close_faults.Tie tie) = e in cc
no_tie_by (Some product) made tie e =
    let bad : Err (close_faults.PriceLimit product) ≡ Err (close_faults.Tie tie) = e in cc

-- A posting is refused for no tie-breaking number.
pub posted-no_tie : (round : OpenRoundFields) (increments : Increments) (ties : List Tie) (fault : CloseFault)
    → IsRefusal close_faults.NoMemory (posted_now round increments ties) fault → (tie : TieFault)
    → fault ≢ close_faults.Tie tie
posted-no_tie round increments ties fault is tie e =
    let result = round_result round.setup.products round.before ties in
    no_tie_by (price_limit_fault round.setup.products result.grid result.posted increments)
    (closed_round (public_setup round.setup) round.before increments result) tie
    (is (λ none. let bad : close_faults.Tie tie ≡ close_faults.NoMemory = sym e ∙ none in cc) ∙ ap Err e)

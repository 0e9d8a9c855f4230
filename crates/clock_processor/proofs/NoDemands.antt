-- A bidder without demands needs no eligibility.
use Rattle.std.proofs.Common.{ℕ, List, [], length, replicate, arith}
use Rattle.std.proofs.lemmas.List.{length-replicate, get_or-replicate}
use Rattle.std.proofs.lemmas.List.Elements.{All-replicate}
use Rattle.clock_terms.specs.declared.setup.Product.{Product}
use Rattle.clock_terms.specs.Limits.{IsRow}
use Rattle.clock_terms.specs.Demands.{no_demands}
use Rattle.clock_terms.proofs.DemandLaws.{activity_zeros, zeros_row}
use Rattle.clock_processor.specs.Board.{IsWithinEligibility}

pub nothing_demanded : (products : List Product) (eligibilities : List ℕ) →
    IsWithinEligibility products eligibilities (no_demands (length eligibilities) (length products))
nothing_demanded products eligibilities =
    let none : List ℕ = replicate (length products) 0 in
    let bidders = length eligibilities in
    record {
      bidders = length-replicate bidders none;
      rows = All-replicate (IsRow products) bidders none (zeros_row products);
      within = λ bidder below.
          rw (get_or-replicate bidders bidder none [] (omega (arith, length-replicate bidders none)), activity_zeros)
          (omega arith);
    }

-- An example of the text of a report.
use Rattle.std.specs.Prelude.{◌≡◌, [], ◌∷◌, None, true, codes, refl}
use Rattle.std.specs.Fmt.{digits}
use Rattle.clock_terms.proofs.Examples.{one_product}
use Rattle.clock_reports.specs.ReportText.{report_text}

-- X and Y have each won one block of A at 115
bidders_pay_the_posted_price :
    report_text (record {
      setup = one_product;
      sheets = record {
        round = 3;
        ended = true;
        lines = record { start = 110; clock = 121; posted = 115; demand = None; next = None } ∷ [];
      } ∷ [];
      grid = (1 ∷ []) ∷ (1 ∷ []) ∷ [];
    })
    ≡ codes "round 3\nA 110 121 115 - -\nwon X 1 115\nwon Y 1 115\n"
unfolding digits
bidders_pay_the_posted_price = refl

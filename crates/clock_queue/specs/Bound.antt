-- The bounds on the work of bid processing (own rule). A test asks the board how much room a
-- request has; an application changes a demand. A read gets a request from the list of all.
--     most_of_one changes      the most requests of one product or of one bidder
--     most_woken changes      the most tests that an application may cause: 2 or less
--     IsWithinTests changes end      one test for each request, and most_woken for each application
--     IsWithinReads changes end reads      three reads for each request, and three for each
--         application
--     IsWithinBlocks changes end      one block for each application
--     BoundsEachLine      two simpler bounds that follow
use Rattle.std.specs.Prelude.{ℕ, ◌+◌, ◌*◌, ◌≤◌, ◌==◌, List, length, max, min, count_by}
use Rattle.std.specs.Prelude.{sum, sum_by}
use Rattle.std.specs.List.{fold}
use Rattle.clock_terms.specs.declared.change.Change.{Change}
use Rattle.clock_processor.specs.Settlement.{SettledFields}

-- the number of requests of a product
abbrev pub count_of_product : List Change → ℕ → ℕ
count_of_product changes product = count_by (λ (change : Change). change.product == product) changes

-- the number of requests of a bidder
abbrev pub count_of_bidder : List Change → ℕ → ℕ
count_of_bidder changes bidder = count_by (λ (change : Change). change.bidder == bidder) changes

-- the most requests that one product or one bidder has
abbrev pub most_of_one : List Change → ℕ
most_of_one changes = fold (λ most change. max most (max (count_of_product changes change.product)
    (count_of_bidder changes change.bidder))) 0 changes

-- The most requests that an application makes the event queue test again: one of its product and
-- one of its bidder. It is less than 2 only if no product and no bidder has two requests.
abbrev pub most_woken : List Change → ℕ
most_woken changes = min 2 (most_of_one changes)

-- at most one test for each request, and at most most_woken for each application
abbrev pub IsWithinTests : List Change → SettledFields → Type 0
IsWithinTests changes end = end.tests ≤ length changes + end.applied * most_woken changes

-- at most three reads for each request, and at most three for each application
abbrev pub IsWithinReads : List Change → SettledFields → ℕ → Type 0
IsWithinReads changes end reads = reads ≤ 3 * (length changes + end.applied)

-- An application takes at least one block. So the applications are at most the blocks that all
-- requests ask for, less those that were not applied.
abbrev pub IsWithinBlocks : List Change → SettledFields → Type 0
IsWithinBlocks changes end =
    end.applied + sum end.left ≤ sum_by (λ (change : Change). change.amount) changes

-- The bound implies two simpler ones: for each application at most two tests, and at most m if no
-- product and no bidder has more than m requests.
abbrev pub BoundsEachLine : Type 0
BoundsEachLine = (changes : List Change) (end : SettledFields) → IsWithinTests changes end
    → (end.tests ≤ length changes + end.applied * most_of_one changes)
    × (end.tests ≤ length changes + end.applied * 2)

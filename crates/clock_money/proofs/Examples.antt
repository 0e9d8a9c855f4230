-- Examples of clock prices.
use Rattle.std.specs.Prelude.{◌≡◌, Some, refl}
use Rattle.clock_money.specs.Price.{raise}

-- 101 dollars plus ten percent are 111.10; the next multiple of 25 is 125
multiple_of_the_granule : raise 101 10 25 ≡ Some 125
multiple_of_the_granule = refl

whole_dollars : raise 101 10 1 ≡ Some 112
whole_dollars = refl

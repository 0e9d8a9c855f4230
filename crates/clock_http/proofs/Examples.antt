-- Examples of numbers.
use Rattle.std.specs.Prelude.{◌≡◌, [], ◌∷◌, Some, None, map, codes, refl}
use Rattle.clock_http.specs.Decimals.{plain_number}

numbers_are_plain_digits : map plain_number (codes "12" ∷ codes "0" ∷ codes "18446744073709551615"
    ∷ codes "18446744073709551616" ∷ codes "01" ∷ codes "+1" ∷ codes "1a" ∷ [])
    ≡ Some 12 ∷ Some 0 ∷ Some 18446744073709551615 ∷ None ∷ None ∷ None ∷ None ∷ []
numbers_are_plain_digits = refl

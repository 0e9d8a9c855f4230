-- First faults. The rules state checks in an order, each with the fault that it finds. Only the
-- first failing check counts.
--     first_fault checks      the fault of the first check that fails
--     in_turn checks i items      the checks of each item, item by item
--     unless fault value      the value, or the fault if there is one
--     or_fault fault value      the value if there is one, or the fault
--     IsFirstFault no_memory first fault      the fault is the first one, or out of memory
--     IsRefusal no_memory answer fault      the fault is the result by the rules, or out of memory
--     result >>= next      continue with a value, or end with a fault
use Rattle.std.specs.Prelude.{◌≡◌, ◌≢◌, ℕ, ◌+◌, Bool, List, [], ◌∷◌, ◌++◌, if◌then◌else◌, Option}
use Rattle.std.specs.Prelude.{Some, None, Result, Ok, Err}

-- the fault of the first check whose test fails; none if all pass
abbrev pub first_fault : {F : Type 0} → List (F × Bool) → Option F
first_fault [] = None
first_fault (check ∷ checks) = if check.1 then first_fault checks else Some check.0

-- the checks of all items in order, the items numbered from i
abbrev pub in_turn : {X F : Type 0} → (ℕ → X → List (F × Bool)) → ℕ → List X → List (F × Bool)
in_turn checks i [] = []
in_turn checks i (x ∷ xs) = checks i x ++ in_turn checks (i + 1) xs

-- the fault if there is one, and otherwise the value
abbrev pub unless : {A F : Type 0} → Option F → A → Result A F
unless None value = Ok value
unless (Some fault) value = Err fault

-- the value if there is one, and otherwise the fault
abbrev pub or_fault : {A F : Type 0} → F → Option A → Result A F
or_fault fault None = Err fault
or_fault fault (Some value) = Ok value

-- The error that a call returns is the first fault by the rules, or out of memory.
abbrev pub IsFirstFault : {F : Type 0} → F → Option F → F → Type 0
IsFirstFault no_memory first fault = fault ≢ no_memory → first ≡ Some fault

-- The error that a call returns is the error by the rules, or out of memory.
abbrev pub IsRefusal : {A F : Type 0} → F → Result A F → F → Type 0
IsRefusal no_memory answer fault = fault ≢ no_memory → answer ≡ Err fault

-- as in a do block: continue with the value of a result, or end with its fault
infixl 10 ◌>>=◌
abbrev pub ◌>>=◌ : {A B F : Type 0} → Result A F → (A → Result B F) → Result B F
(Err fault) >>= f = Err fault
(Ok value) >>= f = f value

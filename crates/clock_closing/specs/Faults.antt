-- The check of a part, as one of the checks of the whole.
use Rattle.std.specs.Prelude.{List, [], ◌∷◌, Bool, false, Option, Some, None}

-- The check of a part of the whole. It fails if the part has a fault, and reports that fault.
abbrev pub fault_check : {F G : Type 0} → (F → G) → Option F → List (G × Bool)
fault_check reported None = []
fault_check reported (Some fault) = (reported fault, false) ∷ []

-- What a contract says of a `Result` by cases, for code that calls `ok()` on it.
use Rattle.std.proofs.Common.{◌≡◌, Some, None, Result, Ok, Err, MatchResult, subst}
use Rattle.std.specs.Result.{result_ok}

-- of its value
pub value_reported : {T E : Type 0} (result : Result T E) (P : T → Type 0) (Q : E → Type 0) {value : T}
    → Some value ≡ result_ok result → MatchResult result P Q → P value
value_reported (Ok same) P Q is reported = subst P (let e : same ≡ _ = cc in e) reported
value_reported (Err fault) P Q is reported = absurd (cc)

-- of its error
pub fault_reported : {T E : Type 0} (result : Result T E) (P : T → Type 0) (Q : E → Type 0) → None ≡ result_ok result
    → MatchResult result P Q → (fault : E) × Q fault
fault_reported (Ok value) P Q is reported = absurd (cc)
fault_reported (Err fault) P Q is reported = (fault, reported)

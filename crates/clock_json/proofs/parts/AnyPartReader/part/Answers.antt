use Rattle.std.proofs.Common.{◌≡◌, ◌∷◌, ℕ, List, Option, Result, Ok, Err, IfSome, IfOk, suc, length, sym, ap, subst}
use Rattle.std.proofs.Common.{arith}
use Rattle.std.specs.Result.{result_ok}
use Rattle.serde_json.specs.Data.{Data, object}
use Rattle.clock_json.specs.Reading.{Token, ReadsValue, found_members}
use Rattle.clock_json.specs.inside.Reading.{HasMembers}
use Rattle.clock_json.proofs.Steps.{members_start, adds_member, members_end}
use Rattle.clock_json.proofs.parts.AnyPartReader.part.Goals as goal

pub members-init : goal.members-init
members-init g c =
    let levels = g.M.ScannedMembers.levels in
    let start = c.opens.new.self in (
      subst (λ found. HasMembers levels start found start) (sym c.nothing-found.ensures) (members_start levels start),
      omega arith,
    )

pub members-preserved : goal.members-preserved
members-preserved g c =
    let l = c.members in
    let members = g.M.ScannedMembers in
    let start = c.opens.new.self in
    let same : c.closes.new.self ≡ l.scan = grind arith in
    let has = subst (λ ts. HasMembers members.levels start (found_members (members.fields l.found)) ts)
    (sym same) l.invariant.0 in (
      adds_member members.levels start _ _ _ _ _ _ has c.in_ok-key.ensures c.in_ok-read.ensures.value,
      omega (arith, l.invariant.1, c.in_ok-read.ensures.shorter, ap length c.in_ok-key.ensures, ap length same),
    )

-- what is whole is read
whole_read : {A E : Type 0} (levels : ℕ) (old new : List Token) (value : Data) (shown : A → Data) (found : Option A)
    (result : Result A E) → found ≡ result_ok result → IfSome found (λ whole. value ≡ shown whole)
    → ReadsValue levels old value new → IfOk result (λ whole. ReadsValue levels old (shown whole) new)
whole_read levels old new value shown found (Ok whole) same is reads =
    subst (λ d. ReadsValue levels old d new) (subst (λ f. IfSome f (λ w. value ≡ shown w)) same is) reads
whole_read levels old new value shown found (Err stop) same is reads = tt

pub returns-clause-value : goal.returns-clause-value
returns-clause-value g c =
    let members = g.M.ScannedMembers in
    let l = c.members in
    let old = c.args.scan.now in
    let new = c.closes.new.self in
    let found = found_members (members.fields l.found) in
    let closed : l.scan ≡ Token.end_object ∷ new = grind arith in
    whole_read (suc members.levels) old new
    (object found) members.shown c.whole.result c.ok_or.result c.ok_or.ensures.ok_part c.whole.ensures
    (members_end members.levels old c.opens.new.self l.scan new found c.in_ok-opens.ensures l.invariant.0 closed)

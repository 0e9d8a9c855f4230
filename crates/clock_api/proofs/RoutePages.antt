-- The router's walk over its rows finds the row that matches a path, and the rows of our table match the paths of the
-- pages. Our patterns have no catch-all, and a parameter only at the end. So the walk tries the next byte, and then a
-- parameter.
use Rattle.std.proofs.Common.{◌≡◌, ℕ, zero, suc, ◌-◌, Bool, true, false, cond, not, List, [], ◌∷◌, ◌++◌, length, drop}
use Rattle.std.proofs.Common.{nat_eq}
use Rattle.std.proofs.Common.{Option, Some, None, refl, sym, ◌∙◌, ap, subst, arith, eqb-true, eq-eqb}
use Rattle.std.specs.Prelude.{option_map, find, ◌==◌, ◌&&◌, ◌||◌, ltb, nat_lt}
use Rattle.std.specs.List.{starts_with, list_any, list_all}
use Rattle.std.proofs.lemmas.Bool.{and_parts}
use Rattle.std.proofs.lemmas.Bool.Decides.{nat_tests}
use Rattle.matchit.specs.Rows.{RowsOf, param_token, catch_all_token}
use Rattle.matchit.specs.Seek.{seek, first, own, step, or_else, param_step, has_slash, longest_from, better, segment}
use Rattle.matchit.specs.Seek.{with_suffix}
use Rattle.matchit.specs.Router.{RouteOf}
use Rattle.matchit.specs.Route.{scan}
use Rattle.matchit.proofs.ParamLemmas.{one_less}
use Rattle.clock_api.specs.declared.routes.Page.{Page}
use Rattle.clock_api.specs.Bytes.{same_bytes}
use Rattle.clock_api.specs.Routes.{paths, is_path, is_segment, last_segment}
use Rattle.clock_api.specs.inside.Routing.{table}

-- ---- tests of patterns

abbrev is_nil : List ℕ → Bool
is_nil [] = true
is_nil (x ∷ t) = false

-- no catch-all, and a parameter only at the end
abbrev plain : List ℕ → Bool
plain [] = true
plain (x ∷ t) = not (x == 257) && (cond (x == 256) (is_nil t) true && plain t)

-- the first pattern has no parameter at the position of a byte of the second
abbrev goes_before : List ℕ → List ℕ → Bool
goes_before [] u = true
goes_before (x ∷ t) [] = true
goes_before (x ∷ t) (y ∷ u) = cond (x == y) (goes_before t u) (not (x == 256))

-- the pattern matches the path
abbrev fits : List ℕ → List ℕ → Bool
fits [] [] = true
fits [] (b ∷ p) = false
fits (x ∷ t) [] = false
fits (x ∷ t) (b ∷ p) = cond (x == 256) (not (has_slash (b ∷ p))) ((x == b) && fits t p)

is_false : (b : Bool) → not b ≡ true → b ≡ false
is_false false h = refl
is_false true h = let bad : false ≡ true = h in cc

nil_of : (t : List ℕ) → is_nil t ≡ true → t ≡ []
nil_of [] h = refl
nil_of (x ∷ t) h = let bad : false ≡ true = h in cc

end_of : (x : ℕ) (t : List ℕ) → plain (x ∷ t) ≡ true → (x == 256) ≡ true → t ≡ []
end_of x t h e =
    let last : cond (x == 256) (is_nil t) true ≡ true = (and_parts _ _ (and_parts _ _ h).1).0 in
    nil_of t (ap (λ v. cond v (is_nil t) true) (sym e) ∙ last)

plain_tail : (x : ℕ) (t : List ℕ) → plain (x ∷ t) ≡ true → plain t ≡ true
plain_tail x t h = (and_parts (cond (x == 256) (is_nil t) true) (plain t) (and_parts (not (x == 257)) _ h).1).1

-- only a parameter may follow a parameter
param_head : (y : ℕ) (u : List ℕ) → goes_before (256 ∷ []) (y ∷ u) ≡ true → 256 ≡ y
param_head y u h = by (256 == y) refl
  where
    by : (v : Bool) → (256 == y) ≡ v → 256 ≡ y
    by true e = eqb-true 256 y e
    by false e = let bad : false ≡ true = ap (λ v. cond v (goes_before [] u) false) (sym e) ∙ h in absurd cc

module _ {K : Type 0} where
  or_else-none : (a : Option K) → or_else a None ≡ a
  or_else-none None = refl
  or_else-none (Some k) = refl

  param_step-empty : (p : List ℕ) → (param_step {K = K} [] p).1 ≡ []
  unfolding param_step
  param_step-empty p =
      elim (has_slash p) as (λ v. (cond {A = ℕ × RowsOf K} v (0, []) (length p, [])).1 ≡ []) [
        | true ↦ refl
        | false ↦ refl
      ]

  seek-empty : (k : ℕ) (p : List ℕ) → seek {K = K} k [] p ≡ None
  unfolding seek
  seek-empty k [] = refl
  seek-empty (suc k) (b ∷ p) = seek-empty k p
  seek-empty zero (b ∷ p) =
      simp (seek-empty 0 p, param_step-empty (b ∷ p), seek-empty (((param_step {K = K} [] (b ∷ p)).0) - 1) p)

  seek-all : (rs : RowsOf K) (p : List ℕ) → seek (length p) rs p ≡ own rs
  unfolding seek
  seek-all rs [] = refl
  seek-all rs (b ∷ p) = seek-all rs p

  -- rows that end here
  abbrev AreEnds : RowsOf K → Type 0
  AreEnds [] = Unit {0}
  AreEnds ((t, k) ∷ rs) = (t ≡ []) × AreEnds rs

  abbrev ArePlain : RowsOf K → Type 0
  ArePlain [] = Unit {0}
  ArePlain ((t, k) ∷ rs) = (plain t ≡ true) × ArePlain rs

  -- a pattern comes before all these
  abbrev GoesFirst : List ℕ → RowsOf K → Type 0
  GoesFirst t [] = Unit {0}
  GoesFirst t ((u, k) ∷ rs) = (goes_before t u ≡ true) × GoesFirst t rs

  longest_ends : (seg : List ℕ) (rs : RowsOf K) → AreEnds rs → longest_from seg [] rs ≡ []
  longest_ends seg [] all = refl
  longest_ends seg ((t, k) ∷ rs) all =
      ap (λ t. longest_from seg (better seg [] (segment t)) rs) all.0 ∙ longest_ends seg rs all.1

  param_is : (rs : RowsOf K) (p : List ℕ) → AreEnds rs → param_step rs p ≡ cond (has_slash p) (0, []) (length p, rs)
  unfolding param_step
  param_is rs p all = ap (λ s. cond (ltb 0 (length s)) (length (segment p) - length s, with_suffix s rs)
      (cond (has_slash p) (0, []) (length p, rs))) (longest_ends (segment p) rs all)

  after_param : (v : Bool) (rs : RowsOf K) (b : ℕ) (p : List ℕ) → seek ((cond {A = ℕ × RowsOf K} v (0, [])
      (length (b ∷ p), rs)).0 - 1) (cond {A = ℕ × RowsOf K} v (0, []) (length (b ∷ p), rs)).1 p ≡ cond v None (own rs)
  after_param true rs b p = seek-empty 0 p
  after_param false rs b p = ap (λ n. seek n rs p) (one_less (length p)) ∙ seek-all rs p

  -- the walk, if no row has a catch-all or anything after a parameter
  abbrev walk : RowsOf K → List ℕ → Option K
  walk rs [] = own rs
  walk rs (b ∷ p) = or_else (walk (step b rs) p) (cond (has_slash (b ∷ p)) None (own (step param_token rs)))

  no_catch_all : (rs : RowsOf K) → ArePlain rs → step catch_all_token rs ≡ []
  no_catch_all [] all = refl
  no_catch_all (([], k) ∷ rs) all = no_catch_all rs all.1
  no_catch_all ((x ∷ t, k) ∷ rs) all =
      let e : (x == 257) ≡ false = is_false (x == 257) (and_parts _ _ all.0).0 in
      rw e (no_catch_all rs all.1)

  ends_of : (rs : RowsOf K) → ArePlain rs → AreEnds (step param_token rs)
  ends_of [] all = tt
  ends_of (([], k) ∷ rs) all = ends_of rs all.1
  ends_of ((x ∷ t, k) ∷ rs) all = by (x == 256) refl (ends_of rs all.1)
    where
      by : (v : Bool) → (x == 256) ≡ v → AreEnds (step param_token rs)
          → AreEnds (cond v ((t, k) ∷ step param_token rs) (step param_token rs))
      by true e rest = (end_of x t all.0 e, rest)
      by false e rest = rest

  plain_step : (b : ℕ) (rs : RowsOf K) → ArePlain rs → ArePlain (step b rs)
  plain_step b [] all = tt
  plain_step b (([], k) ∷ rs) all = plain_step b rs all.1
  plain_step b ((x ∷ t, k) ∷ rs) all = by (x == b) (plain_step b rs all.1)
    where
      by : (v : Bool) → ArePlain (step b rs) → ArePlain (cond v ((t, k) ∷ step b rs) (step b rs))
      by true rest = (plain_tail x t all.0, rest)
      by false rest = rest

  walked : (rs : RowsOf K) (p : List ℕ) → ArePlain rs → seek 0 rs p ≡ walk rs p
  unfolding seek
  walked rs [] all = refl
  walked rs (b ∷ p) all =
      let ends : RowsOf K = step param_token rs in
      let found : Option K = seek ((param_step ends (b ∷ p)).0 - 1) (param_step ends (b ∷ p)).1 p in
      ap (λ o. or_else o (or_else found (own (step catch_all_token rs)))) (walked (step b rs) p (plain_step b rs all))
      ∙ ap (λ o. or_else (walk (step b rs) p) o)
      (ap (λ (c : RowsOf K). or_else found (own c)) (no_catch_all rs all) ∙ or_else-none found
      ∙ ap (λ (q : ℕ × RowsOf K). seek (q.0 - 1) q.1 p) (param_is ends (b ∷ p) (ends_of rs all))
      ∙ after_param (has_slash (b ∷ p)) ends b p)

  -- ---- one row

  step_ends : (c : ℕ) (rs : RowsOf K) → AreEnds rs → step c rs ≡ []
  step_ends c [] all = refl
  step_ends c ((t, k) ∷ rs) all = ap (λ (t : List ℕ). step c ((t, k) ∷ rs)) all.0 ∙ step_ends c rs all.1

  none_twice : (v : Bool) → cond {A = Option K} v None None ≡ None
  none_twice true = refl
  none_twice false = refl

  walk_empty : (p : List ℕ) → walk [] p ≡ None
  walk_empty [] = refl
  walk_empty (b ∷ p) = ap (λ (o : Option K). or_else o (cond (has_slash (b ∷ p)) None None)) (walk_empty p)
      ∙ none_twice (has_slash (b ∷ p))

  walk_ends : (rs : RowsOf K) (c : ℕ) (p : List ℕ) → AreEnds rs → walk rs (c ∷ p) ≡ None
  walk_ends rs c p all = ap (λ (s : RowsOf K). or_else (walk s p)
      (cond (has_slash (c ∷ p)) None (own (step param_token rs)))) (step_ends c rs all) ∙ ap (λ (s : RowsOf K).
      or_else (walk [] p) (cond (has_slash (c ∷ p)) None (own s))) (step_ends param_token rs all) ∙ walk_empty (c ∷ p)

  only_ends : (b : ℕ) (rs : RowsOf K) → GoesFirst (256 ∷ []) rs → ArePlain rs → AreEnds (step b rs)
  only_ends b [] go all = tt
  only_ends b (([], k) ∷ rs) go all = only_ends b rs go.1 all.1
  only_ends b ((y ∷ u, k) ∷ rs) go all = by (y == b) (only_ends b rs go.1 all.1)
    where
      by : (v : Bool) → AreEnds (step b rs) → AreEnds (cond v ((u, k) ∷ step b rs) (step b rs))
      by true rest = (end_of y u all.0 (eq-eqb y 256 (sym (param_head y u go.0))), rest)
      by false rest = rest

  none_step : (b : ℕ) (rs : RowsOf K) → (256 == b) ≡ false → GoesFirst (256 ∷ []) rs → step b rs ≡ []
  none_step b [] other go = refl
  none_step b (([], k) ∷ rs) other go = none_step b rs other go.1
  none_step b ((y ∷ u, k) ∷ rs) other go =
      let e : (y == b) ≡ false = ap (λ n. n == b) (sym (param_head y u go.0)) ∙ other in
      rw e (none_step b rs other go.1)

  param_longer : (v : Bool) (k : K) (x y q : Option K) → x ≡ None → y ≡ None →
      or_else x (cond v None (Some k)) ≡ cond (not v) (Some k) (or_else y (cond v None q))
  param_longer true k x y q ex ey = ap (λ o. or_else o None) ex ∙ sym (ap (λ o. or_else o None) ey)
  param_longer false k x y q ex ey = ap (λ o. or_else o (Some k)) ex

  param_row : (k : K) (rs : RowsOf K) (b : ℕ) (p : List ℕ) → GoesFirst (256 ∷ []) rs → ArePlain rs →
      walk ((256 ∷ [], k) ∷ rs) (b ∷ p) ≡ cond (not (has_slash (b ∷ p))) (Some k) (walk rs (b ∷ p))
  param_row k rs b (c ∷ p) go all = param_longer (has_slash (b ∷ (c ∷ p))) k
      (walk (cond (256 == b) (([], k) ∷ step b rs) (step b rs)) (c ∷ p)) (walk (step b rs) (c ∷ p)) (own
      (step param_token rs)) (walk_ends _ c p (both (256 == b))) (walk_ends (step b rs) c p (only_ends b rs go all))
    where
      both : (v : Bool) → AreEnds (cond v (([], k) ∷ step b rs) (step b rs))
      both true = (refl, only_ends b rs go all)
      both false = only_ends b rs go all
  param_row k rs b [] go all = by (256 == b) refl
    where
      by : (v : Bool) → (256 == b) ≡ v → or_else (own (cond v (([], k) ∷ step b rs) (step b rs)))
          (cond (cond (b == 47) true false) None (Some k)) ≡ cond (not (cond (b == 47) true false)) (Some k)
          (or_else (own (step b rs)) (cond (cond (b == 47) true false) None (own (step param_token rs))))
      by true e =
          let no : (b == 47) ≡ false = ap (λ n. n == 47) (sym (eqb-true 256 b e)) in
          sym (ap (λ v. cond (not (cond v true false)) (Some k)
          (or_else (own (step b rs)) (cond (cond v true false) None (own (step param_token rs))))) no)
      by false e =
          let none : own (step b rs) ≡ None = ap own (none_step b rs e go) in
          param_longer (cond (b == 47) true false) k (own (step b rs)) (own (step b rs))
          (own (step param_token rs)) none none

  go_on : (x b : ℕ) (t : List ℕ) (rs : RowsOf K) → (x == b) ≡ true → GoesFirst (x ∷ t) rs → GoesFirst t (step b rs)
  go_on x b t [] same go = tt
  go_on x b t (([], k) ∷ rs) same go = go_on x b t rs same go.1
  go_on x b t ((y ∷ u, k) ∷ rs) same go = by (y == b) refl (go_on x b t rs same go.1)
    where
      by : (v : Bool) → (y == b) ≡ v → GoesFirst t (step b rs) → GoesFirst t (cond v ((u, k) ∷ step b rs) (step b rs))
      by true e rest =
          let alike : (x == y) ≡ true = eq-eqb x y (eqb-true x b same ∙ sym (eqb-true y b e)) in
          (ap (λ v. cond v (goes_before t u) (not (x == 256))) (sym alike) ∙ go.0, rest)
      by false e rest = rest

  later : (v : Bool) (k : K) (x q : Option K) → or_else (cond v (Some k) x) q ≡ cond v (Some k) (or_else x q)
  later true k x q = refl
  later false k x q = refl

  -- the first row is found if it matches; otherwise the walk finds what it finds among the others
  row_first : (t : List ℕ) (k : K) (rs : RowsOf K) (p : List ℕ) → plain t ≡ true → GoesFirst t rs → ArePlain rs →
      walk ((t, k) ∷ rs) p ≡ cond (fits t p) (Some k) (walk rs p)
  row_first [] k rs [] h go all = refl
  row_first [] k rs (b ∷ p) h go all = refl
  row_first (x ∷ t) k rs [] h go all = refl
  row_first (x ∷ t) k rs (b ∷ p) h go all = by (x == 256) refl
      (λ same. row_first t k (step b rs) p (plain_tail x t h) (go_on x b t rs same go) (plain_step b rs all))
    where
      literal : (v : Bool) → (x == b) ≡ v → ((x == b) ≡ true → walk ((t, k) ∷ step b rs) p
          ≡ cond (fits t p) (Some k) (walk (step b rs) p)) → or_else (walk (cond v ((t, k) ∷ step b rs) (step b rs)) p)
          (cond (has_slash (b ∷ p)) None (own (step param_token rs))) ≡ cond (v && fits t p) (Some k) (walk rs (b ∷ p))
      literal true e ih =
          ap (λ o. or_else o (cond (has_slash (b ∷ p)) None (own (step param_token rs)))) (ih e)
          ∙ later (fits t p) k (walk (step b rs) p) (cond (has_slash (b ∷ p)) None (own (step param_token rs)))
      literal false e ih = refl

      by : (v : Bool) → (x == 256) ≡ v
          → ((x == b) ≡ true → walk ((t, k) ∷ step b rs) p ≡ cond (fits t p) (Some k) (walk (step b rs) p)) →
          walk ((x ∷ t, k) ∷ rs) (b ∷ p) ≡ cond (fits (x ∷ t) (b ∷ p)) (Some k) (walk rs (b ∷ p))
      by true e ih =
          let nil : t ≡ [] = end_of x t h e in
          let is : x ≡ 256 = eqb-true x 256 e in
          let going : GoesFirst (256 ∷ []) rs =
          subst (λ (n : ℕ). GoesFirst (n ∷ []) rs) is (subst (λ (u : List ℕ). GoesFirst (x ∷ u) rs) nil go) in
          ap (λ (u : List ℕ). walk ((x ∷ u, k) ∷ rs) (b ∷ p)) nil ∙ ap (λ (n : ℕ). walk ((n ∷ [], k) ∷ rs) (b ∷ p)) is
          ∙ param_row k rs b p going all
          ∙ sym (ap (λ v. cond (cond v (not (has_slash (b ∷ p))) ((x == b) && fits t p)) (Some k) (walk rs (b ∷ p))) e)
      by false e ih =
          ap (λ v. or_else (walk (cond (x == b) ((t, k) ∷ step b rs) (step b rs)) p)
          (cond (has_slash (b ∷ p)) None (own (cond v ((t, k) ∷ step param_token rs) (step param_token rs))))) e
          ∙ literal (x == b) refl ih
          ∙ sym (ap (λ v. cond (cond v (not (has_slash (b ∷ p))) ((x == b) && fits t p)) (Some k) (walk rs (b ∷ p))) e)

-- ---- all rows, and those of the table

-- the pages of rows, with their patterns
abbrev pages_in : RowsOf (RouteOf Page) → List (List ℕ × Page)
pages_in [] = []
pages_in ((t, r) ∷ rs) = (t, r.value) ∷ pages_in rs

abbrev first_fit : List (List ℕ × Page) → List ℕ → Option Page
first_fit [] p = None
first_fit ((t, page) ∷ rows) p = cond (fits t p) (Some page) (first_fit rows p)

abbrev goes_first : List ℕ → RowsOf (RouteOf Page) → Bool
goes_first t [] = true
goes_first t ((u, k) ∷ rs) = goes_before t u && goes_first t rs

abbrev in_order : RowsOf (RouteOf Page) → Bool
in_order [] = true
in_order ((t, k) ∷ rs) = plain t && (goes_first t rs && in_order rs)

first_from : (t : List ℕ) (rs : RowsOf (RouteOf Page)) → goes_first t rs ≡ true → GoesFirst t rs
first_from t [] h = tt
first_from t ((u, k) ∷ rs) h = let parts = and_parts (goes_before t u) (goes_first t rs) h in
    (parts.0, first_from t rs parts.1)

plain_from : (rs : RowsOf (RouteOf Page)) → in_order rs ≡ true → ArePlain rs
plain_from [] h = tt
plain_from ((t, k) ∷ rs) h =
    let parts = and_parts (plain t) (goes_first t rs && in_order rs) h in
    (parts.0, plain_from rs (and_parts (goes_first t rs) (in_order rs) parts.1).1)

fitted : (rs : RowsOf (RouteOf Page)) (p : List ℕ) → in_order rs ≡ true
    → option_map (λ r. r.value) (walk rs p) ≡ first_fit (pages_in rs) p
fitted [] p h = ap (option_map (λ (r : RouteOf Page). r.value)) (walk_empty p)
fitted ((t, r) ∷ rs) p h =
    let parts = and_parts (plain t) (goes_first t rs && in_order rs) h in
    let others = and_parts (goes_first t rs) (in_order rs) parts.1 in
    ap (option_map (λ (r : RouteOf Page). r.value)) (row_first t r rs p parts.0 (first_from t rs others.0)
    (plain_from rs others.1)) ∙ by (fits t p) (fitted rs p others.1)
  where
    by : (v : Bool) → option_map (λ r. r.value) (walk rs p) ≡ first_fit (pages_in rs) p
        → option_map (λ r. r.value) (cond v (Some r) (walk rs p)) ≡ cond v (Some r.value) (first_fit (pages_in rs) p)
    by true ih = refl
    by false ih = ih

-- ---- the texts of the paths

abbrev literal : List ℕ → Bool
literal text = list_all (λ x. not (x == 256)) text

-- the pattern of a text
abbrev pattern_of : List ℕ → List ℕ
pattern_of text = cond (length (last_segment text) == 0) (text ++ 256 ∷ []) text

fits_literal : (t p : List ℕ) → literal t ≡ true → fits t p ≡ same_bytes t p
fits_literal [] [] h = refl
fits_literal [] (b ∷ p) h = refl
fits_literal (x ∷ t) [] h = refl
fits_literal (x ∷ t) (b ∷ p) h =
    let parts = and_parts (not (x == 256)) (literal t) h in
    ap (λ v. cond v (not (has_slash (b ∷ p))) ((x == b) && fits t p)) (is_false (x == 256) parts.0)
    ∙ ap (λ v. (x == b) && v) (fits_literal t p parts.1)

slash_any : (p : List ℕ) → has_slash p ≡ list_any (λ b. b == 47) p
slash_any [] = refl
slash_any (b ∷ p) = by (b == 47) (slash_any p)
  where
    by : (v : Bool) → has_slash p ≡ list_any (λ b. b == 47) p
        → cond v true (has_slash p) ≡ v || list_any (λ b. b == 47) p
    by true ih = refl
    by false ih = ih

some_bytes : (b : ℕ) (p : List ℕ) → nat_lt 0 (length (b ∷ p)) ≡ true
some_bytes b p = grind (arith, nat_tests)

regrouped : (a s g : Bool) → a && (s && g) ≡ (a && s) && g
regrouped true s g = refl
regrouped false s g = refl

fits_segment : (t p : List ℕ) → literal t ≡ true
    → fits (t ++ 256 ∷ []) p ≡ (starts_with nat_eq p t && is_segment (drop (length t) p))
fits_segment [] [] h = refl
fits_segment [] (b ∷ p) h =
    ap not (slash_any (b ∷ p)) ∙ sym (ap (λ v. v && not (list_any (λ b. b == 47) (b ∷ p))) (some_bytes b p))
fits_segment (x ∷ t) [] h = refl
fits_segment (x ∷ t) (b ∷ p) h =
    let parts = and_parts (not (x == 256)) (literal t) h in
    ap (λ v. cond v (not (has_slash (b ∷ p))) ((x == b) && fits (t ++ 256 ∷ []) p)) (is_false (x == 256) parts.0)
    ∙ ap (λ v. (x == b) && v) (fits_segment t p parts.1)
    ∙ regrouped (x == b) (starts_with nat_eq p t) (is_segment (drop (length t) p))

fits_is : (text p : List ℕ) → literal text ≡ true → fits (pattern_of text) p ≡ is_path text p
fits_is text p h =
    elim (length (last_segment text) == 0) as (λ v. fits (cond v (text ++ 256 ∷ []) text) p
    ≡ cond v (starts_with nat_eq p text && is_segment (drop (length text) p)) (same_bytes text p)) [
      | true ↦ fits_segment text p h
      | false ↦ fits_literal text p h
    ]

abbrev AreLiteral : List (List ℕ × Page) → Type 0
AreLiteral [] = Unit {0}
AreLiteral (row ∷ rows) = (literal row.0 ≡ true) × AreLiteral rows

-- the rows of a router for these texts
abbrev patterns_of : List (List ℕ × Page) → List (List ℕ × Page)
patterns_of [] = []
patterns_of (row ∷ rows) = (pattern_of row.0, row.1) ∷ patterns_of rows

found_is : (rows : List (List ℕ × Page)) (p : List ℕ) → AreLiteral rows →
    first_fit (patterns_of rows) p ≡ option_map (λ row. row.1) (find (λ row. is_path row.0 p) rows)
found_is [] p all = refl
found_is (row ∷ rows) p all = ap (λ v. cond v (Some row.1) (first_fit (patterns_of rows) p)) (fits_is row.0 p all.0)
    ∙ by (is_path row.0 p) (found_is rows p all.1)
  where
    by : (v : Bool) → first_fit (patterns_of rows) p ≡ option_map (λ row. row.1) (find (λ row. is_path row.0 p) rows)
        → cond v (Some row.1) (first_fit (patterns_of rows) p)
        ≡ option_map (λ row. row.1) (cond v (Some row) (find (λ row. is_path row.0 p) rows))
    by true ih = refl
    by false ih = ih

table_in_order : in_order table ≡ true
unfolding table scan
table_in_order = refl

table_is : pages_in table ≡ patterns_of paths
unfolding table scan
table_is = refl

-- the router's walk over our table finds the page of a path
pub walk_is : (path : List ℕ)
    → option_map (λ r. r.value) (first table path) ≡ option_map (λ row. row.1) (find (λ row. is_path row.0 path) paths)
walk_is path = ap (option_map (λ (r : RouteOf Page). r.value)) (walked table path (plain_from table table_in_order))
    ∙ fitted table path table_in_order ∙ ap (λ rows. first_fit rows path) table_is
    ∙ found_is paths path (refl, (refl, (refl, (refl, (refl, (refl, (refl, (refl, tt))))))))

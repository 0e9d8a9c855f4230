-- What an insert into the router makes, and what a look-up finds. The library's contracts speak of its rows; these laws
-- say it of our pages.
use Rattle.std.proofs.Common.{◌≡◌, ◌≢◌, ℕ, ◌-◌, ◌<◌, ◌≤◌, Bool, true, false, cond, not, List, length, get_or, take}
use Rattle.std.proofs.Common.{drop}
use Rattle.std.proofs.Common.{Option, None, Result, Ok, Err, refl, sym, ◌∙◌, ap, arith}
use Rattle.std.specs.Prelude.{option_map, find, ◌==◌}
use Rattle.std.specs.List.{suffix_len}
use Rattle.std.proofs.lemmas.List.{take_rest}
use Rattle.std.proofs.lemmas.List.Sums.{suffix_len_is}
use Rattle.std.proofs.lemmas.Bool.Decides.{nat_tests}
use Rattle.std.specs.Str.{is_utf8, IsUtf8}
use Rattle.std.proofs.lemmas.Str.{is_utf8-from_IsUtf8, IsUtf8-from_is_utf8}
use Rattle.matchit.specs.Router.{RouteOf, InsertsRead}
use Rattle.matchit.specs.Route.{Scan}
use Rattle.matchit.specs.Seek.{first}
use Rattle.matchit.specs.declared.error.InsertError.{InsertError}
use Rattle.clock_api.specs.declared.routes.Page.{Page}
use Rattle.clock_api.specs.Routes.{paths, is_path, page_of, last_segment}
use Rattle.clock_api.specs.inside.Routing.{Table, with_scan, table}
use Rattle.clock_api.proofs.RoutePages.{walk_is}

pub added : (r : Result Scan InsertError) (page : Page) (old new : Table) (done : Unit {0})
    → InsertsRead r page old new (Ok done) → new ≡ with_scan r page old
added (Ok s) page old new done h = h.1
added (Err e) page old new done h = h.0

pub page_found : (path : List ℕ) (routes : Table) (o : Option (RouteOf Page)) → IsUtf8 path → routes ≡ table
    → first routes path ≡ o → option_map (λ r. r.value) o ≡ page_of path
unfolding page_of
page_found path routes o text is found = ap (option_map (λ r. r.value)) (sym found ∙ ap (λ t. first t path) is)
    ∙ walk_is path ∙ sym (ap (λ t. cond t (option_map (λ row. row.1) (find (λ row. is_path row.0 path) paths)) None)
    (is_utf8-from_IsUtf8 path text))

pub no_page : (path : List ℕ) → (IsUtf8 path → ⊥) → None ≡ page_of path
unfolding page_of
no_page path not_text = by (is_utf8 path) refl
  where
    by : (t : Bool) → is_utf8 path ≡ t
        → None ≡ cond (is_utf8 path) (option_map (λ row. row.1) (find (λ row. is_path row.0 path) paths)) None
    by true e = absurd (not_text (IsUtf8-from_is_utf8 path e))
    by false e = sym (ap (λ t. cond t (option_map (λ row. row.1) (find (λ row. is_path row.0 path) paths)) None) e)

pub page_seen : (path text : List ℕ) (routes : Table) (o : Option (RouteOf Page)) → text ≡ path → IsUtf8 path
    → routes ≡ table → first routes text ≡ o → option_map (λ r. r.value) o ≡ page_of path
page_seen path text routes o same is_text is found =
    page_found path routes o is_text is (ap (first routes) (sym same) ∙ found)

-- the bytes after the last slash, or the whole path if there is none
pub segment_is : (path : List ℕ) (start n : ℕ) → start ≤ n → n ≡ length path
    → ((k : ℕ) → start ≤ k → k < n → get_or path k 0 ≢ 47) → (0 < start → get_or path (start - 1) 0 ≡ 47)
    → take (length path - start) (drop start path) ≡ last_segment path
segment_is path start n le all none before =
    let others : (k : ℕ) → start ≤ k → k < length path → not (get_or path k 0 == 47) ≡ true =
    λ k from to. (let apart : get_or path k 0 ≢ 47 = none k from (omega arith) in grind (arith, nat_tests)) in
    let slash : 0 < start → not (get_or path (start - 1) 0 == 47) ≡ false =
    λ some. (let is : get_or path (start - 1) 0 ≡ 47 = before some in grind (arith, nat_tests)) in
    let size : suffix_len (λ x. not (x == 47)) path ≡ length path - start =
    suffix_len_is (λ x. not (x == 47)) path start 0 (omega arith) others slash in
    take_rest path start
    ∙ ap (λ k. drop k path) (let e : start ≡ length path - suffix_len (λ x. not (x == 47)) path = omega arith in e)

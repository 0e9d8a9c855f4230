-- The longest text that can arrive. A text that needs more is shorter than the longest head and the longest body
-- together, and only one more piece is read.
use Rattle.std.proofs.Common.{◌≡◌, ◌<◌, ◌≤◌, ◌+◌, ℕ, Bool, true, false, List, [], ◌∷◌, Option, Some, None, Result, Ok}
use Rattle.std.proofs.Common.{Err, length, take, refl, inl, inr, cond, ap, arith, length-append}
use Rattle.std.specs.Prelude.{codes, nat_lt}
use Rattle.std.proofs.lemmas.List.{length-take}
use Rattle.httparse.specs.Grammar.{RequestHead}
use Rattle.clock_device.specs.Reports.{Reading}
use Rattle.clock_api.specs.declared.code.Code.{Code}
use Rattle.clock_api.specs.declared.code.Code.TheVariants.{LongBody, LongHead}
use Rattle.clock_http.specs.Scans.{head_length}
use Rattle.clock_http.specs.HeaderLines.{body_length, body_limit, length_from, pairs_of, unless_coded, values_of}
use Rattle.clock_http.specs.HeaderLines.{within_limit}
use Rattle.clock_http.specs.Framing.{Framing, Head, and_length, ended_head, framed_at, framed_head, framing, head_limit}
use Rattle.clock_http.specs.Framing.{incomplete, is_incomplete, stored_head, length_read, needs_more}
use Rattle.clock_http.specs.Framing.{refusal, whole}
use Rattle.clock_http.proofs.Prefixes.{cond_cases, head_length_within}
use Rattle.clock_connections.specs.Arrivals.{HasArrived, most_piece}

less : (a b : ℕ) → nat_lt a b ≡ true → a < b
less a b e = grind arith

not_less : (a b : ℕ) → nat_lt a b ≡ false → b ≤ a
not_less a b e = grind arith

-- ---- a body is within its limit

within : (report : Result ℕ Code) (n : ℕ) → within_limit report ≡ Ok n → n ≤ body_limit
within (Err code) n e = absurd cc
within (Ok m) n e =
    elim (cond_cases (nat_lt body_limit m) (Err LongBody) (Ok m) _ e) [
      | inl long ↦ absurd (let bad = long.1 in cc)
      | inr short ↦
          (let is = short.1 in let same : m ≡ n = cc in let least = not_less body_limit m short.0 in omega arith)
    ]

uncoded : (values : List (List ℕ)) (report : Result ℕ Code) (n : ℕ) → unless_coded values report ≡ Ok n → report ≡ Ok n
uncoded [] report n e = e
uncoded (value ∷ more) report n e = absurd cc

measured : (head : RequestHead) (report : Result ℕ Code) (read : Head × ℕ)
    → and_length head report ≡ Ok read → report ≡ Ok read.1
measured head (Err code) read e = absurd cc
measured head (Ok n) read e = (let same : (stored_head head, n) ≡ read = cc in ap (λ (r : Head × ℕ). Ok r.1) same)

body_within : (ended : Result RequestHead Code) (read : Head × ℕ) → length_read ended ≡ Ok read → read.1 ≤ body_limit
body_within (Err code) read e = absurd cc
body_within (Ok head) read e = within (length_from (values_of (codes "content-length") (pairs_of head))) read.1
    (uncoded (values_of (codes "transfer-encoding") (pairs_of head)) _ read.1
    (measured head (body_length (pairs_of head)) read e))

-- ---- a text that needs more

wanting : (short : Bool) (text : Framing) → is_incomplete (cond short incomplete text) ≡ true
    → is_incomplete text ≡ false → short ≡ true
wanting true text needs decided = refl
wanting false text needs decided = absurd cc

by_head : (n : ℕ) (text : List ℕ) (ended : Result (Head × ℕ) Code) → n ≤ head_limit
    → ((read : Head × ℕ) → ended ≡ Ok read → read.1 ≤ body_limit) → is_incomplete (framed_head n text ended) ≡ true
    → length text < head_limit + body_limit
by_head n text (Err code) early short needs = absurd cc
by_head n text (Ok read) early short needs =
    let below =
    less (length text) (n + read.1) (wanting (nat_lt (length text) (n + read.1)) (whole read.0 _) needs refl) in
    omega (arith, short read refl)

by_end : (end : Option ℕ) (text : List ℕ) → head_length (take head_limit text) ≡ end
    → is_incomplete (framed_at end text) ≡ true → length text < head_limit + body_limit
by_end None text is needs =
    let below =
    less (length text) head_limit (wanting (nat_lt (length text) head_limit) (refusal LongHead) needs refl) in
    omega arith
by_end (Some n) text is needs =
    let early = (head_length_within (take head_limit text) n is).1 in
    by_head n text (length_read (ended_head (take n text))) (omega (arith, early, length-take head_limit text))
    (body_within (ended_head (take n text))) needs

short_of_more : (text : List ℕ) → needs_more text ≡ true → length text < head_limit + body_limit
unfolding framing
short_of_more text needs = by_end (head_length (take head_limit text)) text refl needs

-- so a text that has arrived has at most one more piece
pub short_arrived : (reading : Reading) (text : List ℕ) → HasArrived reading text
    → length text < head_limit + body_limit + most_piece
short_arrived reading text arrived =
    omega (
      arith,
      ap length arrived.2.is,
      length-append arrived.0 arrived.1,
      short_of_more arrived.0 arrived.2.by_need.needed,
      arrived.2.short,
    )

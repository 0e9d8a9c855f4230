-- Requests that were written one after the other into one text: of each the body,
-- and then the head.
--     written_head text written, written_body text written, written_request text written      the
--         two pieces of a request, and the request
--     IsWrittenIn text written      its pieces are in the text
--     Grows old text      what was in the text is still there
--     Writes old text request written, WritesIf old text request written      a request was
--         written, if there is one
--     is_awaited count, AwaitsBody text written      a body of `count` bytes must follow; its head
--         needs it just if it does
use Rattle.std.specs.Prelude.{◌≡◌, ◌≤◌, ◌-◌, ◌&&◌, ℕ, Bool, List, ◌++◌, nat_le, length, take, drop}
use Rattle.std.specs.Prelude.{Option, Some, None}
use Rattle.clock_http.specs.HeaderLines.{body_limit}
use Rattle.clock_http.specs.Framing.{needs_more}
use Rattle.clock_scripts.specs.declared.requests.Written.{Written}

-- the head of a request that was written
abbrev pub written_head : List ℕ → Written → List ℕ
written_head text written = take (written.end - written.head) (drop written.head text)

-- its body
abbrev pub written_body : List ℕ → Written → List ℕ
written_body text written = take (written.head - written.body) (drop written.body text)

-- the request
abbrev pub written_request : List ℕ → Written → List ℕ
written_request text written = written_head text written ++ written_body text written

-- its pieces are in the text
pub record IsWrittenIn (text : List ℕ) (written : Written) : Type 0 where
  pub body : written.body ≤ written.head
  pub head : written.head ≤ written.end
  pub end : written.end ≤ length text

-- what was in the text is still there, before what is new
pub record Grows (old text : List ℕ) : Type 0 where
  pub more : List ℕ
  pub is : text ≡ old ++ more

-- a request was written, and is in the text
pub record Writes (old text request : List ℕ) (written : Written) : Type 0 where
  pub grows : Grows old text
  pub reads : written_request text written ≡ request
  pub within : IsWrittenIn text written

-- a request was written, if there is one
abbrev pub WritesIf : List ℕ → List ℕ → Option (List ℕ) → Option Written → Type 0
WritesIf old text request None = (request ≡ None) × (text ≡ old)
WritesIf old text request (Some written) = (request ≡ Some (written_request text written))
    × Writes old text (written_request text written) written

-- a body of `count` bytes must follow its head: there is one, and it is not too long
abbrev pub is_awaited : ℕ → Bool
is_awaited count = nat_le 1 count && nat_le count body_limit

-- the head of a request needs more just where its body needs to come
abbrev pub AwaitsBody : List ℕ → Written → Type 0
AwaitsBody text written =
    needs_more (written_head text written) ≡ is_awaited (written.head - written.body)

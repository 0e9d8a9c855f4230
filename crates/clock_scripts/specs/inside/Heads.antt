-- The head of a request, which is written after its body.
--     HasRequestHead line token body old text written      the body is all from an index on, and
--         the head was added
use Rattle.std.specs.Prelude.{◌≡◌, ◌-◌, ℕ, List, length}
use Rattle.clock_views.specs.inside.Values.{Adds}
use Rattle.clock_scripts.specs.declared.requests.Written.{Written}
use Rattle.clock_scripts.specs.RequestTexts.{request_head}

-- the body is all of the text from an index on, and then its head was added
pub record HasRequestHead (line token : List ℕ) (body : ℕ) (old text : List ℕ)
    (written : Written) : Type 0 where
  pub from : written.body ≡ body
  pub behind : written.head ≡ length old
  pub until : written.end ≡ length text
  pub added : Adds (request_head line token (length old - body)) old text

-- Parts of a head that proofs name.
--     path_of_target target      the path of a target
--     head_with_length bytes      a head and the length of its body, or why they are refused
--     ended_at length text      the head of a text that has ended after this number of bytes
use Rattle.std.specs.Prelude.{ℕ, List, take, ◌==◌, Option, Some, None, Result}
use Rattle.std.specs.List.{before_first}
use Rattle.http_uri.specs.ByteClasses.{question_mark}
use Rattle.clock_api.specs.declared.code.Code.{Code}
use Rattle.clock_http.specs.Framing.{Head, ended_head, length_read, ok_head}

-- the path is the target up to the first question mark
abbrev pub path_of_target : List ℕ → List ℕ
path_of_target target = before_first (λ b. b == question_mark) target

-- a head and the length of its body, or why they are refused
abbrev pub head_with_length : List ℕ → Result (Head × ℕ) Code
head_with_length bytes = length_read (ended_head bytes)

-- the head of a text, given where it ends
abbrev pub ended_at : Option ℕ → List ℕ → Option Head
ended_at None text = None
ended_at (Some n) text = ok_head (ended_head (take n text))

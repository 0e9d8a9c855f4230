-- What the bytes of a request that have arrived so far are: incomplete, a request, or refused.
--     ended_head bytes      the head that these bytes are, or why they are refused
--     framing text      the request that a text is, a refusal, or that it is incomplete
--     needs_more text      the text is incomplete
--     IsDecided text      the text is a request or refused, whatever follows
--     head_in text      the head of a text, even if its body is refused or incomplete
--     known text      what a server needs to know of a text that may still grow
--     advanced known text      what is known of a longer text, by what was known of a prefix
-- The order of the refusals is our own. Nothing is refused before the head has ended or is too
-- long.
use Rattle.std.specs.Prelude.{◌≡◌, ℕ, ◌+◌, ◌-◌, Bool, true, false, List, length, take, drop}
use Rattle.std.specs.Prelude.{if◌then◌else◌, ◌==◌, nat_lt, Option, Some, None, option_and_then}
use Rattle.std.specs.Prelude.{Result}
use Rattle.std.specs.Prelude.{Ok, Err}
use Rattle.std.specs.List.{before_first}
use Rattle.httparse.specs.Grammar.{RequestHead}
use Rattle.http_uri.specs.ByteClasses.{question_mark}
use Rattle.clock_http.specs.Scans.{head_length, line_ends, is_loose}
use Rattle.clock_http.specs.Heads.{head_of}
use Rattle.clock_http.specs.HeaderLines.{pairs_of, body_length, token_of}
use Rattle.clock_api.specs.declared.code.Code.{Code}
use Rattle.clock_api.specs.declared.code.Code.TheVariants.{LongHead, BadHead}

-- the most bytes of a head, with its empty line, and its most header lines (own limits)
abbrev pub head_limit : ℕ
head_limit = 16384

abbrev pub line_limit : ℕ
line_limit = 64

abbrev pub or_bad_head : Option RequestHead → Result RequestHead Code
or_bad_head None = Err BadHead
or_bad_head (Some head) = Ok head

-- the head of these bytes; two of their line ends are of the request line and of the empty line
abbrev pub ended_head : List ℕ → Result RequestHead Code
ended_head bytes = if nat_lt line_limit (line_ends bytes - 2) then Err LongHead
    else (if is_loose bytes then Err BadHead else or_bad_head (head_of bytes))

-- the parts of a head that this server uses
pub record Head : Type 0 where
  pub method : List ℕ
  pub path : List ℕ
  pub token : Option (List ℕ)

-- the path is the target up to the first question mark
abbrev pub stored_head : RequestHead → Head
stored_head head = record {
  method = head.method;
  path = before_first (λ b. b == question_mark) head.target;
  token = token_of (pairs_of head);
}

-- a head with the length of its body, unless that is refused
abbrev pub and_length : RequestHead → Result ℕ Code → Result (Head × ℕ) Code
and_length head (Err fault) = Err fault
and_length head (Ok n) = Ok (stored_head head, n)

-- a head and the length of its body, or why they are refused
abbrev pub length_read : Result RequestHead Code → Result (Head × ℕ) Code
length_read (Err fault) = Err fault
length_read (Ok head) = and_length head (body_length (pairs_of head))

-- ---- what a text is

-- more bytes are needed; or refused; or a request: its head and its body
pub data Framing : Type 0 where
  incomplete : Framing
  refusal : Code → Framing
  whole : Head → List ℕ → Framing

-- a head of n bytes and its body, if that is whole; bytes after the body are ignored
abbrev pub framed_head : ℕ → List ℕ → Result (Head × ℕ) Code → Framing
framed_head n text (Err fault) = refusal fault
framed_head n text (Ok read) = if nat_lt (length text) (n + read.1) then incomplete
    else whole read.0 (take read.1 (drop n text))

-- what a text is, given where its head ends; without an end it is incomplete or too long
abbrev pub framed_at : Option ℕ → List ℕ → Framing
framed_at None text = if nat_lt (length text) head_limit then incomplete else refusal LongHead
framed_at (Some n) text = framed_head n text (length_read (ended_head (take n text)))

-- what a text is: its head must end within the first 16384 bytes
unfoldable pub framing : List ℕ → Framing
framing text = framed_at (head_length (take head_limit text)) text

abbrev pub is_incomplete : Framing → Bool
is_incomplete incomplete = true
is_incomplete (refusal code) = false
is_incomplete (whole head body) = false

-- the text is neither a request nor refused yet
abbrev pub needs_more : List ℕ → Bool
needs_more text = is_incomplete (framing text)

-- the text is a request or refused, whatever follows
abbrev pub IsDecided : List ℕ → Type 0
IsDecided text = needs_more text ≡ false

-- ---- the head of a text, even if its body is refused or incomplete

abbrev pub ok_head : Result RequestHead Code → Option Head
ok_head (Err fault) = None
ok_head (Ok head) = Some (stored_head head)

-- the head of a text, once it has ended
unfoldable pub head_in : List ℕ → Option Head
head_in text =
    option_and_then (λ n. ok_head (ended_head (take n text))) (head_length (take head_limit text))

-- ---- what is known of a text that may still grow

-- Without an end of a head: the length of the text. With one: the head, its length and its body's,
-- while the body is incomplete or when it is whole. Or a refusal.
pub data Known : Type 0 where
  unended : ℕ → Known
  waiting : Head → ℕ → ℕ → Known
  complete : Head → ℕ → ℕ → Known
  refused : Code → Known

-- what is known of a text of `count` bytes with a head of n bytes, by the length of its body
abbrev pub known_with_body : ℕ → Head → ℕ → ℕ → Known
known_with_body count head n body =
    if nat_lt count (n + body) then waiting head n body else complete head n body

-- what is known of a text of `count` bytes with a head of n bytes, or its refusal
abbrev pub known_with_head : ℕ → ℕ → Result (Head × ℕ) Code → Known
known_with_head count n (Err fault) = refused fault
known_with_head count n (Ok read) = known_with_body count read.0 n read.1

-- what is known of a text, given where its head ends
abbrev pub known_with_end : Option ℕ → List ℕ → Known
known_with_end None text =
    if nat_lt (length text) head_limit then unended (length text) else refused LongHead
known_with_end (Some n) text =
    known_with_head (length text) n (length_read (ended_head (take n text)))

-- what is known of a text
unfoldable pub known : List ℕ → Known
known text = known_with_end (head_length (take head_limit text)) text

-- what is known of a longer text: an ended head is not read again, and decisions are final
abbrev pub advanced : Known → List ℕ → Known
advanced (unended n) text = known text
advanced (waiting head n body) text = known_with_body (length text) head n body
advanced (complete head n body) text = complete head n body
advanced (refused fault) text = refused fault

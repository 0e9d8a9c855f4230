-- How values of the code correspond to the definitions: a span is the bytes that it covers.
--     Knows text progress      the progress is what is known of the text
--     KnowsOfStart text progress      the progress is what is known of a prefix of the text
--     shown_head head, shown_framing framing      a head and a framing, with their slices' bytes
--     IsFramed text framing      the framing is what the text is
use Rattle.std.specs.Prelude.{◌≡◌, ◌≤◌, ◌+◌, ℕ, List, take, length, Option, Some, None, option_map}
use Rattle.std.specs.Borrow.{Bor}
use Rattle.httparse.specs.Spans.{span_bytes, IsWithin}
use Rattle.httparse.specs.declared.spans.Span.{Span}
use Rattle.clock_http.specs.declared.head.EndedHead.{EndedHead}
use Rattle.clock_http.specs.declared.progress.Progress.{Progress}
use Rattle.clock_http.specs.declared.progress.Progress.TheVariants as so_far
use Rattle.clock_http.specs.declared.progress.Head.{Head}
use Rattle.clock_http.specs.declared.progress.Framing.{Framing}
use Rattle.clock_http.specs.declared.progress.Framing.TheVariants as framed
use Rattle.clock_http.specs.Framing as spec

-- if there is a span, it is within the first n bytes
abbrev pub IsSomeWithin : ℕ → Option Span → Type 0
IsSomeWithin n None = Unit {0}
IsSomeWithin n (Some span) = IsWithin n span

-- the parts of a head, as bytes of the text
abbrev pub shown_ended : List ℕ → EndedHead → spec.Head
shown_ended text head = record {
  method = span_bytes text head.method;
  path = span_bytes text head.path;
  token = option_map (span_bytes text) head.token;
}

-- the spans are within the head, and the head within a text of `count` bytes
pub record IsHeadWithin (count : ℕ) (head : EndedHead) : Type 0 where
  pub method : IsWithin head.length head.method
  pub path : IsWithin head.length head.path
  pub token : IsSomeWithin head.length head.token
  pub fits : head.length ≤ count

-- what a progress says is known of the text
abbrev pub shown_progress : List ℕ → Progress → spec.Known
shown_progress text (so_far.Unended n) = spec.unended n
shown_progress text (so_far.Waiting head) =
    spec.waiting (shown_ended text head) head.length head.body
shown_progress text (so_far.Complete head) =
    spec.complete (shown_ended text head) head.length head.body
shown_progress text (so_far.Refused fault) = spec.refused fault

-- a head and its whole body are within a text of `count` bytes
pub record IsRequestWithin (count : ℕ) (ended : EndedHead) : Type 0 where
  pub head : IsHeadWithin count ended
  pub body : ended.length + ended.body ≤ count

-- the spans of a known head are within the text
abbrev pub IsProgressWithin : ℕ → Progress → Type 0
IsProgressWithin count (so_far.Unended n) = Unit {0}
IsProgressWithin count (so_far.Waiting head) = IsHeadWithin count head
IsProgressWithin count (so_far.Complete head) = IsRequestWithin count head
IsProgressWithin count (so_far.Refused fault) = Unit {0}

-- the progress is what is known of the text
pub record Knows (text : List ℕ) (progress : Progress) : Type 0 where
  pub is : shown_progress text progress ≡ spec.known text
  pub within : IsProgressWithin (length text) progress

-- the progress is what is known of the first `count` bytes of the text, for some count
abbrev pub KnowsOfStart : List ℕ → Progress → Type 0
KnowsOfStart text progress = (count : ℕ) × Knows (take count text) progress

-- the bytes of a slice, if there is one
abbrev pub shown_bytes : Option (Bor (List ℕ)) → Option (List ℕ)
shown_bytes bytes = option_map (λ b. b.now) bytes

-- the parts of a head, as bytes
abbrev pub shown_head : Head → spec.Head
shown_head head =
    record { method = head.method.now; path = head.path.now; token = shown_bytes head.token }

-- what a framing says the text is
abbrev pub shown_framing : Framing → spec.Framing
shown_framing framed.NeedMore = spec.incomplete
shown_framing (framed.Refused fault) = spec.refusal fault
shown_framing (framed.Whole head body) = spec.whole (shown_head head) body.now

-- the framing, by the bytes of its slices, is what the text is
abbrev pub IsFramed : List ℕ → Framing → Type 0
IsFramed text framing = shown_framing framing ≡ spec.framing text

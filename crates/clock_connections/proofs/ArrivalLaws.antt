-- One more read of a request's bytes: each law of a sequence of reads holds for the longer sequence.
use Rattle.std.proofs.Common.{◌≡◌, ℕ, ◌+◌, ◌≤◌, ◌++◌, true, false, ◌||◌, List, [], Option, Some, None, length, refl}
use Rattle.std.proofs.Common.{Ok, Err, inl, inr, sym, ap, ◌∙◌, subst, append-nil, true≢false, arith}
use Rattle.std.proofs.lemmas.List.{append_cancel_right}
use Rattle.clock_device.specs.Streams.{HasRead}
use Rattle.clock_device.proofs.Streams.{read_nothing, read_twice, same_bytes}
use Rattle.clock_http.specs.Framing.{framing, needs_more}
use Rattle.clock_device.specs.Reports.{IsUnread, Reading, SourceReport}
use Rattle.clock_connections.specs.Arrivals.{IsReadByNeed, HasNoMemory, StopsWhenDecided}
use Rattle.clock_connections.specs.declared.arrival.RequestReadError.TheVariants as unread

pub nothing_needs_more : needs_more [] ≡ true
unfolding framing
nothing_needs_more = refl

pub nothing_read : (bytes : Option (List ℕ)) → HasRead bytes bytes []
nothing_read bytes = read_nothing bytes bytes (same_bytes bytes)

-- memory was refused before any read
pub no_room_at_first : (report : SourceReport) → IsUnread report
    → HasNoMemory (record { before = report; after = report })
no_room_at_first report none = (
  [],
  [],
  record { read = nothing_read report.left; needed = nothing_needs_more; used = omega (arith, none.uncounted) },
  none.unfailed,
)

-- the reads before one more
module _ (reading : Reading) (mid : SourceReport) (front : List ℕ)
    (read : HasRead reading.before.left mid.left front) (needed : needs_more front ≡ true)
    (used : mid.calls ≤ length front + mid.interruptions) (unfailed : mid.has_failed ≡ false)
    (once : reading.after.calls ≤ mid.calls + 1) (kept : mid.interruptions ≤ reading.after.interruptions) where
  -- one more read gave these bytes
  by_need : (last : List ℕ) → HasRead mid.left reading.after.left last → IsReadByNeed reading front last
  by_need last further = record {
    read = read_twice reading.before.left mid.left reading.after.left front last read further;
    needed = needed;
    used = omega arith;
  }

  -- memory for them was refused
  pub no_room : (last : List ℕ) → HasRead mid.left reading.after.left last
      → reading.after.has_failed ≡ (mid.has_failed || false) → HasNoMemory reading
  no_room last further fails = (front, last, by_need last further, fails ∙ rw unfailed refl)

-- what was read is determined by the bytes left before and after
same_read : (bytes : List ℕ) (left : Option (List ℕ)) (one other : List ℕ) → HasRead (Some bytes) left one
    → HasRead (Some bytes) left other → one ≡ other
same_read bytes None one other first second = absurd first
same_read bytes (Some left) one other first second = append_cancel_right one other left (sym first ∙ second)

-- a read that failed after the bytes were decided leaves no right result
pub stops_when_decided : StopsWhenDecided
stops_when_decided reading bytes text (Ok done) known read decided failed (front, last, arrives) =
    true≢false (sym failed ∙ arrives.unfailed)
stops_when_decided reading bytes text (Err unread.Memory) known read decided failed (front, last, by_need, unfailed) =
    true≢false (sym failed ∙ unfailed)
stops_when_decided reading bytes text (Err unread.Read) known read decided failed (inl (front, by_need, stopped)) =
    let left = reading.after.left in
    let same : text ≡ front ++ [] =
    same_read bytes left text (front ++ []) (subst (λ (before : Option (List ℕ)). HasRead before left text) known read)
    (subst (λ (before : Option (List ℕ)). HasRead before left (front ++ [])) known by_need.read) in
    true≢false (sym by_need.needed ∙ ap needs_more (sym (append-nil front)) ∙ ap needs_more (sym same) ∙ decided)
stops_when_decided reading bytes text (Err unread.Read) known read decided failed
    (inr (others, uses, counted, unfailed)) = true≢false (sym failed ∙ unfailed)

-- The piece is appended, what is known is advanced, and the zeros added change neither.
use Rattle.std.proofs.Common.{◌≡◌, ℕ, ◌+◌, ◌++◌, List, length, take, sym, subst, ap, ◌∙◌, arith, length-append}
use Rattle.std.proofs.Math.Seq.{take-append_seam}
use Rattle.clock_http.specs.Shown.{Knows}
use Rattle.clock_http.specs.inside.Followed.{WaitsBelow}
use Rattle.clock_http.proofs.ProgressLaws.{knows_start}
use Rattle.clock_http.proofs.arriving.Arriving.take_piece.Goals as goal

-- the bytes precede the zeros that were added
taken : (c : goal.After-needs_more)
    → take c.len-self-inside.result c.make_places-self-inside.new.room.items ≡ c.append.new.room.items
taken c =
    let text = c.append.new.room.items in
    let places = c.make_places-self-inside.ensures.appended in
    ap (λ n. take n c.make_places-self-inside.new.room.items) (c.len-self-inside.ensures ∙ c.append.new.room.ok.0)
    ∙ ap (take (length text)) places.1 ∙ take-append_seam text places.0

-- what is known of them
known : (c : goal.After-needs_more) → Knows c.append.new.room.items c.advance-self-inside.result
known c = subst
    (λ (text : List ℕ). Knows text c.advance-self-inside.result) c.as_slice.ensures.value c.advance-self-inside.ensures

pub invariant_of-self-2 : goal.invariant_of-self-2
invariant_of-self-2 c =
    let text = c.append.new.room.items in
    let progress = c.advance-self-inside.result in
    let next_check = c.make_places-self-inside.result in
    let places = c.make_places-self-inside.ensures in
    let below : WaitsBelow next_check text progress = λ more less. c.awaited-2.ensures (text ++ more)
    (knows_start text more progress (known c)) (let limit = places.below in omega arith) in
    let size : length c.make_places-self-inside.new.room.items ≡ length text + length places.appended.0 =
    ap length places.appended.1 ∙ length-append text places.appended.0 in
    let count : c.len-self-inside.result ≡ length text = c.len-self-inside.ensures ∙ c.append.new.room.ok.0 in
    record {
      knows = subst (λ (text : List ℕ). Knows text progress) (sym (taken c)) (known c);
      below = subst (λ (text : List ℕ). WaitsBelow next_check text progress) (sym (taken c)) below;
      fits = omega (arith, size, count);
      placed = places.placed;
    }

pub returns-clause-ok : goal.returns-clause-ok
returns-clause-ok c =
    taken c ∙ c.in_ok-append.ensures.ok
    ∙ ap (λ bytes. bytes ++ c.args.piece.now) (c.truncate.ensures.items ∙ c.self.view_is)

pub returns-clause-short : goal.returns-clause-short
returns-clause-short c = c.needs_more.ensures _
    (subst (λ (text : List ℕ). Knows text c.advance-self-inside.result) (sym (taken c)) (known c))

-- The request waits in its line, or has nothing left.
use Rattle.std.proofs.Common.{◌≡◌, ℕ, ◌+◌, ◌<◌, List, length, get_or, set, ap, sym, subst, ◌∙◌}
use Rattle.clock_terms.specs.declared.change.Change.{Change}
use Rattle.clock_processor.specs.Settling.{no_change}
use Rattle.clock_queue.specs.declared.queue.Queue.{Queue}
use Rattle.clock_queue.specs.inside.Lines.{LineFields, line_of, cost_of, with_waiting}
use Rattle.clock_queue.specs.inside.Queue.{HasSoundLines, line_at, line_in, cost_at}
use Rattle.clock_queue.proofs.Admits.{added, kept_added, kept_used, own_in, tracked_next}
use Rattle.clock_queue.proofs.queue.Queue.admit.Goals as goal

waits : (changes : List Change) (queue : Queue) (lines : List LineFields) (line cost : ℕ) (one : Change)
    (is : HasSoundLines changes queue) (more : queue.admitted < length changes)
    → one ≡ get_or changes queue.admitted no_change → line ≡ line_of one → cost ≡ cost_of queue.board.products one
    → lines ≡ set queue.lines line (with_waiting (line_in queue line) queue.admitted cost)
    → HasSoundLines changes (record queue { admitted = queue.admitted + 1; lines = lines })
waits changes queue lines line cost one is more read line_is cost_is lines_are =
    let of_line : line ≡ line_at changes queue.admitted = line_is ∙ ap line_of read in
    let of_cost : cost ≡ cost_at changes queue.board.products queue.admitted =
    cost_is ∙ ap (cost_of queue.board.products) read in
    let all : lines ≡ added changes queue is more = lines_are ∙ ap (λ l. set queue.lines l (with_waiting
    (line_in queue l) queue.admitted cost)) of_line ∙ ap (λ n. set queue.lines (line_at changes queue.admitted)
    (with_waiting (line_in queue (line_at changes queue.admitted)) queue.admitted n)) of_cost in
    subst (λ (list : List LineFields). HasSoundLines changes
    (record queue { admitted = queue.admitted + 1; lines = list })) (sym all) (kept_added changes queue is more)

pub add-requires : goal.add-requires
add-requires c =
    subst (λ (line : ℕ). line < length c.args.self.now.lines)
    (sym (c.line_of.ensures ∙ ap line_of c.read-change.ensures.request))
    (own_in c.args.requests.now c.args.self.now c.requires.in_order c.requires.more)

pub returns-then-as_slice-place-eq0-clause-in_order : goal.returns-then-as_slice-place-eq0-clause-in_order
returns-then-as_slice-place-eq0-clause-in_order c =
    kept_used c.args.requests.now c.args.self.now c.requires.in_order c.requires.more (ap (λ (list : List ℕ).
    get_or list c.args.self.now.admitted 0) (sym c.as_slice.ensures) ∙ c.if-as_slice-place-eq0.true)

pub returns-then-as_slice-place-eq0-clause-tracked : goal.returns-then-as_slice-place-eq0-clause-tracked
returns-then-as_slice-place-eq0-clause-tracked c =
    tracked_next c.args.requests.now c.args.self.now c.args.self.now.lines c.requires.tracked c.requires.no_room

pub returns-clause-in_order : goal.returns-clause-in_order
returns-clause-in_order c = waits c.args.requests.now c.args.self.now c.add.new.self c.line_of.result
    c.cost_of-cost.result c.read-change.result.now c.requires.in_order c.requires.more c.read-change.ensures.request
    c.line_of.ensures c.cost_of-cost.ensures c.in_ok-add.ensures

pub returns-clause-tracked : goal.returns-clause-tracked
returns-clause-tracked c =
    tracked_next c.args.requests.now c.args.self.now c.add.new.self c.requires.tracked c.requires.no_room

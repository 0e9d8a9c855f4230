-- The line has one more request: at its position, or as a new line.
use Rattle.std.proofs.Common.{◌<◌, ap, sym, ◌∙◌, arith, set, length}
use Rattle.std.proofs.lemmas.Result.{on_ok_weaker}
use Rattle.clock_queue.specs.inside.Lines.{LineFields, with_waiting}
use Rattle.clock_queue.proofs.Index.{shown_list, shown_written, shown_empty, shown_made}
use Rattle.clock_queue.proofs.lines.WaitingLines.add.Goals as goal

pub returns-then-at-len : goal.returns-then-at-len
returns-then-at-len c =
    let index = c.self.inside.index.items in
    let lists = c.self.inside.lists.items in
    let has : c.index-at.result.now < length lists = omega (arith, c.if-at-len.true, c.len.ensures) in
    on_ok_weaker c.add.result (λ added. shown_written index lists c.args.self.now c.self.invariant c.self.view_is
    c.args.line c.index-at.result.now _ c.requires c.index-at.ensures c.index_mut.result.now c.index_mut.result.now has
    c.index_mut.ensures.value c.add.new.self ∙ ap (set c.args.self.now c.args.line)
    (added ∙ ap (λ (list : LineFields). with_waiting list c.args.place c.args.cost)
    (shown_list index lists c.args.self.now c.self.invariant c.self.view_is c.args.line c.index-at.result.now _
    c.requires c.index-at.ensures c.index_mut.result.now c.index_mut.result.now has c.index_mut.ensures.value)))
    c.add.ensures

pub returns : goal.returns
returns c =
    let index = c.self.inside.index.items in
    let lists = c.self.inside.lists.items in
    shown_made index lists c.args.self.now c.self.invariant c.self.view_is c.args.line c.index-at.result.now _
    c.requires c.index-at.ensures (omega (arith, c.if-at-len.false, c.len.ensures)) _ c.push.new.self.items
    c.in_ok-first.first (omega (arith, c.len-last.ensures, c.len-last.type_inv)) c.in_ok-push.ensures.items
    (omega (arith, c.len-last.ensures)) ∙ ap (set c.args.self.now c.args.line)
    (c.in_ok-first.ensures ∙ ap (λ (list : LineFields). with_waiting list c.args.place c.args.cost)
    (sym (shown_empty index lists c.args.self.now c.self.invariant c.self.view_is c.args.line
    c.index-at.result.now _ c.requires c.index-at.ensures (omega (arith, c.if-at-len.false, c.len.ensures)))))

-- The search is in the line at the position. A line without a position is empty.
use Rattle.std.proofs.Common.{◌≡◌, ◌<◌, List, ap, sym, subst, ◌∙◌, arith, set, get_or, IfNone, IfSome, All, refl}
use Rattle.std.proofs.Common.{length, inl}
use Rattle.std.proofs.lemmas.List.{get_or-set_same, set-get_or}
use Rattle.std.proofs.lemmas.List.Elements.{All-nil}
use Rattle.clock_queue.specs.inside.Lines.{LineFields, IsFirstWaiting, IsSpent, empty_line, lines_of}
use Rattle.clock_queue.proofs.Index.{shown_empty, shown_list, shown_written}
use Rattle.clock_queue.proofs.lines.WaitingLines.first_waiting.Goals.{After-first_waiting}
use Rattle.clock_queue.proofs.lines.WaitingLines.first_waiting.Goals as goal

-- the lines after the search, and the line in which it was
abbrev searched : After-first_waiting → List LineFields
searched c = lines_of c.self.inside.index.items
    (set c.self.inside.lists.items c.index-at.result.now c.first_waiting.new.self)

written : (c : After-first_waiting) → searched c ≡ set c.args.self.now c.args.line c.first_waiting.new.self
written c = shown_written c.self.inside.index.items c.self.inside.lists.items c.args.self.now c.self.invariant
    c.self.view_is c.args.line c.index-at.result.now _ c.requires.line c.index-at.ensures c.index_mut.result.now
    c.index_mut.result.now (omega (arith, c.if-at-len.true, c.len.ensures)) c.index_mut.ensures.value
    c.first_waiting.new.self

held : (c : After-first_waiting) → get_or (searched c) c.args.line empty_line ≡ c.first_waiting.new.self
held c = ap (λ (lines : List LineFields). get_or lines c.args.line empty_line) (written c)
    ∙ get_or-set_same c.args.self.now c.args.line c.first_waiting.new.self empty_line c.requires.line

pub first_waiting-requires-clause-places : goal.first_waiting-requires-clause-places
first_waiting-requires-clause-places c =
    subst (λ (line : LineFields). All (λ place. place < length c.args.left.now) line.places)
    (sym (shown_list c.self.inside.index.items c.self.inside.lists.items c.args.self.now c.self.invariant
    c.self.view_is c.args.line c.index-at.result.now _ c.requires.line c.index-at.ensures c.index_mut.result.now
    c.index_mut.result.now (omega (arith, c.if-at-len.true, c.len.ensures)) c.index_mut.ensures.value))
    c.requires.places

pub returns-then-at-len-clause-others : goal.returns-then-at-len-clause-others
returns-then-at-len-clause-others c =
    let after = (goal.at.returns-then-at-len-clause-others c).After-first_waiting in
    written after ∙ ap (set c.args.self.now c.args.line) (sym (held after))

pub returns-then-at-len-clause-spent : goal.returns-then-at-len-clause-spent
returns-then-at-len-clause-spent c =
    let list = shown_list c.self.inside.index.items c.self.inside.lists.items c.args.self.now c.self.invariant
    c.self.view_is c.args.line c.index-at.result.now _ c.requires.line c.index-at.ensures c.index_mut.result.now
    c.index_mut.result.now (omega (arith, c.if-at-len.true, c.len.ensures)) c.index_mut.ensures.value in
    subst (λ (line : LineFields). IsSpent c.args.left.now (get_or c.args.self.now c.args.line empty_line) line)
    (sym (held (goal.at.returns-then-at-len-clause-spent c).After-first_waiting))
    (subst (λ (line : LineFields). IsSpent c.args.left.now line c.first_waiting.new.self) list
    c.first_waiting.ensures.spent)

pub returns-then-at-len-clause-found : goal.returns-then-at-len-clause-found
returns-then-at-len-clause-found c =
    subst (λ (line : LineFields). IfSome c.first_waiting.result (IsFirstWaiting c.args.left.now line c.args.limit))
    (sym (held (goal.at.returns-then-at-len-clause-found c).After-first_waiting)) c.first_waiting.ensures.found

pub returns-then-at-len-clause-none : goal.returns-then-at-len-clause-none
returns-then-at-len-clause-none c =
    subst (λ (line : LineFields). IfNone c.first_waiting.result (All (λ cost. c.args.limit < cost) line.costs))
    (sym (held (goal.at.returns-then-at-len-clause-none c).After-first_waiting)) c.first_waiting.ensures.none

pub returns-clause-others : goal.returns-clause-others
returns-clause-others c = sym (set-get_or c.args.self.now c.args.line empty_line)

pub returns-clause-spent : goal.returns-clause-spent
returns-clause-spent c = record { places = refl; costs = refl; spent = λ at within. inl refl }

pub returns-clause-none : goal.returns-clause-none
returns-clause-none c = subst (λ (line : LineFields). All (λ cost. c.args.limit < cost) line.costs)
    (sym (shown_empty c.self.inside.index.items c.self.inside.lists.items c.args.self.now c.self.invariant
    c.self.view_is c.args.line c.index-at.result.now _ c.requires.line c.index-at.ensures
    (omega (arith, c.if-at-len.false, c.len.ensures)))) (All-nil (λ cost. c.args.limit < cost))

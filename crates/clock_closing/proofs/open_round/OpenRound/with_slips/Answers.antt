-- Proves that a posting with the bidder results is the closed round, and that its refusal refuses the closing.
use Rattle.std.proofs.lemmas.Result.{err_from_is_err_and}
use Rattle.clock_closing.proofs.Posts.{round-made, round-refused, round-no_memory}
use Rattle.clock_closing.proofs.open_round.OpenRound.with_slips.Goals as goal

pub returns-in_err-sheet : goal.returns-in_err-sheet
returns-in_err-sheet c =
    let reported = err_from_is_err_and c.from_residual.result c.from_residual.ensures.1 in
    rw reported.1 (round-refused c.args.self.now c.args.demands c.args.posting c.in_err-sheet.field-0.0 reported.0
    c.in_err-sheet.was reported.2)

pub returns-in_err-slips : goal.returns-in_err-slips
returns-in_err-slips c =
    let reported = err_from_is_err_and c.from_residual-in_err-slips.result c.from_residual-in_err-slips.ensures.1 in
    rw reported.1 (round-no_memory c.args.self.now c.args.demands c.args.posting reported.0 reported.2)

pub returns : goal.returns
returns c = round-made c.args.self.now c.args.demands c.args.posting c.in_ok-sheet.field-0 c.in_ok-slips.slips
    c.in_ok-sheet.was c.in_ok-slips.ensures.slips c.in_ok-slips.ensures.demands

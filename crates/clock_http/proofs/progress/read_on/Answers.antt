-- The search finds the end of the head in the whole text, though it begins three bytes before the new ones.
use Rattle.std.proofs.Common.{sym, ◌∙◌, arith}
use Rattle.clock_http.proofs.ProgressLaws.{scan_from, known_unended, known_long, known_refused, known_headed, all_taken}
use Rattle.clock_http.proofs.progress.read_on.Goals as goal

pub head_length-requires-clause-none : goal.head_length-requires-clause-none
head_length-requires-clause-none c = scan_from c.args.text.now c.min-limit.result c.args.looked_at _ c.min-limit.ensures
    c.requires.within c.requires.short c.requires.unended (omega arith)

pub returns-in-None : goal.returns-in-None
returns-in-None c = record {
  is = known_unended c.args.text.now c.min-limit.result c.min-limit.ensures
      (sym c.in-None.is ∙ c.head_length.ensures) c.if-text-lt-HEAD_LIMIT.true;
  within = tt;
}

pub returns-in-None-2 : goal.returns-in-None-2
returns-in-None-2 c = record {
  is = known_long c.args.text.now c.min-limit.result c.min-limit.ensures
      (sym c.in-None-2.is ∙ c.head_length.ensures) c.if-text-lt-HEAD_LIMIT.false;
  within = tt;
}

pub slice_bounds-read_head-end : goal.slice_bounds-read_head-end
slice_bounds-read_head-end c =
    all_taken c.args.text.now c.min-limit.result c.in-Some.length (sym c.in-Some.is ∙ c.head_length.ensures)

pub returns-in-Ok : goal.returns-in-Ok
returns-in-Ok c = record {
  is = c.with_body.ensures.shown c.args.text.now
      ∙ known_headed c.args.text.now c.min-limit.result c.in-Some.length c.in-Ok.head c.min-limit.ensures
      (sym c.in-Some.is ∙ c.head_length.ensures) c.in-Ok.ensures.shown c.in-Ok.ensures.within c.in-Ok.ensures.all;
  within = c.with_body.ensures.within;
}

pub returns-in-Err : goal.returns-in-Err
returns-in-Err c = record {
  is = known_refused c.args.text.now c.min-limit.result c.in-Some.length c.in-Err.fault c.min-limit.ensures
      (sym c.in-Some.is ∙ c.head_length.ensures) c.in-Err.ensures.shown;
  within = tt;
}

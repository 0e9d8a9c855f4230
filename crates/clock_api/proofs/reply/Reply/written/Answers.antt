-- The two parts of the head, and the page.
use Rattle.std.proofs.Common.{List, ℕ, ap, ◌∙◌}
use Rattle.clock_api.specs.Replies.{Answer, reply_bytes}
use Rattle.clock_api.specs.inside.ReplyLines.{first_lines, page_lines}
use Rattle.clock_api.proofs.reply.Reply.written.Goals as goal

pub returns : goal.returns
unfolding reply_bytes first_lines page_lines
returns c =
    let code = c.args.code in
    let reported : List ℕ → Answer = λ bytes. record { code = code; bytes = bytes } in
    ap reported
    (c.put_first_lines-start.ensures.put ∙ ap (first_lines code c.args.allowed) c.put_page_lines-lines.ensures.put)

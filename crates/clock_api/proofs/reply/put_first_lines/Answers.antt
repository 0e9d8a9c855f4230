-- Each part is written in front of those that follow it.
use Rattle.std.proofs.Common.{List, ℕ, [], ◌++◌, drop, ap, ◌∙◌, codes, decimal}
use Rattle.std.specs.Option.{unwrap_or}
use Rattle.http.specs.StatusCode.{reason_phrase}
use Rattle.clock_api.specs.Codes.{status_of}
use Rattle.clock_api.specs.inside.ReplyLines.{first_lines}
use Rattle.clock_api.proofs.reply.put_first_lines.Goals as goal

pub returns-clause-put : goal.returns-clause-put
unfolding first_lines
returns-clause-put c =
    let code = c.args.code in
    let reason = c.as_bytes.ensures.value ∙ ap (λ words. unwrap_or words []) c.reason.ensures in
    let number = c.as_bytes-2.ensures.value ∙ c.format.ensures.text ∙ ap decimal c.status.ensures in
    let lines = c.put_before-allow.ensures.put
    ∙ ap (λ (line : List ℕ). line ++ drop c.args.lines c.args.text.now) c.allow_bytes.ensures.bytes in
    let end = c.put_before-end.ensures.put ∙ ap (λ (rest : List ℕ). codes "\r\n" ++ rest) lines in
    let words = c.put_before-words.ensures.put
    ∙ ap (λ (bytes : List ℕ). bytes ++ drop c.put_before-end.result c.put_before-end.new.text) reason
    ∙ ap (λ (rest : List ℕ). unwrap_or (reason_phrase (status_of code)) [] ++ rest) end in
    let space = c.put_before-space.ensures.put ∙ ap (λ (rest : List ℕ). codes " " ++ rest) words in
    let status = c.put_before-status.ensures.put ∙ ap (λ (digits : List ℕ). digits ++ drop c.put_before-space.result
    c.put_before-space.new.text) number ∙ ap (λ (rest : List ℕ). decimal (status_of code) ++ rest) space in
    c.put_before.ensures.put ∙ ap (λ (rest : List ℕ). codes "HTTP/1.1 " ++ rest) status

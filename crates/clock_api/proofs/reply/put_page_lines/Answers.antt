-- Each part is written in front of those that follow it.
use Rattle.std.proofs.Common.{◌≡◌, ◌-◌, List, ℕ, ◌++◌, length, drop, ap, sym, ◌∙◌, length-drop, codes, decimal}
use Rattle.clock_api.specs.inside.ReplyLines.{page_lines}
use Rattle.clock_api.proofs.reply.put_page_lines.Goals as goal

pub returns-clause-put : goal.returns-clause-put
unfolding page_lines
returns-clause-put c =
    let text = c.args.text.now in
    let counted : c.len-page.result - 256 ≡ length (drop 256 text) =
    ap (λ (count : ℕ). count - 256) c.len-page.ensures ∙ sym (length-drop 256 text) in
    let count = c.as_bytes.ensures.value ∙ c.format.ensures.text ∙ ap decimal counted in
    let last =
    c.put_before-last.ensures.put ∙ ap (λ (lines : List ℕ). lines ++ drop 256 text) c.last_lines.ensures.bytes in
    let kind = c.put_before-kind.ensures.put
    ∙ ap (λ (rest : List ℕ). codes "\r\ncontent-type: application/json\r\n" ++ rest) last in
    let sized = c.put_before-length.ensures.put ∙ ap (λ (digits : List ℕ). digits ++ drop c.put_before-kind.result
    c.put_before-kind.new.text) count ∙ ap (λ (rest : List ℕ). decimal (length (drop 256 text)) ++ rest) kind in
    c.put_before.ensures.put ∙ ap (λ (rest : List ℕ). codes "connection: close\r\ncontent-length: " ++ rest) sized

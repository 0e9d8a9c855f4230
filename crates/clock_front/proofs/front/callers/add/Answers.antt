-- Proves what the table finds after one more token.
use Rattle.std.proofs.Common.{List, ℕ, cond, ap, ◌∙◌}
use Rattle.clock_api.specs.Bytes.{same_bytes}
use Rattle.clock_front.specs.inside.TokenTable.{found}
use Rattle.clock_front.proofs.TokenLaws.{Entries, found-insert}
use Rattle.clock_front.proofs.front.callers.add.Goals as goal

pub returns : goal.returns
returns c =
    let before = c.args.tokens.now.entries in
    λ other. ap (λ (entries : Entries). found entries other) c.in_ok-insert.ensures.entries
    ∙ found-insert before _ c.args.caller other ∙ ap (λ (bytes : List ℕ). cond (same_bytes other bytes) c.args.caller
    (found before other)) c.in_ok-from_slice.ensures.items

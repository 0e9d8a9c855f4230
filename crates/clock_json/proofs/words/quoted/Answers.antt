use Rattle.std.proofs.Common.{◌≡◌, ◌+◌, ◌∷◌, ◌++◌, take, drop, refl, sym, ap, ◌∙◌, arith}
use Rattle.std.specs.List.{prefix_len}
use Rattle.std.proofs.lemmas.List.{take-append-drop, drop-drop}
use Rattle.std.proofs.lemmas.List.Folds.{length-prefix_len}
use Rattle.json.specs.Run.{is_plain}
use Rattle.json.specs.Token.{string}
use Rattle.json.specs.Lex.{lex, between, token}
use Rattle.clock_json.proofs.LexLaws.{quoted_at, taken}
use Rattle.clock_json.proofs.PlainLaws.{plain_front}
use Rattle.clock_json.proofs.words.quoted.Goals as goal

pub returns-clause-lexes : goal.returns-clause-lexes
returns-clause-lexes c =
    let bytes = c.args.bytes.now in
    let at = c.args.at in
    let end = c.plain_end-end.result in
    let rest = drop (at + 1) bytes in
    let n = prefix_len is_plain rest in
    let s = take n rest in
    let is : rest ≡ s ++ drop end bytes = sym (take-append-drop n rest)
    ∙ ap (λ r. s ++ r) (drop-drop n (at + 1) bytes ∙ ap (λ k. drop k bytes) (sym c.plain_end-end.ensures)) in
    let opens = c.is_at.ensures c.if-not-is_at.false in
    let closes = c.is_at-2.ensures c.if-not-is_at-2.false in
    quoted_at bytes s at end opens.0 opens.1 is (plain_front rest) closes.0 closes.1
    ∙ ap (λ t. token (string t) ∷ lex between (drop (end + 1) bytes))
    (taken bytes s at end is (omega (arith, length-prefix_len is_plain rest, c.plain_end-end.ensures)))

pub returns-clause-quotes : goal.returns-clause-quotes
returns-clause-quotes c =
    let opens = c.is_at.ensures c.if-not-is_at.false in
    let closes = c.is_at-2.ensures c.if-not-is_at-2.false in (
      c.plain_end-end.result,
      refl,
      record {
        opens = opens.1;
        order = omega (arith, c.plain_end-end.ensures);
        closes = closes.1;
        within = closes.0;
        is = refl;
      },
    )

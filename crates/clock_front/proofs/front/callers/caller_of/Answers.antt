-- Proves that the look-up finds whose the token is by the set-up, since the table agrees with it on every token.
use Rattle.std.proofs.Common.{Option, length, ap, subst, sym, ◌∙◌}
use Rattle.std.specs.Prelude.{unwrap_or}
use Rattle.clock_front.specs.Callers.{holder}
use Rattle.clock_front.specs.inside.Callers.{IsKnown}
use Rattle.clock_front.specs.inside.TokenTable.{caller_by, found, tokens_of}
use Rattle.clock_http.specs.Shown.{shown_bytes}
use Rattle.clock_front.specs.declared.front.callers.Caller.{Caller}
use Rattle.clock_front.specs.declared.front.callers.Caller.TheVariants.{Nobody}
use Rattle.clock_front.proofs.TokenLaws.{caller_known, caller_same, found-lookup}
use Rattle.clock_front.proofs.front.callers.caller_of.Goals as goal

pub returns-in-Some-clause-shown : goal.returns-in-Some-clause-shown
returns-in-Some-clause-shown c =
    let entries = c.args.tokens.now.entries in
    λ setup table. c.unwrap_or.ensures ∙ ap (λ (o : Option Caller). unwrap_or o Nobody) (c.copied.ensures
    ∙ c.get.ensures.value) ∙ found-lookup entries c.in-Some.token.now ∙ ap (λ t. caller_by (found entries) (shown_bytes
    t)) (sym c.in-Some.is) ∙ caller_same (found entries) (holder (tokens_of setup)) table (shown_bytes c.args.token)

pub returns-in-Some-clause-known : goal.returns-in-Some-clause-known
returns-in-Some-clause-known c = λ setup table. subst (IsKnown (length setup.bidders))
    (sym (returns-in-Some-clause-shown c setup table)) (caller_known setup (shown_bytes c.args.token))

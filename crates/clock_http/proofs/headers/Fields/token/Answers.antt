-- The span of the only line covers its value, and the later part of it the token.
use Rattle.std.proofs.Common.{sym, ◌∙◌, codes}
use Rattle.clock_http.specs.HeaderLines.{values_of}
use Rattle.clock_http.proofs.HeaderLaws.{one_token, token_at}
use Rattle.clock_http.proofs.headers.Fields.token.Goals as goal

pub returns-clause-shown : goal.returns-clause-shown
returns-clause-shown c = λ pairs are. token_at c.args.text.now c.args.self.now.authorization.value c.in_ok-token.field-0
    c.of.result.now c.of.ensures c.in_ok-token.ensures.within c.in_ok-token.ensures.shown ∙ one_token (values_of
    (codes "authorization") pairs) _ (sym are.authorization.count ∙ c.if-self-ne1.false) are.authorization.only

-- The span of the only line covers its value.
use Rattle.std.proofs.Common.{sym, ◌∙◌, codes, arith}
use Rattle.clock_http.specs.HeaderLines.{values_of}
use Rattle.clock_http.proofs.HeaderLaws.{one_length}
use Rattle.clock_http.proofs.headers.Fields.body_length.Goals as goal

pub returns-in-1 : goal.returns-in-1
returns-in-1 c = λ pairs are. c.parse_length.ensures ∙ one_length (values_of (codes "transfer-encoding") pairs)
    (values_of (codes "content-length") pairs) c.of.result.now (omega (arith, are.coding.count, c.if-self-gt0.false))
    (sym are.length.count ∙ c.in-1.is) (λ one is. c.of.ensures ∙ are.length.only one is)

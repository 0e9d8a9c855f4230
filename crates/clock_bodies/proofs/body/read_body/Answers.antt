-- If the reader by bytes reads a body, the bytes are a JSON value that means it.
use Rattle.std.proofs.Common.{ap, ◌∙◌}
use Rattle.clock_terms.specs.Faults.{or_fault}
use Rattle.clock_json.proofs.JsonLaws.{json_value}
use Rattle.clock_bodies.specs.declared.body.BodyFault.TheVariants.{Shape}
use Rattle.clock_bodies.specs.Bodies.{meant_by}
use Rattle.clock_bodies.proofs.body.read_body.Goals as goal

pub returns-in-Some-clause-ok : goal.returns-in-Some-clause-ok
returns-in-Some-clause-ok g c = λ means.
    let body = c.in-Some.body in
    let text = rw c.in-Some.is at c.in_ok-body.ensures.text in
    let value = rw c.in-Some.is at c.in_ok-body.ensures.value in
    ap (meant_by g.R.Part.Body.meaning) (json_value c.args.bytes.now (g.R.PartReader.shown body) text value)
    ∙ ap (or_fault Shape) (means body)

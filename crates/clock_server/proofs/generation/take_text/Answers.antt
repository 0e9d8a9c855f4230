use Rattle.std.proofs.Common.{refl, rules}
use Rattle.clock_server.proofs.TakenTexts.{refused_by, took, took_accepted}
use Rattle.clock_server.proofs.generation.take_text.Goals as goal

pub returns-then-ne-clause-taken : goal.returns-then-ne-clause-taken
returns-then-ne-clause-taken g c texts stands =
    (took texts c.args.text.now c.respond-response.result c.args.front.now c.respond-response.new.self stands
    (c.respond-response.ensures.response c.args.text.now c.frame.ensures) (search rules)).changed

pub returns-then-ne-clause-stands : goal.returns-then-ne-clause-stands
returns-then-ne-clause-stands g c texts stands =
    (took texts c.args.text.now c.respond-response.result c.args.front.now c.respond-response.new.self stands
    (c.respond-response.ensures.response c.args.text.now c.frame.ensures) (search rules)).stands

pub returns-then-ne-clause-accepted : goal.returns-then-ne-clause-accepted
returns-then-ne-clause-accepted g c texts stands =
    took_accepted texts c.args.text.now c.respond-response.result c.args.front.now c.respond-response.new.self stands
    (c.respond-response.ensures.response c.args.text.now c.frame.ensures) (search rules)

pub returns-clause-refused : goal.returns-clause-refused
returns-clause-refused g c texts is stands =
    refused_by texts c.args.text.now c.respond-response.result c.args.front.now c.respond-response.new.self stands
    (c.respond-response.ensures.response c.args.text.now c.frame.ensures) _ c.code.result c.not_taken.result _
    c.code.ensures c.not_taken.ensures refl is (search rules)

-- Proves the code of a refused or incomplete request, from the right response to it.
use Rattle.std.proofs.Common.{ap, ◌∙◌, inl, sym}
use Rattle.clock_http.specs.Framing.{is_incomplete}
use Rattle.clock_api.specs.Replies.{Answer}
use Rattle.clock_front.specs.Callers.{caller}
use Rattle.clock_front.specs.Requests.{request_of}
use Rattle.clock_front.proofs.FrontLaws.{refused_code, answered_cut_short}
use Rattle.clock_front.proofs.front.Front.respond.Goals as goal

pub returns-in-Ok-clause-refused : goal.returns-in-Ok-clause-refused
returns-in-Ok-clause-refused g c = λ code is.
    let house = c.args.self.now in
    let text = c.requires.0 in
    ap (λ (reply : Answer). reply.code) (c.in-Ok.ensures.response text c.requires.1).answer.is
    ∙ refused_code house (caller house.setup (request_of text).token) text code (sym c.requires.1 ∙ is)

pub returns-in-Ok-clause-cut_short : goal.returns-in-Ok-clause-cut_short
returns-in-Ok-clause-cut_short g c = λ is.
    let house = c.args.self.now in
    let text = c.requires.0 in
    inl ((c.in-Ok.ensures.response text c.requires.1).answer.is ∙ answered_cut_short house
    (caller house.setup (request_of text).token) text (ap is_incomplete (sym c.requires.1 ∙ is)))

pub returns-in-Ok-clause-setup : goal.returns-in-Ok-clause-setup
returns-in-Ok-clause-setup g c = (c.in-Ok.ensures.response c.requires.0 c.requires.1).answer.followed.setup

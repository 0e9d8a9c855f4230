-- Proves that a piece is refused only if its connection is not open, or memory ran out.
use Rattle.std.proofs.Common.{IsSome, rules}
use Rattle.clock_connections.specs.Connections.{open_text}
use Rattle.clock_front.proofs.ConnectionLaws.{feed_fault}
use Rattle.clock_front.proofs.FrontLaws.{if_done}
use Rattle.clock_front.proofs.hub.Hub.feed.Goals as goal

pub returns-in-len1-clause-stood : goal.returns-in-len1-clause-stood
returns-in-len1-clause-stood g c = if_done c.feed_on.result (search rules)

pub returns-in-len1-clause-fault : goal.returns-in-len1-clause-fault
returns-in-len1-clause-fault g c =
    let text = open_text c.args.self.now.connections c.args.conn in
    let stood : IsSome text = search rules in feed_fault c.feed_on.result text stood c.feed_on.ensures.fault

pub returns-in_default-clause-stood : goal.returns-in_default-clause-stood
returns-in_default-clause-stood g c = if_done c.feed_piece.result (search rules)

pub returns-in_default-clause-fault : goal.returns-in_default-clause-fault
returns-in_default-clause-fault g c =
    let text = open_text c.args.self.now.connections c.args.conn in
    let stood : IsSome text = search rules in feed_fault c.feed_piece.result text stood c.feed_piece.ensures.fault

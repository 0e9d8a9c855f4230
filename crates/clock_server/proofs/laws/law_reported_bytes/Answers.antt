use Rattle.clock_server.proofs.Bytes.{reported_bytes}
use Rattle.clock_server.proofs.laws.law_reported_bytes.Goals as goal

pub returns : goal.returns
returns c = reported_bytes

-- By computation, for an empty text.
use Rattle.std.proofs.Common.{refl}
use Rattle.clock_http.specs.Framing.{known}
use Rattle.clock_http.proofs.progress.Progress.new.Goals as goal

pub returns : goal.returns
unfolding known
returns c = record { is = refl; within = tt }

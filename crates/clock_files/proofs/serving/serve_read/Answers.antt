use Rattle.std.proofs.Common.{ℕ, List, subst, sym}
use Rattle.clock_files.specs.Serving.{IsReadFrom}
use Rattle.clock_files.proofs.serving.serve_read.Goals as goal

pub returns-clause-read : goal.returns-clause-read
returns-clause-read g c =
    subst (λ (digest : List ℕ). ∥ ((document : List ℕ) × IsReadFrom document c.args.read.auction.front.setup digest) ∥₁)
    (sym c.requires.digest) c.args.read.read

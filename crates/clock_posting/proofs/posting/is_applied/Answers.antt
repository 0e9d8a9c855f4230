-- The kind decides whether less was left.
use Rattle.std.proofs.Common.{◌&&◌, ap, sym}
use Rattle.std.specs.Prelude.{nat_lt}
use Rattle.clock_terms.specs.declared.change.Kind.{Kind}
use Rattle.clock_posting.specs.PostedPrice.{is_reduction}
use Rattle.clock_posting.proofs.posting.is_applied.Goals as goal

pub returns-in-Reduction : goal.returns-in-Reduction
returns-in-Reduction c =
    ap (λ (kind : Kind). is_reduction kind && nat_lt c.args.left c.args.change.now.amount) (sym c.in-Reduction.is)

pub returns-in-Increase : goal.returns-in-Increase
returns-in-Increase c =
    ap (λ (kind : Kind). is_reduction kind && nat_lt c.args.left c.args.change.now.amount) (sym c.in-Increase.is)

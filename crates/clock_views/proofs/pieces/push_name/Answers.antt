use Rattle.std.proofs.Common.{append_assoc}
use Rattle.clock_views.proofs.Names.{plain_name}
use Rattle.clock_views.proofs.pieces.push_name.Goals as goal

pub returns-clause-adds : goal.returns-clause-adds
returns-clause-adds c = record {
  is = simp (
    c.extend_from_slice.ensures.items,
    c.push.ensures.items,
    c.extend_from_slice-2.ensures.items,
    c.push-2.ensures.items,
    plain_name c.args.name.now c.requires.name,
    append_assoc,
  );
}

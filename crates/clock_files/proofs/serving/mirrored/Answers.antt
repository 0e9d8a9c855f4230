use Rattle.std.proofs.Common.{◌∙◌, ap}
use Rattle.clock_journal.specs.Mirrors.{DiskState}
use Rattle.clock_files.proofs.serving.mirrored.Goals as goal

pub returns-clause-bytes : goal.returns-clause-bytes
returns-clause-bytes g c =
    let all = c.in_ok-level.ensures.bytes in (
      all.0,
      λ is. ap (λ (disk : DiskState). disk.written) c.new.ensures.first ∙ all.1.1 is,
    )

-- A number is noted under its key.
use Rattle.clock_json.specs.Reading.{whole_number}
use Rattle.clock_setup.specs.inside.FoundSetup.{found_setup}
use Rattle.clock_setup.proofs.ScanLaws.{noted}
use Rattle.clock_setup.proofs.setup_scan.FoundSetupScannedMembers.read.Goals as goal

pub returns-clause-value : goal.returns-clause-value
returns-clause-value c =
    noted 2 c.note.result c.args.key.now (whole_number c.in_ok-number.number) c.args.scan.now c.number.new.self
    (found_setup c.args.self.now) (found_setup c.note.new.self) c.note.ensures c.in_ok-number.ensures.value

use Rattle.std.proofs.Common.{length, ◌≤◌}
use Rattle.clock_json.specs.Reading.{found_members}
use Rattle.clock_json.specs.inside.Reading.{HasMembers}
use Rattle.clock_json.proofs.parts.AnyPartReader.part.Given as goal

abbrev pub invariant-members : goal.invariant-members
invariant-members g l =
    HasMembers g.M.ScannedMembers.levels l.initial.scan (found_members (g.M.ScannedMembers.fields l.found)) l.scan
    × (length l.scan ≤ length l.initial.scan)

abbrev pub decreases-members : goal.decreases-members
decreases-members g l = length l.scan

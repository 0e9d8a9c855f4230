use Rattle.std.proofs.Common.{◌≡◌, ◌+◌, ◌-◌, ◌≤◌, length, drop}
use Rattle.std.specs.List.{prefix_len}
use Rattle.json.specs.Run.{is_plain}
use Rattle.clock_json.proofs.words.plain_end.Given as goal

-- the text that is left ends where the whole does
abbrev pub invariant-text : goal.invariant-text
invariant-text l = (l.start + prefix_len is_plain (drop l.start l.bytes)
    ≡ l.end + prefix_len is_plain (drop l.end l.bytes)) × (l.end ≤ length l.bytes)

abbrev pub decreases-text : goal.decreases-text
decreases-text l = length l.bytes - l.end

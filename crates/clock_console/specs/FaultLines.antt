-- The one line that reports a fault (own format).
--     fault_line fault     `fault: WORDS` and a line feed
--     of_setup fault, of_opening fault, of_script fault      the fault of a document
--     of_journal fault      the fault of a file that is not accepted as the journal, or of its disk
--     of_level fault      the fault of a journal and its mirror
use Rattle.std.specs.Prelude.{ℕ, List, ◌++◌, codes, decimal}
use Rattle.clock_setup.specs.declared.fault.Place.{Place}
use Rattle.clock_setup.specs.declared.fault.Place.TheVariants as place
use Rattle.clock_setup.specs.declared.fault.SetupFault.{SetupFault}
use Rattle.clock_setup.specs.declared.fault.SetupFault.TheVariants as in_setup
use Rattle.clock_setup.specs.declared.opening.OpeningFault.{OpeningFault}
use Rattle.clock_setup.specs.declared.opening.OpeningFault.TheVariants as in_opening
use Rattle.clock_replays.specs.declared.replay.ScriptFault.{ScriptFault}
use Rattle.clock_replays.specs.declared.replay.ScriptFault.TheVariants as in_script
use Rattle.clock_scripts.specs.declared.fault.SimFault.{SimFault}
use Rattle.clock_scripts.specs.declared.fault.SimFault.TheVariants as in_simulation
use Rattle.clock_journal.specs.declared.recovery.JournalFault.{JournalFault}
use Rattle.clock_journal.specs.declared.recovery.JournalFault.TheVariants as in_journal
use Rattle.clock_journal.specs.declared.mirror.LevelFault.{LevelFault}
use Rattle.clock_journal.specs.declared.mirror.LevelFault.TheVariants as in_mirror
use Rattle.clock_api.specs.Codes.{code_text}
use Rattle.clock_console.specs.declared.fault.Fault.{Fault}
use Rattle.clock_console.specs.declared.fault.Fault.TheVariants as fault

-- the value of a set-up that is out of its limits
abbrev pub place_words : Place → List ℕ
place_words place.Requirement = codes "requirement"
place_words place.Limit = codes "limit"
place_words place.Operator = codes "operator"
place_words place.Products = codes "products"
place_words (place.Name i) = codes "name " ++ decimal i
place_words (place.Units i) = codes "units " ++ decimal i
place_words (place.Supply i) = codes "supply " ++ decimal i
place_words (place.Cap i) = codes "cap " ++ decimal i
place_words (place.Opening i) = codes "opening " ++ decimal i
place_words (place.Granule i) = codes "granule " ++ decimal i
place_words place.Bidders = codes "bidders"
place_words (place.BidderName i) = codes "bidder_name " ++ decimal i
place_words (place.Token i) = codes "token " ++ decimal i
place_words (place.Eligibility i) = codes "eligibility " ++ decimal i

-- a fault of a set-up; out of memory has one word everywhere
abbrev pub setup_words : SetupFault → List ℕ
setup_words in_setup.NotJson = codes "setup_not_json"
setup_words in_setup.Shape = codes "setup_shape"
setup_words in_setup.Version = codes "setup_version"
setup_words (in_setup.Range p) = codes "setup_range " ++ place_words p
setup_words in_setup.DuplicateName = codes "setup_duplicate_name"
setup_words in_setup.DuplicateToken = codes "setup_duplicate_token"
setup_words in_setup.NoMemory = codes "memory"

-- a fault of the set-up in an opening document has the set-up's words
abbrev pub opening_words : OpeningFault → List ℕ
opening_words in_opening.NotJson = codes "not_json"
opening_words in_opening.Shape = codes "shape"
opening_words (in_opening.Setup inner) = setup_words inner
opening_words (in_opening.Demand bidder product) =
    codes "demand " ++ decimal bidder ++ (codes " " ++ decimal product)
opening_words (in_opening.Activity bidder) = codes "activity " ++ decimal bidder
opening_words in_opening.Increment = codes "increment"
opening_words in_opening.NoMemory = codes "memory"

-- a fault of the set-up in a replay document has the set-up's words
abbrev pub script_words : ScriptFault → List ℕ
script_words in_script.NotJson = codes "not_json"
script_words in_script.Shape = codes "shape"
script_words (in_script.Setup inner) = setup_words inner
script_words in_script.Scripts = codes "scripts"
script_words (in_script.Limits bidder product) =
    codes "limits " ++ decimal bidder ++ (codes " " ++ decimal product)
script_words in_script.NoMemory = codes "memory"

-- a refused sheet or closing has the code of its reply
abbrev pub simulation_words : SimFault → List ℕ
simulation_words (in_simulation.Refused bidder round code) = codes "refused " ++ decimal bidder
    ++ (codes " " ++ decimal round) ++ (codes " " ++ code_text code)
simulation_words (in_simulation.Closing round code) =
    codes "closing " ++ decimal round ++ (codes " " ++ code_text code)
simulation_words in_simulation.ClosingsSpent = codes "closings_spent"
simulation_words in_simulation.NoMemory = codes "memory"

-- the fault of a document, or out of memory while it was read
abbrev pub of_setup : SetupFault → Fault
of_setup in_setup.NoMemory = fault.Memory
of_setup other = fault.Setup other

-- the fault of an opening, or out of memory while it was read
abbrev pub of_opening : OpeningFault → Fault
of_opening in_opening.NoMemory = fault.Memory
of_opening other = fault.Opening other

-- the fault of a replay, or out of memory while it was read
abbrev pub of_script : ScriptFault → Fault
of_script in_script.NoMemory = fault.Memory
of_script other = fault.Script other

-- the fault of a file that is not accepted as the journal, or of its disk, or of reading it
abbrev pub of_journal : JournalFault → Fault
of_journal in_journal.NoMemory = fault.Memory
of_journal in_journal.Failed = fault.Journal
of_journal in_journal.Unread = fault.Journal
of_journal other = fault.Recovery other

-- the fault of a journal and its mirror, or of their disks
abbrev pub of_level : LevelFault → Fault
of_level (in_mirror.Differs place) = fault.Differs place
of_level in_mirror.Failed = fault.Journal

-- the words for a file that is not accepted as the journal, or for its disk
abbrev pub recovery_words : JournalFault → List ℕ
recovery_words in_journal.Unknown = codes "journal_unknown"
recovery_words in_journal.Setup = codes "journal_setup"
recovery_words (in_journal.Damaged place) = codes "journal_damaged " ++ decimal place
recovery_words (in_journal.Refused place) = codes "journal_refused " ++ decimal place
recovery_words in_journal.NoMemory = codes "memory"
recovery_words in_journal.Failed = codes "journal"
recovery_words in_journal.Unread = codes "journal"

-- a fault of a document has the document's words
abbrev pub fault_words : Fault → List ℕ
fault_words fault.File = codes "file"
fault_words fault.Input = codes "input"
fault_words fault.LongInput = codes "long_input"
fault_words (fault.Setup inner) = setup_words inner
fault_words (fault.Opening inner) = opening_words inner
fault_words (fault.Script inner) = script_words inner
fault_words (fault.PriceLimit product) = codes "price_limit " ++ decimal product
fault_words (fault.Simulation inner) = simulation_words inner
fault_words fault.Journal = codes "journal"
fault_words fault.JournalBusy = codes "journal_busy"
fault_words (fault.Recovery inner) = recovery_words inner
fault_words (fault.Differs place) = codes "journal_differs " ++ decimal place
fault_words fault.Bind = codes "bind"
fault_words fault.Output = codes "output"
fault_words fault.Accept = codes "accept"
fault_words fault.Memory = codes "memory"

-- the whole line
abbrev pub fault_line : Fault → List ℕ
fault_line cause = codes "fault: " ++ fault_words cause ++ codes "\n"

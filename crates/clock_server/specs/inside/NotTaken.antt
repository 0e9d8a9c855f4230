-- Why a text of a journal was not taken.
--     not_taken_by code      of a text that changes nothing, by the code of its reply
use Rattle.clock_api.specs.declared.code.Code.{Code}
use Rattle.clock_api.specs.declared.code.Code.TheVariants.{Memory}
use Rattle.clock_journal.specs.declared.recovery.TakeError.{TakeError}
use Rattle.clock_journal.specs.declared.recovery.TakeError.TheVariants.{Refused, NoMemory}

-- out of memory if the reply says so; any other reply refuses the text
abbrev pub not_taken_by : Code → TakeError
not_taken_by Memory = NoMemory
not_taken_by code = Refused

-- Which fault of a closing a fault of one of its parts becomes. Out of memory stays out of memory.
--     fault_from_tie fault, fault_from_post fault      the fault that the closing returns
use Rattle.clock_order.specs.declared.ties.TieFault.{TieFault}
use Rattle.clock_order.specs.declared.ties.TieFault.TheVariants as tie_faults
use Rattle.clock_posting.specs.declared.posting.PostFault.{PostFault}
use Rattle.clock_posting.specs.declared.posting.PostFault.TheVariants as post_faults
use Rattle.clock_closing.specs.declared.fault.CloseFault.{CloseFault}
use Rattle.clock_closing.specs.declared.fault.CloseFault.TheVariants as close_faults

-- The fault that the closing returns for a fault of the tie-breaking numbers.
abbrev pub fault_from_tie : TieFault → CloseFault
fault_from_tie tie_faults.NoMemory = close_faults.NoMemory
fault_from_tie fault = close_faults.Tie fault

-- The fault that the closing returns for a fault of the next prices.
abbrev pub fault_from_post : PostFault → CloseFault
fault_from_post post_faults.NoMemory = close_faults.NoMemory
fault_from_post (post_faults.PriceLimit product) = close_faults.PriceLimit product

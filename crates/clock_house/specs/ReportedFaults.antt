-- Which fault of a submission a fault of its bids becomes. Out of memory stays out of memory.
--     fault_from_bid fault      the fault that the house returns
use Rattle.clock_bids.specs.declared.sheet.BidFault.{BidFault}
use Rattle.clock_bids.specs.declared.sheet.BidFault.TheVariants as bid_faults
use Rattle.clock_house.specs.declared.fault.PutFault.{PutFault}
use Rattle.clock_house.specs.declared.fault.PutFault.TheVariants as put_faults

-- The fault that the house returns for a fault of the bids.
abbrev pub fault_from_bid : BidFault → PutFault
fault_from_bid bid_faults.NoMemory = put_faults.NoMemory
fault_from_bid fault = put_faults.Bid fault

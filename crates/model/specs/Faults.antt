-- The numbers of a directory's refusals.
use Rattle.std.specs.Prelude.{ℕ}
use Rattle.record.specs.declared.fault.RecordFault.{RecordFault}
use Rattle.record.specs.declared.fault.RecordFault.TheVariants as from
use Rattle.model.specs.declared.fault.Fault.{Fault}
use Rattle.model.specs.declared.fault.Fault.TheVariants.{ShortList, MalformedHost, BadMaxSets, RollInUse, TooManyBootstrappers, NotAscending, IndexHeld, IndexBelowNewest, TooManyPeers, NoRecord, NotDialable, Blocked, TooEarly, NotEligible, NotInert, NotReserved, IsInert, BlockedAlready, Ourselves, TooManyBlocks, WrongBits}

abbrev pub number_of : Fault → ℕ
number_of ShortList = 1
number_of MalformedHost = 2
number_of BadMaxSets = 3
number_of RollInUse = 4
number_of TooManyBootstrappers = 5
number_of NotAscending = 6
number_of IndexHeld = 7
number_of IndexBelowNewest = 8
number_of TooManyPeers = 9
number_of NoRecord = 10
number_of NotDialable = 11
number_of Blocked = 12
number_of TooEarly = 13
number_of NotEligible = 14
number_of NotInert = 15
number_of NotReserved = 16
number_of IsInert = 17
number_of BlockedAlready = 18
number_of Ourselves = 19
number_of TooManyBlocks = 20
number_of WrongBits = 21

-- a record's refusal, as the directory's
abbrev pub record_fault : RecordFault → Fault
record_fault from.NotReserved = NotReserved
record_fault from.IsInert = IsInert

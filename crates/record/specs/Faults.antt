-- The numbers of a record's faults.
use Rattle.std.specs.Prelude.{ℕ}
use Rattle.record.specs.declared.fault.RecordFault.{RecordFault}
use Rattle.record.specs.declared.fault.RecordFault.TheVariants.{NotReserved, IsInert}

abbrev pub number_of : RecordFault → ℕ
number_of NotReserved = 16
number_of IsInert = 17

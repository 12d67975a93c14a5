-- The numbers of a roll's faults.
use Rattle.std.specs.Prelude.{ℕ, Some, None, Option}
use Rattle.rolls.specs.declared.fault.RollFault.{RollFault}
use Rattle.rolls.specs.declared.fault.RollFault.TheVariants.{Full, Vacant, BadSize, OutOfMemory}

-- The number that a fault is refused with. A full roll gets its number from the call that met it,
-- and neither a vacant place nor want of memory has one.
abbrev pub number_of : RollFault → Option ℕ
number_of Full = None
number_of Vacant = None
number_of BadSize = Some 22
number_of OutOfMemory = None

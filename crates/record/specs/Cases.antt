-- The cases of the enums, by number and values.
use Rattle.std.specs.Prelude.{ℕ, Bool, true, false, Some, None, Option}
use Rattle.types.specs.declared.info.Info.{Info}
use Rattle.types.specs.declared.ingress.Ingress.{Ingress}
use Rattle.record.specs.declared.address.Address.{Address}
use Rattle.record.specs.declared.address.Address.TheVariants.{Unknown, Myself, Bootstrapper, Discovered}
use Rattle.record.specs.declared.dialing.DialStatus.{DialStatus}
use Rattle.record.specs.declared.dialing.DialStatus.TheVariants.{Now, After, Unavailable}
use Rattle.record.specs.declared.role.Role.{Role}
use Rattle.record.specs.declared.role.Role.TheVariants.{Dialer, Listener}
use Rattle.record.specs.declared.status.Status.{Status}
use Rattle.record.specs.declared.status.Status.TheVariants.{Inert, Reserved, Active}

-- the number of what is known of an address
abbrev pub address_number : {K : Type 0} → Address K → ℕ
address_number Unknown = 0
address_number (Myself info) = 1
address_number (Bootstrapper ingress) = 2
address_number (Discovered info failures) = 3

-- the info that an address has
abbrev pub address_info : {K : Type 0} → Address K → Option (Info K)
address_info Unknown = None
address_info (Myself info) = Some info
address_info (Bootstrapper ingress) = None
address_info (Discovered info failures) = Some info

-- the ingress that an address has
abbrev pub address_ingress : {K : Type 0} → Address K → Option Ingress
address_ingress Unknown = None
address_ingress (Myself info) = Some info.ingress
address_ingress (Bootstrapper ingress) = Some ingress
address_ingress (Discovered info failures) = Some info.ingress

-- the number of a status
abbrev pub status_number : Status → ℕ
status_number Inert = 0
status_number Reserved = 1
status_number Active = 2

-- whether there is no reservation and no connection
abbrev pub is_inert : Status → Bool
is_inert Inert = true
is_inert Reserved = false
is_inert Active = false

-- the number of a role, and of none
abbrev pub role_number : Option Role → ℕ
role_number None = 0
role_number (Some (Dialer ingress)) = 1
role_number (Some Listener) = 2

-- the number of a dial status
abbrev pub dial_number : DialStatus → ℕ
dial_number Now = 0
dial_number (After moment) = 1
dial_number Unavailable = 2

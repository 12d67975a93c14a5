use Rattle.std.proofs.Common.{◌≡◌, Bool, drop}
use Rattle.key_list.specs.Members.{keys_in}
use Rattle.tables.specs.Listings.{Tests, keys_where, listing}
use Rattle.tables.specs.Tabled.{places_of}
use Rattle.tables.proofs.table.Table.keys_where.Given as goal

abbrev pub invariant-loop-place : goal.invariant-loop-place
invariant-loop-place g l =
    (t : g.row.K.Denot → g.row.V.Denot → Bool)
    → Tests g.F.Fn t l.test
    → keys_in l.found ≡ keys_where t (listing g.K.OrderedKey.order (drop l.place (places_of g.R.Roll l.self)) (drop l.place l.self.values))

use Rattle.tables.proofs.Listed.{listing-vacant}
use Rattle.tables.proofs.table.Table.new.Goals as goal

pub returns-clause-no_entries : goal.returns-clause-no_entries
returns-clause-no_entries g c = listing-vacant g.K.OrderedKey.order (g.R.Roll.places c.args.roll) c.resize.new.self.items

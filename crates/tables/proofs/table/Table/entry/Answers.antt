use Rattle.std.proofs.Common.{rules}
use Rattle.tables.proofs.Walks.{ascending-entries, rank_past, rank_found, rank_has-value}
use Rattle.tables.proofs.table.Table.entry.Goals as goal

pub returns-in_err-key : goal.returns-in_err-key
returns-in_err-key g c e = search (rules, rank_past, ascending-entries)

pub returns-in_err-value : goal.returns-in_err-value
returns-in_err-value g c e = absurd (rank_has-value g.K.OrderedKey.order g.met.K.OrderedKey.lawful _ _ _ (ascending-entries g.R.Roll g.K.OrderedKey g.met.K.OrderedKey.lawful c.args.self.now) e _ c.in_ok-key.ensures c.in_err-value.ensures)

pub returns : goal.returns
returns g c e = rank_found g.K.OrderedKey.order g.met.K.OrderedKey.lawful _ _ _ (ascending-entries g.R.Roll g.K.OrderedKey g.met.K.OrderedKey.lawful c.args.self.now) e _ _ c.in_ok-key.ensures c.in_ok-value.ensures

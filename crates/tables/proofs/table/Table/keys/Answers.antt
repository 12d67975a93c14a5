use Rattle.std.proofs.Common.{true, ◌∙◌, of_calls}
use Rattle.tables.specs.Tabled.{entries}
use Rattle.tables.proofs.Entries.{keys_where-all}
use Rattle.tables.proofs.table.Table.keys.Goals as goal

pub returns : goal.returns
returns g c =
    c.keys_where.ensures (λ k v. true) (λ k v r called. search of_calls) ∙ keys_where-all (entries g.R.Roll g.K.OrderedKey c.args.self.now)

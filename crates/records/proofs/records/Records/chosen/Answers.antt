use Rattle.std.proofs.Common.{of_calls}
use Rattle.records.specs.Ranks.{is_chosen}
use Rattle.records.proofs.records.Records.chosen.Goals as goal

pub returns : goal.returns
returns g c = c.keys_where.ensures (λ k. is_chosen c.args.choice) (λ k v r called. search of_calls)

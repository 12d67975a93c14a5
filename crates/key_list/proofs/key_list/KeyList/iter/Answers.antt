use Rattle.key_list.proofs.Rows.{few-keys}
use Rattle.key_list.proofs.key_list.KeyList.iter.Goals as goal

pub returns-clause-few : goal.returns-clause-few
returns-clause-few g c = few-keys c.args.self.now

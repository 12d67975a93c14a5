use Rattle.std.proofs.Common.{sym, ◌∙◌, of_calls}
use Rattle.peer_sets.specs.Held.{set_of}
use Rattle.joining.proofs.Wheres.{to_close-where}
use Rattle.records.specs.Kept.{records_of}
use Rattle.records.specs.Ranks.{is_cut_off}
use Rattle.records.proofs.records.Records.to_close.Goals as goal

pub returns : goal.returns
returns g c =
    let set = set_of c.args.members.now in
    c.keys_where.ensures (is_cut_off g.K.OrderedKey.order set) (λ k v r called. search of_calls)
    ∙ sym (to_close-where g.K.OrderedKey.order set (records_of g.R.Roll g.K.OrderedKey c.args.self.now))

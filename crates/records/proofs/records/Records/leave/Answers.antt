use Rattle.std.proofs.Common.{ap, ◌∙◌}
use Rattle.record.specs.Records.{primary_down, secondary_down}
use Rattle.key_list.specs.Members.{keys_in}
use Rattle.peer_sets.specs.Held.{set_of}
use Rattle.model.specs.There.{each_there}
use Rattle.records.specs.Kept.{records_of}
use Rattle.records.proofs.records.Records.leave.Goals as goal

pub returns : goal.returns
returns g c =
    let order = g.K.OrderedKey.order in
    let es = records_of g.R.Roll g.K.OrderedKey c.args.self.now in
    let set = set_of c.args.members.now in
    let first = c.lower_all.ensures in
    let second = c.lower_all-2.ensures in
    record {
      now_records =
          second.now_records
          ∙ ap (each_there order secondary_down (keys_in c.secondaries.result)) first.now_records
          ∙ ap (λ ks. each_there order secondary_down ks (each_there order primary_down (keys_in c.primaries.result) es)) c.secondaries.ensures
          ∙ ap (λ ks. each_there order secondary_down set.secondary (each_there order primary_down ks es)) c.primaries.ensures;
      same_places = second.same_places ∙ first.same_places;
    }

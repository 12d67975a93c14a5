use Rattle.std.proofs.Common.{sym, refl, ap, ◌∙◌, subst}
use Rattle.tables.proofs.Walks.{ascending-entries}
use Rattle.joining.proofs.There.{tidied-left_there, to_close-left_there}
use Rattle.peer_sets.specs.Held.{set_of}
use Rattle.records.specs.Kept.{Emptied, places_of, records_of}
use Rattle.model.specs.Track.{tidied, to_close}
use Rattle.tracker.proofs.directory.Directory.drop_set.Goals as goal

pub returns : goal.returns
returns g c =
    let o = g.K.OrderedKey in
    let lawful = g.met.K.OrderedKey.lawful in
    let set = set_of c.args.oldest.now in
    let records = records_of g.R.Roll o c.self.inside.records in
    let ordered = ascending-entries g.R.Roll o lawful c.self.inside.records.table in
    let proper = c.requires in
    let l = c.leave.ensures in
    let t = c.tidy.ensures in
    rw (← c.self.view_is) (record {
      only_records = record { same_own = refl; same_config = refl; same_sets = refl; same_blocks = refl };
      now_records = t.now_records ∙ ap (tidied o.order set) l.now_records ∙ sym (tidied-left_there o.order lawful set records ordered proper.primaries_ascend proper.secondaries_ascend);
      names = c.to_close-named.ensures ∙ ap (to_close o.order set) l.now_records ∙ sym (to_close-left_there o.order lawful set records ordered proper.primaries_ascend proper.secondaries_ascend);
      emptied = subst (λ ps. Emptied ps (places_of g.R.Roll c.tidy.new.self)) l.same_places t.emptied;
    })

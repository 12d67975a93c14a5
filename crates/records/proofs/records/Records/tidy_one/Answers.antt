use Rattle.std.proofs.Common.{cond, sym, refl, ap, ◌∙◌}
use Rattle.peer_sets.specs.Held.{set_of}
use Rattle.tables.specs.Listings.{cut}
use Rattle.records.specs.Kept.{places_of, records_of, without_stale}
use Rattle.records.proofs.Joins.{emptied_to}
use Rattle.records.proofs.records.Records.tidy_one.Goals as goal

pub returns : goal.returns
returns g c =
    let d = c.args.self.now in
    let o = g.K.OrderedKey in
    let k = c.args.key.now in
    let es = records_of g.R.Roll o d in
    let here = c.in-Some.ensures.located in
    let gone = c.remove.ensures in
    record {
      now_records =
          gone.now_entries k here
          ∙ sym (ap (λ t. cond t (cut o.order k es) es) (sym c.if-not-is_stale.ensures))
          ∙ ap (λ r. without_stale g.R.Roll o (set_of c.args.members.now) k r es) (c.in-Some-at.ensures k here);
      emptied = emptied_to (places_of g.R.Roll d) (g.R.Roll.places c.remove.new.self.roll) c.in-Some.place gone.now_places;
    }

pub returns-then-not-is_stale : goal.returns-then-not-is_stale
returns-then-not-is_stale g c =
    let d = c.args.self.now in
    let o = g.K.OrderedKey in
    let k = c.args.key.now in
    let es = records_of g.R.Roll o d in
    record {
      now_records =
          sym (ap (λ t. cond t (cut o.order k es) es) (sym c.if-not-is_stale.ensures))
          ∙ ap (λ r. without_stale g.R.Roll o (set_of c.args.members.now) k r es) (c.in-Some-at.ensures k c.in-Some.ensures.located);
      emptied = (refl, λ p j h. h);
    }

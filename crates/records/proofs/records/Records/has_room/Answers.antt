use Rattle.std.proofs.Common.{◌+◌, leb, ◌++◌, length, ap, ◌∙◌}
use Rattle.peer_sets.specs.Held.{set_of}
use Rattle.tables.proofs.Listed.{length-listing_le}
use Rattle.model.specs.Sets.{primaries}
use Rattle.model.specs.Track.{newcomers}
use Rattle.joining.proofs.Rooms.{newcomers-append}
use Rattle.records.specs.Kept.{records_of, places_of}
use Rattle.records.proofs.Joins.{fits-free}
use Rattle.records.proofs.records.Records.has_room.Goals as goal

pub returns : goal.returns
returns g c =
    let d = c.args.self.now in
    let order = g.K.OrderedKey.order in
    let p = primaries (set_of c.args.members.now).primary in
    let q = (set_of c.args.members.now).secondary in
    let es = records_of g.R.Roll g.K.OrderedKey d in
    let a = newcomers order p es in
    let b = newcomers order q es in
    ap (λ x. leb (x + c.newcomers-2.result) c.room.result) (c.newcomers.ensures.all ∙ ap (λ ks. newcomers order ks es) c.primaries.ensures)
    ∙ ap (λ x. leb (a + x) c.room.result) (c.newcomers-2.ensures.all ∙ ap (λ ks. newcomers order ks es) c.secondaries.ensures)
    ∙ ap (λ x. leb (a + b) x) c.room.ensures
    ∙ fits-free a b (newcomers order (p ++ q) es) (length es) (length (places_of g.R.Roll d)) (newcomers-append order p q es)
    (length-listing_le order (places_of g.R.Roll d) d.table.values)

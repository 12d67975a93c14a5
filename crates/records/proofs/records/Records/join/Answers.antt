use Rattle.std.proofs.Common.{◌≡◌, ◌≤◌, true, length, is_ok, Ok, Err, Result, sym, ap, ◌∙◌, arith}
use Rattle.std.proofs.lemmas.Bool.{false≢true}
use Rattle.record.specs.Records.{primary_up, secondary_up}
use Rattle.key_list.specs.Members.{keys_in}
use Rattle.peer_sets.specs.Held.{set_of}
use Rattle.tables.proofs.Walks.{ascending-entries}
use Rattle.model.specs.Sets.{primaries}
use Rattle.model.specs.Track.{each}
use Rattle.records.specs.Kept.{Joined, JoinAnswer, records_of, places_of}
use Rattle.records.specs.declared.full.PeersFull.{PeersFull}
use Rattle.records.proofs.Joins.{room_first, room_both}
use Rattle.records.proofs.records.Records.join.Goals as goal

pub returns-in_err-raise_all : goal.returns-in_err-raise_all
returns-in_err-raise_all g c proper =
    let d = c.args.self.now in
    let o = g.K.OrderedKey in
    let p = primaries (set_of c.args.members.now).primary in
    let q = (set_of c.args.members.now).secondary in
    let es = records_of g.R.Roll o d in
    let first =
    room_first o.order g.met.K.OrderedKey.lawful p q es proper.primaries_ascend proper.secondaries_ascend proper.apart
    (ascending-entries g.R.Roll o g.met.K.OrderedKey.lawful d.table) primary_up secondary_up (length (places_of g.R.Roll d))
    (sym c.if-not-has_room.ensures) in
    let room : length (each o.order primary_up (keys_in c.primaries.result) es) ≤ length (places_of g.R.Roll d) =
    omega (arith, ap (λ ks. length (each o.order primary_up ks es)) c.primaries.ensures, first) in
    absurd (false≢true (c.in_err-raise_all.ensures room).0)

pub returns : goal.returns
returns g c proper =
    let d = c.args.self.now in
    let o = g.K.OrderedKey in
    let p = primaries (set_of c.args.members.now).primary in
    let q = (set_of c.args.members.now).secondary in
    let es = records_of g.R.Roll o d in
    let mid = c.raise_all.new.self in
    let ordered = ascending-entries g.R.Roll o g.met.K.OrderedKey.lawful d.table in
    let fit = sym c.if-not-has_room.ensures in
    let first =
    room_first o.order g.met.K.OrderedKey.lawful p q es proper.primaries_ascend proper.secondaries_ascend proper.apart ordered primary_up secondary_up
    (length (places_of g.R.Roll d)) fit in
    let both =
    room_both o.order g.met.K.OrderedKey.lawful p q es proper.primaries_ascend proper.secondaries_ascend proper.apart ordered primary_up secondary_up
    (length (places_of g.R.Roll d)) fit in
    let room-one : length (each o.order primary_up (keys_in c.primaries.result) es) ≤ length (places_of g.R.Roll d) =
    omega (arith, ap (λ ks. length (each o.order primary_up ks es)) c.primaries.ensures, first) in
    let one = (c.in_ok-raise_all.ensures room-one).1 in
    let now-one = one.now_records ∙ ap (λ ks. each o.order primary_up ks es) c.primaries.ensures in
    let same-two =
    ap (λ ks. each o.order secondary_up ks (records_of g.R.Roll o mid)) c.secondaries.ensures ∙ ap (each o.order secondary_up q) now-one in
    let room-two : length (each o.order secondary_up (keys_in c.secondaries.result) (records_of g.R.Roll o mid)) ≤ length (places_of g.R.Roll mid) =
    omega (arith, ap length same-two, one.filled.0, both) in
    let two = c.raise_all-2.ensures room-two in
    joined c.raise_all-2.result two.0
    (record {
      room = fit;
      now_records = two.1.now_records ∙ same-two;
      filled = (two.1.filled.0 ∙ one.filled.0, λ x k h. two.1.filled.1 x k (one.filled.1 x k h));
    })
  where
    joined : (r : Result (Unit {0}) PeersFull) → is_ok r ≡ true
        → Joined g.R.Roll g.K.OrderedKey c.args.self.now c.raise_all-2.new.self (set_of c.args.members.now)
        → JoinAnswer g.R.Roll g.K.OrderedKey c.args.self.now c.raise_all-2.new.self (set_of c.args.members.now) r
    joined (Ok u) h j = j
    joined (Err f) h j = absurd (false≢true h)

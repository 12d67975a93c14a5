-- What each call about one peer makes of the peer's record, against what the history then says of it.
use Rattle.std.proofs.Common.{◌≡◌, ℕ, ◌+◌, ◌^◌, ◌<◌, min, Bool, true, false, cond, not, ◌&&◌, ◌||◌, leb, is_some, Some, None, Option, sym, refl, ap, ◌∙◌, arith}
use Rattle.std.proofs.lemmas.Bool.{cond-true, or_right, both_ways}
use Rattle.std.proofs.lemmas.Bool.Decides.{nat_tests}
use Rattle.types.specs.Ingresses.{same_ingress}
use Rattle.types.specs.declared.info.Info.{Info}
use Rattle.types.specs.declared.ingress.Ingress.{Ingress}
use Rattle.types.specs.declared.moment.Moment.{Moment}
use Rattle.types.specs.declared.span.Span.{Span}
use Rattle.keys.specs.Orders.{never}
use Rattle.record.specs.Cases.{is_inert}
use Rattle.record.specs.Records.{most_failures, wanted, wanted_of, dial_ingress, reserved_at, came_up, connected_from, fell_through, with_status}
use Rattle.record.specs.declared.address.Address.TheVariants.{Discovered}
use Rattle.record.specs.declared.record.Record.{Record}
use Rattle.record.specs.declared.role.Role.TheVariants.{Dialer, Listener}
use Rattle.record.specs.declared.status.Status.{Status}
use Rattle.record.specs.declared.status.Status.TheVariants.{Inert, Reserved, Active}
use Rattle.laws.specs.History.{Dialled, Listened, Connected, Released, one_more, ingress_or, dialled_it, is_lacking}
use Rattle.laws.specs.Starts.{address_by}
use Rattle.laws.proofs.Values.{Values, Theirs, Near, seat, status_by, role_by, acted, lacking, unlinked}

-- what a status says of a history

closed_from : (o c : Bool) → Inert ≡ status_by o c → o ≡ false
closed_from false c e = refl
closed_from true false e = never (cc)
closed_from true true e = never (cc)

open_from : (o c : Bool) → is_inert (status_by o c) ≡ false → o ≡ true
open_from false c e = absurd (both_ways true e refl)
open_from true c e = refl

reserved_from : (o c : Bool) → Reserved ≡ status_by o c → (o ≡ true) × (c ≡ false)
reserved_from false c e = never (cc)
reserved_from true false e = (refl, refl)
reserved_from true true e = never (cc)

-- failures are counted up to a bound that no limit exceeds

most_once : (same : Bool) (failed : ℕ) → cond same (min (min failed most_failures + 1) most_failures) (min failed most_failures) ≡ min (one_more same failed) most_failures
most_once true failed = omega arith
most_once false failed = refl

limit-counted : (limit failed : ℕ) → limit < 2 ^ 64 → leb limit (min failed most_failures) ≡ leb limit failed
limit-counted limit failed h = grind (arith, nat_tests)

-- the address of a peer: the ingress it is dialled at, and what calls make of it
module _ {K : Type 0} where
  ingress_known : (info : Option (Info K)) (boot : Option Ingress) (failed : ℕ) → dial_ingress (address_by info boot failed) ≡ ingress_or boot info
  ingress_known (Some i) boot failed = refl
  ingress_known None (Some b) failed = refl
  ingress_known None None failed = refl

  address_up : (info : Option (Info K)) (boot dialled : Option Ingress) (failed : ℕ) → came_up (address_by info boot failed) (Some (role_by dialled)) ≡ address_by info boot (cond (is_some dialled) 0 failed)
  address_up (Some i) boot (Some d) failed = refl
  address_up (Some i) boot None failed = refl
  address_up None (Some b) dialled failed = refl
  address_up None None dialled failed = refl

  address_down : (info : Option (Info K)) (boot dialled : Option Ingress) (failed : ℕ) → fell_through (address_by info boot failed) Reserved (Some (role_by dialled)) ≡ address_by info boot (one_more (dialled_it info dialled) failed)
  address_down (Some i) boot (Some d) failed = ap (λ n. Discovered i n) (most_once (same_ingress i.ingress d) failed)
  address_down (Some i) boot None failed = refl
  address_down None (Some b) (Some d) failed = refl
  address_down None (Some b) None failed = refl
  address_down None None (Some d) failed = refl
  address_down None None None failed = refl

  -- whether information is wanted
  lacking_by : (limit : ℕ) (info : Option (Info K)) (boot : Option Ingress) (failed : ℕ) (o c : Bool) → limit < 2 ^ 64 → (c ≡ true → o ≡ true) → wanted_of limit (address_by info boot failed) (status_by o c) ≡ is_lacking limit info c failed
  lacking_by limit None (Some b) failed o c h l = refl
  lacking_by limit None None failed o c h l = refl
  lacking_by limit (Some i) boot failed false true h l = absurd (both_ways false refl (l refl))
  lacking_by limit (Some i) boot failed false false h l = limit-counted limit failed h
  lacking_by limit (Some i) boot failed true true h l = refl
  lacking_by limit (Some i) boot failed true false h l = limit-counted limit failed h

  pub wanted-theirs : (limit : ℕ) (v : Values K) (r : Record K) → limit < 2 ^ 64 → Theirs v r → wanted limit r ≡ lacking limit false v
  wanted-theirs limit v r h t =
      ap (λ a. wanted_of limit a r.status) t.address_so
      ∙ ap (λ s. wanted_of limit (address_by v.info v.boot v.failed) s) t.status_so
      ∙ lacking_by limit v.info v.boot v.failed v.opened v.connected h t.linked

  -- reserving: it was inert

  pub open_closed : (v : Values K) (r : Record K) → Theirs v r → is_inert r.status ≡ true → v.opened ≡ false
  open_closed v r t h = closed_from v.opened v.connected (sym (inert_from r.status h) ∙ t.status_so)
    where
      inert_from : (s : Status) → is_inert s ≡ true → s ≡ Inert
      inert_from Inert e = refl
      inert_from Reserved e = absurd (both_ways false refl e)
      inert_from Active e = absurd (both_ways false refl e)

  reserved_so : (v : Values K) (r : Record K) → Theirs v r → is_inert r.status ≡ true → Reserved ≡ status_by true v.connected
  reserved_so v r t h = ap (status_by true) (sym (unlinked v.opened v.connected t.linked (open_closed v r t h)))

  info_kept : (v : Values K) → v.info ≡ cond (seat v || true) v.info None
  info_kept v = sym (cond-true (seat v || true) v.info None (or_right (seat v) true refl))

  pub dialled-theirs : (v : Values K) (r : Record K) (now : Moment) (draw : ℕ) (cooldown : Span) (ingress : Ingress) → Theirs v r → is_inert r.status ≡ true → dial_ingress r.address ≡ Some ingress → Theirs (acted false Dialled v) (reserved_at r now draw cooldown (Dialer ingress))
  dialled-theirs v r now draw cooldown ingress t h d =
      record {
        stays = or_right (seat v) true refl;
        linked = λ e. refl;
        status_so = reserved_so v r t h;
        role_so = λ e. ap (λ x. Some (role_by x)) (sym d ∙ ap dial_ingress t.address_so ∙ ingress_known v.info v.boot v.failed);
        address_so = t.address_so ∙ ap (λ x. address_by x v.boot v.failed) (info_kept v);
        primary_so = t.primary_so;
        secondary_so = t.secondary_so;
        persistent_so = t.persistent_so;
      }

  pub listened_theirs : (v : Values K) (r : Record K) (now : Moment) (draw : ℕ) (cooldown : Span) → Theirs v r → is_inert r.status ≡ true → Theirs (acted false Listened v) (reserved_at r now draw cooldown Listener)
  listened_theirs v r now draw cooldown t h =
      record {
        stays = or_right (seat v) true refl;
        linked = λ e. refl;
        status_so = reserved_so v r t h;
        role_so = λ e. refl;
        address_so = t.address_so ∙ ap (λ x. address_by x v.boot v.failed) (info_kept v);
        primary_so = t.primary_so;
        secondary_so = t.secondary_so;
        persistent_so = t.persistent_so;
      }

  -- connecting: it was reserved

  pub connected-theirs : (v : Values K) (r : Record K) → Theirs v r → r.status ≡ Reserved → Theirs (acted false Connected v) (connected_from r Reserved)
  connected-theirs v r t h =
      let o = reserved_from v.opened v.connected (sym h ∙ t.status_so) in
      record {
        stays = t.stays;
        linked = λ e. o.0;
        status_so = ap (λ x. status_by x true) (sym o.0);
        role_so = t.role_so;
        address_so =
            ap (λ a. came_up a r.role) t.address_so
            ∙ ap (λ x. came_up (address_by v.info v.boot v.failed) x) (t.role_so o.0)
            ∙ address_up v.info v.boot v.dialled v.failed
            ∙ ap (λ x. address_by x v.boot (cond (is_some v.dialled) 0 v.failed)) (sym (cond-true (seat v || v.opened) v.info None t.stays));
        primary_so = t.primary_so;
        secondary_so = t.secondary_so;
        persistent_so = t.persistent_so;
      }

  -- releasing: it was not inert

  pub released_open : (v : Values K) (r : Record K) → Theirs v r → is_inert r.status ≡ false → v.opened ≡ true
  released_open v r t h = open_from v.opened v.connected (ap is_inert (sym t.status_so) ∙ h)

  fallen : (info : Option (Info K)) (boot dialled : Option Ingress) (failed : ℕ) (o c : Bool) → o ≡ true → fell_through (address_by info boot failed) (status_by o c) (Some (role_by dialled)) ≡ address_by info boot (one_more (not c && dialled_it info dialled) failed)
  fallen info boot dialled failed false c e = absurd (both_ways false refl e)
  fallen info boot dialled failed true true e = refl
  fallen info boot dialled failed true false e = address_down info boot dialled failed

  pub released-near : (v : Values K) (r : Record K) → Theirs v r → is_inert r.status ≡ false → Near (acted false Released v) v.info (with_status r (fell_through r.address r.status r.role) Inert None)
  released-near v r t h =
      let o = released_open v r t h in
      record {
        gate = refl;
        linked = λ e. e;
        status_so = refl;
        role_so = λ e. absurd (both_ways false refl e);
        address_so =
            ap (λ a. fell_through a r.status r.role) t.address_so
            ∙ ap (λ x. fell_through (address_by v.info v.boot v.failed) x r.role) t.status_so
            ∙ ap (λ x. fell_through (address_by v.info v.boot v.failed) (status_by v.opened v.connected) x) (t.role_so o)
            ∙ fallen v.info v.boot v.dialled v.failed v.opened v.connected o;
        primary_so = t.primary_so;
        secondary_so = t.secondary_so;
        persistent_so = t.persistent_so;
      }

  -- a reservation changes nothing in whether information is wanted

  pub dialled-lacking : (limit : ℕ) (v : Values K) → lacking limit false (acted false Dialled v) ≡ lacking limit false v
  dialled-lacking limit v = ap (λ x. is_lacking limit x v.connected v.failed) (sym (info_kept v))

  pub listened_lacking : (limit : ℕ) (v : Values K) → lacking limit false (acted false Listened v) ≡ lacking limit false v
  listened_lacking limit v = ap (λ x. is_lacking limit x v.connected v.failed) (sym (info_kept v))

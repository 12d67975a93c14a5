-- What a history says of one peer, gathered into one value; how an event changes it; and how it is tied to the peer's record.
use Rattle.std.proofs.Common.{◌≡◌, ℕ, ◌<◌, Bool, true, false, cond, not, ◌&&◌, ◌||◌, eqb, ltb, ◌⊎◌, List, ◌∷◌, is_some, Some, None, Option, Ordering, sym, refl, ap, ◌∙◌, inl, inr, arith}
use Rattle.std.proofs.lemmas.Bool.{cond-true, cond-false, both_ways, not-true, not-false, or_right, or_parts, ltb-false, lt-ltb, ne_eqb, cases_order}
use Rattle.types.specs.declared.info.Info.{Info}
use Rattle.types.specs.declared.ingress.Ingress.{Ingress}
use Rattle.record.specs.Cases.{is_inert}
use Rattle.record.specs.Records.{is_myself, deletable}
use Rattle.record.specs.declared.record.Record.{Record}
use Rattle.record.specs.declared.role.Role.{Role}
use Rattle.record.specs.declared.role.Role.TheVariants.{Dialer, Listener}
use Rattle.record.specs.declared.status.Status.{Status}
use Rattle.record.specs.declared.status.Status.TheVariants.{Inert, Reserved, Active}
use Rattle.laws.specs.History.{Start, Event, Act, Other, one_more, is_dialling, is_reserving, is_connecting, is_releasing, infos_told, newest_of, any_news, ingress_or, dialled_it, is_lacking, act, primary_count, secondary_count, is_own, bootstrapper, sets_held, is_open, is_connected, last_info, dialled_at, failed_dials}
use Rattle.laws.specs.Starts.{address_by}

pub record Values (K : Type 0) : Type 0 where
  pub primary : ℕ
  pub secondary : ℕ
  pub boot : Option Ingress
  pub opened : Bool
  pub connected : Bool
  pub info : Option (Info K)
  pub dialled : Option Ingress
  pub failed : ℕ

-- a seat, by the numbers of sets
abbrev pub seat_by : ℕ → ℕ → Option Ingress → Bool
seat_by primary secondary boot = ltb 0 primary || ltb 0 secondary || is_some boot

abbrev pub status_by : Bool → Bool → Status
status_by false connected = Inert
status_by true false = Reserved
status_by true true = Active

abbrev pub role_by : Option Ingress → Role
role_by None = Listener
role_by (Some ingress) = Dialer ingress

module _ {K : Type 0} where
  abbrev pub seat : Values K → Bool
  seat v = seat_by v.primary v.secondary v.boot

  abbrev pub heard : Bool → Values K → Bool
  heard mine v = not mine && (seat v || v.opened)

  -- whether information is wanted
  abbrev pub lacking : ℕ → Bool → Values K → Bool
  lacking limit mine v = not mine && is_lacking limit v.info v.connected v.failed

  -- after an act, and with other numbers of sets
  abbrev pub opened_next : Act K → Values K → Bool
  opened_next a v = cond (is_reserving a) true (cond (is_releasing a) false v.opened)

  abbrev pub next : Bool → Act K → ℕ → ℕ → Values K → Values K
  next mine a primary secondary v =
      record {
        primary = primary;
        secondary = secondary;
        boot = v.boot;
        opened = opened_next a v;
        connected = cond (is_connecting a) true (cond (is_releasing a) false v.connected);
        info = cond (not mine && (seat_by primary secondary v.boot || opened_next a v)) (newest_of v.info (infos_told a)) None;
        dialled = cond (is_reserving a) (cond (is_dialling a) (ingress_or v.boot v.info) None) v.dialled;
        failed = cond (any_news v.info (infos_told a) && heard mine v || (is_connecting a && is_some v.dialled)) 0 (one_more (is_releasing a && not v.connected && dialled_it v.info v.dialled) v.failed);
      }

  -- after an act, with the same numbers of sets
  abbrev pub acted : Bool → Act K → Values K → Values K
  acted mine a v = next mine a v.primary v.secondary v

  -- a peer that has no record
  pub record Gone (v : Values K) : Type 0 where
    pub primary_none : v.primary ≡ 0
    pub secondary_none : v.secondary ≡ 0
    pub boot_none : v.boot ≡ None
    pub closed : v.opened ≡ false
    pub unconnected : v.connected ≡ false
    pub untold : v.info ≡ None

  -- another peer and its record
  pub record Theirs (v : Values K) (r : Record K) : Type 0 where
    pub stays : (seat v || v.opened) ≡ true
    pub linked : v.connected ≡ true → v.opened ≡ true
    pub status_so : r.status ≡ status_by v.opened v.connected
    pub role_so : v.opened ≡ true → r.role ≡ Some (role_by v.dialled)
    pub address_so : r.address ≡ address_by v.info v.boot v.failed
    pub primary_so : r.primary_sets ≡ v.primary
    pub secondary_so : r.secondary_sets ≡ v.secondary
    pub persistent_so : r.persistent ≡ is_some v.boot

  -- another peer's record that is as it should be if the peer stays; the info is that from before
  pub record Near (v : Values K) (info : Option (Info K)) (r : Record K) : Type 0 where
    pub gate : v.info ≡ cond (seat v || v.opened) info None
    pub linked : v.connected ≡ true → v.opened ≡ true
    pub status_so : r.status ≡ status_by v.opened v.connected
    pub role_so : v.opened ≡ true → r.role ≡ Some (role_by v.dialled)
    pub address_so : r.address ≡ address_by info v.boot v.failed
    pub primary_so : r.primary_sets ≡ v.primary
    pub secondary_so : r.secondary_sets ≡ v.secondary
    pub persistent_so : r.persistent ≡ is_some v.boot

  -- ourselves and our record
  pub record Ours (v : Values K) (r : Record K) : Type 0 where
    pub closed : v.opened ≡ false
    pub unconnected : v.connected ≡ false
    pub untold : v.info ≡ None
    pub inert : r.status ≡ Inert
    pub myself : is_myself r.address ≡ true
    pub primary_so : r.primary_sets ≡ v.primary
    pub secondary_so : r.secondary_sets ≡ v.secondary
    pub persistent_so : r.persistent ≡ true

  abbrev pub Tied : Bool → Values K → Option (Record K) → Type 0
  Tied true v None = ⊥
  Tied true v (Some r) = Ours v r
  Tied false v None = Gone v
  Tied false v (Some r) = Theirs v r

module _ {K : Type 0} (order : K → K → Ordering) (start : Start K) where
  abbrev pub values : List (Event K) → K → Values K
  values h k =
      record {
        primary = primary_count order k (sets_held order start h);
        secondary = secondary_count order k (sets_held order start h);
        boot = bootstrapper order start k;
        opened = is_open order k h;
        connected = is_connected order k h;
        info = last_info order start k h;
        dialled = dialled_at order start k h;
        failed = failed_dials order start k h;
      }

  -- what one event more makes of it
  pub values_more : (h : List (Event K)) (k : K) (e : Event K) → values (e ∷ h) k ≡ next (is_own order start k) (act order k e) (primary_count order k (sets_held order start (e ∷ h))) (secondary_count order k (sets_held order start (e ∷ h))) (values h k)
  values_more h k e = refl

pub cond_same : {X : Type 0} (b : Bool) (x : X) → cond b x x ≡ x
cond_same true x = refl
cond_same false x = refl

module _ {K : Type 0} where
  -- nothing changes where nothing happens
  pub gated : (mine : Bool) (v : Values K) (o : Option (Record K)) → Tied mine v o → cond (heard mine v) v.info None ≡ v.info
  gated true v None t = absurd t
  gated true v (Some r) t = sym t.untold
  gated false v None t = ap (λ x. cond (seat v || v.opened) x None) t.untold ∙ cond_same (seat v || v.opened) None ∙ sym t.untold
  gated false v (Some r) t = cond-true (seat v || v.opened) v.info None t.stays

  pub next-still : (mine : Bool) (v : Values K) (o : Option (Record K)) → Tied mine v o → acted mine Other v ≡ v
  next-still mine v o t =
      let g = gated mine v o t in
      λ i. record { primary = v.primary; secondary = v.secondary; boot = v.boot; opened = v.opened; connected = v.connected; info = g i; dialled = v.dialled; failed = v.failed }

-- no seat: no set, and no bootstrapper

pub no_seat : (p q : ℕ) (boot : Option Ingress) → seat_by p q boot ≡ false → (p ≡ 0) × (q ≡ 0) × (boot ≡ None)
no_seat p q (Some b) e = absurd (both_ways _ e (or_right (ltb 0 p || ltb 0 q) true refl))
no_seat p q None e =
    let h = or_parts (ltb 0 p || ltb 0 q) false e in
    let g = or_parts (ltb 0 p) (ltb 0 q) h.0 in
    let a = ltb-false 0 p g.0 in
    let b = ltb-false 0 q g.1 in
    (omega arith, omega arith, refl)

deletable_by : (p q : ℕ) (stays inert : Bool) → (eqb p 0 && eqb q 0 && not stays && inert) ≡ not (ltb 0 p || ltb 0 q || stays || not inert)
deletable_by p q stays inert = by (cases_order p 0) (cases_order q 0)
  where
    none : (stays inert : Bool) → (not stays && inert) ≡ not (stays || not inert)
    none true inert = refl
    none false true = refl
    none false false = refl

    some_primary : 0 < p → (eqb p 0 && eqb q 0 && not stays && inert) ≡ not (ltb 0 p || ltb 0 q || stays || not inert)
    some_primary h = let a = ne_eqb p 0 (λ e. omega arith) in let b = lt-ltb 0 p h in rw (a, b)

    by : (p ≡ 0) ⊎ ((p < 0) ⊎ (0 < p)) → (q ≡ 0) ⊎ ((q < 0) ⊎ (0 < q)) → (eqb p 0 && eqb q 0 && not stays && inert) ≡ not (ltb 0 p || ltb 0 q || stays || not inert)
    by (inl a) (inl b) = rw (a, b) (none stays inert)
    by (inl a) (inr (inl b)) = absurd (omega arith)
    by (inl a) (inr (inr b)) = let c = ne_eqb q 0 (λ e. omega arith) in let d = lt-ltb 0 q b in rw (a, c, d)
    by (inr (inl a)) x = absurd (omega arith)
    by (inr (inr a)) x = some_primary a

pub inert_by : (o c : Bool) → is_inert (status_by o c) ≡ not o
inert_by false c = refl
inert_by true false = refl
inert_by true true = refl

pub not-not : (b : Bool) → not (not b) ≡ b
not-not true = refl
not-not false = refl

pub unlinked : (o c : Bool) → (c ≡ true → o ≡ true) → o ≡ false → c ≡ false
unlinked o true l e = absurd (both_ways o e (l refl))
unlinked o false l e = refl

module _ {K : Type 0} where
  near-deletable : (v : Values K) (info : Option (Info K)) (r : Record K) → Near v info r → deletable r ≡ not (seat v || v.opened)
  near-deletable v info r t =
      ap (λ x. eqb x 0 && eqb r.secondary_sets 0 && not r.persistent && is_inert r.status) t.primary_so
      ∙ ap (λ x. eqb v.primary 0 && eqb x 0 && not r.persistent && is_inert r.status) t.secondary_so
      ∙ ap (λ x. eqb v.primary 0 && eqb v.secondary 0 && not x && is_inert r.status) t.persistent_so
      ∙ ap (λ x. eqb v.primary 0 && eqb v.secondary 0 && not (is_some v.boot) && x) (ap is_inert t.status_so ∙ inert_by v.opened v.connected)
      ∙ deletable_by v.primary v.secondary (is_some v.boot) (not v.opened)
      ∙ ap (λ x. not (seat v || x)) (not-not v.opened)

  pub near-theirs : (v : Values K) (info : Option (Info K)) (r : Record K) → Near v info r → (seat v || v.opened) ≡ true → Theirs v r
  near-theirs v info r t s =
      record {
        stays = s;
        linked = t.linked;
        status_so = t.status_so;
        role_so = t.role_so;
        address_so = t.address_so ∙ ap (λ x. address_by x v.boot v.failed) (sym (t.gate ∙ cond-true (seat v || v.opened) info None s));
        primary_so = t.primary_so;
        secondary_so = t.secondary_so;
        persistent_so = t.persistent_so;
      }

  near_gone : (v : Values K) (info : Option (Info K)) (r : Record K) → Near v info r → (seat v || v.opened) ≡ false → Gone v
  near_gone v info r t s =
      let h = or_parts (seat v) v.opened s in
      let n = no_seat v.primary v.secondary v.boot h.0 in
      record {
        primary_none = n.0;
        secondary_none = n.1;
        boot_none = n.2;
        closed = h.1;
        unconnected = unlinked v.opened v.connected t.linked h.1;
        untold = t.gate ∙ cond-false (seat v || v.opened) info None s;
      }

  -- a record that is deleted if nothing holds it
  pub near_deleted : (v : Values K) (info : Option (Info K)) (r : Record K) → Near v info r → deletable r ≡ true → Gone v
  near_deleted v info r t d = near_gone v info r t (not-true (seat v || v.opened) (sym (near-deletable v info r t) ∙ d))

  pub near_kept : (v : Values K) (info : Option (Info K)) (r : Record K) → Near v info r → deletable r ≡ false → Theirs v r
  near_kept v info r t d = near-theirs v info r t (not-false (seat v || v.opened) (sym (near-deletable v info r t) ∙ d))

-- What joining a set and leaving one make of a peer's record, against what the history then says of it.
use Rattle.std.proofs.Common.{◌≡◌, ℕ, suc, ◌+◌, ◌-◌, ◌<◌, min, Bool, true, false, cond, not, ◌&&◌, ◌||◌, eqb, ltb, is_some, Some, None, Option, unwrap_or, sym, refl, ap, ◌∙◌, subst, arith}
use Rattle.std.proofs.lemmas.Bool.{both_ways, cond-true, cond-false, lt-ltb, or_right, and_left, and_right}
use Rattle.types.specs.declared.info.Info.{Info}
use Rattle.types.specs.declared.ingress.Ingress.{Ingress}
use Rattle.record.specs.Cases.{is_inert}
use Rattle.record.specs.Records.{fresh, is_myself, deletable, most_sets, primary_up, primary_down, secondary_up, secondary_down}
use Rattle.record.specs.declared.address.Address.TheVariants.{Unknown}
use Rattle.record.specs.declared.record.Record.{Record}
use Rattle.record.specs.declared.status.Status.TheVariants.{Inert}
use Rattle.model.specs.Track.{record_joined, record_tidied, record_left}
use Rattle.laws.specs.History.{Other, one_more, is_lacking}
use Rattle.laws.specs.Starts.{address_by}
use Rattle.laws.proofs.Values.{Values, Theirs, Gone, Ours, Near, Tied, seat_by, status_by, next, acted, next-still, near_kept, near_deleted, near-theirs, lacking, cond_same}

-- a seat, once there is a set

seat-primary : (p q : ℕ) (boot : Option Ingress) (opened : Bool) → (seat_by (suc p) q boot || opened) ≡ true
seat-primary p q boot opened = let h = lt-ltb 0 (suc p) (omega arith) in rw h

seat-secondary : (p q : ℕ) (boot : Option Ingress) (opened : Bool) → (seat_by p (suc q) boot || opened) ≡ true
seat-secondary p q boot opened = let h = lt-ltb 0 (suc q) (omega arith) in let g = or_right (ltb 0 p) (ltb 0 (suc q)) h in rw g

seat_kept : (a b : Bool) (p q : ℕ) (boot : Option Ingress) (opened : Bool) → (seat_by p q boot || opened) ≡ true → (seat_by (one_more a p) (one_more b q) boot || opened) ≡ true
seat_kept true b p q boot opened h = seat-primary p (one_more b q) boot opened
seat_kept false true p q boot opened h = seat-secondary p q boot opened
seat_kept false false p q boot opened h = h

-- one set more, and one fewer

up : (n m : ℕ) → n ≡ m → m < most_sets → min (n + 1) most_sets ≡ suc m
up n m e h = omega arith

pub down : (n m k : ℕ) → n ≡ m → m ≡ suc k → n - 1 ≡ k
down n m k e f = omega arith

module _ {K : Type 0} where
  -- a record with other numbers of sets, that stays if anything holds it
  pub moved_near : (v : Values K) (r s : Record K) (p q : ℕ) → Theirs v r → s.status ≡ r.status → s.role ≡ r.role → s.address ≡ r.address → s.persistent ≡ r.persistent → s.primary_sets ≡ p → s.secondary_sets ≡ q → Near (next false Other p q v) v.info s
  moved_near v r s p q t a b c d e f =
      record {
        gate = refl;
        linked = t.linked;
        status_so = a ∙ t.status_so;
        role_so = λ o. b ∙ t.role_so o;
        address_so = c ∙ t.address_so;
        primary_so = e;
        secondary_so = f;
        persistent_so = d ∙ t.persistent_so;
      }

  moved_ours : (v : Values K) (r s : Record K) (p q : ℕ) → Ours v r → s.status ≡ r.status → s.address ≡ r.address → s.persistent ≡ r.persistent → s.primary_sets ≡ p → s.secondary_sets ≡ q → Ours (next true Other p q v) s
  moved_ours v r s p q t a c d e f =
      record {
        closed = t.closed;
        unconnected = t.unconnected;
        untold = refl;
        inert = a ∙ t.inert;
        myself = ap is_myself c ∙ t.myself;
        primary_so = e;
        secondary_so = f;
        persistent_so = d ∙ t.persistent_so;
      }

  -- a peer of which there was nothing
  new_theirs : (v : Values K) (s : Record K) (p q : ℕ) → Gone v → s.status ≡ Inert → s.address ≡ Unknown → s.persistent ≡ false → s.primary_sets ≡ p → s.secondary_sets ≡ q → (seat_by p q v.boot || v.opened) ≡ true → Theirs (next false Other p q v) s
  new_theirs v s p q g a c d e f h =
      record {
        stays = h;
        linked = λ x. absurd (both_ways v.connected g.unconnected x);
        status_so = a ∙ ap (λ o. status_by o v.connected) (sym g.closed);
        role_so = λ x. absurd (both_ways v.opened g.closed x);
        address_so = c ∙ sym (ap (λ x. address_by x v.boot v.failed) (cond-true _ v.info None h ∙ g.untold) ∙ ap (λ b. address_by None b v.failed) g.boot_none);
        primary_so = e;
        secondary_so = f;
        persistent_so = d ∙ ap is_some (sym g.boot_none);
      }

  -- joining

  joined-primary : (mine : Bool) (v : Values K) (o : Option (Record K)) → v.primary < most_sets → Tied mine v o → Tied mine (next mine Other (suc v.primary) v.secondary v) (Some (primary_up (unwrap_or o (fresh Unknown false))))
  joined-primary true v None m t = absurd t
  joined-primary true v (Some r) m t = moved_ours v r (primary_up r) _ _ t refl refl refl (up _ _ t.primary_so m) t.secondary_so
  joined-primary false v None m t =
      new_theirs v (primary_up (fresh Unknown false)) _ _ t refl refl refl (up 0 _ (sym t.primary_none) m) (sym t.secondary_none) (seat-primary v.primary v.secondary v.boot v.opened)
  joined-primary false v (Some r) m t =
      near-theirs _ v.info (primary_up r) (moved_near v r (primary_up r) _ _ t refl refl refl refl (up _ _ t.primary_so m) t.secondary_so) (seat-primary v.primary v.secondary v.boot v.opened)

  joined-secondary : (mine : Bool) (v : Values K) (o : Option (Record K)) → v.secondary < most_sets → Tied mine v o → Tied mine (next mine Other v.primary (suc v.secondary) v) (Some (secondary_up (unwrap_or o (fresh Unknown false))))
  joined-secondary true v None m t = absurd t
  joined-secondary true v (Some r) m t = moved_ours v r (secondary_up r) _ _ t refl refl refl t.primary_so (up _ _ t.secondary_so m)
  joined-secondary false v None m t =
      new_theirs v (secondary_up (fresh Unknown false)) _ _ t refl refl refl (sym t.primary_none) (up 0 _ (sym t.secondary_none) m) (seat-secondary v.primary v.secondary v.boot v.opened)
  joined-secondary false v (Some r) m t =
      near-theirs _ v.info (secondary_up r) (moved_near v r (secondary_up r) _ _ t refl refl refl refl t.primary_so (up _ _ t.secondary_so m)) (seat-secondary v.primary v.secondary v.boot v.opened)

  pub joined-tied : (mine a b : Bool) (v : Values K) (o : Option (Record K)) → v.primary < most_sets → v.secondary < most_sets → Tied mine v o → Tied mine (next mine Other (one_more a v.primary) (one_more (b && not a) v.secondary) v) (record_joined a b o)
  joined-tied mine true true v o m n t = joined-primary mine v o m t
  joined-tied mine true false v o m n t = joined-primary mine v o m t
  joined-tied mine false true v o m n t = joined-secondary mine v o n t
  joined-tied mine false false v o m n t = subst (λ w. Tied mine w o) (sym (next-still mine v o t)) t

  -- leaving

  tidied-ours : (v : Values K) (r : Record K) → Ours v r → Tied true v (record_tidied r)
  tidied-ours v r t = subst (Tied true v) (sym (cond-false (deletable r) None (Some r) kept)) t
    where
      kept : deletable r ≡ false
      kept = ap (λ b. eqb r.primary_sets 0 && eqb r.secondary_sets 0 && not b && is_inert r.status) t.persistent_so ∙ and_left _ _ (and_right (eqb r.primary_sets 0 && eqb r.secondary_sets 0) false refl)

  tidied-near : (v : Values K) (info : Option (Info K)) (r : Record K) → Near v info r → Tied false v (record_tidied r)
  tidied-near v info r t = by (deletable r) refl
    where
      by : (b : Bool) → deletable r ≡ b → Tied false v (record_tidied r)
      by true e = subst (Tied false v) (sym (cond-true (deletable r) None (Some r) e)) (near_deleted v info r t e)
      by false e = subst (Tied false v) (sym (cond-false (deletable r) None (Some r) e)) (near_kept v info r t e)

  left_primary : (mine : Bool) (p : ℕ) (v : Values K) (o : Option (Record K)) → v.primary ≡ suc p → Tied mine v o → Tied mine (next mine Other p v.secondary v) (record_left true false o)
  left_primary true p v None e t = absurd t
  left_primary true p v (Some r) e t = tidied-ours _ (primary_down r) (moved_ours v r (primary_down r) p _ t refl refl refl (down _ _ p t.primary_so e) t.secondary_so)
  left_primary false p v None e t = absurd (let n = t.primary_none in omega arith)
  left_primary false p v (Some r) e t =
      tidied-near _ v.info (primary_down r) (moved_near v r (primary_down r) p _ t refl refl refl refl (down _ _ p t.primary_so e) t.secondary_so)

  left_secondary : (mine : Bool) (q : ℕ) (v : Values K) (o : Option (Record K)) → v.secondary ≡ suc q → Tied mine v o → Tied mine (next mine Other v.primary q v) (record_left false true o)
  left_secondary true q v None e t = absurd t
  left_secondary true q v (Some r) e t = tidied-ours _ (secondary_down r) (moved_ours v r (secondary_down r) _ q t refl refl refl t.primary_so (down _ _ q t.secondary_so e))
  left_secondary false q v None e t = absurd (let n = t.secondary_none in omega arith)
  left_secondary false q v (Some r) e t =
      tidied-near _ v.info (secondary_down r) (moved_near v r (secondary_down r) _ q t refl refl refl refl t.primary_so (down _ _ q t.secondary_so e))

  left_neither : (mine : Bool) (v : Values K) (o : Option (Record K)) → Tied mine v o → Tied mine (acted mine Other v) (record_left false false o)
  left_neither mine v None t = subst (λ w. Tied mine w None) (sym (next-still mine v None t)) t
  left_neither mine v (Some r) t = subst (λ w. Tied mine w (Some r)) (sym (next-still mine v (Some r) t)) t

  pub left_tied : (mine a b : Bool) (p q : ℕ) (v : Values K) (o : Option (Record K)) → v.primary ≡ one_more a p → v.secondary ≡ one_more b q → (a ≡ true → b ≡ false) → Tied mine v o → Tied mine (next mine Other p q v) (record_left a b o)
  left_tied mine true true p q v o e f n t = absurd (both_ways true (n refl) refl)
  left_tied mine true false p q v o e f n t = subst (λ x. Tied mine (next mine Other p x v) (record_left true false o)) f (left_primary mine p v o e t)
  left_tied mine false true p q v o e f n t = subst (λ x. Tied mine (next mine Other x q v) (record_left false true o)) e (left_secondary mine q v o f t)
  left_tied mine false false p q v o e f n t =
      subst (λ x. Tied mine (next mine Other x q v) (record_left false false o)) e
      (subst (λ x. Tied mine (next mine Other v.primary x v) (record_left false false o)) f (left_neither mine v o t))

  -- what is known of a peer stays while more sets have it, and while it has a seat

  pub joined-info : (mine a b : Bool) (v : Values K) (o : Option (Record K)) → Tied mine v o → (next mine Other (one_more a v.primary) (one_more b v.secondary) v).info ≡ v.info
  joined-info true a b v None t = absurd t
  joined-info true a b v (Some r) t = sym t.untold
  joined-info false a b v None t = ap (λ x. cond (seat_by (one_more a v.primary) (one_more b v.secondary) v.boot || v.opened) x None) t.untold ∙ cond_same (seat_by (one_more a v.primary) (one_more b v.secondary) v.boot || v.opened) None ∙ sym t.untold
  joined-info false a b v (Some r) t =
      cond-true (seat_by (one_more a v.primary) (one_more b v.secondary) v.boot || v.opened) v.info None (seat_kept a b v.primary v.secondary v.boot v.opened t.stays)

  pub lacking-info : (limit : ℕ) (mine : Bool) (p q : ℕ) (v : Values K) → (next mine Other p q v).info ≡ v.info → lacking limit mine (next mine Other p q v) ≡ lacking limit mine v
  lacking-info limit mine p q v e = ap (λ x. not mine && is_lacking limit x v.connected v.failed) e

  pub lacking_seated : (limit : ℕ) (mine : Bool) (p q : ℕ) (v : Values K) → 0 < p → lacking limit mine (next mine Other p q v) ≡ lacking limit mine v
  lacking_seated limit true p q v h = refl
  lacking_seated limit false p q v h =
      let g = lt-ltb 0 p h in
      lacking-info limit false p q v (cond-true (seat_by p q v.boot || v.opened) v.info None (rw g))

  -- sets come and go in one step or in two
  pub next-next : (mine : Bool) (p q p' q' : ℕ) (v : Values K) → (next mine Other p q v).info ≡ v.info → next mine Other p' q' (next mine Other p q v) ≡ next mine Other p' q' v
  next-next mine p q p' q' v e =
      ap (λ x. record { primary = p'; secondary = q'; boot = v.boot; opened = v.opened; connected = v.connected; info = cond (not mine && (seat_by p' q' v.boot || v.opened)) x None; dialled = v.dialled; failed = v.failed }) e

-- Which links are to be closed as a set leaves, by what the history says.
use Rattle.std.proofs.Common.{◌≡◌, ℕ, suc, ◌≤◌, Bool, true, false, not, ◌&&◌, ◌||◌, ltb, leb, List, [], ◌∷◌, ◌++◌, length, Some, None, Option, sym, refl, ap, ◌∙◌, arith}
use Rattle.std.proofs.lemmas.Bool.{both_ways, cond-true, cond-false, lt-leb, le-leb}
use Rattle.types.specs.declared.info.Info.{Info}
use Rattle.types.specs.declared.ingress.Ingress.{Ingress}
use Rattle.record.specs.Cases.{is_inert}
use Rattle.record.specs.Records.{is_myself, eligible, teardown, primary_down, secondary_down}
use Rattle.record.specs.declared.record.Record.{Record}
use Rattle.joining.proofs.Where.{passes}
use Rattle.joining.proofs.Joining.{record_down}
use Rattle.model.specs.Sets.{primaries}
use Rattle.model.specs.State.{PeerSet}
use Rattle.laws.specs.History.{Held, Other, one_more, leaving}
use Rattle.laws.specs.Law.{bare}
use Rattle.laws.specs.Starts.{address_by}
use Rattle.laws.proofs.Seats.{moved_near, down}
use Rattle.laws.proofs.Values.{Values, Ours, Near, Tied, seat, seat_by, next, inert_by, not-not}

module _ {K : Type 0} where
  not-myself : (info : Option (Info K)) (boot : Option Ingress) (failed : ℕ) → is_myself (address_by info boot failed) ≡ false
  not-myself (Some i) boot failed = refl
  not-myself None (Some b) failed = refl
  not-myself None None failed = refl

  -- a link is to be closed if there is one and no seat

  near-teardown : (v : Values K) (info : Option (Info K)) (r : Record K) → Near v info r → teardown r ≡ (v.opened && not (seat v))
  near-teardown v info r t =
      ap (λ x. not x && not (eligible r)) (ap is_inert t.status_so ∙ inert_by v.opened v.connected)
      ∙ ap (λ x. x && not (eligible r)) (not-not v.opened)
      ∙ ap (λ x. v.opened && not (not x && (ltb 0 r.primary_sets || ltb 0 r.secondary_sets || r.persistent))) (ap is_myself t.address_so ∙ not-myself info v.boot v.failed)
      ∙ ap (λ x. v.opened && not (ltb 0 x || ltb 0 r.secondary_sets || r.persistent)) t.primary_so
      ∙ ap (λ x. v.opened && not (ltb 0 v.primary || ltb 0 x || r.persistent)) t.secondary_so
      ∙ ap (λ x. v.opened && not (ltb 0 v.primary || ltb 0 v.secondary || x)) t.persistent_so

  ours-teardown : (v : Values K) (r s : Record K) (b : Bool) → Ours v r → s.status ≡ r.status → teardown s ≡ (v.opened && b)
  ours-teardown v r s b t e =
      ap (λ x. not (is_inert x) && not (eligible s)) (e ∙ t.inert) ∙ sym (ap (λ x. x && b) t.closed)

  -- the record of a member, once it is in one set fewer

  close_primary : (mine : Bool) (k : K) (p : ℕ) (v : Values K) (o : Option (Record K)) → v.primary ≡ suc p → Tied mine v o → passes (λ (j : K) r. teardown r) k (record_down true false o) ≡ (v.opened && not (seat_by p v.secondary v.boot))
  close_primary true k p v None e t = absurd t
  close_primary true k p v (Some r) e t = ours-teardown v r (primary_down r) _ t refl
  close_primary false k p v None e t = sym (ap (λ x. x && not (seat_by p v.secondary v.boot)) t.closed)
  close_primary false k p v (Some r) e t =
      near-teardown (next false Other p v.secondary v) v.info (primary_down r) (moved_near v r (primary_down r) p v.secondary t refl refl refl refl (down _ _ p t.primary_so e) t.secondary_so)

  close_secondary : (mine : Bool) (k : K) (q : ℕ) (v : Values K) (o : Option (Record K)) → v.secondary ≡ suc q → Tied mine v o → passes (λ (j : K) r. teardown r) k (record_down false true o) ≡ (v.opened && not (seat_by v.primary q v.boot))
  close_secondary true k q v None e t = absurd t
  close_secondary true k q v (Some r) e t = ours-teardown v r (secondary_down r) _ t refl
  close_secondary false k q v None e t = sym (ap (λ x. x && not (seat_by v.primary q v.boot)) t.closed)
  close_secondary false k q v (Some r) e t =
      near-teardown (next false Other v.primary q v) v.info (secondary_down r) (moved_near v r (secondary_down r) v.primary q t refl refl refl refl t.primary_so (down _ _ q t.secondary_so e))

  pub close_by : (mine a b : Bool) (k : K) (p q : ℕ) (v : Values K) (o : Option (Record K)) → v.primary ≡ one_more a p → v.secondary ≡ one_more b q → (a ≡ true → b ≡ false) → Tied mine v o → ((a || b) && passes (λ (j : K) r. teardown r) k (record_down a b o)) ≡ ((a || b) && v.opened && not (seat_by p q v.boot))
  close_by mine true true k p q v o e f n t = absurd (both_ways true (n refl) refl)
  close_by mine true false k p q v o e f n t = close_primary mine k p v o e t ∙ ap (λ x. v.opened && not (seat_by p x v.boot)) f
  close_by mine false true k p q v o e f n t = close_secondary mine k q v o f t ∙ ap (λ x. v.opened && not (seat_by x q v.boot)) e
  close_by mine false false k p q v o e f n t = refl

  -- the set that leaves

  pub leaving_none : (most : ℕ) (sets : List (Held K)) → suc (length sets) ≤ most → leaving most sets ≡ None
  leaving_none most [] h = refl
  leaving_none most (s ∷ sets) h = cond-false (leb most (length (s ∷ sets))) (Some s) None (lt-leb most (length (s ∷ sets)) h)

  pub leaving_first : (most : ℕ) (sets rest : List (PeerSet K)) (new oldest : PeerSet K) → sets ++ new ∷ [] ≡ oldest ∷ rest → 1 ≤ length (bare sets) → most ≤ length (bare sets) → leaving most (bare sets) ≡ Some (record { index = oldest.index; primary = primaries oldest.primary; secondary = oldest.secondary })
  leaving_first most [] rest new oldest e l m = absurd (omega arith)
  leaving_first most (s ∷ sets) rest new oldest e l m =
      let p : s ≡ oldest = cc in
      cond-true (leb most (length (bare (s ∷ sets)))) _ None (le-leb most (length (bare (s ∷ sets))) m)
      ∙ ap (λ x. Some (record { index = x.index; primary = primaries x.primary; secondary = x.secondary })) p

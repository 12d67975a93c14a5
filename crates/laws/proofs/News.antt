-- What infos, one after the other, make of a peer's record, against what the history then says of it.
use Rattle.std.proofs.Common.{◌≡◌, ℕ, Bool, true, false, cond, ◌&&◌, ◌||◌, ◌⊎◌, List, [], ◌∷◌, Some, None, Option, Ordering, sym, refl, ap, ◌∙◌, subst, inl, inr}
use Rattle.std.proofs.lemmas.Bool.{both_ways, cond-true, cond-false}
use Rattle.types.specs.declared.info.Info.{Info}
use Rattle.types.specs.declared.ingress.Ingress.{Ingress}
use Rattle.record.specs.Records.{is_myself, takes, with_address}
use Rattle.record.specs.declared.address.Address.{Address}
use Rattle.record.specs.declared.address.Address.TheVariants.{Unknown, Myself, Bootstrapper, Discovered}
use Rattle.record.specs.declared.record.Record.{Record}
use Rattle.model.specs.Calls.{info_turn}
use Rattle.laws.specs.History.{Told, is_news, newest_of, any_news}
use Rattle.laws.specs.Starts.{address_by}
use Rattle.laws.proofs.Values.{Values, Theirs, Gone, Tied, seat, heard, acted, gated}

none_or_none : (b : Bool) → ◌≡◌ {A = ℕ} (cond b 0 0) 0
none_or_none true = refl
none_or_none false = refl

if_heard : (b : Bool) (n : ℕ) → cond (b && true || false) 0 n ≡ cond b 0 n
if_heard true n = refl
if_heard false n = refl

if_unheard : (b : Bool) (n : ℕ) → cond (b && false || false) 0 n ≡ n
if_unheard true n = refl
if_unheard false n = refl

module _ {K : Type 0} where
  -- with another info, and other failures
  abbrev pub with_news : Option (Info K) → ℕ → Values K → Values K
  with_news info failed v =
      record { primary = v.primary; secondary = v.secondary; boot = v.boot; opened = v.opened; connected = v.connected; info = info; dialled = v.dialled; failed = failed }

  -- an info taken, if it is news of a peer of which infos are taken
  abbrev pub heed : Bool → Info K → Values K → Values K
  heed mine i v = cond (heard mine v && is_news v.info i) (with_news (Some i) 0 v) v

  abbrev pub heed_all : Bool → List (Info K) → Values K → Values K
  heed_all mine [] v = v
  heed_all mine (i ∷ is) v = heed_all mine is (heed mine i v)

  -- that is what the history says

  abbrev told_values : List (Info K) → Values K → Values K
  told_values is v = with_news (newest_of v.info is) (cond (any_news v.info is) 0 v.failed) v

  heed-heard : (mine : Bool) (is : List (Info K)) (v : Values K) → heard mine v ≡ true → heed_all mine is v ≡ told_values is v
  heed-heard mine [] v h = refl
  heed-heard mine (i ∷ is) v h = by (is_news v.info i) refl (heed-heard mine is (with_news (Some i) 0 v) h) (heed-heard mine is v h)
    where
      by : (t : Bool) → is_news v.info i ≡ t → heed_all mine is (with_news (Some i) 0 v) ≡ told_values is (with_news (Some i) 0 v) → heed_all mine is v ≡ told_values is v → heed_all mine (i ∷ is) v ≡ told_values (i ∷ is) v
      by true e p q = rw (h, e) (p ∙ ap (λ n. with_news (newest_of (Some i) is) n v) (none_or_none (any_news (Some i) is)))
      by false e p q = rw (h, e) q

  heed_unheard : (mine : Bool) (is : List (Info K)) (v : Values K) → heard mine v ≡ false → heed_all mine is v ≡ v
  heed_unheard mine [] v h = refl
  heed_unheard mine (i ∷ is) v h = rw h (heed_unheard mine is v h)

  pub next-told : (mine : Bool) (is : List (Info K)) (v : Values K) (o : Option (Record K)) → Tied mine v o → acted mine (Told is) v ≡ heed_all mine is v
  next-told mine is v o t = by (heard mine v) refl
    where
      at : Bool → Values K
      at b = with_news (cond b (newest_of v.info is) None) (cond (any_news v.info is && b || false) 0 v.failed) v

      by : (b : Bool) → heard mine v ≡ b → acted mine (Told is) v ≡ heed_all mine is v
      by true h =
          ap at h
          ∙ ap (λ n. with_news (newest_of v.info is) n v) (if_heard (any_news v.info is) v.failed)
          ∙ sym (heed-heard mine is v h)
      by false h =
          ap at h
          ∙ ap (λ n. with_news None n v) (if_unheard (any_news v.info is) v.failed)
          ∙ ap (λ x. with_news x v.failed v) (sym (cond-false (heard mine v) v.info None h) ∙ gated mine v o t)
          ∙ sym (heed_unheard mine is v h)

  -- and it is what becomes of the record

  taken_since : (info : Option (Info K)) (boot : Option Ingress) (failed : ℕ) (i : Info K) → takes (address_by info boot failed) i ≡ is_news info i
  taken_since (Some last) boot failed i = refl
  taken_since None (Some b) failed i = refl
  taken_since None None failed i = refl

  never_ours : (address : Address K) (i : Info K) → is_myself address ≡ true → takes address i ≡ false
  never_ours Unknown i e = absurd (both_ways false refl e)
  never_ours (Myself own) i e = refl
  never_ours (Bootstrapper ingress) i e = absurd (both_ways false refl e)
  never_ours (Discovered info failures) i e = absurd (both_ways false refl e)

  learned_theirs : (v : Values K) (r : Record K) (i : Info K) → Theirs v r → Theirs (with_news (Some i) 0 v) (with_address r (Discovered i 0))
  learned_theirs v r i t =
      record {
        stays = t.stays;
        linked = t.linked;
        status_so = t.status_so;
        role_so = t.role_so;
        address_so = refl;
        primary_so = t.primary_so;
        secondary_so = t.secondary_so;
        persistent_so = t.persistent_so;
      }

module _ {K : Type 0} (order : K → K → Ordering) where
  -- an info is taken by both, or by neither
  abbrev pub Heeded : Bool → Info K → Values K → Option (Record K) → Type 0
  Heeded mine i v o = ((info_turn order i o ≡ None) × (heed mine i v ≡ v)) ⊎ ((r : Record K) × (info_turn order i o ≡ Some r) × (mine ≡ false) × Theirs (heed mine i v) r)

  pub heeded : (mine : Bool) (i : Info K) (v : Values K) (o : Option (Record K)) → Tied mine v o → Heeded mine i v o
  heeded true i v None t = absurd t
  heeded true i v (Some r) t = inl (cond-false (takes r.address i) _ _ (never_ours r.address i t.myself), refl)
  heeded false i v None t = inl (refl, ap (λ b. cond (b && is_news v.info i) (with_news (Some i) 0 v) v) (unheard v t))
    where
      unheard : (w : Values K) → Gone w → (seat w || w.opened) ≡ false
      unheard w g = rw (g.primary_none, g.secondary_none, g.boot_none, g.closed)
  heeded false i v (Some r) t = by (is_news v.info i) refl
    where
      same : takes r.address i ≡ is_news v.info i
      same = ap (λ a. takes a i) t.address_so ∙ taken_since v.info v.boot v.failed i

      by : (b : Bool) → is_news v.info i ≡ b → Heeded false i v (Some r)
      by true e =
          let k = same ∙ e in
          let g : heed false i v ≡ with_news (Some i) 0 v = rw (t.stays, e) in
          inr (with_address r (Discovered i 0), cond-true (takes r.address i) _ _ k ∙ ap (λ b. Some (cond b (with_address r (Discovered i 0)) r)) k, refl, subst (λ w. Theirs w (with_address r (Discovered i 0))) (sym g) (learned_theirs v r i t))
      by false e = inl (cond-false (takes r.address i) _ _ (same ∙ e), rw (t.stays, e))

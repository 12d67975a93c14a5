-- Each call about one peer keeps a state tied to the history.
use Rattle.std.proofs.Common.{◌≡◌, ℕ, Bool, true, false, cond, List, ◌∷◌, Some, None, Option, Ordering, sym, refl, ap, ◌∙◌, subst, ⊎_elim}
use Rattle.std.proofs.lemmas.Bool.{cond-true, cond-false, cond_both}
use Rattle.types.specs.declared.moment.Moment.{Moment}
use Rattle.keys.specs.Order.{Lawful}
use Rattle.keys.specs.Orders.{never}
use Rattle.record.specs.Cases.{is_inert}
use Rattle.record.specs.Records.{connected_from, reserved_at}
use Rattle.record.specs.declared.record.Record.{Record}
use Rattle.record.specs.declared.role.Role.TheVariants.{Dialer, Listener}
use Rattle.record.specs.declared.status.Status.TheVariants.{Reserved}
use Rattle.key_list.specs.Keys.{is_equal}
use Rattle.tables.specs.Listings.{lookup}
use Rattle.tables.proofs.Entries.{same_or_not, unequal, equal_itself}
use Rattle.model.specs.Calls.{turn_answer, block_of, after_reserving, after_telling}
use Rattle.model.specs.Peers.{Turn, refuse, write, erase, is_blocked, dial_turn, listen_turn, connect_turn, release_turn}
use Rattle.model.specs.Runs.{Call, Dial, Listen, Connect, Release, Answer, Refused, Done, done_or, answer, after}
use Rattle.model.specs.State.{State}
use Rattle.model.specs.declared.fault.Fault.{Fault}
use Rattle.model.specs.declared.fault.Fault.TheVariants as fault
use Rattle.laws.specs.History.{Start, Event, Act, Dialled, Listened, Connected, Released, Other, act, tracked, followed_by, newest_part, primary_count, secondary_count, is_own, all_sets, sets_held, is_open}
use Rattle.laws.proofs.Cases.{let_go, never_dialled, never_eligible, dial_cases, listen_cases, connect_cases, release_cases}
use Rattle.laws.proofs.States.{Fair, Sound, wants, sound_same, sound-reserved, sound-written, sound_erased}
use Rattle.laws.proofs.Turns.{open_closed, released_open, dialled-theirs, listened_theirs, connected-theirs, released-near, dialled-lacking, listened_lacking}
use Rattle.laws.proofs.Values.{Values, Tied, lacking, next, acted, next-still, near_kept, near_deleted, values, values_more}

abbrev pub event : {K : Type 0} → Call K → Answer K → Event K
event c a = record { call = c; answer = a }

module _ {K : Type 0} (order : K → K → Ordering) (start : Start K) where
  -- what a history says of a peer after one act more, with the same sets
  abbrev pub follow : List (Event K) → K → Act K → Values K
  follow h k a = acted (is_own order start k) a (values order start h k)

  -- a state is tied to a history
  abbrev pub Follows : List (Event K) → State K → Type 0
  Follows h s = Sound order start (values order start h) (sets_held order start h) s

  -- a state is tied to a history with one event more, which reserved and released fairly
  abbrev pub Kept : List (Event K) → Event K → State K → Type 0
  Kept h e s = Follows (e ∷ h) s × ((k : K) → Fair (act order k e) (is_open order k h))

module _ {K : Type 0} (order : K → K → Ordering) (lawful : Lawful order) (start : Start K) (h : List (Event K)) (s : State K) (sound : Follows order start h s) where
  -- an event that tracks no set leaves the sets
  same_sets : (e : Event K) → tracked order e ≡ None → sets_held order start (e ∷ h) ≡ sets_held order start h
  same_sets e q = ap (λ o. newest_part start.config.max_sets (followed_by (all_sets order start h) o)) q

  pub values-act : (e : Event K) (k : K) (a : Act K) → tracked order e ≡ None → act order k e ≡ a → values order start (e ∷ h) k ≡ follow order start h k a
  values-act e k a q p =
      values_more order start h k e
      ∙ ap (λ x. next (is_own order start k) x (primary_count order k (sets_held order start (e ∷ h))) (secondary_count order k (sets_held order start (e ∷ h))) (values order start h k)) p
      ∙ ap (λ x. next (is_own order start k) a (primary_count order k x) (secondary_count order k x) (values order start h k)) (same_sets e q)

  values-still : (e : Event K) (k : K) → tracked order e ≡ None → act order k e ≡ Other → values order start (e ∷ h) k ≡ values order start h k
  values-still e k q p = values-act e k Other q p ∙ next-still (is_own order start k) (values order start h k) (lookup order k s.records) (sound.tied k)

  -- an event that is nothing to anybody
  pub kept_idle : (e : Event K) → tracked order e ≡ None → ((k : K) → act order k e ≡ Other) → Kept order start h e s
  kept_idle e q p = (
    subst (λ x. Sound order start (values order start (e ∷ h)) x s) (sym (same_sets e q))
        (sound_same order start (values order start h) (values order start (e ∷ h)) (sets_held order start h) s (λ k. values-still e k q (p k)) sound),
    λ k. subst (λ a. Fair a (is_open order k h)) (sym (p k)) tt,
  )

  -- an event about one peer
  module _ (e : Event K) (j : K) (a : Act K) (q : tracked order e ≡ None) (p : (k : K) → act order k e ≡ cond (is_equal (order j k)) a Other) where
    here : values order start (e ∷ h) j ≡ follow order start h j a
    here = values-act e j a q (p j ∙ cond-true (is_equal (order j j)) a Other (equal_itself order lawful j))

    others : (k : K) → (j ≡ k → ⊥) → values order start (e ∷ h) k ≡ values order start h k
    others k n = values-still e k q (p k ∙ cond-false (is_equal (order j k)) a Other (unequal order lawful j k n))

    fairly : Fair a (is_open order j h) → (k : K) → Fair (act order k e) (is_open order k h)
    fairly f k =
        ⊎_elim
        (λ s. subst (λ x. Fair x (is_open order k h)) (sym (p k ∙ cond-true (is_equal (order j k)) a Other (ap (λ x. is_equal (order j x)) (sym s) ∙ equal_itself order lawful j))) (subst (λ x. Fair a (is_open order x h)) s f))
        (λ n. subst (λ x. Fair x (is_open order k h)) (sym (p k ∙ cond-false (is_equal (order j k)) a Other (unequal order lawful j k n))) tt)
        (same_or_not order lawful j k)

    moved : (o : Option (Record K)) → Tied (is_own order start j) (follow order start h j a) o → Tied (is_own order start j) (values order start (e ∷ h) j) o
    moved o t = subst (λ v. Tied (is_own order start j) v o) (sym here) t

    finished : (s' : State K) → Fair a (is_open order j h) → Sound order start (values order start (e ∷ h)) (sets_held order start h) s' → Kept order start h e s'
    finished s' f x = (subst (λ z. Sound order start (values order start (e ∷ h)) z s') (sym (same_sets e q)) x, fairly f)

    pub kept_reserved : (r : Record K) → Fair a (is_open order j h) → lacking start.config.dial_fail_limit (is_own order start j) (follow order start h j a) ≡ wants order start (values order start h) j → Tied (is_own order start j) (follow order start h j a) (Some r) → Kept order start h e (after_reserving order s j (write r))
    kept_reserved r f w t =
        finished _ f
        (sound-reserved order lawful start (values order start h) (values order start (e ∷ h)) (sets_held order start h) s j others (ap (λ v. v.primary) here) (ap (λ v. v.secondary) here) sound r (ap (lacking start.config.dial_fail_limit (is_own order start j)) here ∙ w) (moved (Some r) t))

    pub kept_written : (r : Record K) → Fair a (is_open order j h) → Tied (is_own order start j) (follow order start h j a) (Some r) → Kept order start h e (after_telling order s j (write r))
    kept_written r f t =
        finished _ f
        (sound-written order lawful start (values order start h) (values order start (e ∷ h)) (sets_held order start h) s j others (ap (λ v. v.primary) here) (ap (λ v. v.secondary) here) sound r (moved (Some r) t))

    pub kept_erased : (r : Record K) → Fair a (is_open order j h) → Tied (is_own order start j) (follow order start h j a) None → Kept order start h e (after_telling order s j (erase r))
    kept_erased r f t =
        finished _ f
        (sound_erased order lawful start (values order start h) (values order start (e ∷ h)) (sets_held order start h) s j others (ap (λ v. v.primary) here) (ap (λ v. v.secondary) here) sound r (moved None t))

module _ {K : Type 0} (order : K → K → Ordering) (lawful : Lawful order) (start : Start K) (h : List (Event K)) (s : State K) (sound : Follows order start h s) (j : K) where
  abbrev limit : ℕ
  limit = start.config.dial_fail_limit

  -- what the history says of the peer
  abbrev said : Values K
  said = values order start h j

  -- a reservation

  module _ (now : Moment) (draw : ℕ) where
    abbrev DialKept : Turn K → Type 0
    DialKept t = Kept order start h (event (Dial now draw j) (done_or (turn_answer t))) (after_reserving order s j t)

    refused-dial : (f : Fault) → DialKept (refuse f)
    refused-dial f = kept_idle order lawful start h s sound (event (Dial now draw j) (Refused f)) refl (λ k. refl)

    dial_there : (mine : Bool) (o : Option (Record K)) → is_own order start j ≡ mine → Tied mine said o → DialKept (dial_turn s.config now draw (block_of order s j) o)
    dial_there mine None m t = refused-dial fault.NoRecord
    dial_there true (Some r) m t =
        dial_cases DialKept refused-dial r s.config now draw (block_of order s j)
        (λ ingress i d. absurd (never_dialled r.address ingress t.myself d))
    dial_there false (Some r) m t =
        dial_cases DialKept refused-dial r s.config now draw (block_of order s j)
        (λ ingress i d. kept_reserved order lawful start h s sound (event (Dial now draw j) Done) j Dialled refl (λ k. refl) _ (open_closed said r t i)
        (subst (λ b. lacking limit b (acted b Dialled said) ≡ lacking limit b said) (sym m) (dialled-lacking limit said))
        (subst (λ b. Tied b (acted b Dialled said) (Some (reserved_at r now draw s.config.peer_connection_cooldown (Dialer ingress)))) (sym m)
        (dialled-theirs said r now draw s.config.peer_connection_cooldown ingress t i d)))

    pub dial_kept : Kept order start h (event (Dial now draw j) (answer order s (Dial now draw j))) (after order s (Dial now draw j))
    dial_kept = dial_there (is_own order start j) (lookup order j s.records) refl (sound.tied j)

    abbrev ListenKept : Turn K → Type 0
    ListenKept t = Kept order start h (event (Listen now draw j) (done_or (turn_answer t))) (after_reserving order s j t)

    refused-listen : (f : Fault) → ListenKept (refuse f)
    refused-listen f = kept_idle order lawful start h s sound (event (Listen now draw j) (Refused f)) refl (λ k. refl)

    listen_there : (mine : Bool) (o : Option (Record K)) → is_own order start j ≡ mine → Tied mine said o → ListenKept (listen_turn s.config now draw (block_of order s j) o)
    listen_there mine None m t = cond_both (is_blocked now (block_of order s j)) _ _ ListenKept (λ e. refused-listen fault.Blocked) (λ e. refused-listen fault.NoRecord)
    listen_there true (Some r) m t =
        listen_cases ListenKept refused-listen r s.config now draw (block_of order s j)
        (λ i e. absurd (never_eligible r t.myself e))
    listen_there false (Some r) m t =
        listen_cases ListenKept refused-listen r s.config now draw (block_of order s j)
        (λ i e. kept_reserved order lawful start h s sound (event (Listen now draw j) Done) j Listened refl (λ k. refl) _ (open_closed said r t i)
        (subst (λ b. lacking limit b (acted b Listened said) ≡ lacking limit b said) (sym m) (listened_lacking limit said))
        (subst (λ b. Tied b (acted b Listened said) (Some (reserved_at r now draw s.config.peer_connection_cooldown Listener))) (sym m)
        (listened_theirs said r now draw s.config.peer_connection_cooldown t i)))

    pub listen_kept : Kept order start h (event (Listen now draw j) (answer order s (Listen now draw j))) (after order s (Listen now draw j))
    listen_kept = listen_there (is_own order start j) (lookup order j s.records) refl (sound.tied j)

  -- a connect

  abbrev ConnectKept : Turn K → Type 0
  ConnectKept t = Kept order start h (event (Connect j) (done_or (turn_answer t))) (after_telling order s j t)

  refused_connect : (f : Fault) → ConnectKept (refuse f)
  refused_connect f = kept_idle order lawful start h s sound (event (Connect j) (Refused f)) refl (λ k. refl)

  connect_there : (mine : Bool) (o : Option (Record K)) → is_own order start j ≡ mine → Tied mine said o → ConnectKept (connect_turn o)
  connect_there mine None m t = refused_connect fault.NoRecord
  connect_there true (Some r) m t = connect_cases ConnectKept refused_connect r (λ e. never (let i = t.inert in cc))
  connect_there false (Some r) m t =
      connect_cases ConnectKept refused_connect r
      (λ e. kept_written order lawful start h s sound (event (Connect j) Done) j Connected refl (λ k. refl) _ tt
      (subst (λ b. Tied b (acted b Connected said) (Some (connected_from r Reserved))) (sym m) (connected-theirs said r t e)))

  pub connect_kept : Kept order start h (event (Connect j) (answer order s (Connect j))) (after order s (Connect j))
  connect_kept = connect_there (is_own order start j) (lookup order j s.records) refl (sound.tied j)

  -- a release

  abbrev ReleaseKept : Turn K → Type 0
  ReleaseKept t = Kept order start h (event (Release j) (done_or (turn_answer t))) (after_telling order s j t)

  refused_release : (f : Fault) → ReleaseKept (refuse f)
  refused_release f = kept_idle order lawful start h s sound (event (Release j) (Refused f)) refl (λ k. refl)

  release_there : (mine : Bool) (o : Option (Record K)) → is_own order start j ≡ mine → Tied mine said o → ReleaseKept (release_turn o)
  release_there mine None m t = refused_release fault.NoRecord
  release_there true (Some r) m t =
      release_cases ReleaseKept refused_release r
      (λ i d. never (let e = ap is_inert t.inert in cc))
      (λ i d. never (let e = ap is_inert t.inert in cc))
  release_there false (Some r) m t =
      release_cases ReleaseKept refused_release r
      (λ i d. kept_erased order lawful start h s sound (event (Release j) Done) j Released refl (λ k. refl) (let_go r) (released_open said r t i)
      (subst (λ b. Tied b (acted b Released said) None) (sym m) (near_deleted _ said.info (let_go r) (released-near said r t i) d)))
      (λ i d. kept_written order lawful start h s sound (event (Release j) Done) j Released refl (λ k. refl) (let_go r) (released_open said r t i)
      (subst (λ b. Tied b (acted b Released said) (Some (let_go r))) (sym m) (near_kept _ said.info (let_go r) (released-near said r t i) d)))

  pub release_kept : Kept order start h (event (Release j) (answer order s (Release j))) (after order s (Release j))
  release_kept = release_there (is_own order start j) (lookup order j s.records) refl (sound.tied j)

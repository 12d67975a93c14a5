-- Infos, blocks and their end keep a state tied to the history.
use Rattle.std.proofs.Common.{◌≡◌, Bool, true, false, cond, ◌&&◌, List, [], ◌∷◌, is_ok, Some, Ok, Err, Result, Ordering, sym, refl, ap, ◌∙◌, subst, ⊎_elim}
use Rattle.std.proofs.lemmas.Bool.{cond-true, cond-false}
use Rattle.types.specs.Times.{plus}
use Rattle.types.specs.declared.info.Info.{Info}
use Rattle.types.specs.declared.moment.Moment.{Moment}
use Rattle.keys.specs.Order.{Lawful}
use Rattle.key_list.specs.Keys.{is_equal}
use Rattle.tables.specs.Listings.{lookup, put}
use Rattle.tables.proofs.Entries.{same_or_not, unequal, equal_itself}
use Rattle.model.specs.Calls.{with_blocks, all_well_formed, learnt, after_info, after_infos, taken, block_answer, unexpired, any_expired}
use Rattle.model.specs.Runs.{UpdatePeers, Block, UnblockExpired, Refused, Done, Taken, Unblocked, done_or, taken_or, answer, after}
use Rattle.model.specs.State.{State}
use Rattle.model.specs.declared.fault.Fault.{Fault}
use Rattle.model.specs.declared.fault.Fault.TheVariants as fault
use Rattle.laws.specs.History.{Held, Start, Event, Told, is_news, infos_of, is_own, sets_held}
use Rattle.laws.proofs.News.{with_news, heed, heed_all, next-told, heeded}
use Rattle.laws.proofs.States.{Sound, sound_same, sound-written}
use Rattle.laws.proofs.Steps.{event, Follows, Kept, kept_idle, values-act}
use Rattle.laws.proofs.Values.{Values, Tied, heard, values}

module _ {K : Type 0} where
  heed-primary : (mine : Bool) (i : Info K) (v : Values K) → (heed mine i v).primary ≡ v.primary
  heed-primary mine i v = by (heard mine v && is_news v.info i)
    where
      by : (b : Bool) → (cond b (with_news (Some i) 0 v) v).primary ≡ v.primary
      by true = refl
      by false = refl

  heed-secondary : (mine : Bool) (i : Info K) (v : Values K) → (heed mine i v).secondary ≡ v.secondary
  heed-secondary mine i v = by (heard mine v && is_news v.info i)
    where
      by : (b : Bool) → (cond b (with_news (Some i) 0 v) v).secondary ≡ v.secondary
      by true = refl
      by false = refl

  heed_if : (mine : Bool) (i : Info K) (is : List (Info K)) (v : Values K) (b : Bool) → heed_all mine (cond b (i ∷ is) is) v ≡ heed_all mine is (cond b (heed mine i v) v)
  heed_if mine i is v true = refl
  heed_if mine i is v false = refl

module _ {K : Type 0} (order : K → K → Ordering) (lawful : Lawful order) (start : Start K) where
  -- what a history says once one info has come
  abbrev heed_at : Info K → (K → Values K) → K → Values K
  heed_at i vals k = cond (is_equal (order i.public_key k)) (heed (is_own order start k) i (vals k)) (vals k)

  sound-info : (i : Info K) (vals : K → Values K) (sets : List (Held K)) (s : State K) → Sound order start vals sets s → Sound order start (heed_at i vals) sets (after_info order s i)
  sound-info i vals sets s h =
      ⊎_elim
      (λ n. subst (λ o. Sound order start (heed_at i vals) sets (learnt order s i o)) (sym n.0) (sound_same order start vals (heed_at i vals) sets s (unchanged n.1) h))
      (λ t. subst (λ o. Sound order start (heed_at i vals) sets (learnt order s i o)) (sym t.1)
      (sound-written order lawful start vals (heed_at i vals) sets s j others (ap (λ v. v.primary) here ∙ heed-primary _ i (vals j)) (ap (λ v. v.secondary) here ∙ heed-secondary _ i (vals j)) h t.0
      (subst (λ v. Tied (is_own order start j) v (Some t.0)) (sym here) (subst (λ b. Tied b (heed (is_own order start j) i (vals j)) (Some t.0)) (sym t.2) t.3))))
      (heeded order (is_own order start j) i (vals j) (lookup order j s.records) (h.tied j))
    where
      j : K
      j = i.public_key

      here : heed_at i vals j ≡ heed (is_own order start j) i (vals j)
      here = cond-true (is_equal (order j j)) _ _ (equal_itself order lawful j)

      others : (k : K) → (j ≡ k → ⊥) → heed_at i vals k ≡ vals k
      others k n = cond-false (is_equal (order j k)) _ _ (unequal order lawful j k n)

      unchanged : heed (is_own order start j) i (vals j) ≡ vals j → (k : K) → heed_at i vals k ≡ vals k
      unchanged e k = ⊎_elim (λ p. subst (λ x. heed_at i vals x ≡ vals x) p (here ∙ e)) (others k) (same_or_not order lawful j k)

  sound-infos : (is : List (Info K)) (vals : K → Values K) (sets : List (Held K)) (s : State K) → Sound order start vals sets s → Sound order start (λ k. heed_all (is_own order start k) (infos_of order k is) (vals k)) sets (after_infos order s is)
  sound-infos [] vals sets s h = h
  sound-infos (i ∷ is) vals sets s h =
      sound_same order start (λ k. heed_all (is_own order start k) (infos_of order k is) (heed_at i vals k)) (λ k. heed_all (is_own order start k) (infos_of order k (i ∷ is)) (vals k)) sets (after_infos order (after_info order s i) is)
      (λ k. heed_if (is_own order start k) i (infos_of order k is) (vals k) (is_equal (order i.public_key k)))
      (sound-infos is (heed_at i vals) sets (after_info order s i) (sound-info i vals sets s h))

module _ {K : Type 0} (order : K → K → Ordering) (lawful : Lawful order) (start : Start K) (h : List (Event K)) (s : State K) (sound : Follows order start h s) where
  -- infos

  module _ (infos : List (Info K)) where
    abbrev UpdateKept : Bool → Type 0
    UpdateKept formed = Kept order start h (event (UpdatePeers infos) (taken_or (cond formed (Ok (taken order s infos)) (Err fault.MalformedHost)))) (cond formed (after_infos order s infos) s)

    updated-values : (k : K) → values order start (event (UpdatePeers infos) (Taken (taken order s infos)) ∷ h) k ≡ heed_all (is_own order start k) (infos_of order k infos) (values order start h k)
    updated-values k =
        values-act order lawful start h s sound (event (UpdatePeers infos) (Taken (taken order s infos))) k (Told (infos_of order k infos)) refl refl
        ∙ next-told (is_own order start k) (infos_of order k infos) (values order start h k) (lookup order k s.records) (sound.tied k)

    update_by : (formed : Bool) → UpdateKept formed
    update_by true = (
      sound_same order start (λ k. heed_all (is_own order start k) (infos_of order k infos) (values order start h k)) (values order start (event (UpdatePeers infos) (Taken (taken order s infos)) ∷ h)) (sets_held order start h) (after_infos order s infos) updated-values
          (sound-infos order lawful start infos (values order start h) (sets_held order start h) s sound),
      λ k. tt,
    )
    update_by false = kept_idle order lawful start h s sound (event (UpdatePeers infos) (Refused fault.MalformedHost)) refl (λ k. refl)

    pub update_kept : Kept order start h (event (UpdatePeers infos) (answer order s (UpdatePeers infos))) (after order s (UpdatePeers infos))
    update_kept = update_by (all_well_formed order infos)

  -- blocks

  kept_blocks : (e : Event K) (blocks : List (K × Moment)) → Kept order start h e s → Kept order start h e (with_blocks order s blocks)
  kept_blocks e blocks t = (
    record {
      own_same = t.0.own_same;
      config_same = t.0.config_same;
      counted = t.0.counted;
      ordered = t.0.ordered;
      tied = t.0.tied;
      primaries_so = t.0.primaries_so;
      secondaries_so = t.0.secondaries_so;
      sets_so = t.0.sets_so;
      proper = t.0.proper;
      bits = t.0.bits;
    },
    t.1,
  )

  module _ (now : Moment) (j : K) where
    abbrev BlockKept : Result (Unit {0}) Fault → Type 0
    BlockKept r = Kept order start h (event (Block now j) (done_or r)) (cond (is_ok r) (with_blocks order s (put order j (plus now s.config.block_duration) s.blocks)) s)

    block_by : (r : Result (Unit {0}) Fault) → BlockKept r
    block_by (Ok u) = kept_blocks (event (Block now j) Done) _ (kept_idle order lawful start h s sound (event (Block now j) Done) refl (λ k. refl))
    block_by (Err f) = kept_idle order lawful start h s sound (event (Block now j) (Refused f)) refl (λ k. refl)

    pub block_kept : Kept order start h (event (Block now j) (answer order s (Block now j))) (after order s (Block now j))
    block_kept = block_by (block_answer order s now j)

  pub unblock_kept : (now : Moment) → Kept order start h (event (UnblockExpired now) (answer order s (UnblockExpired now))) (after order s (UnblockExpired now))
  unblock_kept now =
      kept_blocks (event (UnblockExpired now) (Unblocked (any_expired now s.blocks))) (unexpired now s.blocks)
      (kept_idle order lawful start h s sound (event (UnblockExpired now) (Unblocked (any_expired now s.blocks))) refl (λ k. refl))

-- The law holds at a start and after every call.
use Rattle.std.proofs.Common.{◌≡◌, ℕ, zero, suc, ◌+◌, ◌≤◌, Bool, true, false, cond, not, ◌&&◌, ◌||◌, ltb, List, [], ◌∷◌, take, is_some, Some, None, Option, Ordering, sym, refl, ap, ◌∙◌, subst}
use Rattle.std.specs.List.{AllByRecursion}
use Rattle.std.proofs.lemmas.Bool.{both_ways, cond-true, or_parts}
use Rattle.keys.specs.Order.{Lawful}
use Rattle.record.specs.Cases.{is_inert}
use Rattle.record.specs.declared.record.Record.{Record}
use Rattle.tables.specs.Listings.{lookup}
use Rattle.model.specs.Runs.{Call, Track, Dial, Listen, Connect, Release, UpdatePeers, Block, UnblockExpired, answer, after, run_state, run_answers}
use Rattle.model.specs.State.{State}
use Rattle.laws.specs.History.{Start, Event, accepted, count, info_in, failures_in, act, reserves, releases, set_of, primary_count, secondary_count, is_own, bootstrapper, sets_held, is_open, has_seat}
use Rattle.laws.specs.Law.{busy, LinksNamed, Law}
use Rattle.laws.specs.Starts.{address_by, onto, history_of, Proper, First, Begins, Reached, begun, more}
use Rattle.laws.proofs.Marks.{bits_from_each, each_from_bits}
use Rattle.laws.proofs.Sets.{part_fits}
use Rattle.laws.proofs.States.{wants, one_if, fair_balance}
use Rattle.laws.proofs.Steps.{event, Follows, Kept, dial_kept, listen_kept, connect_kept, release_kept}
use Rattle.laws.proofs.TrackSteps.{links_idle, track_kept}
use Rattle.laws.proofs.Updates.{update_kept, block_kept, unblock_kept}
use Rattle.laws.proofs.Values.{Values, Tied, status_by, inert_by, no_seat, values, cond_same}

-- the law of one peer, from what ties its record to the history

module _ {K : Type 0} where
  busy_by : (r : Record K) (o c : Bool) → r.status ≡ status_by o c → one_if o ≡ busy (Some r)
  busy_by r o c e = one_by o ∙ ap (λ x. cond x 0 1) (sym (ap is_inert e ∙ inert_by o c))
    where
      one_by : (b : Bool) → one_if b ≡ cond (not b) 0 1
      one_by true = refl
      one_by false = refl

  busy-tied : (mine : Bool) (v : Values K) (o : Option (Record K)) → Tied mine v o → one_if v.opened ≡ busy o
  busy-tied true v None t = absurd t
  busy-tied true v (Some r) t = ap one_if t.closed ∙ ap (λ x. cond (is_inert x) 0 1) (sym t.inert)
  busy-tied false v None t = ap one_if t.closed
  busy-tied false v (Some r) t = busy_by r v.opened v.connected t.status_so

  recorded-tied : (mine : Bool) (v : Values K) (o : Option (Record K)) → Tied mine v o → (ltb 0 v.primary || ltb 0 v.secondary) ≡ true → is_some o ≡ true
  recorded-tied true v None t e = absurd t
  recorded-tied false v None t e = absurd (both_ways (ltb 0 v.primary || ltb 0 v.secondary) (let a = t.primary_none in let b = t.secondary_none in rw (a, b)) e)
  recorded-tied true v (Some r) t e = refl
  recorded-tied false v (Some r) t e = refl

  primary-tied : (mine : Bool) (v : Values K) (r : Record K) → Tied mine v (Some r) → r.primary_sets ≡ v.primary
  primary-tied true v r t = t.primary_so
  primary-tied false v r t = t.primary_so

  secondary-tied : (mine : Bool) (v : Values K) (r : Record K) → Tied mine v (Some r) → r.secondary_sets ≡ v.secondary
  secondary-tied true v r t = t.secondary_so
  secondary-tied false v r t = t.secondary_so

module _ {K : Type 0} (order : K → K → Ordering) (start : Start K) where
  -- what is kept from call to call
  pub record Bound (h : List (Event K)) (s : State K) : Type 0 where
    pub some_held : 1 ≤ start.config.max_sets
    pub few_held : start.config.max_sets ≤ 8
    pub follows : Follows order start h s
    pub balance : (k : K) → count (reserves order k) h ≡ count (releases order k) h + one_if (is_open order k h)
    pub links : LinksNamed order start h

module _ {K : Type 0} (order : K → K → Ordering) (lawful : Lawful order) (start : Start K) where
  law_from : (h : List (Event K)) (s : State K) → Bound order start h s → Law order start h s
  law_from h s b =
      record {
        balanced = λ k. b.balance k ∙ ap (λ n. count (releases order k) h + n) (busy-tied (is_own order start k) (values order start h k) (lookup order k s.records) (b.follows.tied k));
        sets_agree = b.follows.sets_so;
        members_recorded = λ k. recorded-tied (is_own order start k) (values order start h k) (lookup order k s.records) (b.follows.tied k);
        primary_counted = λ k r e. primary-tied (is_own order start k) (values order start h k) r (subst (Tied (is_own order start k) (values order start h k)) e (b.follows.tied k));
        secondary_counted = λ k r e. secondary-tied (is_own order start k) (values order start h k) r (subst (Tied (is_own order start k) (values order start h k)) e (b.follows.tied k));
        bits_agree = each_from_bits order lawful (wants order start (values order start h)) s.sets (subst (AllByRecursion (Proper order)) (sym b.follows.sets_so) b.follows.proper) b.follows.bits;
        links_named = b.links;
      }

  -- at the start

  module _ (s : State K) (b : Begins order start s) where
    start-sets : sets_held order start [] ≡ start.sets
    start-sets = part_fits start.config.max_sets start.sets b.within

    first_ours : (k : K) (o : Option (Record K)) → is_own order start k ≡ true → First order start k o → Tied true (values order start [] k) o
    first_ours k None m f = absurd (both_ways _ f (ap (λ x. x || has_seat order start k []) m))
    first_ours k (Some r) m f =
        record {
          closed = refl;
          unconnected = refl;
          untold = ap (λ x. cond (not x && (has_seat order start k [] || false)) (info_in (lookup order k start.infos)) None) m;
          inert = f.inert;
          myself = f.ours m;
          primary_so = f.primary_counted ∙ ap (primary_count order k) (sym start-sets);
          secondary_so = f.secondary_counted ∙ ap (secondary_count order k) (sym start-sets);
          persistent_so = f.stays ∙ ap (λ x. x || is_some (bootstrapper order start k)) m;
        }

    first_theirs : (k : K) (o : Option (Record K)) → is_own order start k ≡ false → First order start k o → Tied false (values order start [] k) o
    first_theirs k None m f =
        let none = (or_parts (is_own order start k) (has_seat order start k []) f).1 in
        let n = no_seat (primary_count order k (sets_held order start [])) (secondary_count order k (sets_held order start [])) (bootstrapper order start k) none in
        record {
          primary_none = n.0;
          secondary_none = n.1;
          boot_none = n.2;
          closed = refl;
          unconnected = refl;
          untold = rw (m, none);
        }
    first_theirs k (Some r) m f =
        let sits : has_seat order start k [] ≡ true = ap (λ x. x || has_seat order start k []) (sym m) ∙ f.held in
        let heard : (not (is_own order start k) && (has_seat order start k [] || false)) ≡ true = rw (m, sits) in
        record {
          stays = ap (λ x. x || false) sits;
          linked = λ e. e;
          status_so = f.inert;
          role_so = λ e. absurd (both_ways false refl e);
          address_so = f.theirs m ∙ ap (λ x. address_by x (bootstrapper order start k) (failures_in (lookup order k start.infos))) (sym (cond-true _ (info_in (lookup order k start.infos)) None heard));
          primary_so = f.primary_counted ∙ ap (primary_count order k) (sym start-sets);
          secondary_so = f.secondary_counted ∙ ap (secondary_count order k) (sym start-sets);
          persistent_so = f.stays ∙ ap (λ x. x || is_some (bootstrapper order start k)) m;
        }

    first_tied : (k : K) (m : Bool) → is_own order start k ≡ m → First order start k (lookup order k s.records) → Tied m (values order start [] k) (lookup order k s.records)
    first_tied k true m f = first_ours k (lookup order k s.records) m f
    first_tied k false m f = first_theirs k (lookup order k s.records) m f

    bound_start : Bound order start [] s
    bound_start =
        record {
          some_held = b.some_held;
          few_held = b.few_held;
          follows =
              record {
                own_same = b.own_key;
                config_same = b.settings;
                counted = b.counted;
                ordered = b.ordered;
                tied = λ k. first_tied k (is_own order start k) refl (b.recorded k);
                primaries_so = λ k. refl;
                secondaries_so = λ k. refl;
                sets_so = b.sets_agree ∙ sym start-sets;
                proper = subst (AllByRecursion (Proper order)) (sym start-sets) b.proper;
                bits = bits_from_each order lawful (wants order start (values order start [])) s.sets b.bits_agree;
              };
          balance = λ k. refl;
          links = tt;
        }

  -- after one call more

  module _ (h : List (Event K)) (s : State K) (b : Bound order start h s) where
    idle : (c : Call K) → ((t : Bool) → cond t (set_of order c) None ≡ None) → LinksNamed order start (event c (answer order s c) ∷ h)
    idle c q = links_idle order start h (event c (answer order s c)) (q (accepted (answer order s c)))

    each_call : (c : Call K) → Kept order start h (event c (answer order s c)) (after order s c) × LinksNamed order start (event c (answer order s c) ∷ h)
    each_call (Track room index p q) = track_kept order lawful start b.some_held b.few_held h s b.follows room index p q
    each_call (Dial now draw k) = (dial_kept order lawful start h s b.follows k now draw, idle (Dial now draw k) (λ t. cond_same t None))
    each_call (Listen now draw k) = (listen_kept order lawful start h s b.follows k now draw, idle (Listen now draw k) (λ t. cond_same t None))
    each_call (Connect k) = (connect_kept order lawful start h s b.follows k, idle (Connect k) (λ t. cond_same t None))
    each_call (Release k) = (release_kept order lawful start h s b.follows k, idle (Release k) (λ t. cond_same t None))
    each_call (UpdatePeers infos) = (update_kept order lawful start h s b.follows infos, idle (UpdatePeers infos) (λ t. cond_same t None))
    each_call (Block now k) = (block_kept order lawful start h s b.follows now k, idle (Block now k) (λ t. cond_same t None))
    each_call (UnblockExpired now) = (unblock_kept order lawful start h s b.follows now, idle (UnblockExpired now) (λ t. cond_same t None))

    bound_more : (c : Call K) → Bound order start (event c (answer order s c) ∷ h) (after order s c)
    bound_more c =
        let t = each_call c in
        record {
          some_held = b.some_held;
          few_held = b.few_held;
          follows = t.0.0;
          balance = λ k. fair_balance (act order k (event c (answer order s c))) (is_open order k h) (count (reserves order k) h) (count (releases order k) h) (t.0.1 k) (b.balance k);
          links = t.1;
        }

  bound_reached : {h : List (Event K)} {s : State K} → Reached order start h s → Bound order start h s
  bound_reached (begun {s = s} b) = bound_start s b
  bound_reached (more {h = h} {s = s} c r) = bound_more h s (bound_reached r) c

  -- what others use

  pub reached-start : (s : State K) → Begins order start s → Reached order start [] s
  reached-start s b = begun b

  pub reached_more : (h : List (Event K)) (s : State K) (c : Call K) → Reached order start h s → Reached order start (event c (answer order s c) ∷ h) (after order s c)
  reached_more h s c r = more c r

  pub reached_law : (h : List (Event K)) (s : State K) → Reached order start h s → Law order start h s
  reached_law h s r = law_from h s (bound_reached r)

  -- a whole list of calls

  pub reached_run : (h : List (Event K)) (s : State K) (cs : List (Call K)) → Reached order start h s → Reached order start (onto h cs (run_answers order s cs)) (run_state order s cs)
  reached_run h s [] r = r
  reached_run h s (c ∷ cs) r = reached_run (event c (answer order s c) ∷ h) (after order s c) cs (more c r)

  pub answers_front : (n : ℕ) (cs : List (Call K)) (s : State K) → take n (run_answers order s cs) ≡ run_answers order s (take n cs)
  answers_front zero cs s = refl
  answers_front (suc n) [] s = refl
  answers_front (suc n) (c ∷ cs) s = ap (λ xs. answer order s c ∷ xs) (answers_front n cs (after order s c))

  pub ran_law : (s : State K) (cs : List (Call K)) (n : ℕ) → Begins order start s → Law order start (history_of (take n cs) (take n (run_answers order s cs))) (run_state order s (take n cs))
  ran_law s cs n b =
      subst (λ xs. Law order start (history_of (take n cs) xs) (run_state order s (take n cs))) (sym (answers_front n cs s))
      (reached_law _ _ (reached_run [] s (take n cs) (begun b)))

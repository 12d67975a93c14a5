-- A newly made directory is at its start.
use Rattle.std.proofs.Common.{◌≡◌, ℕ, ◌^◌, ◌<◌, ◌≤◌, Bool, true, false, cond, not, leb, List, [], ◌∷◌, is_some, Some, None, Ok, Err, Option, Result, Ordering, sym, refl, ap, ◌∙◌, subst, ⊎_elim, arith}
use Rattle.std.specs.Option.{option_map}
use Rattle.std.proofs.lemmas.Bool.{both_ways, and_parts, cond-true, cond-false, leb-true}
use Rattle.types.specs.declared.info.Info.{Info}
use Rattle.types.specs.declared.ingress.Ingress.{Ingress}
use Rattle.keys.specs.Order.{Lawful}
use Rattle.keys.specs.Orders.{never}
use Rattle.record.specs.Records.{fresh}
use Rattle.record.specs.declared.address.Address.TheVariants.{Myself, Bootstrapper}
use Rattle.record.specs.declared.record.Record.{Record}
use Rattle.key_list.specs.Keys.{is_equal}
use Rattle.tables.specs.Listings.{lookup, put, Ascending}
use Rattle.tables.proofs.Entries.{same_or_not, unequal, equal_itself, lookup-put_same, lookup-put_other, ascending-put}
use Rattle.tables.proofs.Entries.{same_from_equal}
use Rattle.joining.proofs.Joining.{unequal_since}
use Rattle.model.specs.Track.{with_bootstrappers, first_records, first_state, init_answer}
use Rattle.model.specs.declared.config.Config.{Config}
use Rattle.model.specs.declared.fault.Fault.{Fault}
use Rattle.laws.specs.History.{latest_or, primary_count, secondary_count, is_own, bootstrapper, sets_held, has_seat}
use Rattle.laws.specs.Starts.{new_start, First, Begins}
use Rattle.laws.proofs.Sets.{part_fits}
use Rattle.laws.proofs.Values.{seat_by}

-- a directory that was made holds 1 to 8 sets
sets_since : (hosts sets : Bool) (f g : Fault) (r : Result (Unit {0}) Fault) → cond (not hosts) (Err f) (cond (not sets) (Err g) r) ≡ Ok tt → sets ≡ true
sets_since true true f g r e = refl
sets_since true false f g r e = never (cc)
sets_since false sets f g r e = never (cc)

module _ {K : Type 0} where
  -- the record of a bootstrapper
  abbrev awaited : Ingress → Record K
  awaited ingress = fresh (Bootstrapper ingress) true

module _ {K : Type 0} (order : K → K → Ordering) (lawful : Lawful order) where
  ascending-bootstrappers : (bs : List (K × Ingress)) (records : List (K × Record K)) → Ascending order records → Ascending order (with_bootstrappers order bs records)
  ascending-bootstrappers [] records a = a
  ascending-bootstrappers (b ∷ bs) records a = ascending-bootstrappers bs _ (ascending-put order lawful b.0 (fresh (Bootstrapper b.1) true) records a)

  -- the later of two bootstrappers with one key stays
  lookup-bootstrappers : (k : K) (bs : List (K × Ingress)) (records : List (K × Record K)) (found : Option Ingress) → lookup order k records ≡ option_map awaited found → lookup order k (with_bootstrappers order bs records) ≡ option_map awaited (latest_or order k found bs)
  lookup-bootstrappers k [] records found e = e
  lookup-bootstrappers k (b ∷ bs) records found e = lookup-bootstrappers k bs _ (cond (is_equal (order b.0 k)) (Some b.1) found) (by (is_equal (order b.0 k)) refl)
    where
      by : (t : Bool) → is_equal (order b.0 k) ≡ t → lookup order k (put order b.0 (fresh (Bootstrapper b.1) true) records) ≡ option_map awaited (cond (is_equal (order b.0 k)) (Some b.1) found)
      by true h =
          let s = same_from_equal order lawful b.0 k h in
          ap (λ x. lookup order x (put order b.0 (fresh (Bootstrapper b.1) true) records)) (sym s)
          ∙ lookup-put_same order lawful b.0 (fresh (Bootstrapper b.1) true) records
          ∙ ap (option_map awaited) (sym (cond-true (is_equal (order b.0 k)) (Some b.1) found h))
      by false h =
          lookup-put_other order lawful b.0 k (fresh (Bootstrapper b.1) true) records (unequal_since order lawful b.0 k h)
          ∙ e
          ∙ ap (option_map awaited) (sym (cond-false (is_equal (order b.0 k)) (Some b.1) found h))

  module _ (own : Info K) (bs : List (K × Ingress)) (config : Config) where
    no_sets : sets_held order (new_start own bs config) [] ≡ []
    no_sets = part_fits config.max_sets [] (omega arith)

    seat_then : (k : K) → has_seat order (new_start own bs config) k [] ≡ is_some (bootstrapper order (new_start own bs config) k)
    seat_then k = ap (λ x. seat_by (primary_count order k x) (secondary_count order k x) (bootstrapper order (new_start own bs config) k)) no_sets

    first_own : (k : K) → own.public_key ≡ k → First order (new_start own bs config) k (Some (fresh (Myself own) true))
    first_own k e =
        let m : is_own order (new_start own bs config) k ≡ true = ap (λ x. is_equal (order own.public_key x)) (sym e) ∙ equal_itself order lawful own.public_key in
        record {
          held = rw m;
          inert = refl;
          ours = λ t. refl;
          theirs = λ f. absurd (both_ways _ f m);
          stays = rw m;
          primary_counted = refl;
          secondary_counted = refl;
        }

    first_other : (k : K) (o : Option Ingress) → is_own order (new_start own bs config) k ≡ false → bootstrapper order (new_start own bs config) k ≡ o → First order (new_start own bs config) k (option_map awaited o)
    first_other k None m e = let z = seat_then k ∙ ap is_some e in rw (m, z)
    first_other k (Some ingress) m e =
        let z = seat_then k ∙ ap is_some e in
        record {
          held = rw (m, z);
          inert = refl;
          ours = λ t. absurd (both_ways _ m t);
          theirs = λ f. rw e;
          stays = rw (m, e);
          primary_counted = refl;
          secondary_counted = refl;
        }

    first_recorded : (k : K) → First order (new_start own bs config) k (lookup order k (first_records order own bs))
    first_recorded k =
        ⊎_elim
        (λ e. subst (First order (new_start own bs config) k) (sym (ap (λ x. lookup order x (first_records order own bs)) (sym e) ∙ lookup-put_same order lawful own.public_key (fresh (Myself own) true) (with_bootstrappers order bs []))) (first_own k e))
        (λ n. subst (First order (new_start own bs config) k) (sym (lookup-put_other order lawful own.public_key k (fresh (Myself own) true) (with_bootstrappers order bs []) n ∙ lookup-bootstrappers k bs [] None refl))
        (first_other k (bootstrapper order (new_start own bs config) k) (unequal order lawful own.public_key k n) refl))
        (same_or_not order lawful own.public_key k)

    pub begins_new : (record_places block_places : ℕ) → config.dial_fail_limit < 2 ^ 64 → init_answer order own bs config record_places true ≡ Ok tt → Begins order (new_start own bs config) (first_state order own bs config record_places block_places)
    begins_new record_places block_places limited made =
        let z : 0 ≤ config.max_sets = omega arith in
        let n = and_parts (leb 1 config.max_sets) (leb config.max_sets 8) (sets_since _ _ _ _ _ made) in
        record {
          own_key = refl;
          settings = refl;
          some_held = leb-true 1 config.max_sets n.0;
          few_held = leb-true config.max_sets 8 n.1;
          counted = limited;
          within = z;
          proper = tt;
          ordered = ascending-put order lawful own.public_key (fresh (Myself own) true) (with_bootstrappers order bs []) (ascending-bootstrappers bs [] tt);
          recorded = first_recorded;
          sets_agree = refl;
          bits_agree = tt;
        }

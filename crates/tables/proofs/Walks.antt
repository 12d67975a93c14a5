-- Walks over an ascending list of entries by index, and what a walk may do to the entry it has come to.
use Rattle.std.proofs.Common.{◌≡◌, ℕ, zero, suc, ◌+◌, List, [], ◌∷◌, ◌++◌, length, drop, Some, None, Ordering, Less, Equal, Greater, sym, refl, ap, ◌∙◌, subst}
use Rattle.std.specs.List.{slice_get}
use Rattle.std.proofs.lemmas.List.{append_assoc}
use Rattle.keys.specs.Order.{Lawful}
use Rattle.keys.specs.declared.ordered_key.OrderedKey as ordered
use Rattle.rolls.specs.declared.roll.Roll as roll
use Rattle.key_list.specs.Keys.{put_by, put_key}
use Rattle.key_list.proofs.Walks.{same_some, some_none, drop_from_nth}
use Rattle.tables.specs.Listings.{lookup, put, cut, Before, Ascending, keys}
use Rattle.tables.specs.Tabled.{places_of, entries}
use Rattle.tables.specs.declared.table.Table.{Table}
use Rattle.tables.proofs.Entries.{above_from_below, equal_itself, before_on}
use Rattle.tables.proofs.Listed.{ascending-listing}

-- the entries of a table ascend
pub ascending-entries : {K V R : Type 0} (m : roll.Ghosts R K) (o : ordered.Ghosts K) → Lawful o.order → (t : Table K V R) → Ascending o.order (entries m o t)
ascending-entries m o lawful t = ascending-listing o.order lawful (places_of m t) t.values

module _ {K V : Type 0} where
  -- the keys of entries

  pub length-keys : (es : List (K × V)) → length (keys es) ≡ length es
  length-keys [] = refl
  length-keys (e ∷ es) = ap suc (length-keys es)

  pub keys-append : (es fs : List (K × V)) → keys (es ++ fs) ≡ keys es ++ keys fs
  keys-append [] fs = refl
  keys-append (e ∷ es) fs = ap (λ ks. e.0 ∷ ks) (keys-append es fs)

  pub keys-drop : (i : ℕ) (es : List (K × V)) → keys (drop i es) ≡ drop i (keys es)
  keys-drop zero es = refl
  keys-drop (suc i) [] = refl
  keys-drop (suc i) (e ∷ es) = keys-drop i es

  -- an index that has a key has an entry with that key
  pub entry_from_key : (es : List (K × V)) (i : ℕ) (k : K) → slice_get (keys es) i ≡ Some k → (v : V) × (slice_get es i ≡ Some (k, v))
  entry_from_key [] i k e = some_none k e refl
  entry_from_key (f ∷ es) zero k e = (f.1, ap (λ x. Some (x, f.1)) (same_some e))
  entry_from_key (f ∷ es) (suc i) k e = entry_from_key es i k e

  pub no_entry_from_key : (es : List (K × V)) (i : ℕ) → slice_get (keys es) i ≡ None → slice_get es i ≡ None
  no_entry_from_key [] i e = refl
  no_entry_from_key (f ∷ es) zero e = some_none f.0 refl e
  no_entry_from_key (f ∷ es) (suc i) e = no_entry_from_key es i e

  -- what is left of the entries from an index on that has a key
  pub drop_from_key : (es : List (K × V)) (i : ℕ) (k : K) → slice_get (keys es) i ≡ Some k → (v : V) × (drop i es ≡ (k, v) ∷ drop (i + 1) es)
  drop_from_key es i k e = let x = entry_from_key es i k e in (x.0, drop_from_nth es i (k, x.0) x.1)

module _ {K V : Type 0} (order : K → K → Ordering) where
  keys_by : (o : Ordering) (e f : K × V) (es fs : List (K × V)) → keys (put_by o e f es fs) ≡ put_by o e.0 f.0 (keys es) (keys fs)
  keys_by Less e f es fs = refl
  keys_by Equal e f es fs = refl
  keys_by Greater e f es fs = refl

  pub keys-put : (k : K) (v : V) (es : List (K × V)) → keys (put order k v es) ≡ put_key order k (keys es)
  keys-put k v [] = refl
  keys-put k v (e ∷ es) = keys_by (order k e.0) (k, v) e es (put order k v es) ∙ ap (put_by (order k e.0) k e.0 (keys es)) (keys-put k v es)

  module _ (lawful : Lawful order) where
    -- an entry of an ascending list: done are the entries in front of it, and rest those behind it

    -- the first of entries is below one that stands further on
    below_later : (d e : K × V) (done rest : List (K × V)) → Ascending order (d ∷ (done ++ e ∷ rest)) → order d.0 e.0 ≡ Less
    below_later d e [] rest a = a.0
    below_later d e (f ∷ done) rest a = lawful.chains d.0 f.0 e.0 a.0 (below_later f e done rest a.1)

    -- a key that is below all entries is cut from none
    cut-before : (k : K) (es : List (K × V)) → Before order k es → Ascending order es → cut order k es ≡ es
    cut-before k [] b a = refl
    cut-before k (e ∷ es) b a = rw (above_from_below order lawful k e.0 b, cut-before k es (before_on order lawful k e.0 es b a.0) a.1)

    pub lookup_between : (done rest : List (K × V)) (k : K) (v : V) → Ascending order (done ++ (k, v) ∷ rest) → lookup order k (done ++ (k, v) ∷ rest) ≡ Some v
    lookup_between [] rest k v a = rw (equal_itself order lawful k)
    lookup_between (d ∷ done) rest k v a = rw (below_later d (k, v) done rest a) (lookup_between done rest k v a.1)

    pub cut_between : (done rest : List (K × V)) (k : K) (v : V) → Ascending order (done ++ (k, v) ∷ rest) → cut order k (done ++ (k, v) ∷ rest) ≡ done ++ rest
    cut_between [] rest k v a = rw (equal_itself order lawful k) (cut-before k rest a.0 a.1)
    cut_between (d ∷ done) rest k v a = rw (below_later d (k, v) done rest a, cut_between done rest k v a.1)

    pub put_between : (done rest : List (K × V)) (k : K) (v w : V) → Ascending order (done ++ (k, v) ∷ rest) → put order k w (done ++ (k, v) ∷ rest) ≡ done ++ (k, w) ∷ rest
    put_between [] rest k v w a = ap (λ o. put_by o (k, w) (k, v) rest (put order k w rest)) (lawful.itself k)
    put_between (d ∷ done) rest k v w a =
        ap (λ o. put_by o (k, w) d (done ++ (k, v) ∷ rest) (put order k w (done ++ (k, v) ∷ rest))) (above_from_below order lawful d.0 k (below_later d (k, v) done rest a))
        ∙ ap (λ fs. d ∷ fs) (put_between done rest k v w a.1)

    -- the entry at an index is that of its key
    pub lookup_nth : (es : List (K × V)) (i : ℕ) (e : K × V) → Ascending order es → slice_get es i ≡ Some e → lookup order e.0 es ≡ Some e.1
    lookup_nth [] i e a h = some_none e h refl
    lookup_nth (f ∷ es) zero e a h = rw (← same_some h, equal_itself order lawful f.0)
    lookup_nth (f ∷ es) (suc i) e a h = rw (below_nth f es i e a h) (lookup_nth es i e a.1 h)
      where
        below_nth : (d : K × V) (fs : List (K × V)) (j : ℕ) (x : K × V) → Ascending order (d ∷ fs) → slice_get fs j ≡ Some x → order d.0 x.0 ≡ Less
        below_nth d [] j x b g = some_none x g refl
        below_nth d (y ∷ fs) zero x b g = rw (← same_some g) b.0
        below_nth d (y ∷ fs) (suc j) x b g = lawful.chains d.0 y.0 x.0 b.0 (below_nth y fs j x b.1 g)

    -- ks are the keys of the entries: what stands at a rank is the key there with the value that a look-up gives
    module _ (es : List (K × V)) (ks : List K) (i : ℕ) (ascends : Ascending order es) (of_entries : ks ≡ keys es) where
      pub rank_past : None ≡ slice_get ks i → None ≡ slice_get es i
      rank_past e = sym (no_entry_from_key es i (ap (λ js. slice_get js i) (sym of_entries) ∙ sym e))

      rank_entry : (k : K) → Some k ≡ slice_get ks i → (v : V) × (slice_get es i ≡ Some (k, v))
      rank_entry k e = entry_from_key es i k (ap (λ js. slice_get js i) (sym of_entries) ∙ sym e)

      pub rank_found : (k : K) (v : V) → Some k ≡ slice_get ks i → Some v ≡ lookup order k es → Some (k, v) ≡ slice_get es i
      rank_found k v e l =
          let x = rank_entry k e in
          ap (λ w. Some (k, w)) (same_some (l ∙ lookup_nth es i (k, x.0) ascends x.1)) ∙ sym x.1

      -- each key has a value
      pub rank_has-value : (k : K) → Some k ≡ slice_get ks i → None ≡ lookup order k es → ⊥
      rank_has-value k e l = let x = rank_entry k e in some_none x.0 (lookup_nth es i (k, x.0) ascends x.1) (sym l)

    -- A walk over the entries es by index, of a list that changes on the way: its entries are those that are done, and
    -- then the entries of es from i on, of which the first has the key k and the value v.
    module _ (es list done : List (K × V)) (i : ℕ) (k : K) (v : V) (ascends : Ascending order list) (so_far : list ≡ done ++ drop i es) (at_i : slice_get es i ≡ Some (k, v)) where
      whole : list ≡ done ++ (k, v) ∷ drop (i + 1) es
      whole = so_far ∙ ap (λ fs. done ++ fs) (drop_from_nth es i (k, v) at_i)

      ascends-whole : Ascending order (done ++ (k, v) ∷ drop (i + 1) es)
      ascends-whole = subst (Ascending order) whole ascends

      pub walk_lookup : lookup order k list ≡ Some v
      walk_lookup = ap (lookup order k) whole ∙ lookup_between done (drop (i + 1) es) k v ascends-whole

      -- the entry stays
      pub walk_keep : list ≡ (done ++ (k, v) ∷ []) ++ drop (i + 1) es
      walk_keep = whole ∙ sym (append_assoc done ((k, v) ∷ []) (drop (i + 1) es))

      -- its value is written
      pub walk_put : (w : V) → put order k w list ≡ (done ++ (k, w) ∷ []) ++ drop (i + 1) es
      walk_put w = ap (put order k w) whole ∙ put_between done (drop (i + 1) es) k v w ascends-whole ∙ sym (append_assoc done ((k, w) ∷ []) (drop (i + 1) es))

      -- it is removed
      pub walk_cut : cut order k list ≡ done ++ drop (i + 1) es
      walk_cut = ap (cut order k) whole ∙ cut_between done (drop (i + 1) es) k v ascends-whole

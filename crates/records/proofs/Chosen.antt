-- A walk over the keys of entries that deletes stale records.
use Rattle.std.proofs.Common.{◌≡◌, ℕ, ◌+◌, ◌≤◌, Bool, true, false, cond, not, List, [], ◌∷◌, ◌++◌, length, take, drop, Some, Ordering, sym, refl, ap, ◌∙◌, subst, append_assoc, arith}
use Rattle.std.specs.List.{slice_get}
use Rattle.std.proofs.lemmas.List.{append-nil, drop_all, take_all, length_push}
use Rattle.keys.specs.Order.{Lawful}
use Rattle.keys.specs.declared.ordered_key.OrderedKey as ordered
use Rattle.rolls.specs.declared.roll.Roll as roll
use Rattle.record.specs.declared.record.Record.{Record}
use Rattle.key_list.proofs.Walks.{take_from_nth}
use Rattle.tables.specs.Listings.{lookup, cut, keys, entries_where, Ascending}
use Rattle.tables.proofs.Walks.{ascending-entries, length-keys, entry_from_key, walk_lookup, walk_keep, walk_cut}
use Rattle.joining.proofs.Wheres.{tidied-where}
use Rattle.records.specs.Kept.{records_of, without_stale, TidiedOne, TidiedFirst, Tidied}
use Rattle.records.specs.Ranks.{is_stale}
use Rattle.model.specs.State.{PeerSet}
use Rattle.records.specs.declared.records.Records.{Records}

next_key : {K : Type 0} (passed : List K) (k : K) (rest : List K) → slice_get (passed ++ k ∷ rest) (length passed) ≡ Some k
next_key [] k rest = refl
next_key (j ∷ passed) k rest = next_key passed k rest

-- the entry of a key that a walk over the keys of entries comes to
next_entry : {K V : Type 0} (es : List (K × V)) (passed left : List K) (k : K) (rest : List K) → keys es ≡ passed ++ left → left ≡ k ∷ rest → (v : V) × (slice_get es (length passed) ≡ Some (k, v))
next_entry es passed left k rest all next =
    entry_from_key es (length passed) k (ap (λ ks. slice_get ks (length passed)) (all ∙ ap (λ ks. passed ++ ks) next) ∙ next_key passed k rest)

-- where no key is left, all entries were passed
passed_all : {K V : Type 0} (es : List (K × V)) (passed left : List K) → keys es ≡ passed ++ left → left ≡ [] → length es ≤ length passed
passed_all es passed left all e = omega (arith, ap length (all ∙ ap (λ ks. passed ++ ks) e ∙ append-nil passed), length-keys es)

entries_where-append : {K V : Type 0} (test : K → V → Bool) (xs ys : List (K × V)) → entries_where test (xs ++ ys) ≡ entries_where test xs ++ entries_where test ys
entries_where-append test [] ys = refl
entries_where-append test (x ∷ xs) ys = by (test x.0 x.1) (entries_where-append test xs ys)
  where
    by : (t : Bool) → entries_where test (xs ++ ys) ≡ entries_where test xs ++ entries_where test ys
        → cond t (x ∷ entries_where test (xs ++ ys)) (entries_where test (xs ++ ys)) ≡ cond t (x ∷ entries_where test xs) (entries_where test xs) ++ entries_where test ys
    by true rest = ap (λ zs. x ∷ zs) rest
    by false rest = rest

-- the entries of a walk that deletes some on the way: what is done so far, and what is left
module _ {K V : Type 0} (order : K → K → Ordering) (lawful : Lawful order) (stale : K → V → Bool) (es list : List (K × V)) (i : ℕ)
    (ordered : Ascending order list) (so_far : list ≡ entries_where (λ k v. not (stale k v)) (take i es) ++ drop i es) where
  pub walk_found : (k : K) (v : V) → slice_get es i ≡ Some (k, v) → lookup order k list ≡ Some v
  walk_found k v e = walk_lookup order lawful es list (entries_where (λ j w. not (stale j w)) (take i es)) i k v ordered so_far e

  pub walk_more : (k : K) (v : V) (next : List (K × V)) → slice_get es i ≡ Some (k, v) → next ≡ cond (stale k v) (cut order k list) list
      → next ≡ entries_where (λ j w. not (stale j w)) (take (i + 1) es) ++ drop (i + 1) es
  walk_more k v next e n =
      n ∙ by (stale k v) ∙ sym (ap (λ xs. entries_where (λ j w. not (stale j w)) xs ++ drop (i + 1) es) (take_from_nth es i (k, v) e) ∙ ap (λ xs. xs ++ drop (i + 1) es) (entries_where-append (λ j w. not (stale j w)) (take i es) ((k, v) ∷ [])))
    where
      by : (t : Bool) → cond t (cut order k list) list ≡ (entries_where (λ j w. not (stale j w)) (take i es) ++ cond (not t) ((k, v) ∷ []) []) ++ drop (i + 1) es
      by true = walk_cut order lawful es list (entries_where (λ j w. not (stale j w)) (take i es)) i k v ordered so_far e ∙ ap (λ xs. xs ++ drop (i + 1) es) (sym (append-nil (entries_where (λ j w. not (stale j w)) (take i es))))
      by false = walk_keep order lawful es list (entries_where (λ j w. not (stale j w)) (take i es)) i k v ordered so_far e

-- the records of stale members among the keys that were passed have gone
pub record TidiedTo {K R : Type 0} (m : roll.Ghosts R K) (o : ordered.Ghosts K) (before after : Records K R) (set : PeerSet K) (passed left : List K) : Type 0 where
  pub all : keys (records_of m o before) ≡ passed ++ left
  pub first : TidiedFirst m o before after set (length passed)

module _ {K R : Type 0} (o : ordered.Ghosts K) (m : roll.Ghosts R K) (lawful : Lawful o.order) (set : PeerSet K) (before mid : Records K R) where
  tidied_next : (i : ℕ) (after : Records K R) (k : K) (r : Record K) → TidiedFirst m o before mid set i → slice_get (records_of m o before) i ≡ Some (k, r) → TidiedOne m o mid after set k → TidiedFirst m o before after set (i + 1)
  tidied_next i after k r first e one =
      let es = records_of m o before in
      let list = records_of m o mid in
      let ordered = ascending-entries m o lawful mid.table in
      let found = walk_found o.order lawful (is_stale o.order set) es list i ordered first.now_records k r e in
      record {
        now_records =
            walk_more o.order lawful (is_stale o.order set) es list i ordered first.now_records k r (records_of m o after) e
            (one.now_records ∙ ap (λ x. without_stale m o set k x list) found);
        emptied = (one.emptied.0 ∙ first.emptied.0, λ p j h. first.emptied.1 p j (one.emptied.1 p j h));
      }

  tidied_end : (i : ℕ) → TidiedFirst m o before mid set i → length (records_of m o before) ≤ i → Tidied m o before mid set
  tidied_end i first h =
      let es = records_of m o before in
      record {
        now_records =
            first.now_records
            ∙ ap (λ xs. entries_where (λ k r. not (is_stale o.order set k r)) (take i es) ++ xs) (drop_all i es h)
            ∙ append-nil (entries_where (λ k r. not (is_stale o.order set k r)) (take i es))
            ∙ ap (entries_where (λ k r. not (is_stale o.order set k r))) (take_all i es h)
            ∙ sym (tidied-where o.order set es);
        emptied = first.emptied;
      }

  -- the walk has passed the keys of the first records, and others are still to come
  module _ (passed left : List K) (walk : TidiedTo m o before mid set passed left) where
    pub tidied_more : (after : Records K R) (k : K) (rest : List K) → left ≡ k ∷ rest → TidiedOne m o mid after set k → TidiedTo m o before after set (passed ++ k ∷ []) rest
    tidied_more after k rest e one =
        let x = next_entry (records_of m o before) passed left k rest walk.all e in
        record {
          all = walk.all ∙ ap (λ ks. passed ++ ks) e ∙ sym (append_assoc passed (k ∷ []) rest);
          first = subst (TidiedFirst m o before after set) (sym (length_push passed k)) (tidied_next (length passed) after k x.0 walk.first x.1 one);
        }

    pub tidied_all : left ≡ [] → Tidied m o before mid set
    tidied_all e = tidied_end (length passed) walk.first (passed_all (records_of m o before) passed left walk.all e)

-- The entries that pass a test, the keys of entries, and how many entries a write or a cut leaves.
use Rattle.std.proofs.Common.{◌≡◌, suc, ◌≤◌, Bool, true, false, cond, ◌||◌, List, [], ◌∷◌, length, is_some, Some, None, Option, Ordering, Less, Equal, Greater, sym, refl, ap, ◌∙◌, arith}
use Rattle.std.proofs.lemmas.Bool.{and_from}
use Rattle.keys.specs.Order.{Lawful, is_less, below_first, ascending}
use Rattle.key_list.specs.Keys.{is_equal, put_by, has}
use Rattle.key_list.proofs.Walks.{some_none}
use Rattle.tables.specs.Listings.{lookup, put, cut, Before, Ascending, keys, keys_where, entries_where}
use Rattle.tables.proofs.Entries.{Answer, below, same, above, answer, below_from_above, same_from_equal, before_on, lookup-before}

module _ {K V : Type 0} where
  -- a value that is kept if it passes a test
  abbrev pub kept : (K → V → Bool) → K → Option V → Option V
  kept test k None = None
  kept test k (Some v) = cond (test k v) (Some v) None

  -- whether there is a value that passes a test
  abbrev pub passes : (K → V → Bool) → K → Option V → Bool
  passes test k None = false
  passes test k (Some v) = test k v

  -- a test of a key and a value asks only about that key
  pub kept_at : (test : K → V → Bool) (k : K) (o : Option V) → kept test k o ≡ kept (λ j. test k) k o
  kept_at test k None = refl
  kept_at test k (Some v) = refl

  -- the keys of the entries that pass are those of the entries kept
  pub keys-entries_where : (test : K → V → Bool) (es : List (K × V)) → keys_where test es ≡ keys (entries_where test es)
  keys-entries_where test [] = refl
  keys-entries_where test (e ∷ es) = by (test e.0 e.1) (keys-entries_where test es)
    where
      by : (t : Bool) → keys_where test es ≡ keys (entries_where test es) → cond t (e.0 ∷ keys_where test es) (keys_where test es) ≡ keys (cond t (e ∷ entries_where test es) (entries_where test es))
      by true rest = ap (λ ks. e.0 ∷ ks) rest
      by false rest = rest

  some_kept : (test : K → V → Bool) (k : K) (o : Option V) → is_some (kept test k o) ≡ passes test k o
  some_kept test k None = refl
  some_kept test k (Some v) = by (test k v)
    where
      by : (t : Bool) → is_some (cond t (Some v) None) ≡ t
      by true = refl
      by false = refl

module _ {K V : Type 0} (order : K → K → Ordering) (lawful : Lawful order) where
  -- behind the entry of a key there is none of that key any more
  absent_behind : (k : K) (e : K × V) (es : List (K × V)) → Ascending order (e ∷ es) → e.0 ≡ k → lookup order k es ≡ None
  absent_behind k e es a s = ap (λ x. lookup order x es) (sym s) ∙ lookup-before order lawful e.0 es a.0 a.1

  -- the entries that pass a test

  pub lookup-entries_where : (test : K → V → Bool) (k : K) (es : List (K × V)) → Ascending order es → lookup order k (entries_where test es) ≡ kept test k (lookup order k es)
  lookup-entries_where test k [] a = refl
  lookup-entries_where test k (e ∷ es) a =
      by (lookup-entries_where test k es a.1) (is_equal (order e.0 k)) (test e.0 e.1) refl refl
    where
      others : List (K × V)
      others = entries_where test es

      by : lookup order k others ≡ kept test k (lookup order k es) → (s t : Bool) → is_equal (order e.0 k) ≡ s → test e.0 e.1 ≡ t → lookup order k (entries_where test (e ∷ es)) ≡ kept test k (lookup order k (e ∷ es))
      by rest true true p q =
          ap (λ x. lookup order k (cond x (e ∷ others) others)) q
          ∙ ap (λ x. cond x (Some e.1) (lookup order k others)) p
          ∙ sym (ap (λ x. cond x (Some e.1) None) (ap (λ j. test j e.1) (sym (same_from_equal order lawful e.0 k p)) ∙ q))
          ∙ sym (ap (λ x. kept test k (cond x (Some e.1) (lookup order k es))) p)
      by rest true false p q =
          ap (λ x. lookup order k (cond x (e ∷ others) others)) q
          ∙ rest
          ∙ ap (kept test k) (absent_behind k e es a (same_from_equal order lawful e.0 k p))
          ∙ sym (ap (λ x. cond x (Some e.1) None) (ap (λ j. test j e.1) (sym (same_from_equal order lawful e.0 k p)) ∙ q))
          ∙ sym (ap (λ x. kept test k (cond x (Some e.1) (lookup order k es))) p)
      by rest false true p q =
          ap (λ x. lookup order k (cond x (e ∷ others) others)) q
          ∙ ap (λ x. cond x (Some e.1) (lookup order k others)) p
          ∙ rest
          ∙ sym (ap (λ x. kept test k (cond x (Some e.1) (lookup order k es))) p)
      by rest false false p q =
          ap (λ x. lookup order k (cond x (e ∷ others) others)) q
          ∙ rest
          ∙ sym (ap (λ x. kept test k (cond x (Some e.1) (lookup order k es))) p)

  before-entries_where : (test : K → V → Bool) (k : K) (es : List (K × V)) → Before order k es → Ascending order es → Before order k (entries_where test es)
  before-entries_where test k [] b a = tt
  before-entries_where test k (e ∷ es) b a =
      by (test e.0 e.1) (before-entries_where test k es (before_on order lawful k e.0 es b a.0) a.1)
    where
      by : (t : Bool) → Before order k (entries_where test es) → Before order k (cond t (e ∷ entries_where test es) (entries_where test es))
      by true rest = b
      by false rest = rest

  pub ascending-entries_where : (test : K → V → Bool) (es : List (K × V)) → Ascending order es → Ascending order (entries_where test es)
  ascending-entries_where test [] a = tt
  ascending-entries_where test (e ∷ es) a =
      by (test e.0 e.1) (before-entries_where test e.0 es a.0 a.1) (ascending-entries_where test es a.1)
    where
      by : (t : Bool) → Before order e.0 (entries_where test es) → Ascending order (entries_where test es) → Ascending order (cond t (e ∷ entries_where test es) (entries_where test es))
      by true b c = (b, c)
      by false b c = c

  -- the keys

  pub has-keys : (k : K) (es : List (K × V)) → has order k (keys es) ≡ is_some (lookup order k es)
  has-keys k [] = refl
  has-keys k (e ∷ es) = by (is_equal (order e.0 k)) (has-keys k es)
    where
      by : (t : Bool) → has order k (keys es) ≡ is_some (lookup order k es) → (t || has order k (keys es)) ≡ is_some (cond t (Some e.1) (lookup order k es))
      by true rest = refl
      by false rest = rest

  below-keys : (k : K) (es : List (K × V)) → Before order k es → below_first order k (keys es) ≡ true
  below-keys k [] b = refl
  below-keys k (e ∷ es) b = ap is_less b

  pub ascends-keys : (es : List (K × V)) → Ascending order es → ascending order (keys es) ≡ true
  ascends-keys [] a = refl
  ascends-keys (e ∷ es) a = and_from _ _ (below-keys e.0 es a.0) (ascends-keys es a.1)

  pub has-keys_where : (test : K → V → Bool) (k : K) (es : List (K × V)) → Ascending order es → has order k (keys_where test es) ≡ passes test k (lookup order k es)
  has-keys_where test k es a =
      ap (has order k) (keys-entries_where test es)
      ∙ has-keys k (entries_where test es)
      ∙ ap is_some (lookup-entries_where test k es a)
      ∙ some_kept test k (lookup order k es)

  pub ascends-keys_where : (test : K → V → Bool) (es : List (K × V)) → Ascending order es → ascending order (keys_where test es) ≡ true
  ascends-keys_where test es a =
      ap (ascending order) (keys-entries_where test es) ∙ ascends-keys (entries_where test es) (ascending-entries_where test es a)

  -- how many entries a write leaves

  -- a key above the first entry's is looked up behind it
  lookup_behind : (k : K) (e : K × V) (es : List (K × V)) → order k e.0 ≡ Greater → lookup order k (e ∷ es) ≡ lookup order k es
  lookup_behind k e es h = ap (λ o. cond (is_equal o) (Some e.1) (lookup order k es)) (below_from_above order lawful k e.0 h)

  pub length-put_old : (k : K) (v w : V) (es : List (K × V)) → Ascending order es → lookup order k es ≡ Some w → length (put order k v es) ≡ length es
  length-put_old k v w [] a l = some_none _ l refl
  length-put_old k v w (e ∷ es) a l = by (length-put_old k v w es a.1) (answer (order k e.0))
    where
      by : (lookup order k es ≡ Some w → length (put order k v es) ≡ length es) → Answer (order k e.0) → length (put order k v (e ∷ es)) ≡ length (e ∷ es)
      by rest (below h) = some_none _ l (lookup-before order lawful k (e ∷ es) h a)
      by rest (same h) = ap (λ o. length (put_by o (k, v) e es (put order k v es))) h
      by rest (above h) =
          ap (λ o. length (put_by o (k, v) e es (put order k v es))) h ∙ ap suc (rest (sym (lookup_behind k e es h) ∙ l))

  pub length-put_le : (k : K) (v : V) (es : List (K × V)) → length es ≤ length (put order k v es)
  length-put_le k v [] = omega arith
  length-put_le k v (e ∷ es) = by (length-put_le k v es) (order k e.0)
    where
      by : length es ≤ length (put order k v es) → (o : Ordering) → length (e ∷ es) ≤ length (put_by o (k, v) e es (put order k v es))
      by rest Less = omega arith
      by rest Equal = omega arith
      by rest Greater = omega arith

  -- how many entries a cut leaves

  -- a key that is not there leaves all as they are
  pub cut-absent : (k : K) (es : List (K × V)) → lookup order k es ≡ None → cut order k es ≡ es
  cut-absent k [] n = refl
  cut-absent k (e ∷ es) n = by (cut-absent k es) (is_equal (order e.0 k)) refl
    where
      by : (lookup order k es ≡ None → cut order k es ≡ es) → (t : Bool) → is_equal (order e.0 k) ≡ t → cut order k (e ∷ es) ≡ e ∷ es
      by rest true h = some_none _ (ap (λ t. cond t (Some e.1) (lookup order k es)) h) n
      by rest false h =
          ap (λ t. cond t (cut order k es) (e ∷ cut order k es)) h
          ∙ ap (λ xs. e ∷ xs) (rest (sym (ap (λ t. cond t (Some e.1) (lookup order k es)) h) ∙ n))

  pub length_cut : (k : K) (v : V) (es : List (K × V)) → Ascending order es → lookup order k es ≡ Some v → suc (length (cut order k es)) ≡ length es
  length_cut k v [] a l = some_none _ l refl
  length_cut k v (e ∷ es) a l = by (length_cut k v es a.1) (is_equal (order e.0 k)) refl
    where
      by : (lookup order k es ≡ Some v → suc (length (cut order k es)) ≡ length es) → (t : Bool) → is_equal (order e.0 k) ≡ t → suc (length (cut order k (e ∷ es))) ≡ length (e ∷ es)
      by rest true h =
          ap (λ t. suc (length (cond t (cut order k es) (e ∷ cut order k es)))) h
          ∙ ap (λ xs. suc (length xs)) (cut-absent k es (absent_behind k e es a (same_from_equal order lawful e.0 k h)))
      by rest false h =
          ap (λ t. suc (length (cond t (cut order k es) (e ∷ cut order k es)))) h
          ∙ ap suc (rest (sym (ap (λ t. cond t (Some e.1) (lookup order k es)) h) ∙ l))

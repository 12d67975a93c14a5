-- Lists of keys with values: what writing and cutting a key does to look-ups, to the order, to the length and to the keys that pass a test.
use Rattle.std.proofs.Common.{◌≡◌, suc, ◌≤◌, Bool, true, false, cond, ◌⊎◌, List, [], ◌∷◌, length, Some, None, Ordering, Less, Equal, Greater, sym, refl, ap, ◌∙◌, inl, inr, ⊎_elim, arith}
use Rattle.std.proofs.lemmas.Bool.{both_ways}
use Rattle.keys.specs.Order.{Lawful, flipped}
use Rattle.keys.specs.Orders.{never}
use Rattle.key_list.specs.Keys.{is_equal, put_by, put_key}
use Rattle.key_list.proofs.Walks.{same_some, some_none}
use Rattle.tables.specs.Listings.{lookup, put, cut, Before, Ascending, keys, keys_where}

-- the three answers that a comparison can give, each with its equation
pub data Answer (o : Ordering) : Type 0 where
  below : o ≡ Less → Answer o
  same : o ≡ Equal → Answer o
  above : o ≡ Greater → Answer o

pub answer : (o : Ordering) → Answer o
answer Less = below refl
answer Equal = same refl
answer Greater = above refl

module _ {K : Type 0} (order : K → K → Ordering) (lawful : Lawful order) where
  pub above_from_below : (a b : K) → order a b ≡ Less → order b a ≡ Greater
  above_from_below a b e = lawful.flips a b ∙ ap flipped e

  pub below_from_above : (a b : K) → order a b ≡ Greater → order b a ≡ Less
  below_from_above a b e = lawful.flips a b ∙ ap flipped e

  -- keys that are not the same do not compare equal
  pub unequal : (a b : K) → (a ≡ b → ⊥) → is_equal (order a b) ≡ false
  unequal a b n = by (answer (order a b))
    where
      by : Answer (order a b) → is_equal (order a b) ≡ false
      by (below e) = ap is_equal e
      by (same e) = absurd (n (lawful.same a b e))
      by (above e) = ap is_equal e

  pub equal_itself : (a : K) → is_equal (order a a) ≡ true
  equal_itself a = ap is_equal (lawful.itself a)

  -- keys that compare equal are the same
  pub same_from_equal : (a b : K) → is_equal (order a b) ≡ true → a ≡ b
  same_from_equal a b t = by (answer (order a b))
    where
      by : Answer (order a b) → a ≡ b
      by (below e) = absurd (both_ways _ (ap is_equal e) t)
      by (same e) = lawful.same a b e
      by (above e) = absurd (both_ways _ (ap is_equal e) t)

  -- keys are the same or not
  pub same_or_not : (a b : K) → (a ≡ b) ⊎ (a ≡ b → ⊥)
  same_or_not a b = by (answer (order a b))
    where
      by : Answer (order a b) → (a ≡ b) ⊎ (a ≡ b → ⊥)
      by (below e) = inr (λ s. never (let i = lawful.itself b in let f = ap (λ x. order x b) s in cc))
      by (same e) = inl (lawful.same a b e)
      by (above e) = inr (λ s. never (let i = lawful.itself b in let f = ap (λ x. order x b) s in cc))

  module _ {V : Type 0} where
    -- look-ups after a write

    pub lookup-put_same : (k : K) (v : V) (es : List (K × V)) → lookup order k (put order k v es) ≡ Some v
    lookup-put_same k v [] = rw (equal_itself k)
    lookup-put_same k v (e ∷ es) = by (lookup-put_same k v es) (answer (order k e.0))
      where
        by : lookup order k (put order k v es) ≡ Some v → Answer (order k e.0) → lookup order k (put order k v (e ∷ es)) ≡ Some v
        by rest (below h) = rw (h, equal_itself k)
        by rest (same h) = rw (h, equal_itself k)
        by rest (above h) = rw (h, below_from_above k e.0 h) rest

    pub lookup-put_other : (k q : K) (v : V) (es : List (K × V)) → (k ≡ q → ⊥) → lookup order q (put order k v es) ≡ lookup order q es
    lookup-put_other k q v [] n = rw (unequal k q n)
    lookup-put_other k q v (e ∷ es) n = by (lookup-put_other k q v es n) (answer (order k e.0))
      where
        by : lookup order q (put order k v es) ≡ lookup order q es → Answer (order k e.0) → lookup order q (put order k v (e ∷ es)) ≡ lookup order q (e ∷ es)
        by rest (below h) = rw (h, unequal k q n)
        by rest (same h) = rw (h, unequal k q n, unequal e.0 q (λ s. n (lawful.same k e.0 h ∙ s)))
        by rest (above h) = rw (h, rest)

    -- look-ups after a cut

    pub lookup-cut_same : (k : K) (es : List (K × V)) → lookup order k (cut order k es) ≡ None
    lookup-cut_same k [] = refl
    lookup-cut_same k (e ∷ es) = by (lookup-cut_same k es) (is_equal (order e.0 k)) refl
      where
        by : lookup order k (cut order k es) ≡ None → (t : Bool) → is_equal (order e.0 k) ≡ t → lookup order k (cut order k (e ∷ es)) ≡ None
        by rest true h = rw h rest
        by rest false h = rw (h, h) rest

    pub lookup-cut_other : (k q : K) (es : List (K × V)) → (k ≡ q → ⊥) → lookup order q (cut order k es) ≡ lookup order q es
    lookup-cut_other k q [] n = refl
    lookup-cut_other k q (e ∷ es) n = by (lookup-cut_other k q es n) (is_equal (order e.0 k)) refl
      where
        by : lookup order q (cut order k es) ≡ lookup order q es → (t : Bool) → is_equal (order e.0 k) ≡ t → lookup order q (cut order k (e ∷ es)) ≡ lookup order q (e ∷ es)
        by rest true h = rw (h, unequal e.0 q (λ s. n (sym (same_from_equal e.0 k h) ∙ s))) rest
        by rest false h = rw (h, rest)

    -- the order

    pub before_on : (j k : K) (es : List (K × V)) → order j k ≡ Less → Before order k es → Before order j es
    before_on j k [] h b = tt
    before_on j k (e ∷ es) h b = lawful.chains j k e.0 h b

    before-put : (j k : K) (v : V) (es : List (K × V)) → order j k ≡ Less → Before order j es → Before order j (put order k v es)
    before-put j k v [] h b = h
    before-put j k v (e ∷ es) h b = by (order k e.0)
      where
        by : (o : Ordering) → Before order j (put_by o (k, v) e es (put order k v es))
        by Less = h
        by Equal = h
        by Greater = b

    pub ascending-put : (k : K) (v : V) (es : List (K × V)) → Ascending order es → Ascending order (put order k v es)
    ascending-put k v [] a = (tt, tt)
    ascending-put k v (e ∷ es) a = by (ascending-put k v es a.1) (answer (order k e.0))
      where
        by : Ascending order (put order k v es) → Answer (order k e.0) → Ascending order (put order k v (e ∷ es))
        by rest (below h) = rw h (h, a)
        by rest (same h) = rw h (rw (lawful.same k e.0 h) a.0, a.1)
        by rest (above h) = rw h (before-put e.0 k v es (below_from_above k e.0 h) a.0, rest)

    -- a key below the first is not there
    pub lookup-before : (k : K) (es : List (K × V)) → Before order k es → Ascending order es → lookup order k es ≡ None
    lookup-before k [] b a = refl
    lookup-before k (e ∷ es) b a = rw (above_from_below k e.0 b) (lookup-before k es (before_on k e.0 es b a.0) a.1)

    lookup_first : (e : K × V) (es : List (K × V)) → lookup order e.0 (e ∷ es) ≡ Some e.1
    lookup_first e es = rw (equal_itself e.0)

    lookup_rest : (q : K) (e : K × V) (es : List (K × V)) → (e.0 ≡ q → ⊥) → lookup order q (e ∷ es) ≡ lookup order q es
    lookup_rest q e es n = rw (unequal e.0 q n)

    -- the first entries of two ascending lists with equal look-ups have one key
    same_first : (e f : K × V) (es fs : List (K × V)) → Ascending order (e ∷ es) → Ascending order (f ∷ fs) → ((k : K) → lookup order k (e ∷ es) ≡ lookup order k (f ∷ fs)) → e.0 ≡ f.0
    same_first e f es fs a b l = by (answer (order e.0 f.0))
      where
        by : Answer (order e.0 f.0) → e.0 ≡ f.0
        by (below h) = some_none _ (sym (l e.0) ∙ lookup_first e es) (lookup-before e.0 (f ∷ fs) h b)
        by (same h) = lawful.same e.0 f.0 h
        by (above h) = some_none _ (l f.0 ∙ lookup_first f fs) (lookup-before f.0 (e ∷ es) (below_from_above e.0 f.0 h) a)

    -- ascending lists with equal look-ups are equal
    pub same_from_lookups : (es fs : List (K × V)) → Ascending order es → Ascending order fs → ((k : K) → lookup order k es ≡ lookup order k fs) → es ≡ fs
    same_from_lookups [] [] a b l = refl
    same_from_lookups [] (f ∷ fs) a b l = some_none _ (l f.0 ∙ lookup_first f fs) refl
    same_from_lookups (e ∷ es) [] a b l = some_none _ (sym (l e.0) ∙ lookup_first e es) refl
    same_from_lookups (e ∷ es) (f ∷ fs) a b l =
        let k = same_first e f es fs a b l in
        let v : e.1 ≡ f.1 = same_some (sym (lookup_first e es) ∙ l e.0 ∙ ap (λ x. lookup order x (f ∷ fs)) k ∙ lookup_first f fs) in
        let rest = same_from_lookups es fs a.1 b.1
        (λ q. ⊎_elim
        (λ s. ap (λ x. lookup order x es) (sym s) ∙ lookup-before e.0 es a.0 a.1 ∙ sym (lookup-before f.0 fs b.0 b.1) ∙ ap (λ x. lookup order x fs) (sym k ∙ s))
        (λ n. sym (lookup_rest q e es n) ∙ l q ∙ lookup_rest q f fs (λ s. n (k ∙ s)))
        (same_or_not e.0 q)) in
        ap (λ x. x ∷ es) (pair_same e f k v) ∙ ap (λ xs. f ∷ xs) rest
      where
        pair_same : (x y : K × V) → x.0 ≡ y.0 → x.1 ≡ y.1 → x ≡ y
        pair_same x y p q = λ i. (p i, q i)

    pub ascending-cut : (k : K) (es : List (K × V)) → Ascending order es → Ascending order (cut order k es)
    ascending-cut k [] a = tt
    ascending-cut k (e ∷ es) a = by (is_equal (order e.0 k)) (before-cut e.0 k es a.0 a.1) (ascending-cut k es a.1)
      where
        before-cut : (j q : K) (fs : List (K × V)) → Before order j fs → Ascending order fs → Before order j (cut order q fs)
        before-cut j q [] b c = tt
        before-cut j q (f ∷ fs) b c = pick (is_equal (order f.0 q)) (before-cut j q fs (before_on j f.0 fs b c.0) c.1)
          where
            pick : (t : Bool) → Before order j (cut order q fs) → Before order j (cond t (cut order q fs) (f ∷ cut order q fs))
            pick true x = x
            pick false x = b

        by : (t : Bool) → Before order e.0 (cut order k es) → Ascending order (cut order k es) → Ascending order (cond t (cut order k es) (e ∷ cut order k es))
        by true b c = c
        by false b c = (b, c)

    -- the length

    pub length-put_new : (k : K) (v : V) (es : List (K × V)) → lookup order k es ≡ None → length (put order k v es) ≡ suc (length es)
    length-put_new k v [] n = refl
    length-put_new k v (e ∷ es) n = by (answer (order k e.0)) (length-put_new k v es)
      where
        by : Answer (order k e.0) → (lookup order k es ≡ None → length (put order k v es) ≡ suc (length es)) → length (put order k v (e ∷ es)) ≡ suc (length (e ∷ es))
        by (below h) rest = rw h
        by (same h) rest = some_none _ (ap (λ x. lookup order x (e ∷ es)) (lawful.same k e.0 h) ∙ lookup_first e es) n
        by (above h) rest = rw h (ap suc (rest (rw (below_from_above k e.0 h) at n)))

module _ {K V : Type 0} (order : K → K → Ordering) where
  -- no more than one entry is new
  pub length-put_le : (k : K) (v : V) (es : List (K × V)) → length (put order k v es) ≤ suc (length es)
  length-put_le k v [] = omega arith
  length-put_le k v (e ∷ es) = by (order k e.0) (length-put_le k v es)
    where
      by : (o : Ordering) → length (put order k v es) ≤ suc (length es) → length (put_by o (k, v) e es (put order k v es)) ≤ suc (suc (length es))
      by Less rest = omega arith
      by Equal rest = omega arith
      by Greater rest = omega arith

-- the keys of the entries that pass a test

pub keys_where-all : {K V : Type 0} (es : List (K × V)) → keys_where (λ k v. true) es ≡ keys es
keys_where-all [] = refl
keys_where-all (e ∷ es) = ap (λ ks. e.0 ∷ ks) (keys_where-all es)

pub length-keys_where : {K V : Type 0} (test : K → V → Bool) (es : List (K × V)) → length (keys_where test es) ≤ length es
length-keys_where test [] = omega arith
length-keys_where test (e ∷ es) = by (test e.0 e.1) (length-keys_where test es)
  where
    by : (b : Bool) → length (keys_where test es) ≤ length es → length (cond b (e.0 ∷ keys_where test es) (keys_where test es)) ≤ suc (length es)
    by true rest = omega arith
    by false rest = omega arith

module _ {K V : Type 0} (order : K → K → Ordering) (lawful : Lawful order) (test : K → V → Bool) where
  -- a key below all entries goes in front of the keys of those that pass
  put_key-before : (k : K) (es : List (K × V)) → Before order k es → Ascending order es → put_key order k (keys_where test es) ≡ k ∷ keys_where test es
  put_key-before k [] b a = refl
  put_key-before k (e ∷ es) b a = by (test e.0 e.1) (put_key-before k es (before_on order lawful k e.0 es b a.0) a.1)
    where
      by : (p : Bool) → put_key order k (keys_where test es) ≡ k ∷ keys_where test es → put_key order k (cond p (e.0 ∷ keys_where test es) (keys_where test es)) ≡ k ∷ cond p (e.0 ∷ keys_where test es) (keys_where test es)
      by true rest = rw b
      by false rest = rest

  -- a new entry adds its key if it passes
  pub keys_where-put : (k : K) (v : V) (es : List (K × V)) → Ascending order es → lookup order k es ≡ None → keys_where test (put order k v es) ≡ cond (test k v) (put_key order k (keys_where test es)) (keys_where test es)
  keys_where-put k v [] a n = refl
  keys_where-put k v (e ∷ es) a n = by (answer (order k e.0)) (keys_where-put k v es a.1)
    where
      ks : List K
      ks = keys_where test es

      over : order k e.0 ≡ Greater → (p q : Bool) → cond p (e.0 ∷ cond q (put_key order k ks) ks) (cond q (put_key order k ks) ks) ≡ cond q (put_key order k (cond p (e.0 ∷ ks) ks)) (cond p (e.0 ∷ ks) ks)
      over h true true = rw h
      over h true false = refl
      over h false q = refl

      by : Answer (order k e.0) → (lookup order k es ≡ None → keys_where test (put order k v es) ≡ cond (test k v) (put_key order k ks) ks) → keys_where test (put order k v (e ∷ es)) ≡ cond (test k v) (put_key order k (keys_where test (e ∷ es))) (keys_where test (e ∷ es))
      by (below h) rest = rw (h, put_key-before k (e ∷ es) h a)
      by (same h) rest = never (let there = ap (λ x. lookup order x (e ∷ es)) (lawful.same k e.0 h) ∙ lookup_first order lawful e es in cc)
      by (above h) rest = rw (h, rest (rw (below_from_above order lawful k e.0 h) at n)) (over h (test e.0 e.1) (test k v))

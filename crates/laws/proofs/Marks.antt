-- The bits of primaries: that each says whether information is wanted, and what marking a key does to that.
use Rattle.std.proofs.Common.{◌≡◌, ℕ, ◌<◌, Bool, true, false, cond, not, List, [], ◌∷◌, Some, Ordering, sym, refl, ap, ◌∙◌, subst, ⊎_elim, arith}
use Rattle.std.specs.List.{AllByRecursion}
use Rattle.std.proofs.lemmas.Bool.{cond-true, cond-false, or_left, or_right}
use Rattle.keys.specs.Order.{Lawful, ascending}
use Rattle.keys.specs.Orders.{never}
use Rattle.key_list.specs.Keys.{is_equal, has}
use Rattle.tables.specs.Listings.{lookup}
use Rattle.tables.proofs.Entries.{same_or_not, unequal, equal_itself}
use Rattle.tables.proofs.Entries.{same_from_equal}
use Rattle.joining.proofs.Joining.{first_once, ascends_rest}
use Rattle.model.specs.Sets.{primaries, marked, marked_all}
use Rattle.model.specs.State.{PeerSet}
use Rattle.laws.specs.History.{one_more, primary_count}
use Rattle.laws.specs.Law.{bare}
use Rattle.laws.specs.Starts.{Proper}

some_more : (b : Bool) (n : ℕ) → 0 < n → 0 < one_more b n
some_more true n h = omega arith
some_more false n h = h

-- each key's bit is set exactly when its information is not wanted
abbrev pub EachBit : {K : Type 0} → (K → Bool) → List (K × Bool) → Type 0
EachBit want = AllByRecursion (λ m. m.1 ≡ not (want m.0))

module _ {K : Type 0} (order : K → K → Ordering) where
  -- in each set a primary's bit is set exactly when its information is not wanted
  abbrev pub Bits : (K → Bool) → List (PeerSet K) → Type 0
  Bits want = AllByRecursion (λ set. (k : K) (b : Bool) → lookup order k set.primary ≡ Some b → b ≡ not (want k))

  -- a key with a bit is a primary
  pub has-lookup : (k : K) (b : Bool) (ms : List (K × Bool)) → lookup order k ms ≡ Some b → has order k (primaries ms) ≡ true
  has-lookup k b [] e = never (cc)
  has-lookup k b (m ∷ ms) e = by (is_equal (order m.0 k)) refl (has-lookup k b ms)
    where
      by : (t : Bool) → is_equal (order m.0 k) ≡ t → (lookup order k ms ≡ Some b → has order k (primaries ms) ≡ true) → has order k (primaries (m ∷ ms)) ≡ true
      by true h rest = or_left _ _ h
      by false h rest = or_right (is_equal (order m.0 k)) _ (rest (sym (cond-false (is_equal (order m.0 k)) (Some m.1) (lookup order k ms) h) ∙ e))

  -- marks change bits alone

  pub primaries-marked : (k : K) (bit : Bool) (ms : List (K × Bool)) → primaries (marked order k bit ms) ≡ primaries ms
  primaries-marked k bit [] = refl
  primaries-marked k bit (m ∷ ms) = ap (λ ks. m.0 ∷ ks) (primaries-marked k bit ms)

  pub bare-marked : (k : K) (bit : Bool) (sets : List (PeerSet K)) → bare (marked_all order k bit sets) ≡ bare sets
  bare-marked k bit [] = refl
  bare-marked k bit (s ∷ sets) =
      let h = primaries-marked k bit s.primary in
      let rest = bare-marked k bit sets in
      λ i. record { index = s.index; primary = h i; secondary = s.secondary } ∷ rest i

module _ {K : Type 0} (order : K → K → Ordering) (lawful : Lawful order) where
  -- the bit of a key that is marked, and of any other

  lookup-marked_same : (k : K) (bit b : Bool) (ms : List (K × Bool)) → lookup order k (marked order k bit ms) ≡ Some b → b ≡ bit
  lookup-marked_same k bit b [] e = never (cc)
  lookup-marked_same k bit b (m ∷ ms) e = by (is_equal (order m.0 k)) refl (lookup-marked_same k bit b ms)
    where
      some_same : (x y : Bool) → Some x ≡ Some y → y ≡ x
      some_same x y p = cc

      by : (t : Bool) → is_equal (order m.0 k) ≡ t → (lookup order k (marked order k bit ms) ≡ Some b → b ≡ bit) → b ≡ bit
      by true h rest =
          some_same bit b (sym (ap (λ t. cond t (Some (cond t bit m.1)) (lookup order k (marked order k bit ms))) h) ∙ e)
      by false h rest = rest (sym (ap (λ t. cond t (Some (cond t bit m.1)) (lookup order k (marked order k bit ms))) h) ∙ e)

  lookup-marked_other : (j k : K) (bit : Bool) (ms : List (K × Bool)) → (j ≡ k → ⊥) → lookup order k (marked order j bit ms) ≡ lookup order k ms
  lookup-marked_other j k bit [] n = refl
  lookup-marked_other j k bit (m ∷ ms) n = by (is_equal (order m.0 j)) refl (lookup-marked_other j k bit ms n)
    where
      by : (t : Bool) → is_equal (order m.0 j) ≡ t → lookup order k (marked order j bit ms) ≡ lookup order k ms → lookup order k (marked order j bit (m ∷ ms)) ≡ lookup order k (m ∷ ms)
      by true h rest =
          let u = unequal order lawful m.0 k (λ e. n (sym (same_from_equal order lawful m.0 j h) ∙ e)) in
          cond-false (is_equal (order m.0 k)) (Some (cond (is_equal (order m.0 j)) bit m.1)) (lookup order k (marked order j bit ms)) u
          ∙ rest
          ∙ sym (cond-false (is_equal (order m.0 k)) (Some m.1) (lookup order k ms) u)
      by false h rest =
          ap (λ t. cond (is_equal (order m.0 k)) (Some (cond t bit m.1)) (lookup order k (marked order j bit ms))) h
          ∙ ap (λ x. cond (is_equal (order m.0 k)) (Some m.1) x) rest

  count_some : (k : K) (b : Bool) (s : PeerSet K) (sets : List (PeerSet K)) → lookup order k s.primary ≡ Some b → 0 < primary_count order k (bare (s ∷ sets))
  count_some k b s sets e = let h = has-lookup order k b s.primary e in rw h (omega arith)

  -- bits stay right where nothing else is wanted, and where the bit of the one key that changes is written

  pub bits_kept : (want want' : K → Bool) (sets : List (PeerSet K)) → ((k : K) → 0 < primary_count order k (bare sets) → want' k ≡ want k) → Bits order want sets → Bits order want' sets
  bits_kept want want' [] same h = tt
  bits_kept want want' (s ∷ sets) same h = (
    λ k b e. h.0 k b e ∙ ap not (sym (same k (count_some k b s sets e))),
    bits_kept want want' sets (λ k l. same k (some_more (has order k (primaries s.primary)) (primary_count order k (bare sets)) l)) h.1,
  )

  pub bits-marked : (want want' : K → Bool) (j : K) (bit : Bool) (sets : List (PeerSet K)) → ((k : K) → (j ≡ k → ⊥) → want' k ≡ want k) → (0 < primary_count order j (bare sets) → bit ≡ not (want' j)) → Bits order want sets → Bits order want' (marked_all order j bit sets)
  bits-marked want want' j bit [] same here h = tt
  bits-marked want want' j bit (s ∷ sets) same here h = (
    λ k b e. ⊎_elim (λ p. one k b p e) (λ n. other k b n e) (same_or_not order lawful j k),
    bits-marked want want' j bit sets same (λ l. here (some_more (has order j (primaries s.primary)) (primary_count order j (bare sets)) l)) h.1,
  )
    where
      there : (b : Bool) → lookup order j (marked order j bit s.primary) ≡ Some b → 0 < primary_count order j (bare (s ∷ sets))
      there b e = let g = ap (has order j) (sym (primaries-marked order j bit s.primary)) ∙ has-lookup order j b (marked order j bit s.primary) e in rw g (omega arith)

      first : (b : Bool) → lookup order j (marked order j bit s.primary) ≡ Some b → b ≡ not (want' j)
      first b e = lookup-marked_same j bit b s.primary e ∙ here (there b e)

      one : (k : K) (b : Bool) → j ≡ k → lookup order k (marked order j bit s.primary) ≡ Some b → b ≡ not (want' k)
      one k b p e = subst (λ x. lookup order x (marked order j bit s.primary) ≡ Some b → b ≡ not (want' x)) p (first b) e

      other : (k : K) (b : Bool) → (j ≡ k → ⊥) → lookup order k (marked order j bit s.primary) ≡ Some b → b ≡ not (want' k)
      other k b n e = h.0 k b (sym (lookup-marked_other j k bit s.primary n) ∙ e) ∙ ap not (sym (same k n))

  -- the same said of every primary with its bit

  pub bits_from_each : (want : K → Bool) (sets : List (PeerSet K)) → AllByRecursion (λ s. EachBit want s.primary) sets → Bits order want sets
  bits_from_each want [] h = tt
  bits_from_each want (s ∷ sets) h = (λ k b e. found k b s.primary h.0 e, bits_from_each want sets h.1)
    where
      found : (k : K) (b : Bool) (ms : List (K × Bool)) → EachBit want ms → lookup order k ms ≡ Some b → b ≡ not (want k)
      found k b [] a e = never (cc)
      found k b (m ∷ ms) a e = by (is_equal (order m.0 k)) refl (found k b ms a.1)
        where
          by : (t : Bool) → is_equal (order m.0 k) ≡ t → (lookup order k ms ≡ Some b → b ≡ not (want k)) → b ≡ not (want k)
          by true g rest =
              let p : Some m.1 ≡ Some b = sym (cond-true (is_equal (order m.0 k)) (Some m.1) (lookup order k ms) g) ∙ e in
              let q : b ≡ m.1 = cc in
              q ∙ a.0 ∙ ap (λ x. not (want x)) (same_from_equal order lawful m.0 k g)
          by false g rest = rest (sym (cond-false (is_equal (order m.0 k)) (Some m.1) (lookup order k ms) g) ∙ e)

  each_of : (want : K → Bool) (ms : List (K × Bool)) → ascending order (primaries ms) ≡ true → ((k : K) (b : Bool) → lookup order k ms ≡ Some b → b ≡ not (want k)) → EachBit want ms
  each_of want [] a h = tt
  each_of want (m ∷ ms) a h = (
    h m.0 m.1 (cond-true (is_equal (order m.0 m.0)) (Some m.1) (lookup order m.0 ms) (equal_itself order lawful m.0)),
    each_of want ms (ascends_rest order lawful m.0 (primaries ms) a) (λ k b e. h k b (later k b e)),
  )
    where
      later : (k : K) (b : Bool) → lookup order k ms ≡ Some b → lookup order k (m ∷ ms) ≡ Some b
      later k b e =
          cond-false (is_equal (order m.0 k)) (Some m.1) (lookup order k ms)
          (unequal order lawful m.0 k (λ p. never (let f = first_once order lawful m.0 (primaries ms) a in let g = has-lookup order k b ms e in let q = ap (λ x. has order x (primaries ms)) p in cc)))
          ∙ e

  pub each_from_bits : (want : K → Bool) (sets : List (PeerSet K)) → AllByRecursion (Proper order) (bare sets) → Bits order want sets → AllByRecursion (λ s. EachBit want s.primary) sets
  each_from_bits want [] p h = tt
  each_from_bits want (s ∷ sets) p h = (each_of want s.primary p.0.primaries_ascend h.0, each_from_bits want sets p.1 h.1)

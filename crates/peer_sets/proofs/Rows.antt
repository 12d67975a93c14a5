-- Sets in a row, oldest first: reading them, marking all, and entering one more.
use Rattle.std.proofs.Common.{◌≡◌, ℕ, suc, ◌+◌, ◌-◌, ◌%◌, ◌<◌, ◌≤◌, Bool, true, false, cond, ◌||◌, eqb, ltb, List, [], ◌∷◌, ◌++◌, map, length, get_or, take, drop, set, Some, None, Option, Ordering, sym, refl, ap, ◌∙◌, arith}
use Rattle.std.specs.Option.{option_map, option_copied}
use Rattle.std.specs.List.{find, list_any, remove, slice_get}
use Rattle.std.proofs.lemmas.List.Edits.{map_over_more}
use Rattle.std.proofs.lemmas.List.{append-nil, drop_all, take_all, length-map, length_push, get_or-map, map_push, map-set}
use Rattle.std.proofs.lemmas.Bool.{cond-true, cond-false, lt-ltb, le-ltb}
use denote.Ref.{Bor}
use Rattle.model.specs.Questions.{drawn_set}
use Rattle.model.specs.Sets.{newest, set_at, is_held}
use Rattle.model.specs.State.{PeerSet as Meant}
use Rattle.model.specs.There.{marked_first_all}
use Rattle.peer_sets.specs.Held.{set_of, held, marked_set, kept, leaving}
use Rattle.peer_sets.specs.declared.peer_set.PeerSet.{PeerSet}
use Rattle.peer_sets.specs.declared.peer_sets.PeerSets.{PeerSets}

pub copied_now : {X : Type 0} (r : Option (Bor X)) → option_copied r ≡ option_map (λ y. y.now) r
copied_now None = refl
copied_now (Some y) = refl

module _ {X Y : Type 0} (f : X → Y) (xs : List X) where
  -- one more behind a row, and then the first taken out if there are too many
  module _ (x : X) (most : ℕ) (pushed : List X) (behind : pushed ≡ xs ++ x ∷ []) where
    all_of : map f pushed ≡ map f xs ++ f x ∷ []
    all_of = ap (map f) behind ∙ map_push f xs x

    count_of : length (map f xs ++ f x ∷ []) ≡ length xs + 1
    count_of = length_push (map f xs) (f x) ∙ ap (λ n. n + 1) (length-map xs f)

    enough : length xs + 1 ≤ most → ltb most (length (map f xs ++ f x ∷ [])) ≡ false
    enough h = le-ltb most (length (map f xs ++ f x ∷ [])) (omega (arith, count_of))

    too_many : most < length xs + 1 → ltb most (length (map f xs ++ f x ∷ [])) ≡ true
    too_many h = lt-ltb most (length (map f xs ++ f x ∷ [])) (omega (arith, count_of))

    pub all_stay : length xs + 1 ≤ most → map f pushed ≡ kept most (map f xs ++ f x ∷ [])
    all_stay h = all_of ∙ sym (cond-false _ _ _ (enough h))

    pub none_leaves : length xs + 1 ≤ most → None ≡ leaving most (map f xs ++ f x ∷ [])
    none_leaves h = sym (cond-false _ _ _ (enough h))

    rest_of : (ys : List X) → map f (remove ys 0) ≡ drop 1 (map f ys)
    rest_of [] = refl
    rest_of (y ∷ ys) = refl

    first_of : (ys : List X) (r : X) → 0 < length ys → r ≡ get_or ys 0 r → Some (f r) ≡ slice_get (map f ys) 0
    first_of [] r h e = absurd (omega arith)
    first_of (y ∷ ys) r h e = ap (λ z. Some (f z)) e

    pub rest_stays : (after : List X) → after ≡ remove pushed 0 → most < length xs + 1 → map f after ≡ kept most (map f xs ++ f x ∷ [])
    rest_stays after e h =
        ap (map f) e ∙ rest_of pushed ∙ ap (drop 1) all_of ∙ sym (cond-true _ _ _ (too_many h))

    pub first_leaves : (r : X) → r ≡ get_or pushed 0 r → most < length xs + 1 → Some (f r) ≡ leaving most (map f xs ++ f x ∷ [])
    first_leaves r e h =
        first_of pushed r (omega (arith, ap length behind, length_push xs x)) e
        ∙ ap (λ ys. slice_get ys 0) all_of
        ∙ sym (cond-true _ _ _ (too_many h))

module _ {K : Type 0} where
  -- the set with an index

  found_or : (same : Bool) (index : ℕ) (x : PeerSet K) (xs : List (PeerSet K)) → set_at index (map set_of xs) ≡ option_map set_of (find (λ s. eqb s.index index) xs) → cond same (Some (set_of x)) (set_at index (map set_of xs)) ≡ option_map set_of (cond same (Some x) (find (λ s. eqb s.index index) xs))
  found_or true index x xs e = refl
  found_or false index x xs e = e

  pub found_set : (index : ℕ) (xs : List (PeerSet K)) → set_at index (map set_of xs) ≡ option_map set_of (find (λ s. eqb s.index index) xs)
  found_set index [] = refl
  found_set index (x ∷ xs) = found_or (eqb x.index index) index x xs (found_set index xs)

  pub any_held : (index : ℕ) (xs : List (PeerSet K)) → list_any (λ s. eqb s.index index) xs ≡ is_held index (map set_of xs)
  any_held index [] = refl
  any_held index (x ∷ xs) = ap (λ b. eqb x.index index || b) (any_held index xs)

  -- the newest is the last

  pub newest_last : (xs : List (PeerSet K)) (x : PeerSet K) → Some x ≡ slice_get xs (length xs - 1) → Some x.index ≡ newest (map set_of xs)
  newest_last [] x e = cc
  newest_last (y ∷ []) x e = ap (option_map (λ (s : PeerSet K). s.index)) e
  newest_last (y ∷ z ∷ ys) x e =
      let n : length (y ∷ z ∷ ys) - 1 ≡ suc (length (z ∷ ys) - 1) = omega arith in
      newest_last (z ∷ ys) x (e ∙ ap (slice_get (y ∷ z ∷ ys)) n)

  -- a draw

  pub drawn_from : (draw : ℕ) (ms : List (Meant K)) (n : ℕ) → 0 < n → n ≡ length ms → slice_get ms (draw % n) ≡ drawn_set draw ms
  drawn_from draw [] n h e = absurd (omega arith)
  drawn_from draw (m ∷ ms) n h e = ap (λ k. slice_get (m ∷ ms) (draw % k)) e

  -- a bit written in every set

  module _ (order : K → K → Ordering) (key : K) (known : Bool) where
    marked_each : (ms : List (Meant K)) → map (marked_set order key known) ms ≡ marked_first_all order key known ms
    marked_each [] = refl
    marked_each (m ∷ ms) = ap (λ ns. marked_set order key known m ∷ ns) (marked_each ms)

    -- the sets before place i are marked, those from there on are not yet
    pub marked_more : (ms : List (Meant K)) (xs : List (PeerSet K)) (i : ℕ) (x y : PeerSet K) → length xs ≡ length ms → i < length xs → map set_of xs ≡ map (marked_set order key known) (take i ms) ++ drop i ms → x ≡ get_or xs i x → set_of y ≡ marked_set order key known (set_of (get_or xs i x)) → map set_of (set xs i y) ≡ map (marked_set order key known) (take (i + 1) ms) ++ drop (i + 1) ms
    marked_more ms xs i x y long h so here e =
        map-set set_of xs i y
        ∙ ap (set (map set_of xs) i) (e ∙ ap (λ z. marked_set order key known (set_of z)) (sym here))
        ∙ map_over_more (marked_set order key known) ms (map set_of xs) i (set_of x) (omega arith) so
        (ap set_of here ∙ sym (get_or-map set_of xs i x (set_of x) h))

    pub marked_all : (ms : List (Meant K)) (xs : List (PeerSet K)) (i : ℕ) → length xs ≡ length ms → length xs ≤ i → map set_of xs ≡ map (marked_set order key known) (take i ms) ++ drop i ms → map set_of xs ≡ marked_first_all order key known ms
    marked_all ms xs i long h so =
        so
        ∙ ap (λ t. map (marked_set order key known) t ++ drop i ms) (take_all i ms (omega arith))
        ∙ ap (λ t. map (marked_set order key known) ms ++ t) (drop_all i ms (omega arith))
        ∙ append-nil (map (marked_set order key known) ms)
        ∙ marked_each ms

  -- at most eight sets are held
  pub few_held : (s : PeerSets K) → length (held s) ≤ 8
  few_held s = omega (arith, length-map s.sets.items set_of, s.few)

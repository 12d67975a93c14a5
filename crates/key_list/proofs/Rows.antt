-- Keys in the first places of a row: reading one, placing a list, and putting one between others.
use Rattle.std.proofs.Common.{◌≡◌, ℕ, zero, suc, ◌+◌, ◌-◌, ◌<◌, ◌≤◌, List, [], ◌∷◌, ◌++◌, map, length, get_or, take, drop, set, replicate, Some, None, Option, sym, refl, ap, ◌∙◌, arith}
use Rattle.std.specs.List.{between, insert, slice_get}
use Rattle.std.proofs.lemmas.List.{append_assoc, length-append, length-take-le, length-drop, length-map, length-replicate, map_push, take_more, set_at, take_at, drop_at, take_all, take-append-drop, drop-drop, drop_all}
use Rattle.std.proofs.lemmas.List.Edits.{length-insert, length-between, between_more}
use borrow.Rule.Slice.PartMut.{put_mid}
use Rattle.key_list.specs.Places.{keys_of, taken}
use Rattle.key_list.specs.Members.{keys_in}
use Rattle.key_list.specs.declared.key_list.KeyList.{KeyList}

-- the last of a part is turned round to its front, and another item is put over it
module _ {X : Type 0} where
  turned_last : (front : List X) (y : X) (part turned : List X) → part ≡ front ++ y ∷ [] → turned ≡ drop (length part - 1) part ++ take (length part - 1) part → turned ≡ y ∷ front
  turned_last front y part turned e r =
      let n : length front ≡ length (front ++ y ∷ []) - 1 = omega (arith, length-append front (y ∷ [])) in
      r
      ∙ ap (λ t. drop (length t - 1) t ++ take (length t - 1) t) e
      ∙ ap (λ t. t ++ take (length (front ++ y ∷ []) - 1) (front ++ y ∷ [])) (drop_at front (y ∷ []) _ n)
      ∙ ap (λ t. y ∷ t) (take_at front (y ∷ []) _ n)

  pub put_over : (xs : List X) (n i : ℕ) (x : X) (turned : List X) → i ≤ n → n < length xs → turned ≡ drop (length (between i (n + 1) xs) - 1) (between i (n + 1) xs) ++ take (length (between i (n + 1) xs) - 1) (between i (n + 1) xs) → set (put_mid i (n + 1 - i) xs turned) i x ≡ take (suc n) (insert xs i x) ++ drop (suc n) xs
  put_over xs n i x turned low room e =
      let front : List X = between i n xs in
      let y : X = get_or xs n x in
      let last : turned ≡ y ∷ front = turned_last front y (between i (n + 1) xs) turned (between_more xs i n x low room) e in
      let a : length (take i xs) ≡ i = length-take-le i xs (omega arith) in
      let f : length front ≡ n - i = length-between xs i n (omega arith) in
      let k : i + (n + 1 - i) ≡ suc n = omega arith in
      let l : i + (n - i) ≡ n = omega arith in
      let behind : drop (n + 1 - i) (drop i xs) ≡ drop (suc n) xs = drop-drop (n + 1 - i) i xs ∙ ap (λ m. drop m xs) k in
      let split : drop i xs ≡ front ++ drop n xs = sym (take-append-drop (n - i) (drop i xs)) ∙ ap (λ t. front ++ t) (drop-drop (n - i) i xs ∙ ap (λ m. drop m xs) l) in
      let all : insert xs i x ≡ (take i xs ++ x ∷ front) ++ drop n xs =
      ap (λ t. take i xs ++ x ∷ t) split ∙ sym (append_assoc (take i xs) (x ∷ front) (drop n xs)) in
      let many : length (take i xs ++ x ∷ front) ≡ suc n = length-append (take i xs) (x ∷ front) ∙ omega arith in
      ap (λ t. set (put_mid i (n + 1 - i) xs t) i x) last
      ∙ ap (λ t. set (take i xs ++ ((y ∷ front) ++ t)) i x) behind
      ∙ set_at (take i xs) y (front ++ drop (suc n) xs) x i a
      ∙ sym (append_assoc (take i xs) (x ∷ front) (drop (suc n) xs))
      ∙ ap (λ t. t ++ drop (suc n) xs) (sym (ap (take (suc n)) all ∙ take_at (take i xs ++ x ∷ front) (drop n xs) (suc n) many))

module _ {K : Type 0} where
  -- what a place has

  none_taken : (ps : List (Option K)) (i : ℕ) → taken ps ≡ 0 → get_or ps i None ≡ None
  none_taken [] i e = refl
  none_taken (None ∷ ps) zero e = refl
  none_taken (None ∷ ps) (suc i) e = none_taken ps i e
  none_taken (Some k ∷ ps) i e = absurd (omega arith)

  -- where no key stands behind an empty place
  pub place_has : (ps : List (Option K)) (i : ℕ) → taken ps ≡ length (keys_of ps) → get_or ps i None ≡ slice_get (keys_of ps) i
  place_has [] i e = refl
  place_has (None ∷ ps) zero e = refl
  place_has (None ∷ ps) (suc i) e = none_taken ps i e
  place_has (Some k ∷ ps) zero e = refl
  place_has (Some k ∷ ps) (suc i) e = place_has ps i (omega arith)

  keys-few : (ps : List (Option K)) → length (keys_of ps) ≤ length ps
  keys-few [] = omega arith
  keys-few (None ∷ ps) = omega arith
  keys-few (Some k ∷ ps) = omega (arith, keys-few ps)

  -- a list has at most 64 keys
  pub few-keys : (list : KeyList K) → length (keys_in list) ≤ 64
  few-keys list = omega (arith, keys-few list.keys, list.whole)

  -- a row of keys and of empty places behind them

  keys_of_row : (ks : List K) (n : ℕ) → keys_of (map Some ks ++ replicate n None) ≡ ks
  keys_of_row [] zero = refl
  keys_of_row [] (suc n) = refl
  keys_of_row (k ∷ ks) n = ap (λ js. k ∷ js) (keys_of_row ks n)

  taken_row : (ks : List K) (n : ℕ) → taken (map Some ks ++ replicate n None) ≡ length ks
  taken_row [] zero = refl
  taken_row [] (suc n) = taken_row [] n
  taken_row (k ∷ ks) n = ap suc (taken_row ks n)

  -- one key more in the row: x is that at i
  pub row_more : (ks : List K) (i : ℕ) (x : K) → i < length ks → length ks ≤ 64 → x ≡ get_or ks i x → set (map Some (take i ks) ++ replicate (64 - i) None) i (Some x) ≡ map Some (take (i + 1) ks) ++ replicate (64 - (i + 1)) None
  row_more ks i x h few e =
      let front : List (Option K) = map Some (take i ks) in
      let back : List (Option K) = replicate (64 - (i + 1)) None in
      let n : 64 - i ≡ suc (64 - (i + 1)) = omega arith in
      let long : length front ≡ i = length-map (take i ks) Some ∙ length-take-le i ks (omega arith) in
      ap (λ m. set (front ++ replicate m None) i (Some x)) n
      ∙ set_at front None back (Some x) i long
      ∙ sym (append_assoc front (Some x ∷ []) back)
      ∙ ap (λ xs. xs ++ back) (sym (map_push Some (take i ks) x))
      ∙ ap (λ y. map Some (take i ks ++ y ∷ []) ++ back) e
      ∙ ap (λ xs. map Some xs ++ back) (sym (take_more ks i x h))

  pub row_whole : (ks : List K) (i : ℕ) (ps : List (Option K)) → ps ≡ map Some (take i ks) ++ replicate (64 - i) None → i ≡ length ks → length ks ≤ 64 → (length ps ≡ 64) × (keys_of ps ≡ ks) × (taken ps ≡ length ks)
  row_whole ks i ps e all few =
      let f : take i ks ≡ ks = take_all i ks (omega arith) in
      let m = length-map (take i ks) (λ k. Some k) in
      let a = length-append (map Some (take i ks)) (replicate {A = Option K} (64 - i) None) in
      let r = length-replicate {A = Option K} (64 - i) None in
      let t = length-take-le i ks (omega arith) in
      (ap length e ∙ a ∙ omega (arith, m, r, t), ap keys_of e ∙ keys_of_row (take i ks) (64 - i) ∙ f, ap taken e ∙ taken_row (take i ks) (64 - i) ∙ ap length f)

  -- a key put between others

  none_held : (ps : List (Option K)) → taken ps ≡ 0 → keys_of ps ≡ []
  none_held [] e = refl
  none_held (None ∷ ps) e = refl
  none_held (Some k ∷ ps) e = absurd (omega arith)

  -- n keys, behind which the first empty place is left out
  keys_moved : (ps : List (Option K)) (n : ℕ) → taken ps ≡ length (keys_of ps) → n ≡ length (keys_of ps) → n < length ps → keys_of (take n ps ++ drop (suc n) ps) ≡ keys_of ps
  keys_moved [] n e h room = absurd (omega arith)
  keys_moved (None ∷ ps) zero e h room = none_held ps e
  keys_moved (None ∷ ps) (suc n) e h room = absurd (omega arith)
  keys_moved (Some k ∷ ps) zero e h room = absurd (omega arith)
  keys_moved (Some k ∷ ps) (suc n) e h room = ap (λ ks. k ∷ ks) (keys_moved ps n (omega arith) (omega arith) (omega arith))

  taken_moved : (ps : List (Option K)) (n : ℕ) → n ≡ length (keys_of ps) → n < length ps → taken (take n ps ++ drop (suc n) ps) ≡ taken ps
  taken_moved [] n h room = absurd (omega arith)
  taken_moved (None ∷ ps) zero h room = refl
  taken_moved (None ∷ ps) (suc n) h room = absurd (omega arith)
  taken_moved (Some k ∷ ps) zero h room = absurd (omega arith)
  taken_moved (Some k ∷ ps) (suc n) h room = ap suc (taken_moved ps n (omega arith) (omega arith))

  keys_inserted : (ps : List (Option K)) (n i : ℕ) (k : K) → taken ps ≡ length (keys_of ps) → n ≡ length (keys_of ps) → n < length ps → i ≤ n → keys_of (take (suc n) (insert ps i (Some k)) ++ drop (suc n) ps) ≡ insert (keys_of ps) i k
  keys_inserted ps n zero k e h room low = ap (λ ks. k ∷ ks) (keys_moved ps n e h room)
  keys_inserted [] n (suc i) k e h room low = absurd (omega arith)
  keys_inserted (None ∷ ps) n (suc i) k e h room low = absurd (omega arith)
  keys_inserted (Some j ∷ ps) zero (suc i) k e h room low = absurd (omega arith)
  keys_inserted (Some j ∷ ps) (suc n) (suc i) k e h room low = ap (λ ks. j ∷ ks) (keys_inserted ps n i k (omega arith) (omega arith) (omega arith) (omega arith))

  taken_inserted : (ps : List (Option K)) (n i : ℕ) (k : K) → n ≡ length (keys_of ps) → n < length ps → i ≤ n → taken (take (suc n) (insert ps i (Some k)) ++ drop (suc n) ps) ≡ suc (taken ps)
  taken_inserted ps n zero k h room low = ap suc (taken_moved ps n h room)
  taken_inserted [] n (suc i) k h room low = absurd (omega arith)
  taken_inserted (None ∷ ps) n (suc i) k h room low = absurd (omega arith)
  taken_inserted (Some j ∷ ps) zero (suc i) k h room low = absurd (omega arith)
  taken_inserted (Some j ∷ ps) (suc n) (suc i) k h room low = ap suc (taken_inserted ps n i k (omega arith) (omega arith) (omega arith))

  -- a row of 64 places, of which the first n have keys and the others are empty
  pub record Row (places : List (Option K)) (n : ℕ) : Type 0 where
    pub whole : length places ≡ 64
    pub behind : taken places ≡ length (keys_of places)
    pub counted : n ≡ length (keys_of places)

  -- those from an index on are moved one place further, and the key is put there
  pub inserted : (list : KeyList K) (i : ℕ) (k : K) (turned : List (Option K)) → i ≤ length (keys_in list) → length (keys_in list) < 64 → turned ≡ drop (length (between i (list.len + 1) list.keys) - 1) (between i (list.len + 1) list.keys) ++ take (length (between i (list.len + 1) list.keys) - 1) (between i (list.len + 1) list.keys) → let places = set (put_mid i (list.len + 1 - i) list.keys turned) i (Some k) in Row places (list.len + 1) × (keys_of places ≡ insert (keys_in list) i k)
  inserted list i k turned within room e =
      let ps = list.keys in
      let n = list.len in
      let w = list.whole in
      let b = list.behind in
      let c = list.counted in
      let now : List (Option K) = insert ps i (Some k) in
      let put = put_over ps n i (Some k) turned (omega arith) (omega arith) e in
      let same = ap keys_of put ∙ keys_inserted ps n i k b c (omega arith) (omega arith) in
      let one_more : length now ≡ length ps + 1 = length-insert ps i (Some k) (omega arith) in
      let whole : length (set (put_mid i (n + 1 - i) ps turned) i (Some k)) ≡ 64 = ap length put ∙ length-append (take (suc n) now) (drop (suc n) ps) ∙ omega (arith, length-take-le (suc n) now (omega arith), length-drop (suc n) ps) in
      let many : length (keys_of (set (put_mid i (n + 1 - i) ps turned) i (Some k))) ≡ length (keys_of ps) + 1 = ap length same ∙ length-insert (keys_of ps) i k within in
      let t : taken (set (put_mid i (n + 1 - i) ps turned) i (Some k)) ≡ suc (taken ps) = ap taken put ∙ taken_inserted ps n i k c (omega arith) (omega arith) in
      (record { whole = whole; behind = omega arith; counted = omega arith }, same)

  -- one put at the end
  pub inserted_last : (ks : List K) (i : ℕ) (k : K) → i ≡ length ks → insert ks i k ≡ ks ++ k ∷ []
  inserted_last ks i k e = ap (λ xs. xs ++ k ∷ drop i ks) (take_all i ks (omega arith)) ∙ ap (λ xs. ks ++ k ∷ xs) (drop_all i ks (omega arith))

-- Where a key goes among keys, in a walk from the front.
use Rattle.std.proofs.Common.{◌≡◌, ℕ, ◌+◌, ◌<◌, ◌≤◌, List, [], ◌∷◌, ◌++◌, length, take, Ordering, Less, Equal, Greater, sym, refl, ap, subst, ◌∙◌, append_assoc, arith}
use Rattle.std.specs.List.{insert}
use Rattle.std.proofs.lemmas.List.{take_at, drop_at, length-append}
use Rattle.std.proofs.lemmas.List.Edits.{length-insert}
use Rattle.std.proofs.lemmas.Bool.{le-leb}
use Rattle.keys.specs.Order.{Lawful}
use Rattle.key_list.specs.Keys.{put_by, put_key}
use Rattle.key_list.specs.Members.{Goes, Stays}

module _ {K : Type 0} (order : K → K → Ordering) (key : K) where
  -- a walk has passed the first keys, all of which are below the given one, and others are still to come
  pub record Passed (ks passed : List K) (i : ℕ) (rest : List K) : Type 0 where
    pub all : ks ≡ passed ++ rest
    pub counted : i ≡ length passed
    pub below : put_key order key ks ≡ passed ++ put_key order key rest

  -- what the comparison with the next key makes of those to come
  put_next : (o : Ordering) (j : K) (rest : List K) → o ≡ order key j → put_key order key (j ∷ rest) ≡ put_by o key j rest (put_key order key rest)
  put_next o j rest e = ap (λ x. put_by x key j rest (put_key order key rest)) (sym e)

  module _ (ks passed : List K) (i : ℕ) (rest : List K) (so_far : Passed ks passed i rest) where
    pub goes : put_key order key rest ≡ key ∷ rest → Goes order key ks i
    goes e =
        let all = so_far.all in
        let counted = so_far.counted in
        let here : put_key order key ks ≡ insert ks i key =
        so_far.below
        ∙ ap (λ t. passed ++ t) e
        ∙ ap (λ t. t ++ key ∷ rest) (sym (take_at passed rest i (sym counted)))
        ∙ ap (λ t. take i (passed ++ rest) ++ key ∷ t) (sym (drop_at passed rest i (sym counted)))
        ∙ ap (λ t. insert t i key) (sym all) in
        let within : i ≤ length ks = omega (arith, ap length all, length-append passed rest) in
        record { within = within; put_there = here; one_more = ap length here ∙ length-insert ks i key within }

  -- no key is left
  pub goes_last : (ks passed : List K) (i : ℕ) (left : List K) → Passed ks passed i left → left ≡ [] → (n : ℕ) → n ≡ length ks → Goes order key ks n
  goes_last ks passed i left walk e n f =
      let at_end : Passed ks passed i [] = subst (Passed ks passed i) e walk in
      let same : n ≡ i = omega (arith, ap length at_end.all, length-append passed [], at_end.counted) in
      subst (Goes order key ks) (sym same) (goes ks passed i [] at_end refl)

  -- j is the next key
  module _ (ks passed : List K) (i : ℕ) (left : List K) (j : K) (rest : List K) (walk : Passed ks passed i left) (next : left ≡ j ∷ rest) where
    so_far : Passed ks passed i (j ∷ rest)
    so_far = subst (Passed ks passed i) next walk

    pub walk_within : i < length ks
    walk_within = omega (arith, ap length so_far.all, length-append passed (j ∷ rest), so_far.counted)

    pub goes_before : Less ≡ order key j → Goes order key ks i
    goes_before e = goes ks passed i (j ∷ rest) so_far (put_next Less j rest e)

    pub stays : length ks ≤ 64 → Lawful order → Equal ≡ order key j → Stays order key ks
    stays few lawful e =
        let same : put_key order key ks ≡ ks =
        so_far.below ∙ ap (λ t. passed ++ t) (put_next Equal j rest e ∙ ap (λ k. k ∷ rest) (lawful.same key j (sym e))) ∙ sym so_far.all in
        record { same = same; has_room = le-leb _ _ (omega (arith, ap length same)) }

    pub put_more : Greater ≡ order key j → Passed ks (passed ++ j ∷ []) (i + 1) rest
    put_more e =
        record {
          all = so_far.all ∙ sym (append_assoc passed (j ∷ []) rest);
          counted = omega (arith, so_far.counted, length-append passed (j ∷ []));
          below = so_far.below ∙ ap (λ t. passed ++ t) (put_next Greater j rest e) ∙ sym (append_assoc passed (j ∷ []) (put_key order key rest));
        }

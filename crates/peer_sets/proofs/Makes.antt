-- A new set: its primaries, and the secondaries that are no primaries.
use Rattle.std.proofs.Common.{◌≡◌, ℕ, ◌+◌, ◌<◌, ◌≤◌, true, false, cond, List, [], ◌∷◌, ◌++◌, length, get_or, drop, Some, Ok, Err, Result, ◌&&◌, leb, Ordering, sym, ap, ◌∙◌, arith}
use Rattle.std.proofs.lemmas.List.{append_assoc, append-nil, length-append, at_drop_more, at_drop_all}
use Rattle.std.proofs.lemmas.Bool.{cond-true, cond-false, and_from, and_right, le-leb, lt-leb}
use Rattle.key_list.specs.Keys.{has, without}
use Rattle.keys.specs.Order.{ascending}
use Rattle.std.specs.Result.{result_ok}
use Rattle.bit_set.specs.Members.{Fresh}
use Rattle.bit_set.specs.Members as bit-sets
use Rattle.bit_set.specs.declared.fault.BitSetFault.{BitSetFault}
use Rattle.bit_set.specs.declared.fault.BitSetFault.TheVariants.{TooMany, NotAscending}
use Rattle.bit_set.specs.declared.bit_set.BitSet.{BitSet}
use Rattle.peer_sets.specs.Held.{can_be_primary, Unmarked, can_make}
use Rattle.peer_sets.proofs.Marks.{primaries-members}

module _ {K : Type 0} (order : K → K → Ordering) where
  unmarked : (keys : List K) (s : BitSet K) → Fresh order keys s → Unmarked order keys (Some s)
  unmarked keys s f =
      (and_from _ _ f.given_ascend (le-leb (length keys) 64 f.few), primaries-members s ∙ f.same_keys, f.now_members)

  pub unmarked_from : (keys : List K) (r : Result (BitSet K) BitSetFault) → bit-sets.Made order keys r → Unmarked order keys (result_ok r)
  unmarked_from keys (Ok s) made = unmarked keys s made
  unmarked_from keys (Err TooMany) made = and_right (ascending order keys) _ (lt-leb (length keys) 64 (omega arith))
  unmarked_from keys (Err NotAscending) made = ap (λ b. b && leb (length keys) 64) made.1

  -- too many secondaries
  pub cannot_make : (primary secondary others : List K) → others ≡ primary → 64 < length (without order secondary others) → can_make order primary secondary ≡ false
  cannot_make primary secondary others e h =
      let n : length (without order secondary others) ≡ length (without order secondary primary) = ap (λ ks. length (without order secondary ks)) e in
      and_right (can_be_primary order primary) _ (lt-leb (length (without order secondary primary)) 64 (omega arith))

  -- the keys from index i on, of which the one there is gone through, behind those found so far
  module _ (so_far keys others : List K) (i : ℕ) where
    module _ (k : K) (within : i < length keys) (here : k ≡ get_or keys i k) where
      next : without order (drop i keys) others ≡ cond (has order k others) (without order (drop (i + 1) keys) others) (k ∷ without order (drop (i + 1) keys) others)
      next =
          at_drop_more (λ ks. without order ks others) keys i k within
          ∙ ap (λ j. without order (j ∷ drop (i + 1) keys) others) (sym here)

      pub apart_skips : has order k others ≡ true → so_far ++ without order (drop (i + 1) keys) others ≡ so_far ++ without order (drop i keys) others
      apart_skips t = ap (λ ks. so_far ++ ks) (sym (next ∙ cond-true _ _ _ t))

      pub apart-takes : has order k others ≡ false → (so_far ++ k ∷ []) ++ without order (drop (i + 1) keys) others ≡ so_far ++ without order (drop i keys) others
      apart-takes t =
          append_assoc so_far (k ∷ []) (without order (drop (i + 1) keys) others) ∙ ap (λ ks. so_far ++ ks) (sym (next ∙ cond-false _ _ _ t))

      pub apart-full : has order k others ≡ false → 64 ≤ length so_far → so_far ++ without order (drop i keys) others ≡ without order keys others → 64 < length (without order keys others)
      apart-full t h e =
          let rest = next ∙ cond-false _ _ _ t in
          let n : length (without order (drop i keys) others) ≡ length (k ∷ without order (drop (i + 1) keys) others) = ap length rest in
          omega (arith, length-append so_far (without order (drop i keys) others), ap length e)

    pub apart_all : length keys ≤ i → length so_far ≤ 64 → so_far ++ without order (drop i keys) others ≡ without order keys others → (length (without order keys others) ≤ 64) × (so_far ≡ without order keys others)
    apart_all h few e =
        let same : so_far ≡ without order keys others = sym (append-nil so_far) ∙ ap (λ ks. so_far ++ ks) (sym (at_drop_all (λ ks. without order ks others) keys i h)) ∙ e in
        let n : length so_far ≡ length (without order keys others) = ap length same in
        (omega arith, same)

-- A hash stays below 2^64, byte by byte.
use Rattle.std.specs.Prelude.{◌≡◌, ℕ, ◌+◌, ◌^◌, ◌<◌, List, [], ◌∷◌, length, drop, slice_index}
use Rattle.std.proofs.Common.{sym, ap, ◌∙◌, arith}
use Rattle.std.proofs.lemmas.List.{at_drop_more}
use Rattle.keys.specs.Hash.{Hashing, fnv_step, fnv_from, fnv_1a}

pub fnv_from_lt : (hash : ℕ) (bs : List ℕ) → hash < 2 ^ 64 → fnv_from hash bs < 2 ^ 64
fnv_from_lt hash [] h = h
fnv_from_lt hash (b ∷ bs) h = fnv_from_lt (fnv_step hash b) bs (omega arith)

pub hashing_form : {K : Type 0} (form : K → List ℕ) → Hashing (λ k. fnv_1a (form k))
hashing_form form =
    record { small = λ k. fnv_from_lt _ (form k) (omega arith); agrees = λ a b e. ap (λ k. fnv_1a (form k)) e }

-- one byte more
pub fnv_from_more : (hash : ℕ) (bs : List ℕ) (i b : ℕ) → i < length bs → b ≡ slice_index bs i → fnv_from (fnv_step hash b) (drop (i + 1) bs) ≡ fnv_from hash (drop i bs)
fnv_from_more hash bs i b h e =
    ap (λ x. fnv_from (fnv_step hash x) (drop (i + 1) bs)) e ∙ sym (at_drop_more (fnv_from hash) bs i 0 h)

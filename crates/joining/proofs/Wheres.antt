-- The definitions of the model that keep what passes a test, as the listings that keep it.
use Rattle.std.proofs.Common.{◌≡◌, Bool, true, false, cond, not, ◌&&◌, List, [], ◌∷◌, Ordering, refl, ap}
use Rattle.record.specs.Records.{deletable, teardown}
use Rattle.record.specs.declared.record.Record.{Record}
use Rattle.types.specs.Times.{earlier}
use Rattle.types.specs.declared.moment.Moment.{Moment}
use Rattle.tables.specs.Listings.{keys_where, entries_where}
use Rattle.model.specs.Calls.{unexpired}
use Rattle.model.specs.Questions.{blocked_keys}
use Rattle.model.specs.State.{PeerSet}
use Rattle.model.specs.Track.{is_member, to_close, tidied}

module _ {K : Type 0} (order : K → K → Ordering) where
  -- the links to close are the keys of members whose record says so
  pub to_close-where : (set : PeerSet K) (es : List (K × Record K)) → to_close order set es ≡ keys_where (λ k r. is_member order set k && teardown r) es
  to_close-where set [] = refl
  to_close-where set (e ∷ es) =
      ap (λ ks. cond (is_member order set e.0 && teardown e.1) (e.0 ∷ ks) ks) (to_close-where set es)

  -- the records kept are those that no member has or that may not be deleted
  pub tidied-where : (set : PeerSet K) (es : List (K × Record K)) → tidied order set es ≡ entries_where (λ k r. not (is_member order set k && deletable r)) es
  tidied-where set [] = refl
  tidied-where set (e ∷ es) = by (is_member order set e.0 && deletable e.1) (tidied-where set es)
    where
      kept : List (K × Record K)
      kept = entries_where (λ k r. not (is_member order set k && deletable r)) es

      by : (t : Bool) → tidied order set es ≡ kept → cond t (tidied order set es) (e ∷ tidied order set es) ≡ cond (not t) (e ∷ kept) kept
      by true rest = rest
      by false rest = ap (λ xs. e ∷ xs) rest

module _ {K : Type 0} where
  -- the blocks kept are those that have not expired
  pub unexpired-where : (now : Moment) (bs : List (K × Moment)) → unexpired now bs ≡ entries_where (λ k expiry. earlier now expiry) bs
  unexpired-where now [] = refl
  unexpired-where now (b ∷ bs) = ap (λ xs. cond (earlier now b.1) (b ∷ xs) xs) (unexpired-where now bs)

  -- the keys that are blocked are those of blocks that have not expired
  pub blocked_keys-where : (now : Moment) (bs : List (K × Moment)) → blocked_keys now bs ≡ keys_where (λ k expiry. earlier now expiry) bs
  blocked_keys-where now [] = refl
  blocked_keys-where now (b ∷ bs) = ap (λ ks. cond (earlier now b.1) (b.0 ∷ ks) ks) (blocked_keys-where now bs)

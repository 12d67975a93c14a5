-- Lists of keys with values, the keys ascending: what a table means. Two such lists with equal look-ups are equal.
use Rattle.std.specs.Prelude.{◌≡◌, Bool, cond, List, [], ◌∷◌, Some, None, Option}
use Rattle.std.specs.Borrow.{Bor}
use Rattle.std.specs.Fn.{Shared, AnyResult}
use Rattle.std.specs.declared.cmp.Ordering.TheVariants.{Less}
use Rattle.std.specs.declared.cmp.Ordering.{Ordering}
pub use Rattle.key_list.specs.Keys.{is_equal, put_by}

module _ {K V : Type 0} (order : K → K → Ordering) where
  -- the value of a key, or none
  abbrev pub lookup : K → List (K × V) → Option V
  lookup k [] = None
  lookup k (e ∷ es) = cond (is_equal (order e.0 k)) (Some e.1) (lookup k es)

  -- a list with the value of a key written
  abbrev pub put : K → V → List (K × V) → List (K × V)
  put k v [] = (k, v) ∷ []
  put k v (e ∷ es) = put_by (order k e.0) (k, v) e es (put k v es)

  -- a list without a key
  abbrev pub cut : K → List (K × V) → List (K × V)
  cut k [] = []
  cut k (e ∷ es) = cond (is_equal (order e.0 k)) (cut k es) (e ∷ cut k es)

  -- the key is below the first of a list, if there is one
  abbrev pub Before : K → List (K × V) → Type 0
  Before k [] = Unit {0}
  Before k (e ∷ es) = order k e.0 ≡ Less

  -- each key is below the next
  abbrev pub Ascending : List (K × V) → Type 0
  Ascending [] = Unit {0}
  Ascending (e ∷ es) = Before e.0 es × Ascending es

  -- the keys of places, each with the value that stands at its place
  abbrev pub listing : List (Option K) → List V → List (K × V)
  listing [] values = []
  listing (o ∷ places) [] = []
  listing (None ∷ places) (v ∷ values) = listing places values
  listing (Some k ∷ places) (v ∷ values) = put k v (listing places values)

module _ {K V : Type 0} where
  -- the keys of the entries, in order
  abbrev pub keys : List (K × V) → List K
  keys [] = []
  keys (e ∷ es) = e.0 ∷ keys es

  -- the keys of the entries that pass a test, in order
  abbrev pub keys_where : (K → V → Bool) → List (K × V) → List K
  keys_where test [] = []
  keys_where test (e ∷ es) = cond (test e.0 e.1) (e.0 ∷ keys_where test es) (keys_where test es)

  -- each call of a closure, at a key and a value, answers what a test of them gives
  abbrev pub Tests : {F : Type 0} → Shared F (K × (Bor V × Unit {0})) Bool → (K → V → Bool) → F → Type 0
  Tests g test f = (k : K) (v : Bor V) → AnyResult g f (k, (v, tt)) (λ r. r ≡ test k v.now)

  -- the entries that pass a test, in order
  abbrev pub entries_where : (K → V → Bool) → List (K × V) → List (K × V)
  entries_where test [] = []
  entries_where test (e ∷ es) = cond (test e.0 e.1) (e ∷ entries_where test es) (entries_where test es)

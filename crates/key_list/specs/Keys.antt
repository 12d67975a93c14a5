-- Lists of keys: whether a key is in one, one without the keys of another, and a key put in its place.
use Rattle.std.specs.Prelude.{Bool, cond, List, [], ◌∷◌}
use Rattle.std.specs.List.{list_any}
use Rattle.std.specs.declared.cmp.Ordering.TheVariants.{Less, Equal, Greater}
use Rattle.std.specs.declared.cmp.Ordering.{Ordering}
pub use Rattle.keys.specs.Order.{is_equal}

-- a list with an item put in front of the first one, in its stead, or behind it, by how the two stand
abbrev pub put_by : {X : Type 0} → Ordering → X → X → List X → List X → List X
put_by Less new first rest behind = new ∷ (first ∷ rest)
put_by Equal new first rest behind = new ∷ rest
put_by Greater new first rest behind = first ∷ behind

module _ {K : Type 0} (order : K → K → Ordering) where
  -- whether a list has a key
  abbrev pub has : K → List K → Bool
  has k js = list_any (λ j. is_equal (order j k)) js

  -- the keys of a list that another has not
  abbrev pub without : List K → List K → List K
  without [] others = []
  without (k ∷ ks) others = cond (has k others) (without ks others) (k ∷ without ks others)

  -- an ascending list with a key put in its place; a key that is there stays there once
  abbrev pub put_key : K → List K → List K
  put_key k [] = k ∷ []
  put_key k (j ∷ js) = put_by (order k j) k j js (put_key k js)

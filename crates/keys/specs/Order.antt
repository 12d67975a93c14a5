-- How keys are compared, and lists of keys that ascend.
use Rattle.std.specs.Prelude.{◌≡◌, ℕ, Bool, true, false, cond, ◌&&◌, List, [], ◌∷◌, ◌==◌, nat_lt}
use Rattle.std.specs.declared.cmp.Ordering.TheVariants.{Less, Equal, Greater}
use Rattle.std.specs.declared.cmp.Ordering.{Ordering}

-- the answer with the two sides exchanged: below turns into above
abbrev pub flipped : Ordering → Ordering
flipped Less = Greater
flipped Equal = Equal
flipped Greater = Less

-- What a comparison owes to put its keys into one line. That just one of below, equal and above
-- holds is in its type: it answers one of the three.
pub record Lawful {K : Type 0} (order : K → K → Ordering) : Type 0 where
  pub flips : (a b : K) → order b a ≡ flipped (order a b)
  pub chains : (a b c : K) → order a b ≡ Less → order b c ≡ Less → order a c ≡ Less
  pub itself : (a : K) → order a a ≡ Equal
  pub same : (a b : K) → order a b ≡ Equal → a ≡ b

-- how two numbers stand
abbrev pub ranked : ℕ → ℕ → Ordering
ranked m n = cond (nat_lt m n) Less (cond (m == n) Equal Greater)

-- the first answer, unless it is equal: then the second
abbrev pub then_by : Ordering → Ordering → Ordering
then_by Less next = Less
then_by Equal next = next
then_by Greater next = Greater

-- how two lists of numbers stand, number by number from the front; a list that ends first is below
abbrev pub lexical : List ℕ → List ℕ → Ordering
lexical [] [] = Equal
lexical [] (n ∷ ns) = Less
lexical (m ∷ ms) [] = Greater
lexical (m ∷ ms) (n ∷ ns) = then_by (ranked m n) (lexical ms ns)

-- whether an answer is below
abbrev pub is_less : Ordering → Bool
is_less Less = true
is_less Equal = false
is_less Greater = false

-- whether an answer is equal
abbrev pub is_equal : Ordering → Bool
is_equal Less = false
is_equal Equal = true
is_equal Greater = false

module _ {K : Type 0} (order : K → K → Ordering) where
  -- whether a key is below the first of a list; where the list is empty it is
  abbrev pub below_first : K → List K → Bool
  below_first k [] = true
  below_first k (j ∷ js) = is_less (order k j)

  -- whether each key of a list is below the next
  abbrev pub ascending : List K → Bool
  ascending [] = true
  ascending (k ∷ ks) = below_first k ks && ascending ks

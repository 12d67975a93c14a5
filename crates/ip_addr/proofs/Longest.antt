-- What the block with the longest prefix is, of those in which an address lies.
use Rattle.std.proofs.Common.{◌≡◌, ℕ, Bool, true, false, cond, ltb, List, [], ◌∷◌, Some, None, Option, sym, refl, subst, arith}
use Rattle.std.specs.List.{ContainsAt as Has}
use Rattle.std.proofs.ByRecursion.{All-weaker, has_append_right}
use Rattle.std.proofs.lemmas.Bool.{both_ways, ltb-true, ltb-false}
use Rattle.ip_addr.specs.declared.block.Block.{Block}
use Rattle.ip_addr.specs.declared.ip_addr.IpAddr.{IpAddr}
use Rattle.ip_addr.specs.Registry.{lies_in, blocks_around, or_longer, longest, LongestAround, LongestOrNone}
use Rattle.ip_addr.specs.Addresses.{width_of, number_of, table_of, most_specific, MostSpecific}

first : (b : Block) (bs : List Block) → Has (b ∷ bs) b
first b bs = (0, omega arith, λ d. refl)

later : (b c : Block) (bs : List Block) → Has bs c → Has (b ∷ bs) c
later b c bs h = has_append_right (b ∷ []) bs c h

module _ (width address : ℕ) where
  -- one block more in front, in which the address does not lie
  passed : (b : Block) (bs : List Block) (r : Option Block) → lies_in width b address ≡ false → LongestOrNone width address bs r → LongestOrNone width address (b ∷ bs) r
  passed b bs None f none = (f, none)
  passed b bs (Some c) f some =
      record {
        listed = later b c bs some.listed;
        around = some.around;
        others = (λ t. absurd (both_ways _ f t), some.others);
      }

  -- one block more in front, in which the address lies: with a shorter prefix, or not
  longer_by : (t : Bool) (b c : Block) (bs : List Block) → ltb b.prefix c.prefix ≡ t → lies_in width b address ≡ true → LongestAround width address bs c → LongestAround width address (b ∷ bs) (cond t c b)
  longer_by true b c bs e here some =
      record {
        listed = later b c bs some.listed;
        around = some.around;
        others = (λ _. omega (arith, ltb-true b.prefix c.prefix e), some.others);
      }
  longer_by false b c bs e here some =
      record {
        listed = first b bs;
        around = here;
        others = (λ _. omega arith, All-weaker _ _ (λ o h t. omega (arith, h t, ltb-false b.prefix c.prefix e)) bs some.others);
      }

  taken : (b : Block) (bs : List Block) (r : Option Block) → lies_in width b address ≡ true → LongestOrNone width address bs r → LongestAround width address (b ∷ bs) (or_longer b r)
  taken b bs None here none =
      record {
        listed = first b bs;
        around = here;
        others = (λ _. omega arith, All-weaker _ _ (λ o f t. absurd (both_ways _ f t)) bs none);
      }
  taken b bs (Some c) here some = longer_by (ltb b.prefix c.prefix) b c bs refl here some

  -- whether the address lies in the first block or not
  longest_by : (t : Bool) (b : Block) (bs : List Block) → lies_in width b address ≡ t → LongestOrNone width address bs (longest (blocks_around width address bs)) → LongestOrNone width address (b ∷ bs) (longest (cond t (b ∷ blocks_around width address bs) (blocks_around width address bs)))
  longest_by true b bs e h = taken b bs _ e h
  longest_by false b bs e h = passed b bs _ e h

  pub longest_or_none : (bs : List Block) → LongestOrNone width address bs (longest (blocks_around width address bs))
  longest_or_none [] = tt
  longest_or_none (b ∷ bs) = longest_by (lies_in width b address) b bs refl (longest_or_none bs)

-- the most specific block of an address is what its name says
pub most_specific_is : (ip : IpAddr) (r : Option Block) → r ≡ most_specific ip → MostSpecific ip r
most_specific_is ip r e =
    subst (MostSpecific ip) (sym e) (longest_or_none (width_of ip) (number_of ip) (table_of ip))

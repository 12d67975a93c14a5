-- A special-purpose registry: in which of its blocks an address lies, which of these has the longest
-- prefix, and whether the address is global.
use Rattle.std.specs.Prelude.{◌≡◌, ℕ, ◌-◌, ◌/◌, ◌^◌, ◌≤◌, Bool, true, false, cond, not, ◌&&◌, List, [], ◌∷◌, Some, None, filter, Option, ◌==◌, nat_lt}
use Rattle.std.specs.List.{ContainsAt as Has, AllByRecursion, list_any}
use Rattle.ip_addr.specs.declared.block.Block.{Block}
use Rattle.ip_addr.specs.declared.global.Global.{Global}
use Rattle.ip_addr.specs.declared.global.Global.TheVariants.{True, False, NotApplicable}

-- whether the entry "Global" of a row is True
abbrev pub says_true : Global → Bool
says_true True = true
says_true False = false
says_true NotApplicable = false

-- whether an address lies in a block, both as numbers of so many bits: the first bits agree, as many
-- as the block's prefix says
abbrev pub lies_in : ℕ → Block → ℕ → Bool
lies_in width block address =
    (address / 2 ^ (width - block.prefix) == block.base / 2 ^ (width - block.prefix))

-- whether a block keeps an address from being global: the address lies in it, and its entry "Global" is not True
abbrev pub bars : ℕ → Block → ℕ → Bool
bars width block address = lies_in width block address && not (says_true block.global)

-- whether a block of a registry keeps an address from being global
abbrev pub is_barred : ℕ → ℕ → List Block → Bool
is_barred width address blocks = list_any (λ b. bars width b address) blocks

-- the blocks of a registry in which an address lies
abbrev pub blocks_around : ℕ → ℕ → List Block → List Block
blocks_around width address blocks = filter (λ b. lies_in width b address) blocks

-- whether a block has a longer prefix than another, or there is no other
abbrev pub is_longer : Block → Option Block → Bool
is_longer b None = true
is_longer b (Some c) = nat_lt c.prefix b.prefix

-- a block, or another one if that has a longer prefix
abbrev pub or_longer : Block → Option Block → Block
or_longer b None = b
or_longer b (Some c) = cond (is_longer c (Some b)) c b

-- the block with the longest prefix; the first of those that are as long
abbrev pub longest : List Block → Option Block
longest [] = None
longest (b ∷ bs) = Some (or_longer b (longest bs))

-- a block of a registry in which an address lies, and none of those in which it lies has a longer prefix
pub record LongestAround (width address : ℕ) (blocks : List Block) (block : Block) : Type 0 where
  pub listed : Has blocks block
  pub around : lies_in width block address ≡ true
  pub others : AllByRecursion (λ b. lies_in width b address ≡ true → b.prefix ≤ block.prefix) blocks

-- such a block, or none, and then the address lies in no block
abbrev pub LongestOrNone : ℕ → ℕ → List Block → Option Block → Type 0
LongestOrNone width address blocks None = AllByRecursion (λ b. lies_in width b address ≡ false) blocks
LongestOrNone width address blocks (Some block) = LongestAround width address blocks block

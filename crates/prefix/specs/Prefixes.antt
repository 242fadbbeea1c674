-- What a prefix is, which addresses it contains, and which prefixes share addresses.
use Rattle.std.specs.Prelude.{◌≡◌, ℕ, ◌-◌, ◌%◌, ◌^◌, ◌<◌, ◌≤◌, Bool, true, cond, ◌&&◌, ◌||◌, Some, None, Option, ◌==◌, nat_le, nat_lt}
use Rattle.fault.specs.declared.Cause.{Cause}
use Rattle.fault.specs.declared.Cause.TheVariants.{LengthAboveWidth, HostBitSet}
use Rattle.prefix.specs.Bits.{front}
use Rattle.prefix.specs.Form.{Block}

-- a prefix of w address bits: no bit is set at or behind its length
pub record Valid (w : ℕ) (b : Block) : Type 0 where
  pub within : b.length ≤ w
  pub small : b.first < 2 ^ w
  pub clear : b.first % 2 ^ (w - b.length) ≡ 0

-- why address n and length l make no prefix; None where they do
abbrev pub refusal : ℕ → ℕ → ℕ → Option Cause
refusal w n l = cond (nat_lt w l) (Some LengthAboveWidth) (cond (n % 2 ^ (w - l) == 0) None (Some HostBitSet))

-- address x lies in b: the first bits of x, as many as b's length, are those of b
abbrev pub contains : ℕ → Block → ℕ → Bool
contains w b x = front w b.length x == front w b.length b.first

-- c lies in b
abbrev pub covers : ℕ → Block → Block → Bool
covers w b c = nat_le b.length c.length && contains w b c.first

-- one lies in the other
abbrev pub overlaps : ℕ → Block → Block → Bool
overlaps w b c = covers w b c || covers w c b

-- every address of c is an address of b
abbrev pub Within : ℕ → Block → Block → Type 0
Within w b c = (x : ℕ) → x < 2 ^ w → contains w c x ≡ true → contains w b x ≡ true

-- some address lies in both
pub record Shared (w : ℕ) (b c : Block) : Type 0 where
  pub address : ℕ
  pub below : address < 2 ^ w
  pub left : contains w b address ≡ true
  pub right : contains w c address ≡ true

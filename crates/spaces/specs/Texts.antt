-- The texts of calls.
use Rattle.std.specs.Prelude.{◌≡◌, ℕ, ◌≤◌, List, ◌∷◌, ◌++◌, decimal}
use Rattle.spaces.specs.declared.call.Call.{Call}
use Rattle.spaces.specs.declared.call.Call.TheVariants.{Take, Give, Open, Out, Busy, Seek}

-- a plus, a minus or one of the letters o, u and b with a number, or s with three numbers and commas between them
abbrev pub call_text : Call → List ℕ
call_text (Take n) = 43 ∷ decimal n
call_text (Give n) = 45 ∷ decimal n
call_text (Open n) = 111 ∷ decimal n
call_text (Out n) = 117 ∷ decimal n
call_text (Busy w) = 98 ∷ decimal w
call_text (Seek w d f) = 115 ∷ (decimal w ++ (44 ∷ (decimal d ++ (44 ∷ decimal f))))

-- the numbers of a call are at most 65,535
abbrev pub Small : Call → Type 0
Small (Take n) = n ≤ 65535
Small (Give n) = n ≤ 65535
Small (Open n) = n ≤ 65535
Small (Out n) = n ≤ 65535
Small (Busy w) = w ≤ 65535
Small (Seek w d f) = (w ≤ 65535) × (d ≤ 65535) × (f ≤ 65535)

-- the text spells the call
pub record Spells (text : List ℕ) (c : Call) : Type 0 where
  pub small : Small c
  pub spelt : text ≡ call_text c

-- What a call on a space answers, and what the space means after it.
use Rattle.std.specs.Prelude.{◌≡◌, ℕ, List, [], ◌∷◌, Option}
use Rattle.space.specs.Meaning.{Meaning, Least, is_open, is_busy, answers, after_take, after_give}
use Rattle.spaces.specs.declared.call.Call.{Call}
use Rattle.spaces.specs.declared.call.Call.TheVariants.{Take, Give, Open, Out, Busy, Seek}
use Rattle.spaces.specs.declared.call.Answer.{Answer}
use Rattle.spaces.specs.declared.call.Answer.TheVariants.{Said, Found}
use Rattle.spaces.specs.declared.call.Both.{Both}

abbrev pub Performed : Call → Meaning → Answer → Meaning → Type 0
Performed (Take n) m a after = (a ≡ Said (is_open m n)) × (after ≡ after_take m n)
Performed (Give n) m a after = (a ≡ Said (m.out n)) × (after ≡ after_give m n)
Performed (Open n) m a after = (a ≡ Said (is_open m n)) × (after ≡ m)
Performed (Out n) m a after = (a ≡ Said (m.out n)) × (after ≡ m)
Performed (Busy w) m a after = (a ≡ Said (is_busy m w)) × (after ≡ m)
Performed (Seek w d f) m a after = ((found : Option ℕ) × (a ≡ Found found) × Least found (answers m w d f)) × (after ≡ m)

-- each call got the same answer from both spaces
abbrev pub Alike : List Both → Type 0
Alike [] = Unit {0}
Alike (b ∷ bs) = (b.one ≡ b.other) × Alike bs

-- a list of calls on two spaces, each call on what the earlier ones left: the answers, and what both mean in the end
abbrev pub Ran : List Call → Meaning → Meaning → List Both → Meaning → Meaning → Type 0
Ran [] m k bs after last = (bs ≡ []) × (after ≡ m) × (last ≡ k)
Ran (c ∷ cs) m k bs after last =
    (b : Both) × (rest : List Both) × (next : Meaning) × (then : Meaning)
    × (bs ≡ b ∷ rest) × Performed c m b.one next × Performed c k b.other then × Ran cs next then rest after last

-- What the program prints for its whole input: a line for each line.
use Rattle.std.specs.Prelude.{◌≡◌, ℕ, ◌+◌, ◌<◌, List, [], ◌∷◌, ◌++◌, length, take, replicate, Ok, Err, codes, decimal, Result}
use Rattle.fault.specs.Causes.{shown}
use Rattle.fault.specs.declared.Fault.{Fault}
use Rattle.std.specs.Str.Iter.{LacksByte as Without}
use Rattle.prefixes.specs.Lines.{Answered}

-- the line that is printed for an answer: `+ TEXT`, or `! LINE LAYER NUMBER COLUMN`
abbrev pub printed : ℕ → List ℕ → Result ℕ Fault → List ℕ
printed line memory (Ok n) = 43 ∷ (32 ∷ (take n memory ++ (10 ∷ [])))
printed line memory (Err f) =
    codes "! "
    ++ (decimal line
    ++ (codes " "
    ++ (shown f
    ++ codes "\n")))

-- out is what is printed for one line
pub record Line (number : ℕ) (line out : List ℕ) : Type 0 where
  pub memory : List ℕ
  pub answer : Result ℕ Fault
  pub answers : Answered line (replicate 43 0) memory answer
  pub text : out ≡ printed number memory answer

-- out is what is printed for an input whose first line has this number
pub data Lines : ℕ → List ℕ → List ℕ → Type 0 where
  none : (number : ℕ) (input out : List ℕ) → input ≡ [] → out ≡ [] → Lines number input out
  last : (number : ℕ) (input out : List ℕ) → 0 < length input → Without 10 input → Line number input out → Lines number input out
  more : (number : ℕ) (input out line rest first others : List ℕ) → input ≡ line ++ (10 ∷ rest) → Without 10 line → Line number line first → Lines (number + 1) rest others → out ≡ first ++ others → Lines number input out

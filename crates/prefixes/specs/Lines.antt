-- What the program answers to a line: a family's digit, a space, and a text.
use Rattle.std.specs.Prelude.{◌≡◌, ℕ, ◌+◌, Bool, cond, ◌&&◌, ◌||◌, List, ◌∷◌, ◌++◌, length, Ok, Err, Result, ◌==◌, ◌≢◌, slice_index}
use Rattle.fault.specs.Causes.{moved}
use Rattle.fault.specs.declared.Cause.TheVariants.{Malformed}
use Rattle.fault.specs.declared.Fault.{Fault}
use Rattle.address.specs.Dotted.{Dotted, quad}
use Rattle.text.specs.Families.{Spelt6, written6}
use Rattle.text.specs.Rewriting.{Rewrote}
use Rattle.std.specs.Str.Iter.{LacksByte as Without}
use Rattle.prefixes.specs.declared.line.Version.{Version}
use Rattle.prefixes.specs.declared.line.Version.TheVariants.{Four, Six}

-- the digit by which a line names a family: 4 or 6
abbrev pub digit : Version → ℕ
digit Four = 52
digit Six = 54

-- rewriting in a family: what it answers, and what it leaves in memory
abbrev pub Rewrites : Version → List ℕ → List ℕ → List ℕ → Result ℕ Fault → Type 0
Rewrites Four = Rewrote Dotted quad 32
Rewrites Six = Rewrote Spelt6 written6 128

-- the line has no family's digit with a space behind it
abbrev pub NoHead : List ℕ → Type 0
NoHead line = (v : Version) (text : List ℕ) → line ≢ digit v ∷ (32 ∷ text)

-- the text is missing: the line is a family's digit alone
abbrev pub alone_digit : List ℕ → Bool
alone_digit line = length line == 1 && (slice_index line 0 == 52 || slice_index line 0 == 54)

abbrev pub malformed : ℕ → Fault
malformed column = record { cause = Malformed; column = column }

-- the text is the line's second field, at column 3
abbrev pub at_text : Result ℕ Fault → Result ℕ Fault
at_text (Ok n) = Ok n
at_text (Err f) = Err (moved 3 f)

-- a field too many is a fault behind the text's own
abbrev pub at_surplus : ℕ → Result ℕ Fault → Result ℕ Fault
at_surplus column (Ok n) = Err (malformed column)
at_surplus column (Err f) = Err (moved 3 f)

-- the answer r to a line, and memory before and after it
pub data Answered (line old new : List ℕ) (r : Result ℕ Fault) : Type 0 where
  no_head : NoHead line → new ≡ old → r ≡ Err (malformed (cond (alone_digit line) 2 1)) → Answered line old new r
  one_text : (v : Version) (text : List ℕ) (s : Result ℕ Fault) → line ≡ digit v ∷ (32 ∷ text) → Without 32 text → Rewrites v text old new s → r ≡ at_text s → Answered line old new r
  surplus : (v : Version) (text more blank other : List ℕ) (s : Result ℕ Fault) → line ≡ digit v ∷ (32 ∷ (text ++ (32 ∷ more))) → Without 32 text → new ≡ old
      → length blank ≡ 43 → Rewrites v text blank other s → r ≡ at_surplus (length text + 4) s → Answered line old new r

-- What each cause of refusal is reported as.
use Rattle.std.specs.Prelude.{ℕ, List, ◌++◌, codes, decimal, encode_utf8}
use Rattle.fault.specs.declared.Cause.{Cause}
use Rattle.fault.specs.declared.Cause.TheVariants.{Malformed, LengthAboveWidth, HostBitSet, MemoryTooShort}
use Rattle.fault.specs.declared.Layer.{Layer}
use Rattle.fault.specs.declared.Layer.TheVariants.{Text, Prefix, Plan}
use Rattle.fault.specs.declared.Fault.{Fault}

-- the number of a cause
abbrev pub number : Cause → ℕ
number Malformed = 1
number LengthAboveWidth = 2
number HostBitSet = 3
number MemoryTooShort = 13

-- the layer that refuses for it
abbrev pub layer : Cause → Layer
layer Malformed = Text
layer LengthAboveWidth = Prefix
layer HostBitSet = Prefix
layer MemoryTooShort = Plan

-- the letter of a layer: t, k, p
abbrev pub letter : Layer → ℕ
letter Text = 116
letter Prefix = 107
letter Plan = 112

-- the fault of what is judged alone, outside any line: its column is 1
abbrev pub alone : Cause → Fault
alone cause = record { cause = cause; column = 1 }

-- the same fault at another column
abbrev pub moved : ℕ → Fault → Fault
moved column f = record { cause = f.cause; column = column }

-- a fault as it is printed: LAYER NUMBER COLUMN
abbrev pub shown : Fault → List ℕ
shown f =
    encode_utf8 (letter (layer f.cause))
    ++ (codes " "
    ++ (decimal (number f.cause)
    ++ (codes " "
    ++ decimal f.column)))

-- How a draft keeps its text, and what writing to lent memory does.
use Rattle.std.specs.Prelude.{◌≡◌, ℕ, ◌-◌, ◌<◌, ◌≤◌, List, ◌++◌, length, take, drop, replicate, Ok, Err, Result}
use Rattle.std.proofs.Common.{sym, ap, ◌∙◌, arith}
use Rattle.std.proofs.lemmas.List.{length-take-le, take-append-drop}
use Rattle.fault.specs.Causes.{alone}
use Rattle.fault.specs.declared.Cause.TheVariants.{MemoryTooShort}
use Rattle.fault.specs.declared.Fault.{Fault}
use Rattle.numeral.specs.declared.draft.Draft.TheInside.{Inside}

-- a text stands in front, and zeros behind it
abbrev pub IsPadded : Inside → Type 0
IsPadded d = (d.len ≤ 43) × (length d.bytes ≡ 43) × (drop d.len d.bytes ≡ replicate (43 - d.len) 0)

abbrev pub padded : List ℕ → Inside
padded text = record { bytes = text ++ replicate (43 - length text) 0; len = length text }

pub padded_text : (d : Inside) → IsPadded d → padded (take d.len d.bytes) ≡ d
padded_text d h =
    let n : length (take d.len d.bytes) ≡ d.len = length-take-le d.len d.bytes (omega arith) in
    let b : take d.len d.bytes ++ replicate (43 - d.len) 0 ≡ d.bytes = ap (λ r. take d.len d.bytes ++ r) (sym h.2) ∙ take-append-drop d.len d.bytes in
    let at : ℕ → Inside = λ k. record { bytes = take d.len d.bytes ++ replicate (43 - k) 0; len = k } in
    let of : List ℕ → Inside = λ l. record { bytes = l; len = d.len } in
    ap at n ∙ ap of b

-- a text was written to the front of memory and its count answered, and later memory is as it was;
-- or memory was too short for it, and none of it has changed
abbrev pub Wrote : List ℕ → List ℕ → List ℕ → Result ℕ Fault → Type 0
Wrote text old new (Ok n) = (n ≡ length text) × (n ≤ length old) × (new ≡ text ++ drop n old)
Wrote text old new (Err f) = (f ≡ alone MemoryTooShort) × (new ≡ old) × (length old < length text)

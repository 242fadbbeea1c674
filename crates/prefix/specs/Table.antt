-- The reserved blocks, which no plan may touch, and what it means to touch one.
use Rattle.std.specs.Prelude.{ℕ, ◌+◌, ◌-◌, ◌*◌, ◌%◌, ◌^◌, Bool, ◌&&◌, List, [], ◌∷◌, ◌==◌, nat_le}
use Rattle.std.specs.List.{list_any}
use Rattle.prefix.specs.declared.row.Row.{Row}
use Rattle.prefix.specs.Form.{Block}
use Rattle.prefix.specs.Prefixes.{overlaps}

-- a row that is a prefix overlaps b; one that is none touches nothing
abbrev pub row_touches : {A : Type 0} → ℕ → (A → ℕ) → Block → Row A → Bool
row_touches w number b row =
    (nat_le row.length w && number row.address % 2 ^ (w - row.length) == 0)
    && overlaps w (record { first = number row.address; length = row.length }) b

-- some row of a table touches b
abbrev pub touches : {A : Type 0} → ℕ → (A → ℕ) → Block → List (Row A) → Bool
touches w number b = list_any (row_touches w number b)

abbrev quad : ℕ → ℕ → ℕ → ℕ → ℕ → Row ℕ
quad a b c d l = record { address = ((a * 256 + b) * 256 + c) * 256 + d; length = l }

abbrev pub reserved4 : List (Row ℕ)
reserved4 = quad 0 0 0 0 8 ∷ (quad 127 0 0 0 8 ∷ (quad 169 254 0 0 16 ∷ (quad 224 0 0 0 4 ∷ (quad 240 0 0 0 4 ∷ []))))

abbrev groups : ℕ → ℕ → ℕ → ℕ → ℕ → ℕ → ℕ → ℕ → ℕ → Row (List ℕ)
groups a b c d e f g h l = record { address = a ∷ (b ∷ (c ∷ (d ∷ (e ∷ (f ∷ (g ∷ (h ∷ []))))))); length = l }

abbrev pub reserved6 : List (Row (List ℕ))
reserved6 =
    groups 0 0 0 0 0 0 0 0 128
    ∷ (groups 0 0 0 0 0 0 0 1 128
    ∷ (groups 0 0 0 0 0 0xffff 0 0 96
    ∷ (groups 0xfe80 0 0 0 0 0 0 0 10
    ∷ (groups 0xff00 0 0 0 0 0 0 0 8 ∷ []))))

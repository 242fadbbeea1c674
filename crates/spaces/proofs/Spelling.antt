-- What the texts of calls have in them.
use Rattle.std.proofs.Common.{◌≡◌, ℕ, ◌-◌, ◌^◌, ◌<◌, ◌≤◌, List, [], ◌∷◌, ◌++◌, length, get_or, take, drop, decimal, sym, refl, ap, ◌∙◌, append-nil, arith}
use Rattle.std.proofs.lemmas.List.{drop_more, take_rest}
use Rattle.numeral.proofs.Numerals.{no_digit, same_part}
use Rattle.spaces.specs.declared.call.Call.{Call}
use Rattle.spaces.specs.declared.call.Call.TheVariants.{Take, Give, Open, Out, Busy, Seek}
use Rattle.spaces.specs.Texts.{Spells}

-- behind the letter s stand three numbers
pub record Three (xs : List ℕ) : Type 0 where
  pub w : ℕ
  pub d : ℕ
  pub f : ℕ
  pub small : (w ≤ 65535) × (d ≤ 65535) × (f ≤ 65535)
  pub spelt : xs ≡ decimal w ++ (44 ∷ (decimal d ++ (44 ∷ decimal f)))

pub three : (xs : List ℕ) (c : Call) → Spells (115 ∷ xs) c → Three xs
three xs (Take n) s = absurd (omega (arith, ap (λ l. get_or l 0 0) s.spelt))
three xs (Give n) s = absurd (omega (arith, ap (λ l. get_or l 0 0) s.spelt))
three xs (Open n) s = absurd (omega (arith, ap (λ l. get_or l 0 0) s.spelt))
three xs (Out n) s = absurd (omega (arith, ap (λ l. get_or l 0 0) s.spelt))
three xs (Busy n) s = absurd (omega (arith, ap (λ l. get_or l 0 0) s.spelt))
three xs (Seek w d f) s = record { w = w; d = d; f = f; small = s.small; spelt = ap (drop 1) s.spelt }

-- behind the letter s, a number and a comma stand two numbers
pub record Two (xs : List ℕ) : Type 0 where
  pub d : ℕ
  pub f : ℕ
  pub small : (d ≤ 65535) × (f ≤ 65535)
  pub spelt : xs ≡ decimal d ++ (44 ∷ decimal f)

-- behind a number and a comma that were read stands what the text has there
pub behind : {x y : List ℕ} (t : List ℕ) (v n : ℕ) → v ≤ 65535 → n ≤ 65535 → t ≡ decimal v ++ (44 ∷ x) → t ≡ decimal n ++ (44 ∷ y) → x ≡ y
behind {x} {y} t v n vs ns e f =
    ap (drop 1) (same_part v n (44 ∷ x) (44 ∷ y) (omega arith) (omega arith) (no_digit 44 x (omega arith)) (no_digit 44 y (omega arith)) (sym e ∙ f)).1

pub two : (xs ys : List ℕ) (v : ℕ) → v ≤ 65535 → xs ≡ decimal v ++ (44 ∷ ys) → (c : Call) → Spells (115 ∷ xs) c → Two ys
two xs ys v vs e c s = let t = three xs c s in record { d = t.d; f = t.f; small = (t.small.1, t.small.2); spelt = behind xs v t.w vs t.small.0 e t.spelt }

-- a number alone has no comma
no_comma : (n w : ℕ) (rest : List ℕ) → n < 2 ^ 32 → w ≤ 65535 → decimal n ≡ decimal w ++ (44 ∷ rest) → ⊥
no_comma n w rest a b e =
    let s = same_part n w [] (44 ∷ rest) (omega arith) (omega arith) refl (no_digit 44 rest (omega arith)) (append-nil (decimal n) ∙ e) in
    omega (arith, ap length s.1)

-- a letter that stands for no call with one number
pub no_single : (letter n : ℕ) → n < 2 ^ 32 → (letter ≡ 43 → ⊥) → (letter ≡ 45 → ⊥) → (letter ≡ 111 → ⊥) → (letter ≡ 117 → ⊥) → (letter ≡ 98 → ⊥) → (c : Call) → Spells (letter ∷ decimal n) c → ⊥
no_single l n low a b d e f (Take m) s = a (cc)
no_single l n low a b d e f (Give m) s = b (cc)
no_single l n low a b d e f (Open m) s = d (cc)
no_single l n low a b d e f (Out m) s = e (cc)
no_single l n low a b d e f (Busy m) s = f (cc)
no_single l n low a b d e f (Seek w m g) s = no_comma n w _ low s.small.0 (ap (drop 1) s.spelt)

-- a letter other than s has one number behind it
pub one_number : (letter : ℕ) (rest : List ℕ) → (letter ≡ 115 → ⊥) → (c : Call) → Spells (letter ∷ rest) c → (n : ℕ) × (n ≤ 65535) × (rest ≡ decimal n)
one_number l rest other (Take n) s = (n, s.small, ap (drop 1) s.spelt)
one_number l rest other (Give n) s = (n, s.small, ap (drop 1) s.spelt)
one_number l rest other (Open n) s = (n, s.small, ap (drop 1) s.spelt)
one_number l rest other (Out n) s = (n, s.small, ap (drop 1) s.spelt)
one_number l rest other (Busy n) s = (n, s.small, ap (drop 1) s.spelt)
one_number l rest other (Seek w d f) s = absurd (other (ap (λ x. get_or x 0 0) s.spelt))

-- a text is its first byte and the rest
pub first_rest : (text : List ℕ) → 0 < length text → text ≡ get_or text 0 0 ∷ take (length text - 1) (drop 1 text)
first_rest text some = drop_more text 0 0 some ∙ ap (λ x. get_or text 0 0 ∷ x) (sym (take_rest text 1))

-- Four octets in text: they write one address, and they are short.
use Rattle.std.proofs.Common.{◌≡◌, ℕ, ◌+◌, ◌*◌, ◌/◌, ◌%◌, ◌^◌, ◌<◌, ◌≤◌, List, ◌∷◌, ◌++◌, length, drop, decimal, sym, refl, ap, ◌∙◌, arith}
use Rattle.std.proofs.lemmas.Fmt.{decimal_injective}
use Rattle.std.proofs.lemmas.List.{length-append}
use Rattle.numeral.proofs.Numerals.{decimal_short, no_digit, same_part}
use Rattle.address.specs.Dotted.{Dotted, quad}

-- one octet and one rest stand around the first dot
pub same_octet : (m n : ℕ) (xs ys : List ℕ) → m ≤ 255 → n ≤ 255 → decimal m ++ (46 ∷ xs) ≡ decimal n ++ (46 ∷ ys) → (m ≡ n) × (xs ≡ ys)
same_octet m n xs ys a b e =
    let s = same_part m n (46 ∷ xs) (46 ∷ ys) (omega arith) (omega arith) (no_digit 46 xs (omega arith)) (no_digit 46 ys (omega arith)) e in
    (s.0, ap (drop 1) s.1)

module _ (text : List ℕ) (m n : ℕ) (p : Dotted text m) (q : Dotted text n) where
  -- a text writes one address
  pub dotted_one : m ≡ n
  dotted_one =
      let a = same_octet (m / 16777216) (n / 16777216) _ _ (omega arith) (omega arith) (sym p.spelt ∙ q.spelt) in
      let b = same_octet (m / 65536 % 256) (n / 65536 % 256) _ _ (omega arith) (omega arith) a.1 in
      let c = same_octet (m / 256 % 256) (n / 256 % 256) _ _ (omega arith) (omega arith) b.1 in
      let d = decimal_injective (m % 256) (n % 256) (omega arith) (omega arith) c.1 in
      omega arith

-- four octets and the dots between them
module _ (a b c d : ℕ) (small : (a ≤ 255) × (b ≤ 255) × (c ≤ 255) × (d ≤ 255)) where
  abbrev octets : List ℕ
  octets = decimal a ++ (46 ∷ (decimal b ++ (46 ∷ (decimal c ++ (46 ∷ decimal d)))))

  pub octets_short : length octets ≤ 15
  octets_short =
      let i = decimal_short a (omega arith) in
      let j = decimal_short b (omega arith) in
      let k = decimal_short c (omega arith) in
      let l = decimal_short d (omega arith) in
      simp length-append (omega arith)

  pub octets_dotted : Dotted octets (((a * 256 + b) * 256 + c) * 256 + d)
  octets_dotted =
      let n = ((a * 256 + b) * 256 + c) * 256 + d in
      let i : a ≡ n / 16777216 = omega arith in
      let j : b ≡ n / 65536 % 256 = omega arith in
      let k : c ≡ n / 256 % 256 = omega arith in
      let l : d ≡ n % 256 = omega arith in
      record { below = omega arith; spelt = cc }

module _ (n : ℕ) (small : n < 2 ^ 32) where
  pub quad_dotted : Dotted (quad n) n
  quad_dotted = record { below = small; spelt = refl }

  pub quad_short : length (quad n) ≤ 15
  quad_short = octets_short (n / 16777216) (n / 65536 % 256) (n / 256 % 256) (n % 256) (omega arith, omega arith, omega arith, omega arith)

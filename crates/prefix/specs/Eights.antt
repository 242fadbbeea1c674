-- Eight groups of sixteen bits are determined by the number that they write.
use Rattle.std.specs.Prelude.{◌≡◌, ℕ, zero, suc, ◌^◌, ◌<◌, List, [], ◌∷◌, length, slice_index}
use Rattle.std.proofs.Common.{refl, sym, ◌∙◌, arith}
use Rattle.std.proofs.lemmas.List.{same_lists, get_or_default}
use Rattle.std.proofs.lemmas.Nat.{same_from_place}
use Rattle.prefix.specs.Groups.{whole, Eight}

-- what holds of each of the first eight indexes holds of all below 8
pub below_eight : (P : ℕ → Type 0) → P 0 → P 1 → P 2 → P 3 → P 4 → P 5 → P 6 → P 7 → (k : ℕ) → k < 8 → P k
below_eight P a b c d e f g h zero l = a
below_eight P a b c d e f g h (suc zero) l = b
below_eight P a b c d e f g h (suc (suc zero)) l = c
below_eight P a b c d e f g h (suc (suc (suc zero))) l = d
below_eight P a b c d e f g h (suc (suc (suc (suc zero)))) l = e
below_eight P a b c d e f g h (suc (suc (suc (suc (suc zero))))) l = f
below_eight P a b c d e f g h (suc (suc (suc (suc (suc (suc zero)))))) l = g
below_eight P a b c d e f g h (suc (suc (suc (suc (suc (suc (suc zero))))))) l = h
below_eight P a b c d e f g h (suc (suc (suc (suc (suc (suc (suc (suc k)))))))) l = absurd (omega arith)

abbrev pub eight : List ℕ → List ℕ
eight g = slice_index g 0 ∷ (slice_index g 1 ∷ (slice_index g 2 ∷ (slice_index g 3 ∷ (slice_index g 4 ∷ (slice_index g 5 ∷ (slice_index g 6 ∷ (slice_index g 7 ∷ [])))))))

-- a list of eight, group by group
pub listed : (g : List ℕ) → length g ≡ 8 → g ≡ eight g
listed g e =
    same_lists g (eight g) e (λ k d l.
    let h : k < 8 = omega (arith, e) in
    let same = below_eight (λ k. slice_index g k ≡ slice_index (eight g) k) refl refl refl refl refl refl refl refl k h in
    get_or_default g k d 0 l ∙ same ∙ sym (get_or_default (eight g) k d 0 h))

pub whole_one : (g h : List ℕ) → Eight g → Eight h → whole g ≡ whole h → g ≡ h
whole_one g h eg eh e =
    let e7 = same_from_place _ (slice_index g 7) _ (slice_index h 7) 65536 (eg.each 7) (eh.each 7) e in
    let e6 = same_from_place _ (slice_index g 6) _ (slice_index h 6) 65536 (eg.each 6) (eh.each 6) e7.0 in
    let e5 = same_from_place _ (slice_index g 5) _ (slice_index h 5) 65536 (eg.each 5) (eh.each 5) e6.0 in
    let e4 = same_from_place _ (slice_index g 4) _ (slice_index h 4) 65536 (eg.each 4) (eh.each 4) e5.0 in
    let e3 = same_from_place _ (slice_index g 3) _ (slice_index h 3) 65536 (eg.each 3) (eh.each 3) e4.0 in
    let e2 = same_from_place _ (slice_index g 2) _ (slice_index h 2) 65536 (eg.each 2) (eh.each 2) e3.0 in
    let e1 = same_from_place _ (slice_index g 1) _ (slice_index h 1) 65536 (eg.each 1) (eh.each 1) e2.0 in
    let same : eight g ≡ eight h = cc (e1.0, e1.1, e2.1, e3.1, e4.1, e5.1, e6.1, e7.1) in
    listed g eg.count ∙ same ∙ sym (listed h eh.count)

-- and the number is below 2 ^ 128
pub whole_small : (g : List ℕ) → ((k : ℕ) → slice_index g k < 65536) → whole g < 2 ^ 128
whole_small g each = omega (arith, each 0, each 1, each 2, each 3, each 4, each 5, each 6, each 7)

-- Which prefixes lie in one another and which share addresses, at any width.
use Rattle.std.proofs.Common.{◌≡◌, ℕ, ◌+◌, ◌-◌, ◌*◌, ◌/◌, ◌^◌, ◌<◌, ◌≤◌, true, Decides, sym, refl, ap, ◌∙◌, subst, inl, inr, ⊎_elim, one-mul, arith, pow-add}
use Rattle.std.proofs.lemmas.Nat.{pow_pos, pow_below, shr-shr, shr_split, shr_below, shr_high, mul-add-lt}
use Rattle.std.proofs.lemmas.Bool.{cases_lt, eqb-true, eq-eqb}
use Rattle.std.proofs.lemmas.Bool.Decides.{Decides-like, Decides-or, nat_tests}
use native.Mathlib.Nat.{add-mul-div_right}
use Rattle.prefix.specs.Bits.{front}
use Rattle.prefix.specs.Form.{Block}
use Rattle.prefix.specs.Prefixes.{Valid, Within, Shared, contains, covers, overlaps}

-- fewer of the first bits are the first of more
front-front : (w l m x : ℕ) → l ≤ m → m ≤ w → front w l x ≡ front w m x / 2 ^ (m - l)
front-front w l m x lm mw = let e : (w - m) + (m - l) ≡ w - l = omega arith in ap (λ v. x / 2 ^ v) (sym e) ∙ sym (shr-shr x (w - m) (m - l))

pub front_fewer : (w l m x y : ℕ) → l ≤ m → m ≤ w → front w m x ≡ front w m y → front w l x ≡ front w l y
front_fewer w l m x y lm mw e = front-front w l m x lm mw ∙ ap (λ v. v / 2 ^ (m - l)) e ∙ sym (front-front w l m y lm mw)

-- a prefix contains its first address
pub contains-first : (w : ℕ) (b : Block) → contains w b b.first ≡ true
contains-first w b = eq-eqb _ _ refl

-- where c is shorter than l, an address of c other than its first differs from it in the first l bits
module _ (w l : ℕ) (c : Block) (v : Valid w c) (lw : l ≤ w) (shorter : c.length < l) where
  other : ℕ
  other = c.first + 2 ^ (w - l)

  step_small : 2 ^ (w - l) < 2 ^ (w - c.length)
  step_small = pow_below (w - l) (w - c.length) (omega arith)

  raised_front : c.first ≡ front w c.length c.first * 2 ^ (w - c.length)
  raised_front = omega (arith, shr_split c.first (w - c.length), v.clear)

  other-front : front w c.length other ≡ front w c.length c.first
  unfolding other
  other-front = ap (λ x. (x + 2 ^ (w - l)) / 2 ^ (w - c.length)) raised_front ∙ shr_high (front w c.length c.first) (w - c.length) (2 ^ (w - l)) step_small

  other_below : other < 2 ^ w
  unfolding other
  other_below =
      let e : w ≡ c.length + (w - c.length) = omega (arith, v.within) in
      let q : front w c.length c.first < 2 ^ c.length = shr_below c.first c.length (w - c.length) (subst (λ x. c.first < 2 ^ x) e v.small) in
      let p : 2 ^ w ≡ 2 ^ c.length * 2 ^ (w - c.length) = ap (λ x. 2 ^ x) e ∙ pow-add 2 c.length (w - c.length) in
      omega (arith, raised_front, p, mul-add-lt (front w c.length c.first) (2 ^ (w - c.length)) (2 ^ (w - l)) (2 ^ c.length) q step_small)

  other_differs : front w l other ≡ front w l c.first → ⊥
  unfolding other
  other_differs e =
      let next : (c.first + 2 ^ (w - l)) / 2 ^ (w - l) ≡ c.first / 2 ^ (w - l) + 1 = ap (λ x. (c.first + x) / 2 ^ (w - l)) (sym (one-mul (2 ^ (w - l)))) ∙ add-mul-div_right c.first 1 {z = 2 ^ (w - l)} (pow_pos (w - l)) in
      omega (arith, e, next)

module _ (w : ℕ) (b c : Block) (vb : Valid w b) (vc : Valid w c) where
  length_from_within : Within w b c → b.length ≤ c.length
  length_from_within f =
      ⊎_elim
      (λ shorter.
      let p = eqb-true _ _ (f (other w b.length c vc vb.within shorter) (other_below w b.length c vc vb.within shorter) (eq-eqb _ _ (other-front w b.length c vc vb.within shorter))) in
      absurd (other_differs w b.length c vc vb.within shorter (p ∙ sym (eqb-true _ _ (f c.first vc.small (contains-first w c))))))
      (λ h. h)
      (cases_lt c.length b.length)

  -- c lies in b exactly when every address of c is one of b
  pub covers_decides : Decides (covers w b c) (Within w b c)
  covers_decides = (
    λ e x small inside. grind (arith, nat_tests, front_fewer w b.length c.length x c.first),
    λ f. let l = length_from_within f in let p = f c.first vc.small (contains-first w c) in grind (arith, nat_tests),
  )

  meet : (x : ℕ) → contains w b x ≡ true → contains w c x ≡ true → b.length ≤ c.length → covers w b c ≡ true
  meet x inb inc h = grind (arith, nat_tests, front_fewer w b.length c.length x c.first)

-- two prefixes overlap exactly when they share an address
pub overlaps_decides : (w : ℕ) (b c : Block) → Valid w b → Valid w c → Decides (overlaps w b c) (Shared w b c)
overlaps_decides w b c vb vc =
    Decides-like (overlaps w b c)
    (⊎_elim
    (λ e. record { address = c.first; below = vc.small; left = (covers_decides w b c vb vc).0 e c.first vc.small (contains-first w c); right = contains-first w c })
    (λ e. record { address = b.first; below = vb.small; left = contains-first w b; right = (covers_decides w c b vc vb).0 e b.first vb.small (contains-first w b) }))
    (λ s. ⊎_elim (λ h. inr (meet w c b vc vb s.address s.right s.left (omega arith))) (λ h. inl (meet w b c vb vc s.address s.left s.right h)) (cases_lt c.length b.length))
    (Decides-or (covers w b c) (covers w c b) ((λ e. e), (λ e. e)) ((λ e. e), (λ e. e)))

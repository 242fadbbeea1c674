-- `Draft::push` writes one byte in front of one zero less, and leaves a full draft as it is.
use Rattle.std.proofs.Common.{◌≡◌, ℕ, ◌+◌, ◌-◌, ◌<◌, ◌≤◌, List, [], ◌∷◌, ◌++◌, length, take, drop, set, replicate, sym, ap, ◌∙◌, arith, length-set, length-take}
use Rattle.std.proofs.lemmas.List.{take_all, take-append-le, take_more_set, drop-set-lt, drop-drop, drop-replicate, length_push}
use Rattle.numeral.proofs.draft.Draft.push.Goals as goal

module _ (bytes : List ℕ) (n b : ℕ) (room : n < 43) where
  -- the byte at n takes the place of a zero
  one_less : drop n bytes ≡ replicate (43 - n) 0 → drop (n + 1) (set bytes n b) ≡ replicate (43 - (n + 1)) 0
  one_less e =
      let k : 43 - n - 1 ≡ 43 - (n + 1) = omega arith in
      drop-set-lt (n + 1) bytes n b (omega arith) ∙ sym (drop-drop 1 n bytes) ∙ ap (drop 1) e ∙ drop-replicate 1 (43 - n) 0 ∙ ap (λ k. replicate k 0) k

  -- and stands behind the text
  one_more : (text : List ℕ) (byte : ℕ) → length bytes ≡ 43 → take n bytes ≡ text → b ≡ byte → take (n + 1) (set bytes n b) ≡ take 43 (text ++ (byte ∷ []))
  one_more text byte all e same =
      let fits : length (text ++ (byte ∷ [])) ≤ 43 = simp length_push (omega (arith, ap length e, length-take {A = ℕ})) in
      let m = take_more_set bytes n b (omega arith) in
      let t = take_all 43 (text ++ (byte ∷ [])) fits in
      cc

pub invariant_of-self : goal.invariant_of-self
invariant_of-self c = (omega arith, length-set _ _ _ ∙ c.self.invariant.1, one_less _ _ _ c.if-at-lt-LONGEST.true c.self.invariant.2)

pub returns-then-at-lt-LONGEST : goal.returns-then-at-lt-LONGEST
returns-then-at-lt-LONGEST c = one_more _ _ _ c.if-at-lt-LONGEST.true c.args.self.now c.args.b c.self.invariant.1 c.self.view_is (omega arith)

pub returns-else-at-lt-LONGEST : goal.returns-else-at-lt-LONGEST
returns-else-at-lt-LONGEST c =
    let t = c.args.self.now in
    let full : length t ≡ 43 = omega (arith, ap length c.self.view_is, length-take {A = ℕ}) in
    sym (take-append-le 43 t (c.args.b ∷ []) (omega arith) ∙ take_all 43 t (omega arith))

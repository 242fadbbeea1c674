-- Why the worked examples hold.
use Rattle.std.proofs.Common.{◌≡◌, ℕ, ◌+◌, ◌<◌, Bool, true, ◌&&◌, nat_lt, List, [], ◌∷◌, length, codes, refl, ap, inl, inr, arith}
use Rattle.std.specs.Fmt.{digits}
use Rattle.std.proofs.lemmas.Bool.{and_parts, ltb-true}
use Rattle.std.proofs.lemmas.Str.{digit_value_digit}
use Rattle.numeral.specs.Groups.{Group}
use Rattle.address.specs.Colons.{Behind, Joined}
use Rattle.address.specs.Steps.{Took}
use Rattle.address.proofs.Whole.{tail_refused}
use Rattle.space.specs.Bounded.{some_below, sum_below}
use Rattle.space.specs.Places.{lies_by, depth_by}
use Rattle.bitmap.specs.Map as bitmap
use Rattle.worked.specs.Worked.{Worked}

-- a decimal digit is a group
digit : (d : ℕ) → d < 10 → Group ((48 + d) ∷ []) d
digit d h = let v = digit_value_digit (48 + d) (omega arith, omega arith) in record { digits = (omega arith, (omega (arith, v), tt)); few = omega arith; number = omega (arith, v) }

-- digits, each behind a colon
abbrev colons : List ℕ → List ℕ
colons [] = []
colons (d ∷ ds) = 58 ∷ ((48 + d) ∷ colons ds)

abbrev all_digits : List ℕ → Bool
all_digits [] = true
all_digits (d ∷ ds) = nat_lt d 10 && all_digits ds

behind : (ds : List ℕ) → all_digits ds ≡ true → Behind (colons ds) ds
behind [] h = refl
behind (d ∷ ds) h = let p = and_parts _ _ h in ((48 + d) ∷ [], colons ds, refl, digit d (ltb-true d 10 p.0), behind ds p.1)

joined : (d : ℕ) (ds : List ℕ) → d < 10 → all_digits ds ≡ true → Joined ((48 + d) ∷ colons ds) (d ∷ ds)
joined d ds h k = ((48 + d) ∷ [], colons ds, refl, digit d h, behind ds k)

took_head : Took 8 (codes "1:2:3:4::5:6:7:8") (1 ∷ (2 ∷ (3 ∷ (4 ∷ [])))) (codes "::5:6:7:8")
took_head = record { read = record { front = codes "1:2:3:4"; spelt = refl; joined = joined 1 (2 ∷ (3 ∷ (4 ∷ []))) (omega arith) refl; ends = λ _. refl }; few = omega arith; all = inr refl }

took_tail : Took 3 (codes "5:6:7:8") (5 ∷ (6 ∷ (7 ∷ []))) (codes ":8")
took_tail = record { read = record { front = codes "5:6:7"; spelt = refl; joined = joined 5 (6 ∷ (7 ∷ [])) (omega arith) refl; ends = λ _. refl }; few = omega arith; all = inl refl }

-- places, sets and rules compute
pub worked : Worked
unfolding digits some_below sum_below lies_by depth_by bitmap.first bitmap.share
worked =
    record {
      place_four = refl;
      place_six = refl;
      one_group = inr (record { left = codes "1:2:3:4:5:6:7"; right = []; before = 1 ∷ (2 ∷ (3 ∷ (4 ∷ (5 ∷ (6 ∷ (7 ∷ [])))))); after = []; spelt = refl; first = joined 1 (2 ∷ (3 ∷ (4 ∷ (5 ∷ (6 ∷ (7 ∷ [])))))) (omega arith) refl; last = refl; room = omega arith; groups = refl });
      no_group = tail_refused (codes "1:2:3:4::5:6:7:8") (1 ∷ (2 ∷ (3 ∷ (4 ∷ [])))) (codes "::5:6:7:8") took_head (codes "5:6:7:8") refl 3 (5 ∷ (6 ∷ (7 ∷ []))) (codes ":8") (omega arith) (omega arith) took_tail (λ e. omega (arith, ap length e));
      leftmost = refl;
      tree_bytes = refl;
      one_place = refl;
      two_halves = refl;
      quota_left = refl;
      quota_spent = refl;
      held_inside = refl;
      held_beside = refl;
    }

-- `read` takes a head of eight groups, or head, two colons and tail, and refuses what is neither.
use Rattle.std.proofs.Common.{◌≡◌, ℕ, ◌+◌, ◌-◌, ◌≤◌, [], ◌++◌, length, get_or, take, replicate, sym, refl, ap, ◌∙◌, subst, arith}
use borrow.Rule.Slice.PartMut.{put_mid}
use Rattle.std.proofs.lemmas.List.{take-append-le, length-take, length-take-le, nil_from_length}
use Rattle.address.specs.Colons.{Address}
use Rattle.address.proofs.Taking.{two_colons}
use Rattle.address.proofs.Whole.{head_refused, tail_refused, shortened, placed}
use Rattle.address.proofs.colons.read.Goals as goal

pub returns-in_default : goal.returns-in_default
returns-in_default c =
    let h = c.read_groups-head in
    let gs = take h.result.value h.new.into in
    let n : length gs ≡ h.result.value = length-take-le h.result.value h.new.into (omega arith) in (
      c.alone-in_default.ensures,
      refl,
      head_refused c.args.text.now gs h.result.rest.now h.ensures.groups
          (λ p q. let z = ap length q in grind arith)
          (λ x p q. let z = ap length q in grind arith),
    )

pub returns-then-not-is_empty : goal.returns-then-not-is_empty
returns-then-not-is_empty c =
    let h = c.read_groups-head in
    let t = c.read_groups-tail in
    let rest = h.result.rest.now in
    let gs = take h.result.value h.new.into in
    let n : length gs ≡ h.result.value = length-take-le h.result.value h.new.into (omega arith) in
    let two : 2 ≤ length rest = grind arith in
    let first : get_or rest 0 0 ≡ 58 = grind arith in
    let second : get_or rest 1 0 ≡ 58 = grind arith in
    let cut = two_colons rest two first second in (
      c.alone.ensures,
      refl,
      tail_refused c.args.text.now gs rest h.ensures.groups _ cut _ _ _ (omega arith) (omega (arith, length-take {A = ℕ})) t.ensures.groups (λ q. let z = ap length q in grind arith),
    )

pub returns-else-not-is_empty : goal.returns-else-not-is_empty
returns-else-not-is_empty c =
    let h = c.read_groups-head in
    let t = c.read_groups-tail in
    let text = c.args.text.now in
    let rest = h.result.rest.now in
    let n = h.result.value in
    let k = t.result.value in
    let gs = take n h.new.into in
    let ts = take k t.new.into in
    let ys = c.copy_from_slice.new.self in
    let room : n + k ≤ 8 = omega (arith, length-take {A = ℕ}) in
    let a : length gs ≡ n = length-take-le n h.new.into (omega arith) in
    let b : length ts ≡ k = length-take-le k t.new.into (omega (arith, length-take {A = ℕ})) in
    let two : 2 ≤ length rest = grind arith in
    let first : get_or rest 0 0 ≡ 58 = grind arith in
    let second : get_or rest 1 0 ≡ 58 = grind arith in
    let cut = two_colons rest two first second in
    let none : t.result.rest.now ≡ [] = nil_from_length t.result.rest.now (grind arith) in
    let made = shortened text gs rest h.ensures.groups _ cut _ ts _ (omega (arith, length-take {A = ℕ})) t.ensures.groups none in
    let y : ys ≡ ts = c.copy_from_slice.ensures.after ∙ take-append-le k t.new.into _ (omega (arith, length-take {A = ℕ})) in
    let p = placed h.new.into ys n k (omega arith) room h.ensures.behind in
    let q : put_mid (8 - k) (8 - (8 - k)) h.new.into ys ≡ gs ++ (replicate (8 - (length gs + length ts)) 0 ++ ts) = cc in
    subst (Address text) (sym q) made

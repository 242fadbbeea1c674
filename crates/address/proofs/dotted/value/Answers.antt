-- `value` takes the address whose octets stand there, and refuses where one is missing.
use Rattle.std.proofs.Common.{◌≡◌, ℕ, ◌/◌, ◌%◌, ◌≤◌, List, ◌∷◌, ◌++◌, decimal, sym, ◌∙◌, arith}
use Rattle.std.proofs.lemmas.Result.{err_from_is_err_and}
use Rattle.address.proofs.Quads.{same_octet}
use Rattle.address.proofs.dotted.value.Goals as goal

-- behind an octet and a dot that were read stands what the address has there
behind : {x y t : List ℕ} {v n : ℕ} → (v ≤ 255) × (t ≡ decimal v ++ (46 ∷ x)) → n ≤ 255 → t ≡ decimal n ++ (46 ∷ y) → x ≡ y
behind {x} {y} {t} {v} {n} e small f = (same_octet v n x y e.0 small (sym e.1 ∙ f)).1

pub returns-in_err-b : goal.returns-in_err-b
returns-in_err-b c =
    let p = err_from_is_err_and c.from_residual-in_err-b.result c.from_residual-in_err-b.ensures.1 in
    rw (p.1, p.2) (
      c.in_err-b.ensures.0,
      λ n q. c.in_err-b.ensures.1 (n / 65536 % 256) _ (omega arith) (behind c.in_ok-a.ensures (omega (arith, q.below)) q.spelt),
    )

pub returns-in_err-c : goal.returns-in_err-c
returns-in_err-c c =
    let p = err_from_is_err_and c.from_residual-in_err-c.result c.from_residual-in_err-c.ensures.1 in
    rw (p.1, p.2) (
      c.in_err-c.ensures.0,
      λ n q.
          let i = behind c.in_ok-a.ensures (omega (arith, q.below)) q.spelt in
          c.in_err-c.ensures.1 (n / 256 % 256) _ (omega arith) (behind c.in_ok-b.ensures (omega arith) i),
    )

pub returns-in_err-d : goal.returns-in_err-d
returns-in_err-d c =
    let p = err_from_is_err_and c.from_residual-in_err-d.result c.from_residual-in_err-d.ensures.1 in
    rw (p.1, p.2) (
      c.in_err-d.ensures.0,
      λ n q.
          let i = behind c.in_ok-a.ensures (omega (arith, q.below)) q.spelt in
          let j = behind c.in_ok-b.ensures (omega arith) i in
          c.in_err-d.ensures.1 (n % 256) (omega arith) (behind c.in_ok-c.ensures (omega arith) j),
    )

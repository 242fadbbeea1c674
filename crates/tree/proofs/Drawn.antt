-- The set out says what each byte in use is.
use Rattle.std.proofs.Common.{◌≡◌, ℕ, ◌+◌, ◌^◌, ◌<◌, ◌≤◌, Bool, true, false, cond, not, ◌&&◌, eqb, List, length, take, sym, ap, ◌∙◌, ⊎_elim, arith}
use Rattle.std.proofs.lemmas.List.FromFn.{fill_by_all}
use Rattle.std.proofs.lemmas.List.{length-take-le, get_or-take}
use Rattle.std.proofs.lemmas.Bool.{cases_eq, and_parts, and_from, both_ways, ne_eqb, not_from_false, false_from_ne_true}
use Rattle.std.proofs.lemmas.Bool.Decides.{nat_tests}
use Rattle.space.specs.Places.{lies}
use Rattle.space.proofs.Lies.{lies_none}
use Rattle.tree.specs.Tree.{byte, Tidy, tree_out, others, byte_of, drawn}
use Rattle.tree.specs.Sound.{out_parts}
use Rattle.tree.proofs.Agreeing.{two, zero_under, out_in}
use Rattle.tree.proofs.Hits.{out_from, some_out, none_out}

-- a byte by its three cases
by_cases : (out within : Bool) (a : ℕ) → (a ≡ 1 → out ≡ true) → ((a ≡ 1 → ⊥) → out ≡ false) → (a ≡ 0 → within ≡ false)
    → ((a ≡ 1 → ⊥) → (a ≡ 0 → ⊥) → (a ≡ 2) × (within ≡ true)) → a ≡ cond out 1 (cond within 2 0)
by_cases out within a one not-one none other = grind (arith, nat_tests)

module _ (d : ℕ) (b : List ℕ) (live : 0 < d) (tidy : Tidy d b) (first : byte b 0 ≡ 0) where
  at_place : (n : ℕ) → 0 < n → n < 2 ^ (d + 1) → byte b n ≡ byte_of d (tree_out d b) n
  at_place n pos low =
      let inside = λ (k : ℕ). lies k n && not (eqb k n) in
      by_cases (tree_out d b n) (others d (tree_out d b) n) (byte b n)
      (λ one. out_from d b n (record { live = live; pos = pos; low = low; one = one }))
      (λ not-one. false_from_ne_true (tree_out d b n) (λ e. not-one (out_parts d b n e).one))
      (λ z. none_out d b inside (λ k o e. zero_under d b tidy n pos z k o (and_parts (lies k n) _ e).0))
      (λ not-one nz.
      let t = out_in d b tidy n live pos low nz in
      let ne : t.0 ≡ n → ⊥ = λ q. not-one (rw q at t.1.one) in
      ((two d b tidy n pos low not-one nz).1, some_out d b inside t.0 t.1 (and_from (lies t.0 n) _ t.2 (not_from_false (eqb t.0 n) (ne_eqb t.0 n ne)))))

  -- no place lies in 0
  at_zero : byte b 0 ≡ byte_of d (tree_out d b) 0
  at_zero =
      by_cases (tree_out d b 0) (others d (tree_out d b) 0) (byte b 0)
      (λ one. absurd (omega arith))
      (λ not-one. false_from_ne_true (tree_out d b 0) (λ e. not-one (out_parts d b 0 e).one))
      (λ z. none_out d b (λ k. lies k 0 && not (eqb k 0)) (λ k o e. both_ways (lies k 0) (lies_none k) (and_parts (lies k 0) _ e).0))
      (λ not-one nz. absurd (nz first))

  pub bytes_drawn : 2 ^ (d + 1) ≤ length b → take (2 ^ (d + 1)) b ≡ drawn d (tree_out d b)
  bytes_drawn long =
      fill_by_all (byte_of d (tree_out d b)) (take (2 ^ (d + 1)) b) (2 ^ (d + 1)) 0 (length-take-le (2 ^ (d + 1)) b long)
      (λ k lt. get_or-take (2 ^ (d + 1)) b k 0 lt ∙
      ⊎_elim
      (λ z. ap (byte b) z ∙ at_zero ∙ ap (byte_of d (tree_out d b)) (sym z))
      (λ nz. at_place k (omega arith) lt)
      (cases_eq k 0))

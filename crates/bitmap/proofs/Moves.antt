-- A place is taken or given in the words.
use Rattle.std.proofs.Common.{◌≡◌, ℕ, ◌+◌, ◌*◌, ◌<◌, ◌≤◌, Bool, true, false, cond, List, ap, ◌∙◌, refl, arith}
use Rattle.std.proofs.lemmas.Bool.{both_ways, ltb-true, false_from_ne_true}
use Rattle.space.specs.Places.{is_place, size}
use Rattle.space.specs.Meaning.{blocked, is_open, after_take, after_give, having, adding, removing}
use Rattle.space.proofs.Opening.{Open, open_parts, took as took-open}
use Rattle.bits.specs.Bit.{within}
use Rattle.bitmap.specs.Map.{Spans, share, first, marked, starts, map_out, map_meaning, Kept, Borne, Tidy, Marks}
use Rattle.space.proofs.Ranges.{size_pos}
use Rattle.bitmap.specs.Whole.{span, Out, out_of}
use Rattle.bitmap.proofs.Units.{holder, hit_some}
use Rattle.bitmap.proofs.Turn.{taken, given}
use Rattle.bitmap.proofs.Words.{share_fits, marked_now, starts_now, kept_of, borne_of, sits_of}

-- the units of n, from a to before e, were marked or cleared
module _ {d n a e : ℕ} (ws vs : List ℕ) (s : Spans d n a e) (tidy : 0 < d → Tidy d ws) where
  kept : 0 < d → Kept d (marked d ws) (starts d ws)
  kept live = kept_of d (marked d ws) (starts d ws) (tidy live)

  borne : 0 < d → Borne (marked d ws) (starts d ws)
  borne live = borne_of d (marked d ws) (starts d ws) (tidy live)

  module _ (out : Bool) (at : is_place d n ≡ true) (marks : Marks d a e out ws vs) where
    bits : Marks d (first d n) (first d n + size d n) out ws vs
    bits = rw (← s.to, ← s.from) marks

    fits : first d n + size d n ≤ 64 * share d
    fits = let s = span d n at in let f = share_fits d in omega arith

    covs : (u : ℕ) → marked d vs u ≡ cond (within (first d n) (first d n + size d n) u) out (marked d ws u)
    covs = marked_now d ws vs (first d n) (first d n + size d n) out fits (omega (arith, size_pos d n)) bits

    sts : (u : ℕ) → starts d vs u ≡ cond (within (first d n) (first d n + 1) u) out (starts d ws u)
    sts = starts_now d ws vs (first d n) (first d n + size d n) out fits (omega (arith, size_pos d n)) bits

  module _ (is : is_open (map_meaning d ws) n ≡ true) (marks : Marks d a e true ws vs) where
    o : Open (map_meaning d ws) n
    o = open_parts (map_meaning d ws) n is

    live : 0 < d
    live = ltb-true 0 d o.allowed

    clear : (u : ℕ) → first d n ≤ u → u < first d n + size d n → marked d ws u ≡ false
    clear u lo hi = false_from_ne_true (marked d ws u) (λ c. both_ways (blocked (map_meaning d ws) n) o.free (hit_some d (marked d ws) (starts d ws) n o.at u lo hi (holder d (marked d ws) (starts d ws) (kept live) u c)))

    turn : (map_out d (marked d vs) (starts d vs) ≡ adding (map_out d (marked d ws) (starts d ws)) n) × Kept d (marked d vs) (starts d vs) × Borne (marked d vs) (starts d vs)
    turn = taken d (marked d ws) (starts d ws) (marked d vs) (starts d vs) n true (covs true o.at marks) (sts true o.at marks) refl live o.at (kept live) (borne live) clear

    pub took : map_meaning d vs ≡ after_take (map_meaning d ws) n
    took = ap (having (map_meaning d ws)) turn.0 ∙ took-open (map_meaning d ws) n is

    pub took_tidy : Tidy d vs
    took_tidy = sits_of d (marked d vs) (starts d vs) turn.1 turn.2

  module _ (is : map_out d (marked d ws) (starts d ws) n ≡ true) (marks : Marks d a e false ws vs) where
    was : Out d (marked d ws) (starts d ws) n
    was = out_of d (marked d ws) (starts d ws) n is

    back : (map_out d (marked d vs) (starts d vs) ≡ removing (map_out d (marked d ws) (starts d ws)) n) × Kept d (marked d vs) (starts d vs) × Borne (marked d vs) (starts d vs)
    back = given d (marked d ws) (starts d ws) (marked d vs) (starts d vs) n false (covs false was.at marks) (sts false was.at marks) refl (kept was.live) (borne was.live) was

    pub gave : map_meaning d vs ≡ after_give (map_meaning d ws) n
    gave = ap (having (map_meaning d ws)) back.0

    pub gave_tidy : Tidy d vs
    gave_tidy = sits_of d (marked d vs) (starts d vs) back.1 back.2

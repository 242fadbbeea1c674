-- The bytes that were written spell the prefix, and no other.
use Rattle.std.proofs.Common.{◌≡◌, ℕ, ◌≤◌, List, ◌++◌, length, take, drop, sym, ap, ◌∙◌, ⊎_elim, arith}
use Rattle.std.proofs.lemmas.List.{take_at}
use Rattle.fault.specs.declared.Fault.{Fault}
use Rattle.prefix.specs.Form.{Block, block}
use Rattle.prefix.specs.Prefixes.{Valid, refusal}
use Rattle.prefix.proofs.Making.{refusal_none, block_same}
use Rattle.text.specs.Texts.{PrefixText, Refused, prefix_text}
use Rattle.text.proofs.Spelling.{spelt_one}
use Rattle.text.proofs.prefixes.reread_prefix.Goals as goal

-- what was written stands in the first bytes
front : (text old new : List ℕ) (n k : ℕ) → k ≡ n → n ≡ length text → new ≡ text ++ drop n old → take k new ≡ text
front text old new n k all count e = ap (take k) e ∙ take_at text (drop n old) k (sym (all ∙ count))

module _ (spelt : List ℕ → ℕ → Type 0) (written : ℕ → List ℕ) (w : ℕ) (b : Block) (text : List ℕ) (single : (t : List ℕ) (m n : ℕ) → spelt t m → spelt t n → m ≡ n) (own : spelt (written b.first) b.first) (narrow : w ≤ 128) (v : Valid w b) (e : text ≡ prefix_text written b) where
  own_text : PrefixText spelt text b.first b.length
  own_text = record { address = written b.first; whole = e; first = own; small = omega (arith, v.within) }

  same_block : (c : Block) → PrefixText spelt text c.first c.length → c ≡ b
  same_block c t = let s = spelt_one spelt text single c.first c.length b.first b.length t own_text in block_same _ _ _ _ s.0 s.1

  -- the text of a prefix is never refused
  not_refused : (f : Fault) → Refused spelt w text f → ⊥
  not_refused f =
      ⊎_elim
      (λ r. r.1 b.first b.length own_text)
      (λ r.
      let s = same_block (record { first = r.0; length = r.1 }) r.2 in
      cc (ap (λ c. refusal w c.first c.length) s, r.3, refusal_none w b.first b.length v.within v.clear))

pub returns-in_err-read_prefix-clause-wrote : goal.returns-in_err-read_prefix-clause-wrote
returns-in_err-read_prefix-clause-wrote g c =
    let v = g.met.F.Family.valid c.args.p.now in
    let w = c.in_ok-n.ensures in
    absurd (not_refused g.F.TextFamily.spelt g.F.TextFamily.written _ (block g.F.Family.form c.args.p.now) _ g.met.F.TextFamily.single (g.met.F.TextFamily.readable _ v.small) g.met.F.Family.narrow v (front _ _ _ _ _ (omega arith) w.0 w.2) c.in_err-read_prefix.field-0.0 c.in_err-read_prefix.ensures.0)

pub returns-clause-back : goal.returns-clause-back
returns-clause-back g c =
    let v = g.met.F.Family.valid c.args.p.now in
    let w = c.in_ok-n.ensures in
    g.met.F.Family.same c.read_prefix.new.into c.args.p.now
    (same_block g.F.TextFamily.spelt g.F.TextFamily.written _ (block g.F.Family.form c.args.p.now) _ g.met.F.TextFamily.single (g.met.F.TextFamily.readable _ v.small) g.met.F.Family.narrow v (front _ _ _ _ _ (omega arith) w.0 w.2) (block g.F.Family.form c.read_prefix.new.into) c.in_ok-read_prefix.ensures)

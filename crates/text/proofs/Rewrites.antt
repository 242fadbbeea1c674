-- Written as it was read: what rewriting answers, by what writing answers.
use Rattle.std.proofs.Common.{ℕ, List, Ok, Err, Result, inr}
use Rattle.fault.specs.declared.Fault.{Fault}
use Rattle.numeral.specs.Drafts.{Wrote}
use Rattle.text.specs.Rewriting.{Rewritten, Rewrote}

pub rewrote : (spelt : List ℕ → ℕ → Type 0) (written : ℕ → List ℕ) (w : ℕ) (text out old new : List ℕ) (r : Result ℕ Fault) → Rewritten spelt written w text out → Wrote out old new r → Rewrote spelt written w text old new r
rewrote spelt written w text out old new (Ok k) h wrote = (out, h, wrote)
rewrote spelt written w text out old new (Err f) h wrote = inr (out, h, wrote)

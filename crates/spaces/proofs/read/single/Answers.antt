use Rattle.std.proofs.Common.{arith}
use Rattle.spaces.proofs.Spelling.{no_single}
use Rattle.spaces.proofs.read.single.Goals as goal

pub returns-in_default : goal.returns-in_default
returns-in_default c = no_single c.args.letter c.args.n (omega arith) (λ e. omega arith) (λ e. omega arith) (λ e. omega arith) (λ e. omega arith) (λ e. omega arith)

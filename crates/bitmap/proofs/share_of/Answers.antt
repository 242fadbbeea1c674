use Rattle.std.proofs.Common.{◌^◌, ◌≤◌, arith, pow_mono}
use Rattle.std.proofs.lemmas.Bool.Decides.{nat_tests}
use Rattle.std.proofs.lemmas.Nat.{one_shl}
use Rattle.bitmap.specs.Map.{share}
use Rattle.bitmap.proofs.Words.{share_fits}
use Rattle.bitmap.proofs.share_of.Goals as goal

pub returns : goal.returns
unfolding share
returns c =
    let e = one_shl c.args.d 64 (omega arith) in
    let p : 2 ^ c.args.d ≤ 4096 = pow_mono c.requires in
    let f = share_fits c.args.d in
    record { value = grind (arith, nat_tests); bound = (grind (arith, nat_tests), grind (arith, nat_tests)) }

-- The loop of `value` keeps what the digits write that were read.
use Rattle.std.proofs.Common.{◌≡◌, take}
use Rattle.std.specs.Str.Parse.{AllDigits, digits_value}
use Rattle.numeral.proofs.group.value.Given as goal

abbrev pub invariant-loop-d : goal.invariant-loop-d
invariant-loop-d l = record { each : AllDigits 16 (take l.d-index l.ds); number : l.g ≡ digits_value 16 (take l.d-index l.ds) }

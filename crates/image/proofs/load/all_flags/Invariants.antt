-- Whether the bytes passed are flags.
use Rattle.std.proofs.Common.{◌≡◌, take}
use Rattle.image.specs.Load.{all_flags}
use Rattle.image.proofs.load.all_flags.Given as goal

abbrev pub invariant-loop-flag : goal.invariant-loop-flag
invariant-loop-flag l = l.good ≡ all_flags (take l.flag-index l.flags)

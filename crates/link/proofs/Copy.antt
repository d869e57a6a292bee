-- Bytes copied over as many are theirs. Assumes nothing.
use Prim.Native.Nat.{ℕ}
use native.Mathlib.Omega.{arith}
use mathlib.Core.Path.{◌≡◌}
use mathlib.Core.List.{List, ◌++◌, append-nil}
use lib.ListN.{length, take, drop, drop_of_length-le}
use lib.Seq.{take-length}

pub copied : (image held : List ℕ) → length held ≡ length image → take (length image) image ++ drop (length image) held ≡ image
copied image held e =
    rw (take-length image, drop_of_length-le held {i = length image} (omega (arith, e))) (append-nil image)

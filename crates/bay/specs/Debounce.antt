-- Debounce (document 01, "Bay moves"). Each bay keeps three debounce counts, for 1394, USB and removal request.
use Rattle.std.specs.Prelude.{ℕ, ◌+◌, Bool, not, cond, ◌&&◌, [], ◌∷◌, leb}
use Rattle.std.specs.Bool.{beq}
use Rattle.bits.specs.Bits.{bit}
use Rattle.bay.specs.Record.{N1394, NUSB, NREMREQ, accepted_level, count, with_inputs}
use Rattle.bay.specs.declared.Bay.{Bay}
use Rattle.bay.specs.declared.Input.{Input}

abbrev pub differs : Bool → Bool → Bool
differs level accepted = not (beq level accepted)

-- TICK: a count whose level differs rises by one; at `length` the level is accepted ..
abbrev pub settles : ℕ → Bool → Bool → ℕ → Bool
settles length level accepted n = differs level accepted && leb length (n + 1)

abbrev pub accepted_after : ℕ → Bool → Bool → ℕ → Bool
accepted_after length level accepted n = cond (settles length level accepted n) level accepted

-- .. and the count is 0.
abbrev pub count_after : ℕ → Bool → Bool → ℕ → ℕ
count_after length level accepted n = cond (settles length level accepted n) 0 (cond (differs level accepted) (n + 1) n)

unfoldable pub debounce : ℕ → Bool → Bool → ℕ → Input
debounce length level accepted n =
    record {
      accepted = accepted_after length level accepted n;
      count = count_after length level accepted n;
      settled = settles length level accepted n;
    }

-- PINS sets to 0 the count of each input whose level now equals the accepted one.
unfoldable pub restart : Bool → Bool → ℕ → ℕ
restart level accepted n = cond (beq level accepted) 0 n

-- PINS stores levels (n1394, nUSB, nREMREQ, nSL).
unfoldable pub sampled_bay : ℕ → Bay → Bay
sampled_bay levels b =
    with_inputs
    (bit 3 levels ∷ bit 2 levels ∷ bit 1 levels ∷ [])
    b.accepted
    (restart (bit 3 levels) (accepted_level b N1394) (count b N1394)
    ∷ restart (bit 2 levels) (accepted_level b NUSB) (count b NUSB)
    ∷ restart (bit 1 levels) (accepted_level b NREMREQ) (count b NREMREQ)
    ∷ [])
    (bit 0 levels)
    b

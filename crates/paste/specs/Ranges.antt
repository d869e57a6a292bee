-- The numbers of a fit state have ranges (document 01, "Replies and refusal numbers"; document 03, "State"), by the kind in force: each begins
-- at 0.
use Rattle.std.specs.Prelude.{ℕ, ◌+◌, Bool, List, [], ◌∷◌, ◌++◌, ltb, Option}
use Rattle.std.specs.List.{find}
use Rattle.kind.specs.declared.Kind.{Kind}
use Rattle.kind.specs.declared.Kind.TheVariants.{First, Second}
use Rattle.second.specs.Record.{byte}
use Rattle.second.specs.declared.Second as own
use Rattle.bay.specs.Record.{N1394, NUSB, NREMREQ, count}
use Rattle.bay.specs.declared.Bay.{Bay}
use Rattle.machine.specs.Record.{bay0, bay1}
use Rattle.machine.specs.declared.Machine.{Machine}
use Rattle.paste.specs.declared.Ranged.{Ranged}

-- A number: where it begins in the image, what it is, and the largest that is fit.
abbrev pub ranged : ℕ → ℕ → ℕ → Ranged
ranged at value last = record { at = at; value = value; last = last }

abbrev pub is_out : Ranged → Bool
is_out n = ltb n.last n.value

-- With the first kind in force pulses are fit 0-200 and waits 0-255; with the second, pulses 0-1200 and waits 0-560.
unfoldable pub longest : Kind → ℕ × ℕ
longest First = (200, 255)
longest Second = (1200, 560)

-- Of a state once: straps, bay count, lock time and phase. Any byte is fit as 42h.
abbrev pub own_ranged : Machine → List Ranged
own_ranged m = ranged 41 m.straps 15 ∷ ranged 42 m.shared.bay_count 3 ∷ ranged 43 m.shared.lock_time 3 ∷ ranged 45 m.phase 199 ∷ []

-- Of the second kind's own registers: the form factors. Any byte is fit as SFR and in the subsystem words.
abbrev pub second_ranged : own.Second → List Ranged
second_ranged r = ranged 50 (byte r.form_factors 0) 7 ∷ ranged 51 (byte r.form_factors 1) 7 ∷ []

-- Of a bay, from its first place on: three debounce counts, state, request, pulse and wait.
abbrev pub bay_ranged : ℕ → Kind → Bay → List Ranged
bay_ranged start k b =
    ranged start (count b N1394) 9
    ∷ ranged (start + 1) (count b NUSB) 9
    ∷ ranged (start + 2) (count b NREMREQ) 4
    ∷ ranged (start + 3) b.state 4
    ∷ ranged (start + 4) b.control.request 4
    ∷ ranged (start + 5) b.pulse (longest k).0
    ∷ ranged (start + 7) b.wait (longest k).1
    ∷ []

-- Of a state, in the image's order.
abbrev pub ranged_of : Machine → List Ranged
ranged_of m =
    ((own_ranged m ++ second_ranged m.second) ++ bay_ranged 53 m.kind (bay0 m.bays)) ++ bay_ranged 62 m.kind (bay1 m.bays)

-- The first of some numbers that is out of its range, and the first of a state's.
abbrev pub first_out : List Ranged → Option Ranged
first_out ns = find is_out ns

unfoldable pub out_of : Machine → Option Ranged
out_of m = first_out (ranged_of m)

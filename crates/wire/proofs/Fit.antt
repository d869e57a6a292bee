-- Which held states are fit, in numbers, and that a fit one stays fit. Assumes nothing.
use Prim.Native.Nat.{ℕ, ◌+◌, ◌≤◌}
use native.Mathlib.Omega.{arith}
use mathlib.Core.Path.{◌≡◌, refl}
use mathlib.Core.Logic.{◌↔◌}
use mathlib.Core.Bool.{Bool, true, false, cond, and-eq-true_iff}
use mathlib.Core.List.{List, [], ◌∷◌}
use lib.Dec.{leb, ltb}
use borrow.Author.Tests.{leb-true, le-leb, ltb-true}
use Rattle.std.specs.Prelude.{Option, Some, None}
use Rattle.bits.specs.Bits.{bit}
use Rattle.wire.specs.Levels.{lines_after, shown_by, run_after}
use Rattle.wire.specs.Nine.{bit_to, tells, listens, collects, ninth, told}
use Rattle.wire.specs.Record.{fresh_wire, fits}
use Rattle.wire.specs.Hear.{hear_of, after}
use Rattle.wire.specs.declared.Wire.{Wire}
use Rattle.wire.specs.declared.Ear.{Ear}
use Rattle.wire.specs.declared.Shown.{Shown}
use Rattle.wire.specs.declared.Shown.TheVariants as shown

pub record Fits (w : Wire) : Type 0 where
  pub bits : w.ear.bits ≤ 8
  pub low : w.lines.low ≤ 17501

pub fit_parts : (w : Wire) → (fits w ≡ true) ↔ Fits w
unfolding fits
fit_parts w = (
  λ h. let p = (and-eq-true_iff (leb w.ear.bits 8) _).0 h in record { bits = leb-true _ 8 p.0; low = leb-true _ 17501 p.1 },
  λ f. rw (le-leb w.ear.bits 8 f.bits, le-leb w.lines.low 17501 f.low),
)

pub fresh_fit : fits fresh_wire ≡ true
unfolding fits fresh_wire
fresh_fit = refl

-- ---- kept by a sample

low_kept : (high : Bool) (run : ℕ) → run ≤ 17501 → run_after high run ≤ 17501
low_kept true run l = omega arith
low_kept false run l = go (leb run 17500) refl
  where
    go : (t : Bool) → leb run 17500 ≡ t → cond t (run + 1) run ≤ 17501
    go true e = omega (arith, leb-true run 17500 e)
    go false e = l

bit_kept : (e : Ear) (d : Bool) → e.bits ≤ 8 → (bit_to e d).ear.bits ≤ 8
unfolding bit_to
bit_kept e d l = go (listens e.listening) (ltb e.bits 8) refl
  where
    go : (t u : Bool) → ltb e.bits 8 ≡ u → (cond t (cond u (collects e d) (ninth e d)) (told e None)).ear.bits ≤ 8
    go true true p = omega (arith, ltb-true e.bits 8 p)
    go true false p = omega arith
    go false u p = l

bits_kept : (e : Ear) (s : Option Shown) → e.bits ≤ 8 → (tells e s).ear.bits ≤ 8
unfolding tells
bits_kept e None l = l
bits_kept e (Some shown.Start) l = omega arith
bits_kept e (Some shown.Stop) l = omega arith
bits_kept e (Some shown.Timeout) l = omega arith
bits_kept e (Some (shown.Bit d)) l = bit_kept e d l

hear_fit : (w : Wire) (s : ℕ) → Fits w → Fits (hear_of w s).wire
unfolding hear_of lines_after
hear_fit w s f = record { bits = bits_kept w.ear (shown_by w.lines s) f.bits; low = low_kept (bit 1 s) w.lines.low f.low }

pub fit_kept : (w : Wire) (ss : List ℕ) → fits w ≡ true → fits (after w ss) ≡ true
unfolding after
fit_kept w [] h = h
fit_kept w (s ∷ ss) h = fit_kept (hear_of w s).wire ss ((fit_parts _).1 (hear_fit w s ((fit_parts w).0 h)))

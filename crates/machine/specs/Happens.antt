-- What acts are to one bay (document 01, "Registers" and "Bay moves"), in the words of the bay's own promises: a TICK, a sample, a write of
-- its BSTR or of its BCER, the first write of SFR, or nothing, until a RESET or its closing makes another bay of it.
use Rattle.std.specs.Prelude.{ℕ, Bool, true, false, cond, ◌&&◌, ◌||◌, List, [], ◌∷◌, ◌++◌, eqb}
use Rattle.bay.specs.Registers.{control_of}
use Rattle.bay.specs.Happens.{Happens, tick, pins, bstr, bcer, unlock}
use Rattle.machine.specs.Record.{is_open}
use Rattle.machine.specs.Setting.{setting_of}
use Rattle.machine.specs.Acts.{does}
use Rattle.machine.specs.After.{bstr_own, bcer_own, closes, unlocks, own_levels}
use Rattle.machine.specs.declared.Machine.{Machine}
use Rattle.machine.specs.declared.Act.{Act}
use Rattle.machine.specs.declared.Act.TheVariants.{Write, Read, Pins, Tick, Reset, Name}

-- At an act: nothing, or one thing. A closed bay is passed by.
unfoldable pub happens_at : Machine → ℕ → Act → List Happens
happens_at m i (Write a v) =
    cond (eqb a (bcer_own m i) && is_open m i) (bcer (control_of v) (setting_of m) ∷ [])
    (cond (eqb a (bstr_own m i) && is_open m i) (bstr v ∷ []) (cond (unlocks m a) (unlock ∷ []) []))
happens_at m i (Read a) = []
happens_at m i (Pins levels) = cond (is_open m i) (pins (own_levels i levels) ∷ []) []
happens_at m i Tick = cond (is_open m i) (tick (setting_of m) ∷ []) []
happens_at m i (Reset straps levels short) = []
happens_at m i (Name k) = []

-- Over a list of acts, in order.
unfoldable pub happened : Machine → ℕ → List Act → List Happens
happened m i [] = []
happened m i (a ∷ acts) = happens_at m i a ++ happened (does a m) i acts

-- What makes another bay of it: a RESET, and the write that closes it.
unfoldable pub remakes : Machine → ℕ → Act → Bool
remakes m i (Write a v) = closes m i a v
remakes m i (Read a) = false
remakes m i (Pins levels) = false
remakes m i Tick = false
remakes m i (Reset straps levels short) = true
remakes m i (Name k) = false

unfoldable pub remade : Machine → ℕ → List Act → Bool
remade m i [] = false
remade m i (a ∷ acts) = remakes m i a || remade (does a m) i acts

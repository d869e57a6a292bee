-- What a machine does (document 01; document 03, "Naming the kind" and "Registers"): whole acts, each at once.
use Rattle.std.specs.Prelude.{ℕ, ◌+◌, ◌-◌, ◌/◌, ◌%◌, Bool, true, false, not, cond, ◌&&◌, List, [], ◌∷◌, ltb}
use Rattle.std.specs.Bool.{beq}
use Rattle.bits.specs.Straps.{lock_def, lock_mode}
use Rattle.bay.specs.declared.Bay.{Bay}
use Rattle.bay.specs.Record.{reset_bay}
use Rattle.bay.specs.Debounce.{sampled_bay}
use Rattle.bay.specs.Moves.{ticked_bay, rests}
use Rattle.kind.specs.declared.Kind.{Kind}
use Rattle.kind.specs.declared.Kind.TheVariants.{First, Second}
use Rattle.second.specs.Record.{reset}
use Rattle.second.specs.declared.Second as second
use Rattle.machine.specs.Record.{PHASES, bay_in, bay_at, is_open, become, with_bays, unwritten}
use Rattle.machine.specs.Setting.{hides, is_lit, setting_of}
use Rattle.machine.specs.InForce.{written}
use Rattle.machine.specs.declared.Machine.{Machine}
use Rattle.machine.specs.declared.Act.{Act}
use Rattle.machine.specs.declared.Acted.{Acted}
use Rattle.machine.specs.declared.Act.TheVariants.{Write, Read, Pins, Tick, Reset, Name}

-- After RESET LOCK_CTL is equal to LOCK_DEF if LOCK_MODE is 0 and else 0; in the second kind it is 0 (l.465).
unfoldable pub lock_after_reset : Kind → ℕ → Bool
lock_after_reset First straps = lock_def straps && not (lock_mode straps)
lock_after_reset Second straps = false

-- After RESET LETR is 1, or 0 if the short pulse is asked for (document 02, request 4). In the second kind it is 0, whatever is asked for.
unfoldable pub letr_after_reset : Kind → Bool → ℕ
letr_after_reset First short = cond short 0 1
letr_after_reset Second short = 0

-- After RESET the bay count is 0, and in the second kind 2 (l.446).
unfoldable pub count_after_reset : Kind → ℕ
count_after_reset First = 0
count_after_reset Second = 2

-- RESET into a kind: LETR and DBCCR so, DBCCR unwritten, 42h 0, phase 0, both bays as RESET makes them with their levels (bay 0's are bits
-- 7-4), and of the second kind's own registers what a RESET leaves.
unfoldable pub reset_as : Kind → ℕ → ℕ → Bool → second.Second → Machine
reset_as k straps levels short own =
    record {
      started = true;
      straps = straps;
      kind = k;
      named = k;
      shared = unwritten (count_after_reset k) (letr_after_reset k short);
      second = reset own;
      phase = 0;
      bays = reset_bay (levels / 16) (lock_after_reset k straps) ∷ reset_bay (levels % 16) (lock_after_reset k straps) ∷ [];
    }

-- The named kind comes into force, and the name stays for later RESETs (document 03, "Naming the kind").
abbrev pub reset_to : ℕ → ℕ → Bool → Machine → Machine
reset_to straps levels short m = reset_as m.named straps levels short m.second

-- Naming a kind stores the name, and changes nothing else until a RESET comes.
unfoldable pub name_to : Kind → Machine → Machine
name_to k m =
    record {
      started = m.started;
      straps = m.straps;
      kind = m.kind;
      named = k;
      shared = m.shared;
      second = m.second;
      phase = m.phase;
      bays = m.bays;
    }

-- A bay after PINS and after a TICK. A closed bay is passed by.
unfoldable pub sampled_at : Machine → ℕ → ℕ → Bay
sampled_at m i levels = cond (is_open m i) (sampled_bay levels (bay_at m i)) (bay_at m i)

unfoldable pub ticked_at : Machine → ℕ → Bay
ticked_at m i = cond (is_open m i) (ticked_bay (hides m) (setting_of m) (bay_at m i)) (bay_at m i)

-- PINS: bay 0's levels are bits 7-4.
unfoldable pub pins_to : ℕ → Machine → Machine
pins_to levels m = with_bays (sampled_at m 0 (levels / 16) ∷ sampled_at m 1 (levels % 16) ∷ []) m

-- The phase rises by one, 199 to 0.
unfoldable pub next_phase : ℕ → ℕ
next_phase p = cond (ltb p (PHASES - 1)) (p + 1) 0

-- TICK: each bay, then the phase.
unfoldable pub tick_to : Machine → Machine
tick_to m = become m.shared (next_phase m.phase) (ticked_at m 0 ∷ ticked_at m 1 ∷ []) m

-- The machine after an act.
unfoldable pub does : Act → Machine → Machine
does (Write a v) m = written a v m
does (Read a) m = m
does (Pins levels) m = pins_to levels m
does Tick m = tick_to m
does (Reset straps levels short) m = reset_to straps levels short m
does (Name k) m = name_to k m

-- .. and after a list of acts, one after the other.
unfoldable pub does_all : List Act → Machine → Machine
does_all [] m = m
does_all (a ∷ acts) m = does_all acts (does a m)

-- ---- an act that leaves the outputs as they were, so that they needn't be worked out again

-- A TICK finds nothing to do in either bay.
unfoldable pub restful : List Bay → Bool
restful bs = rests (bay_in bs 0) && rests (bay_in bs 1)

-- A flashing lamp is lit after a TICK as it was before.
abbrev pub keeps_lit : Kind → ℕ → Bool
keeps_lit k p = beq (is_lit k p) (is_lit k (next_phase p))

-- A read, a pin sample, a name, and a TICK in which both are so.
unfoldable pub keeps : Act → Machine → Bool
keeps (Write a v) m = false
keeps (Read a) m = true
keeps (Pins levels) m = true
keeps Tick m = restful m.bays && keeps_lit m.kind m.phase
keeps (Reset straps levels short) m = false
keeps (Name k) m = true

-- The machine after an act, and whether it is such an act.
abbrev pub acted : Act → Machine → Acted
acted a m = record { machine = does a m; keeps = keeps a m }

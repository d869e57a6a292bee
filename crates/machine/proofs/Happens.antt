-- A bay after a list of acts is what has happened to it by them, in every machine, as long as none makes another bay of it; and one that is
-- open stays so. From what becomes of a bay at each act, by induction on the list. Assumes nothing.
use Prim.Native.Nat.{ℕ}
use mathlib.Core.Path.{◌≡◌, refl, sym, ap, ◌∙◌}
use mathlib.Core.Bool.{Bool, true, false, not, cond, ◌&&◌, ◌||◌, true≢false}
use mathlib.Core.List.{List, [], ◌∷◌}
use lib.Dec.{eqb}
use borrow.Author.Tests.{eq-eqb}
use Rattle.bay.specs.declared.Bay.{Bay}
use Rattle.bay.specs.Happens.{Happens, tick, pins, happens, happens_all}
use Rattle.bay.proofs.Taut.{pick, neither, taut, implies, apply}
use Rattle.bay.proofs.Happens.{happens_more}
use Rattle.machine.specs.Record.{bay_at, open_by, is_open}
use Rattle.machine.specs.Setting.{hides, setting_of}
use Rattle.machine.specs.Acts.{pins_to, tick_to, does, does_all, name_to}
use Rattle.machine.specs.After.{closes, own_levels, bay_after, shared_written, bcer_own, bstr_own, first_kinds}
use Rattle.machine.specs.Happens.{happens_at, happened, remakes, remade}
use Rattle.machine.specs.declared.Machine.{Machine}
use Rattle.machine.specs.declared.Shared.{Shared}
use Rattle.machine.specs.declared.Act.{Act}
use Rattle.machine.specs.declared.Act.TheVariants.{Write, Read, Pins, Tick, Reset, Name}
use Rattle.machine.proofs.After.{bay_after_lem, of_write, written_shared, three}
use Rattle.machine.specs.Registers.{count_written}
use Rattle.kind.specs.Kind.{is_second}
use Rattle.machine.proofs.Addresses.{write_steady}

-- ---- one act

-- What happens to an open bay, and nothing to a closed one.
while_open : (hides o : Bool) (x : Happens) (b : Bay) → cond o (happens hides x b) b ≡ happens_all hides (cond o (x ∷ []) []) b
unfolding happens_all
while_open hides true x b = refl
while_open hides false x b = refl

pub act_happens : (a : Act) (m : Machine) (i : ℕ) → remakes m i a ≡ false → bay_at (does a m) i ≡ happens_all (hides m) (happens_at m i a) (bay_at m i)
unfolding does bay_after remakes happens_at happens_all happens
act_happens (Write a v) m i r =
    of_write a v m (λ (b : Bay). b ≡ happens_all (hides m) (happens_at m i (Write a v)) (bay_at m i)) i
    (λ e o. rw (e, eq-eqb (bcer_own m i) (bcer_own m i) refl, o))
    (λ e o. rw (e, (three m.kind i).bstr_bcer, eq-eqb (bstr_own m i) (bstr_own m i) refl, o))
    (λ k l c. absurd (true≢false (sym c ∙ r)))
    (λ k l c u. rw (k, l, u))
    (λ k l c u. rw (k, l, u))
act_happens (Read a) m i r = refl
act_happens (Pins levels) m i r = bay_after_lem (Pins levels) m i ∙ while_open (hides m) (is_open m i) (pins (own_levels i levels)) (bay_at m i)
act_happens Tick m i r = bay_after_lem Tick m i ∙ while_open (hides m) (is_open m i) (tick (setting_of m)) (bay_at m i)
act_happens (Reset straps levels short) m i r = absurd (true≢false r)
act_happens (Name k) m i r = bay_after_lem (Name k) m i

-- The first write of DBCCR leaves a bay open that it doesn't close.
write_open : (a v : ℕ) (m : Machine) (i : ℕ) → is_open m i ≡ true → closes m i a v ≡ false → open_by (shared_written m a v).bay_count i ≡ true
unfolding shared_written open_by
write_open a v m i o c =
    pick P (eqb a 0x0C && not m.shared.dbccr_written) first
    (λ _. pick P (first_kinds m 0x40 a) (λ _. o) (λ _. pick P (first_kinds m 0x42 a) (λ _. o) (λ _. o)))
  where
    P : Shared → Type 0
    P r = open_by r.bay_count i ≡ true

    first : (eqb a 0x0C && not m.shared.dbccr_written) ≡ true → open_by (count_written m.kind v) i ≡ true
    first h =
        apply _ _
        (apply _ _
        (taut 4 (λ p w q z. implies (p && w) (implies (not (p && q && w && not z)) (z || not q))) refl (eqb a 0x0C) (not m.shared.dbccr_written) (eqb (count_written m.kind v) 1) (eqb i 0))
        h)
        (ap not c)

pub act_open : (a : Act) (m : Machine) (i : ℕ) → is_open m i ≡ true → remakes m i a ≡ false → is_open (does a m) i ≡ true
unfolding does pins_to tick_to name_to remakes
act_open (Write a v) m i o r = ap (λ (s : Shared). open_by s.bay_count i) (written_shared a v m) ∙ write_open a v m i o r
act_open (Read a) m i o r = o
act_open (Pins levels) m i o r = o
act_open Tick m i o r = o
act_open (Reset straps levels short) m i o r = absurd (true≢false r)
act_open (Name k) m i o r = o

-- The kind in force stays, but by a RESET.
pub act_kind : (a : Act) (m : Machine) (i : ℕ) → remakes m i a ≡ false → hides (does a m) ≡ hides m
unfolding does pins_to tick_to name_to hides remakes
act_kind (Write a v) m i r = ap is_second (write_steady a v m).kind
act_kind (Read a) m i r = refl
act_kind (Pins levels) m i r = refl
act_kind Tick m i r = refl
act_kind (Reset straps levels short) m i r = absurd (true≢false r)
act_kind (Name k) m i r = refl

-- ---- a list of acts

pub bay_run : (acts : List Act) (m : Machine) (i : ℕ) → remade m i acts ≡ false → bay_at (does_all acts m) i ≡ happens_all (hides m) (happened m i acts) (bay_at m i)
unfolding does_all happened remade happens_all
bay_run [] m i r = refl
bay_run (a ∷ acts) m i r =
    let both = neither (remakes m i a) (remade (does a m) i acts) r in
    bay_run acts (does a m) i both.1 ∙ rw (act_kind a m i both.0) (ap (happens_all (hides m) (happened (does a m) i acts)) (act_happens a m i both.0))
    ∙ sym (happens_more (hides m) (happens_at m i a) (happened (does a m) i acts) (bay_at m i))

pub kind_run : (acts : List Act) (m : Machine) (i : ℕ) → remade m i acts ≡ false → hides (does_all acts m) ≡ hides m
unfolding does_all remade
kind_run [] m i r = refl
kind_run (a ∷ acts) m i r =
    let both = neither (remakes m i a) (remade (does a m) i acts) r in kind_run acts (does a m) i both.1 ∙ act_kind a m i both.0

pub open_run : (acts : List Act) (m : Machine) (i : ℕ) → is_open m i ≡ true → remade m i acts ≡ false → is_open (does_all acts m) i ≡ true
unfolding does_all remade
open_run [] m i o r = o
open_run (a ∷ acts) m i o r =
    let both = neither (remakes m i a) (remade (does a m) i acts) r in
    open_run acts (does a m) i (act_open a m i o both.0) both.1

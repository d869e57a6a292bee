-- 42h and a bay's wait over events, in every controller; and what is true of a wait in those reached from a fresh one (document 02, request
-- 6). Assumes nothing.
use Prim.Native.Nat.{ℕ, ◌<◌}
use mathlib.Core.Path.{◌≡◌, ap}
use mathlib.Core.Logic.{◌⊎◌}
use mathlib.Core.Bool.{true, false}
use Rattle.event.specs.declared.Event.{Event}
use Rattle.bay.specs.Record.{present, contact}
use Rattle.machine.specs.Record.{bay_at}
use Rattle.machine.specs.Setting.{hides}
use Rattle.machine.specs.Wait.{wait_time, wait_time_after, wait_of, wait_after}
use Rattle.machine.specs.Seats.{Seats}
use Rattle.machine.proofs.Wait.{wait_time_after_lem, wait_after_lem}
use Rattle.machine.proofs.Seats.{seats}
use Rattle.dock.specs.Events.{next}
use Rattle.dock.specs.Run.{Reached}
use Rattle.dock.specs.Wait.{wait_time_next, wait_next}
use Rattle.dock.specs.declared.Controller.{Controller}
use Rattle.dock.proofs.Laws.{reached_sound}
use Rattle.dock.proofs.Parts.{part_next_lem}
use Rattle.kind.specs.declared.Kind.TheVariants.{First}
use Rattle.kind.specs.Kind.{is_second}

pub wait_time_next_lem : (s : Controller) (e : Event) → wait_time (next s e).machine ≡ wait_time_next s e
unfolding wait_time_next
wait_time_next_lem = part_next_lem wait_time wait_time_after wait_time_after_lem

pub wait_next_lem : (i : ℕ) (s : Controller) (e : Event) → wait_of (next s e).machine i ≡ wait_next s i e
unfolding wait_next
wait_next_lem i = part_next_lem (λ m. wait_of m i) (λ m a. wait_after m i a) (λ a m. wait_after_lem a m i)

-- A device that is present in Empty: DEVSTSCHG_EN is clear, or a wait runs.
pub empty_with_device :
    (s : Controller) → Reached s → (i : ℕ) → present (hides s.machine) (bay_at s.machine i) ≡ true → (bay_at s.machine i).state ≡ 0
    → ((bay_at s.machine i).control.devstschg_en ≡ false) ⊎ (0 < wait_of s.machine i)
empty_with_device s r i = ((reached_sound s r).bays i).waiting

-- A wait runs only in Empty, over a contact; in the first kind with DEVSTSCHG_EN set.
pub waits_only :
    (s : Controller) → Reached s → (i : ℕ) → 0 < wait_of s.machine i
    → ((bay_at s.machine i).state ≡ 0) × (contact (bay_at s.machine i) ≡ true)
    × (s.machine.kind ≡ First → (bay_at s.machine i).control.devstschg_en ≡ true)
unfolding hides
waits_only s r i l = let three = ((reached_sound s r).bays i).seating l in (three.0, three.1, λ e. three.2 (ap is_second e))

-- And it keeps its promise, whatever acts come.
pub reached_waits : (s : Controller) → Reached s → (i : ℕ) → 0 < wait_of s.machine i → Seats (wait_of s.machine i) s.machine i
reached_waits s r i l = seats s.machine (reached_sound s r) i l

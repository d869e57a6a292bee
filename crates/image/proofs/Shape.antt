-- A record's arrays keep their lengths, whatever word comes and whatever kind is named: each rule makes lists of as many elements.
-- Assumes nothing.
use Prim.Native.Nat.{ℕ}
use mathlib.Core.Path.{◌≡◌, refl}
use mathlib.Core.List.{List}
use lib.Dec.{eqb}
use lib.ListN.{length}
use Rattle.second.specs.Record.{fresh, reset}
use Rattle.second.specs.Once.{after_subsystem_write, form_factor_written, after_sfr_write}
use Rattle.second.specs.declared.Second.{Second}
use Rattle.bay.specs.Record.{empty_bay, reset_bay}
use Rattle.bay.specs.Debounce.{sampled_bay}
use Rattle.bay.specs.Moves.{moved_to, moved_bay, ticked_bay}
use Rattle.bay.specs.Registers.{bstr_written, controlled_bay, unlocked_bay}
use Rattle.bay.specs.declared.Bay.{Bay}
use Rattle.bay.proofs.Taut.{pick}
use Rattle.machine.specs.Record.{bay_at, bay_in, placed, with_bay, is_open, fresh_machine}
use Rattle.machine.specs.Setting.{hides, setting_of}
use Rattle.machine.specs.Registers.{dbccr_stored, dbccr_write, bstr_write, bcer_write}
use Rattle.machine.specs.FirstKind.{letr_write, wait_write}
use Rattle.machine.specs.SecondKind.{subsystem_write, form_factor_write, sfr_write}
use Rattle.machine.specs.InForce.{written}
use Rattle.machine.specs.Acts.{reset_as, name_to, pins_to, tick_to, does}
use Rattle.machine.specs.declared.Machine.{Machine}
use Rattle.machine.specs.declared.Act.{Act}
use Rattle.machine.specs.declared.Act.TheVariants.{Write, Read, Pins, Tick, Reset, Name}
use Rattle.machine.proofs.Bays.{each}
use Rattle.machine.proofs.Addresses.{by_address}
use Rattle.machine.proofs.After.{after_act}
use Rattle.dock.specs.Record.{fresh_controller}
use Rattle.dock.specs.Run.{Call, after_calls}
use Rattle.dock.specs.declared.Controller.{Controller}
use Rattle.dock.proofs.Every.{every_list}
use Rattle.image.specs.Shape.{ShapedBay, ShapedSecond, Shaped}

-- ---- each rule of a bay

empty_shaped : ShapedBay empty_bay
unfolding empty_bay
empty_shaped = record { levels = refl; accepted = refl; counts = refl }

reset_shaped : (levels : ℕ) (lock : _) → ShapedBay (reset_bay levels lock)
unfolding reset_bay
reset_shaped levels lock = record { levels = refl; accepted = refl; counts = refl }

module _ (b : Bay) (h : ShapedBay b) where
  sampled_shaped : (levels : ℕ) → ShapedBay (sampled_bay levels b)
  unfolding sampled_bay
  sampled_shaped levels = record { levels = refl; accepted = h.accepted; counts = refl }

  ticked_shaped : (hides : _) (s : _) → ShapedBay (ticked_bay hides s b)
  unfolding ticked_bay moved_bay moved_to
  ticked_shaped hides s = record { levels = h.levels; accepted = refl; counts = refl }

  bstr_shaped : (v : ℕ) → ShapedBay (bstr_written v b)
  unfolding bstr_written
  bstr_shaped v = record { levels = h.levels; accepted = h.accepted; counts = h.counts }

  unlocked_shaped : ShapedBay (unlocked_bay b)
  unfolding unlocked_bay
  unlocked_shaped = record { levels = h.levels; accepted = h.accepted; counts = h.counts }

  bcer_shaped : (hides : _) (c : _) (s : _) → ShapedBay (controlled_bay hides c s b)
  unfolding controlled_bay
  bcer_shaped hides c s = record { levels = h.levels; accepted = h.accepted; counts = h.counts }

-- ---- each write of the second kind's own registers, and a RESET of them

own_fresh : ShapedSecond fresh
unfolding fresh
own_fresh = record { subsystem = refl; subsystem_written = refl; form_factors = refl; form_factors_written = refl }

module _ (r : Second) (h : ShapedSecond r) where
  own_reset : ShapedSecond (reset r)
  unfolding reset
  own_reset = record { subsystem = h.subsystem; subsystem_written = refl; form_factors = h.form_factors; form_factors_written = h.form_factors_written }

  subsystem_shaped : (k v : ℕ) → ShapedSecond (after_subsystem_write k v r)
  unfolding after_subsystem_write
  subsystem_shaped k v =
      record { subsystem = refl; subsystem_written = refl; form_factors = h.form_factors; form_factors_written = h.form_factors_written }

  form_factor_shaped : (i v : ℕ) → ShapedSecond (form_factor_written i v r)
  unfolding form_factor_written
  form_factor_shaped i v =
      record { subsystem = h.subsystem; subsystem_written = h.subsystem_written; form_factors = refl; form_factors_written = refl }

  sfr_shaped : (v : ℕ) → ShapedSecond (after_sfr_write v r)
  unfolding after_sfr_write
  sfr_shaped v =
      record { subsystem = h.subsystem; subsystem_written = h.subsystem_written; form_factors = h.form_factors; form_factors_written = h.form_factors_written }

-- ---- each act

-- What a write makes of the rest of a machine.
abbrev Rest : Machine → Type 0
Rest n = (length n.bays ≡ 2) × ShapedSecond n.second

module _ (m : Machine) (h : Shaped m) where
  bays_shaped : (a : Act) (i : ℕ) → ShapedBay (bay_at (does a m) i)
  bays_shaped a i =
      let shaped = h.bays i in
      after_act ShapedBay m i
      record {
        by_reset = reset_shaped;
        by_closing = empty_shaped;
        by_pins = sampled_shaped (bay_at m i) shaped;
        by_tick = ticked_shaped (bay_at m i) shaped (hides m) (setting_of m);
        by_bstr = bstr_shaped (bay_at m i) shaped;
        by_bcer = λ v. bcer_shaped (bay_at m i) shaped (hides m) _ (setting_of m);
        by_unlocking = unlocked_shaped (bay_at m i) shaped;
        untouched = shaped;
      }
      a

  rest : Rest m
  rest = (h.two, h.second)

  placed_rest : (i : ℕ) (b : Bay) → Rest (with_bay i b m)
  unfolding placed
  placed_rest i b = (pick (λ (l : List Bay). length l ≡ 2) (eqb i 0) (λ _. refl) (λ _. refl), h.second)

  written_rest : (a v : ℕ) → Rest (written a v m)
  unfolding dbccr_write dbccr_stored letr_write wait_write bstr_write bcer_write subsystem_write form_factor_write sfr_write
  written_rest a v =
      by_address Rest a v m
      record {
        dbccr = pick Rest m.shared.dbccr_written (λ _. rest) (λ _. (refl, h.second));
        bstr = λ i. pick Rest (is_open m i) (λ _. placed_rest i _) (λ _. rest);
        bcer = λ i. pick Rest (is_open m i) (λ _. placed_rest i _) (λ _. rest);
        letr = rest;
        wait = rest;
        subsystem = λ k. (h.two, subsystem_shaped m.second h.second k v);
        form_factor = λ i. pick Rest (is_open m i) (λ _. (h.two, form_factor_shaped m.second h.second i v)) (λ _. rest);
        sfr = pick Rest m.second.sfr_written (λ _. rest) (λ _. (refl, sfr_shaped m.second h.second v));
        none = rest;
      }

act_shaped : (a : Act) (m : Machine) → Shaped m → Shaped (does a m)
unfolding does reset_as name_to pins_to tick_to
act_shaped (Write a v) m h = let r = written_rest m h a v in record { two = r.0; bays = bays_shaped m h (Write a v); second = r.1 }
act_shaped (Read a) m h = h
act_shaped (Pins levels) m h = record { two = refl; bays = bays_shaped m h (Pins levels); second = h.second }
act_shaped Tick m h = record { two = refl; bays = bays_shaped m h Tick; second = h.second }
act_shaped (Reset straps levels short) m h =
    record { two = refl; bays = bays_shaped m h (Reset straps levels short); second = own_reset m.second h.second }
act_shaped (Name k) m h = record { two = h.two; bays = bays_shaped m h (Name k); second = h.second }

-- ---- fresh, and after any calls

pub fresh_shaped : Shaped fresh_controller.machine
unfolding fresh_controller fresh_machine bay_in
fresh_shaped = record { two = refl; bays = each ShapedBay fresh_machine.bays empty_shaped empty_shaped; second = own_fresh }

pub calls_shaped : (s : Controller) (cs : List Call) → Shaped s.machine → Shaped (after_calls s cs).machine
calls_shaped = every_list Shaped act_shaped

-- A write by its address, in either kind: what holds after a write to each register, and of no write at all, holds after any write.
-- Assumes nothing.
use Prim.Native.Nat.{ℕ}
use mathlib.Core.Path.{◌≡◌, refl, ap}
use mathlib.Core.List.{List, [], ◌∷◌}
use lib.Dec.{eqb}
use Rattle.bay.proofs.Taut.{pick}
use Rattle.kind.specs.Kind.{is_second}
use Rattle.kind.specs.declared.Kind.TheVariants.{First, Second}
use Rattle.machine.specs.Record.{is_open}
use Rattle.machine.specs.Registers.{Row, find, dbccr_stored, dbccr_write, bstr_write, bcer_write}
use Rattle.machine.specs.FirstKind.{letr_write, wait_write, first_writes, first_written}
use Rattle.machine.specs.SecondKind.{subsystem_write, form_factor_write, sfr_write, second_writes, second_written}
use Rattle.machine.specs.InForce.{written}
use Rattle.machine.specs.declared.Machine.{Machine}
use Rattle.machine.proofs.Choice.{chosen, passed}

-- ---- a table

-- What holds of each entry, and of what an address has that isn't in it, holds of what is found.
unfoldable pub Each : {A : Type 0} → (A → Type 0) → List (Row A) → Type 0
Each P [] = Unit {0}
Each P (r ∷ rs) = P r.holds × Each P rs

pub found : {A : Type 0} (P : A → Type 0) (a : ℕ) (rs : List (Row A)) (other : A) → Each P rs → P other → P (find a rs other)
unfolding Each
found P a [] other h n = n
found P a (r ∷ rs) other h n = pick P (eqb a r.address) (λ e. h.0) (λ e. found P a rs other h.1 n)

-- ---- by kind

pub in_first : (a v : ℕ) (m : Machine) → m.kind ≡ First → written a v m ≡ first_written a v m
unfolding written
in_first a v m e = passed (ap is_second e) _ _

pub in_second : (a v : ℕ) (m : Machine) → m.kind ≡ Second → written a v m ≡ second_written a v m
unfolding written
in_second a v m e = chosen (ap is_second e) _ _

-- ---- every register that takes a write

pub record EachWrite (P : Machine → Type 0) (v : ℕ) (m : Machine) : Type 0 where
  pub dbccr : P (dbccr_write v m)
  pub bstr : (i : ℕ) → P (bstr_write i v m)
  pub bcer : (i : ℕ) → P (bcer_write i v m)
  pub letr : P (letr_write v m)
  pub wait : P (wait_write v m)
  pub subsystem : (k : ℕ) → P (subsystem_write k v m)
  pub form_factor : (i : ℕ) → P (form_factor_write i v m)
  pub sfr : P (sfr_write v m)
  pub none : P m

pub by_address : (P : Machine → Type 0) (a v : ℕ) (m : Machine) → EachWrite P v m → P (written a v m)
unfolding written first_written second_written first_writes second_writes Each
by_address P a v m w =
    pick P (is_second m.kind)
    (λ _. found P a (second_writes v m) m (
      w.subsystem 0,
      (
        w.subsystem 1,
        (
          w.subsystem 2,
          (
            w.subsystem 3,
            (w.dbccr, (w.bcer 0, (w.bstr 0, (w.form_factor 0, (w.bcer 1, (w.bstr 1, (w.form_factor 1, (w.sfr, tt)))))))),
          ),
        ),
      ),
    ) w.none)
    (λ _. found P a (first_writes v m) m (w.dbccr, (w.bstr 0, (w.bcer 0, (w.bstr 1, (w.bcer 1, (w.letr, (w.wait, tt))))))) w.none)

-- What no write changes: whether the machine is started, its straps, its kinds and its phase.
pub record Steady (before after : Machine) : Type 0 where
  pub started : after.started ≡ before.started
  pub straps : after.straps ≡ before.straps
  pub kind : after.kind ≡ before.kind
  pub named : after.named ≡ before.named
  pub phase : after.phase ≡ before.phase

pub write_steady : (a v : ℕ) (m : Machine) → Steady m (written a v m)
unfolding dbccr_write dbccr_stored letr_write wait_write bstr_write bcer_write subsystem_write form_factor_write sfr_write
write_steady a v m =
    by_address (Steady m) a v m
    record {
      dbccr = pick (Steady m) m.shared.dbccr_written (λ d. same) (λ d. kept _ refl refl refl refl refl);
      bstr = λ i. pick (Steady m) (is_open m i) (λ o. kept _ refl refl refl refl refl) (λ o. same);
      bcer = λ i. pick (Steady m) (is_open m i) (λ o. kept _ refl refl refl refl refl) (λ o. same);
      letr = kept _ refl refl refl refl refl;
      wait = kept _ refl refl refl refl refl;
      subsystem = λ k. kept _ refl refl refl refl refl;
      form_factor = λ i. pick (Steady m) (is_open m i) (λ o. kept _ refl refl refl refl refl) (λ o. same);
      sfr = pick (Steady m) m.second.sfr_written (λ d. same) (λ d. kept _ refl refl refl refl refl);
      none = same;
    }
  where
    kept : (n : Machine) → n.started ≡ m.started → n.straps ≡ m.straps → n.kind ≡ m.kind → n.named ≡ m.named → n.phase ≡ m.phase → Steady m n
    kept n s t k l p = record { started = s; straps = t; kind = k; named = l; phase = p }

    same : Steady m m
    same = kept m refl refl refl refl refl

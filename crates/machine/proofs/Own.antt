-- The registers that only the second kind has after each act are what the table says, in every machine: by cases on the act and, for a write,
-- on the address. Assumes nothing.
use Prim.Native.Nat.{ℕ}
use mathlib.Core.Path.{◌≡◌, refl, sym, ap, ◌∙◌}
use Rattle.machine.specs.InForce.{written}
use Rattle.machine.specs.declared.Act.TheVariants.{Tick, Write, Name, Pins, Read, Reset}
use Rattle.second.specs.First.{Write as Once, written as written_once, first_of, for_sfr, form_factor, written_all}
use Rattle.second.specs.declared.Second.{Second as Registers}
use Rattle.machine.proofs.Addresses.{found, Each, in_first, in_second}
use Rattle.machine.specs.declared.Act.{Act}
use Rattle.bay.specs.declared.Bay.{Bay}
use mathlib.Core.Bool.{Bool, ◌&&◌, cond, not, true≢false, false, true}
use Rattle.kind.specs.declared.Kind.TheVariants.{First, Second}
use Rattle.kind.specs.declared.Kind.{Kind}
use mathlib.Core.List.{List, [], ◌∷◌}
use Rattle.machine.specs.declared.Machine.{Machine}
use Rattle.machine.specs.Record.{bay_at, is_open, open_by, with_bay}
use Rattle.machine.specs.Registers.{bcer_write, bstr_write, dbccr_stored, dbccr_write, find}
use Rattle.machine.proofs.Choice.{chosen, passed}
use Rattle.machine.specs.Acts.{does, name_to, pins_to, reset_as, tick_to}
use lib.Dec.{eqb}
use borrow.Author.Tests.{eqb-true}
use Rattle.machine.specs.FirstKind.{first_writes, first_written, letr_write, wait_write}
use Rattle.machine.specs.SecondKind.{form_factor_write, second_writes, second_written, sfr_write, subsystem_write, with_second}
use Rattle.second.specs.Once.{form_factor_written, after_sfr_write}
use Rattle.kind.specs.Kind.{is_second}
use Rattle.machine.specs.Own.{own_after, own_rows, own_writes}
use Rattle.bay.proofs.Taut.{pick}
use Rattle.second.proofs.First.{sfr_first}
use Rattle.bay.specs.Registers.{unlocked_bay}
use Rattle.machine.specs.After.{unlocks}

-- ---- a write

-- A second write of SFR leaves them.
sfr_again : (v : ℕ) (s : Registers) → s.sfr_written ≡ true → after_sfr_write v s ≡ s
unfolding after_sfr_write
sfr_again v s e = rw e

module _ (a v : ℕ) (m : Machine) where
  -- The first kind touches none of them.
  first_kind_own : (first_written a v m).second ≡ m.second
  unfolding first_written first_writes Each dbccr_write dbccr_stored letr_write wait_write bstr_write bcer_write
  first_kind_own =
      found P a (first_writes v m) m (
        pick P m.shared.dbccr_written (λ _. refl) (λ _. refl),
        (of_bay 0 _, (of_bay 0 _, (of_bay 1 _, (of_bay 1 _, (refl, (refl, tt)))))),
      ) refl
    where
      P : Machine → Type 0
      P n = n.second ≡ m.second

      of_bay : (i : ℕ) (b : Bay) → P (cond (is_open m i) (with_bay i b m) m)
      of_bay i b = pick P (is_open m i) (λ _. refl) (λ _. refl)

  -- The second kind, address by address.
  second_kind_own : (second_written a v m).second ≡ written_all (find a (own_rows m v) []) m.second
  unfolding own_rows second_written second_writes written_all written_once dbccr_write dbccr_stored bstr_write bcer_write subsystem_write form_factor_write sfr_write open_by
  second_kind_own =
      pick P (eqb a 0x08) (λ q. rw (eqb-true a 0x08 q))
      (λ n₀. pick P (eqb a 0x09) (λ q. rw (eqb-true a 0x09 q))
      (λ n₁. pick P (eqb a 0x0A) (λ q. rw (eqb-true a 0x0A q))
      (λ n₂. pick P (eqb a 0x0B) (λ q. rw (eqb-true a 0x0B q))
      (λ n₃. pick P (eqb a 0x0C) (λ q. rw (eqb-true a 0x0C q) (pick Same m.shared.dbccr_written (λ _. refl) (λ _. refl)))
      (λ _. pick P (eqb a 0x10) (λ q. rw (eqb-true a 0x10 q))
      (λ _. pick P (eqb a 0x14) (λ q. rw (eqb-true a 0x14 q))
      (λ _. pick P (eqb a 0x15) (λ q. rw (eqb-true a 0x15 q))
      (λ n₄. pick P (eqb a 0x18) (λ q. rw (eqb-true a 0x18 q) (of_bay 1 _))
      (λ _. pick P (eqb a 0x20) (λ q. rw (eqb-true a 0x20 q) (of_bay 1 _))
      (λ _. pick P (eqb a 0x21) (λ q. rw (eqb-true a 0x21 q) (factor (is_open m 1)))
      (λ n₅. pick P (eqb a 0xFC) (λ q. rw (eqb-true a 0xFC q) (features m.second.sfr_written refl)) (λ n₆. rw (n₀, n₁, n₂, n₃, n₄, n₅, n₆)))))))))))))
    where
      P : Machine → Type 0
      P n = n.second ≡ written_all (find a (own_rows m v) []) m.second

      Same : Machine → Type 0
      Same n = n.second ≡ m.second

      of_bay : (i : ℕ) (b : Bay) → Same (cond (is_open m i) (with_bay i b m) m)
      of_bay i b = pick Same (is_open m i) (λ _. refl) (λ _. refl)

      factor : (o : Bool) → (cond o (with_second (form_factor_written 1 v m.second) m.bays m) m).second ≡ written_all (cond o (form_factor 1 v ∷ []) []) m.second
      factor true = refl
      factor false = refl

      features :
          (w : Bool) → m.second.sfr_written ≡ w
          → (cond w m (with_second (after_sfr_write v m.second) (unlocked_bay (bay_at m 0) ∷ unlocked_bay (bay_at m 1) ∷ []) m)).second ≡ after_sfr_write v m.second
      features true q = sym (sfr_again v m.second q)
      features false q = refl

  pub written_own : (written a v m).second ≡ written_all (own_writes m a v) m.second
  unfolding own_writes written_all
  written_own = go m.kind refl
    where
      go : (k : Kind) → m.kind ≡ k → (written a v m).second ≡ written_all (own_writes m a v) m.second
      go First e = rw (in_first a v m e, passed (ap is_second e)) first_kind_own
      go Second e = rw (in_second a v m e, chosen (ap is_second e)) second_kind_own

pub own_after_lem : (a : Act) (m : Machine) → (does a m).second ≡ own_after m a
unfolding does own_after pins_to tick_to reset_as name_to
own_after_lem (Write a v) m = written_own a v m
own_after_lem (Read a) m = refl
own_after_lem (Pins levels) m = refl
own_after_lem Tick m = refl
own_after_lem (Reset straps levels short) m = refl
own_after_lem (Name k) m = refl

-- ---- SFR

-- Of such a write SFR is given the byte where it is of FCh.
sfr_given : (a v x : ℕ) (m : Machine) → first_of for_sfr (own_writes m a v) x ≡ cond (is_second m.kind && eqb a 0xFC) v x
unfolding own_writes own_rows
sfr_given a v x m = go (is_second m.kind)
  where
    P : List Once → Type 0
    P ws = first_of for_sfr ws x ≡ cond (eqb a 0xFC) v x

    go : (k : Bool) → first_of for_sfr (cond k (find a (own_rows m v) []) []) x ≡ cond (k && eqb a 0xFC) v x
    go true =
        pick P (eqb a 0x08) (λ q. rw (eqb-true a 0x08 q))
        (λ _. pick P (eqb a 0x09) (λ q. rw (eqb-true a 0x09 q))
        (λ _. pick P (eqb a 0x0A) (λ q. rw (eqb-true a 0x0A q))
        (λ _. pick P (eqb a 0x0B) (λ q. rw (eqb-true a 0x0B q))
        (λ _. pick P (eqb a 0x15) (λ q. rw (eqb-true a 0x15 q))
        (λ _. pick P (eqb a 0x21) (λ q. rw (eqb-true a 0x21 q) (pick (λ ws. first_of for_sfr ws x ≡ x) (is_open m 1) (λ _. refl) (λ _. refl)))
        (λ _. pick P (eqb a 0xFC) (λ q. rw q) (λ n. rw n)))))))
    go false = refl

-- So it stays but by its first write, which opens the locks.
pub sfr_kept : (a v : ℕ) (m : Machine) → unlocks m a ≡ false → (written a v m).second.sfr ≡ m.second.sfr
sfr_kept a v m n =
    ap (λ (s : Registers). s.sfr) (written_own a v m) ∙ sfr_first.stands (own_writes m a v) m.second
    ∙ ap (λ x. cond m.second.sfr_written m.second.sfr x) (sfr_given a v m.second.sfr m)
    ∙ go (is_second m.kind) (eqb a 0xFC) m.second.sfr_written n
  where
    go : (k e w : Bool) → (k && e && not w) ≡ false → cond w m.second.sfr (cond (k && e) v m.second.sfr) ≡ m.second.sfr
    go k e true q = refl
    go true true false q = absurd (true≢false q)
    go true false false q = refl
    go false e false q = refl

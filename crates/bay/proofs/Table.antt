-- A bay moves exactly as the two tables say. The state after a TICK or a write is a choice by tests, so that each entry is a
-- tautology over these tests, at each state from and to and at each request. Assumes nothing.
use Prim.Native.Nat.{ℕ, ◌/◌, ◌%◌, ◌<◌}
use native.Mathlib.Omega.{arith}
use mathlib.Core.Path.{◌≡◌, refl, sym, ◌∙◌}
use mathlib.Core.Logic.{◌↔◌}
use mathlib.Core.Bool.{Bool, true, false, not, cond, ◌&&◌, ◌||◌, beq}
use lib.Dec.{eqb, ltb, leb}
use borrow.Author.Tests.{eqb-true, eq-eqb}
use Rattle.bits.specs.Bits.{bit}
use Rattle.bay.specs.Record.{NREMREQ, accepted_level, present}
use Rattle.bay.specs.Moves.{in_use, inserts, state_after, moved_to, moved_bay, ticked_bay}
use Rattle.bay.specs.Registers.{control_of, asks, finds, state_written, controlled_bay}
use Rattle.bay.specs.Table.{Table, entry, gone, noticed, come, seated, press_over, press, tick_rows, tick_table, write_rows, write_table}
use Rattle.bay.specs.declared.Bay.{Bay}
use Rattle.bay.specs.declared.Setting.{Setting}
use Rattle.bay.proofs.Taut.{All, Below, Fun, below, taut, same}
use Rattle.bay.proofs.Ticks.{present_after_lem, heeded_after}

-- An entry that is the test for a state says exactly when that is the state.
exactly : (state to : ℕ) (test : Bool) → eqb state to ≡ test → (state ≡ to) ↔ (test ≡ true)
exactly state to test e = (λ h. sym e ∙ eq-eqb state to h, λ t. eqb-true state to (e ∙ t))

-- ---- a TICK

-- The state after it, by the state before and nine tests: a device before and after, DEVSTSCHG_EN, a device that comes Inserted at once, a
-- wait that hides nothing and is of 1, nREMREQ as accepted before and after, REMREQ_EN and REMREQ_STS. And the table by the same tests.
abbrev state_by : ℕ → Bool → Bool → Bool → Bool → Bool → Bool → Bool → Bool → Bool → ℕ
state_by from p q en z w l m req sts =
    cond (p && not q) 0 (cond (cond (not p && q && en) z w) 1 (cond (l && not m && q && req && not sts && (eqb from 1 || eqb from 2)) 3 from))

abbrev table_by : Bool → Bool → Bool → Bool → Bool → Bool → Bool → Bool → Bool → Table
table_by p q en z w l m req sts =
    let gone = p && not q in
    let noticed = not p && q && en in
    let come = noticed && z in
    let seated = not gone && not noticed && w in
    let press = not gone && not come && not seated && (l && not m && q) && req && not sts in
    tick_rows gone (come || seated) press (not gone && not come && not seated && not press)

-- The entry is the test for that state.
abbrev tick_entry : ℕ → ℕ → Fun 9
tick_entry from to p q en z w l m req sts = beq (eqb (state_by from p q en z w l m req sts) to) (entry (table_by p q en z w l m req sts) from to)

-- That is the state after it, in every bay.
tick_state :
    (hides : Bool) (s : Setting) (b : Bay)
    → (ticked_bay hides s b).state
    ≡ state_by b.state (present hides b) (present hides (ticked_bay hides s b)) b.control.devstschg_en (hides || eqb s.wait_ticks 0) (not hides && eqb b.wait 1) (accepted_level b NREMREQ) (accepted_level (ticked_bay hides s b) NREMREQ) b.control.remreq_en b.remreq_sts
unfolding ticked_bay moved_bay moved_to state_after inserts in_use
tick_state hides s b = rw (← (heeded_after hides s b), present_after_lem hides s b)

-- A TICK makes at most one move, out of the state before it, in every bay: Empty where the device is gone, else Inserted where one has
-- come or is seated, else Removal Requested where a press finds the bay in use; and else none.
pub one_move :
    (hides : Bool) (s : Setting) (b : Bay)
    → (ticked_bay hides s b).state
    ≡ cond (gone hides s b) 0
    (cond (come hides s b || seated hides s b) 1 (cond (press hides s b && (eqb b.state 1 || eqb b.state 2)) 3 b.state))
one_move hides s b =
    tick_state hides s b
    ∙ go (gone hides s b) (noticed hides s b) (hides || eqb s.wait_ticks 0) (not hides && eqb b.wait 1) (press_over hides b (ticked_bay hides s b)) b.control.remreq_en (not b.remreq_sts) (eqb b.state 1 || eqb b.state 2)
  where
    go :
        (g n z w o req clear used : Bool)
        → cond g 0 (cond (cond n z w) 1 (cond (o && req && clear && used) 3 b.state))
        ≡ cond g 0 (cond (n && z || not g && not n && w) 1 (cond (not g && not (n && z) && not (not g && not n && w) && o && req && clear && used) 3 b.state))
    go true n z w o req clear used = refl
    go false true true w o req clear used = refl
    go false true false w o req clear used = refl
    go false false z true o req clear used = refl
    go false false z false o req clear used = refl

-- For every bay state from and to: a TICK brings a bay from the one to the other exactly when the table says.
pub tick_table_lem :
    (hides : Bool) (s : Setting) (b : Bay) → b.state < 5 → (to : ℕ) → to < 5
    → ((ticked_bay hides s b).state ≡ to) ↔ (entry (tick_table hides s b) b.state to ≡ true)
unfolding tick_table
tick_table_lem hides s b h to k =
    exactly _ to _
    (rw (tick_state hides s b)
    (same _ _
    (taut 9 (tick_entry b.state to)
    (below 5 (λ to. All 9 (tick_entry b.state to)) (below 5 (λ from. Below 5 (λ to. All 9 (tick_entry from to))) refl b.state h) to k)
    (present hides b) (present hides (ticked_bay hides s b)) b.control.devstschg_en (hides || eqb s.wait_ticks 0) (not hides && eqb b.wait 1)
    (accepted_level b NREMREQ) (accepted_level (ticked_bay hides s b) NREMREQ) b.control.remreq_en b.remreq_sts)))

-- ---- a write of BCER

-- The state after it, by the request, the state before and seven tests: a device, DEVSTSCHG_EN as written and before, a device Inserted at
-- once, REMREQ_EN as written and before, and REMREQ_STS. And the table by the same tests.
abbrev written_by : ℕ → ℕ → Bool → Bool → Bool → Bool → Bool → Bool → Bool → ℕ
written_by r from p en en₀ z req req₀ sts =
    cond (ltb 0 r && leb r 4 && p) r
    (cond (en && not en₀ && eqb from 0 && p && z) 1 (cond (req && not req₀ && sts && (eqb from 1 || eqb from 2)) 3 from))

abbrev rows_by : ℕ → Bool → Bool → Bool → Bool → Bool → Bool → Bool → Table
rows_by r p en en₀ z req req₀ sts =
    let nothing = not (p && eqb r 1) && not (p && eqb r 2) && not (p && eqb r 3) && not (p && eqb r 4) in
    write_rows (λ k. p && eqb r k) nothing (nothing && en && not en₀ && p && z) (nothing && req && not req₀ && sts)

abbrev write_entry : ℕ → ℕ → ℕ → Fun 7
write_entry r from to p en en₀ z req req₀ sts = beq (eqb (written_by r from p en en₀ z req req₀ sts) to) (entry (rows_by r p en en₀ z req req₀ sts) from to)

-- For every bay state from and to: a write of v brings a bay from the one to the other exactly when the table says.
pub write_table_lem :
    (hides : Bool) (v : ℕ) (s : Setting) (b : Bay) → b.state < 5 → (to : ℕ) → to < 5
    → ((controlled_bay hides (control_of v) s b).state ≡ to) ↔ (entry (write_table hides v s b) b.state to ≡ true)
unfolding write_table controlled_bay control_of state_written finds asks in_use
write_table_lem hides v s b h to k =
    exactly _ to _
    (same _ _
    (taut 7 (write_entry (v / 16 % 8) b.state to)
    (below 5 (λ to. All 7 (write_entry (v / 16 % 8) b.state to))
    (below 5 (λ from. Below 5 (λ to. All 7 (write_entry (v / 16 % 8) from to)))
    (below 8 (λ r. Below 5 (λ from. Below 5 (λ to. All 7 (write_entry r from to)))) refl (v / 16 % 8) (omega arith)) b.state h) to k)
    (present hides b) (bit 2 v) b.control.devstschg_en (hides || eqb s.wait_ticks 0) (bit 3 v) b.control.remreq_en b.remreq_sts))

-- Who gets what (document 02, request 9), event by event: a lent list of records gets every bus event, TIMEOUT and TICK; PINS and RESET go to the one
-- that is named, and leave all others. Each accepted call, at every place, by the core's single call alone. Assumes nothing.
use Prim.Native.Nat.{ℕ, ◌<◌}
use mathlib.Core.Path.{◌≡◌, refl, ◌∙◌}
use mathlib.Core.Logic.{◌≢◌}
use mathlib.Core.Bool.{Bool}
use mathlib.Core.List.{List}
use lib.ListN.{length, get_or}
use borrow.Author.Tests.{eq-eqb, ne_eqb}
use Rattle.event.specs.declared.Event.{Event}
use Rattle.event.specs.declared.Event.TheVariants.{Start, Stop, Byte, Take, Pins, Tick, Reset, Timeout}
use Rattle.dock.specs.Step.{step_of}
use Rattle.dock.specs.declared.Controller.{Controller}
use Rattle.chassis.specs.Judge.{verdict_of}
use Rattle.chassis.specs.Chassis.{record_at, records_of}
use Rattle.chassis.proofs.AtPlace.{at_each_place}
use Rattle.std.specs.Prelude.{Ok}

module _ (cs : List Controller) (n w i : ℕ) (d : Controller) where
  -- The record at the place took the word, by the single call; it is as it was.
  abbrev Gets : Type 0
  Gets = get_or (records_of cs n w) i d ≡ (step_of (get_or cs i d) w).controller

  abbrev Stays : Type 0
  Stays = get_or (records_of cs n w) i d ≡ get_or cs i d

  -- What a word of this event does at the place.
  pub record Reaches (e : Event) : Type 0 where
    pub start : e ≡ Start → Gets
    pub stop : e ≡ Stop → Gets
    pub byte : (b : ℕ) → e ≡ Byte b → Gets
    pub take : (ack : Bool) → e ≡ Take ack → Gets
    pub tick : e ≡ Tick → Gets
    pub timeout : e ≡ Timeout → Gets
    pub pins : (levels : ℕ) → e ≡ Pins levels → i ≡ n → Gets
    pub pins_elsewhere : (levels : ℕ) → e ≡ Pins levels → i ≢ n → Stays
    pub reset : (straps levels : ℕ) (short : Bool) → e ≡ Reset straps levels short → i ≡ n → Gets
    pub reset_elsewhere : (straps levels : ℕ) (short : Bool) → e ≡ Reset straps levels short → i ≢ n → Stays

  pub reaches : (e : Event) → verdict_of cs n w ≡ Ok e → i < length cs → Reaches e
  unfolding record_at
  reaches e v l =
      let here = (at_each_place cs n w e i d v).here l in
      record {
        start = λ x. here ∙ rw x refl;
        stop = λ x. here ∙ rw x refl;
        byte = λ b x. here ∙ rw x refl;
        take = λ ack x. here ∙ rw x refl;
        tick = λ x. here ∙ rw x refl;
        timeout = λ x. here ∙ rw x refl;
        pins = λ levels x p. here ∙ rw (x, eq-eqb i n p) refl;
        pins_elsewhere = λ levels x p. here ∙ rw (x, ne_eqb i n p) refl;
        reset = λ straps levels short x p. here ∙ rw (x, eq-eqb i n p) refl;
        reset_elsewhere = λ straps levels short x p. here ∙ rw (x, ne_eqb i n p) refl;
      }

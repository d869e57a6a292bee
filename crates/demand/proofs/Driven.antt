-- The byte that a TAKE drives is what the plain machine read at the deciding event, in either kind: the controller that is beside the events holds it
-- from then on, and what is passed over until the TAKE leaves it there. Assumes nothing.
use Rattle.demand.specs.Acts.{none, pins, tick, naming, Happening, Is, PassedOver, a_byte, a_start, a_stop, a_take, decided, event, line_after, silent}
use Rattle.machine.specs.declared.Machine.{Machine}
use Prim.Native.Nat.{ℕ}
use Rattle.event.specs.declared.Event.TheVariants.{Start, Stop, Byte, Take, Pins, Tick, Reset, Timeout}
use Rattle.bus.specs.declared.Heard.TheVariants.{On, Write, Read, End}
use Rattle.bus.specs.declared.Progress.TheVariants.{Idle, Opened, Addressed, Register, Data, Again, Reading, Writing, Sending}
use Rattle.dock.specs.declared.Turn.{Turn}
use Rattle.demand.specs.Bus.{Bus, START, STOP, BYTE, TAKE}
use Rattle.bus.specs.declared.Reply.TheVariants.{Ack, Driven}
use Rattle.demand.proofs.Follows.{Beside, decided_is, fresh_beside, next_beside, next_reply, run, run_beside, takes_it, turn_is}
use mathlib.Core.Bool.{Bool}
use Rattle.dock.specs.declared.Controller.{Controller}
use Rattle.event.specs.declared.Event.{Event}
use Rattle.bus.specs.declared.Heard.{Heard}
use Rattle.kind.specs.declared.Kind.{Kind}
use mathlib.Core.List.{List, [], ◌++◌, ◌∷◌, append_assoc}
use Rattle.bus.specs.declared.Progress.{Progress}
use Rattle.bus.specs.declared.Reply.{Reply}
use mathlib.Core.Path.{◌∙◌, ◌≡◌, ap, refl, sym}
use native.Mathlib.Omega.{arith}
use Rattle.dock.specs.Events.{at_stop, byte_heard, next, read_at, stop_deed, take_known, turn_of}
use Rattle.demand.proofs.Commands.{bus_lands, bus_turn, deed_acts}
use Rattle.demand.specs.Described.{decides}
use Rattle.machine.specs.Acts.{does, does_all, name_to, pins_to, tick_to}
use Rattle.dock.specs.Record.{fresh_controller}
use Rattle.bus.specs.Progress.{heard, holding, known_to, next_register}
use lib.ListN.{length}
use Rattle.demand.specs.Plain.{machine_after, read_by, reply_to}
use Rattle.dock.specs.Name.{named_to}
use Rattle.bay.proofs.Taut.{pick}
use Rattle.machine.specs.InForce.{reading}
use Rattle.dock.proofs.Decided.{take_gives}
use Rattle.machine.specs.declared.Act.TheVariants as act
use Rattle.std.specs.Prelude.{Some, None}

-- ---- a bus event that decides a read

-- It leaves what the register reads in the command.
Holds : Kind → (ℕ → ℕ) → ℕ → Turn → Type 0
Holds k reads r t = deed_acts t.deed ≡ act.Read r ∷ [] → t.progress ≡ holding k r (reads r)

read_holds : (k : Kind) (reads : ℕ → ℕ) (n r : ℕ) (reply : Reply) → Holds k reads r (read_at k reads n reply)
unfolding Holds read_at
read_holds k reads n r reply e = let same : n ≡ r = cc in rw same

stop_holds : (k : Kind) (reads : ℕ → ℕ) (r : ℕ) (p : Progress) → deed_acts (at_stop Some None p) ≡ act.Read r ∷ [] → Idle ≡ holding k r (reads r)
stop_holds k reads r Idle e = absurd (omega (arith, ap length e))
stop_holds k reads r Opened e = absurd (omega (arith, ap length e))
stop_holds k reads r Addressed e = absurd (omega (arith, ap length e))
stop_holds k reads r (Register x) e = absurd (omega (arith, ap length e))
stop_holds k reads r (Data x v) e = let z : ◌≡◌ {A = ℕ} 0 1 = cc in absurd (omega arith)
stop_holds k reads r (Again x) e = absurd (omega (arith, ap length e))
stop_holds k reads r (Reading v) e = absurd (omega (arith, ap length e))
stop_holds k reads r (Writing x) e = absurd (omega (arith, ap length e))
stop_holds k reads r (Sending x v) e = absurd (omega (arith, ap length e))

byte_holds : (k : Kind) (reads : ℕ → ℕ) (r : ℕ) (h : Heard) → Holds k reads r (byte_heard k reads h)
unfolding Holds byte_heard
byte_holds k reads r (On p) e = absurd (omega (arith, ap length e))
byte_holds k reads r (Write n v) e = let z : ◌≡◌ {A = ℕ} 0 1 = cc in absurd (omega arith)
byte_holds k reads r (Read n) e = read_holds k reads n r Ack e
byte_holds k reads r End e = absurd (omega (arith, ap length e))

take_holds : (k : Kind) (reads : ℕ → ℕ) (r : ℕ) (ack : Bool) (p : Progress) → Holds k reads r (take_known k reads ack p)
unfolding Holds take_known
take_holds k reads r ack Idle e = absurd (omega (arith, ap length e))
take_holds k reads r ack Opened e = absurd (omega (arith, ap length e))
take_holds k reads r ack Addressed e = absurd (omega (arith, ap length e))
take_holds k reads r ack (Register x) e = absurd (omega (arith, ap length e))
take_holds k reads r ack (Data x v) e = absurd (omega (arith, ap length e))
take_holds k reads r ack (Again x) e = absurd (omega (arith, ap length e))
take_holds k reads r ack (Reading v) e = absurd (omega (arith, ap length e))
take_holds k reads r ack (Writing x) e = absurd (omega (arith, ap length e))
take_holds k reads r ack (Sending x v) e =
    pick (Holds k reads r) ack (λ _. read_holds k reads (next_register x) r (Driven v)) (λ _ z. absurd (omega (arith, ap length z))) e

bus_holds : (k : Kind) (s : ℕ) (reads : ℕ → ℕ) (p : Progress) (r : ℕ) (b : Bus) → Holds k reads r (bus_turn k s reads p b)
unfolding Holds stop_deed
bus_holds k s reads p r START e = absurd (omega (arith, ap length e))
bus_holds k s reads p r STOP e = stop_holds k reads r (known_to k p) e
bus_holds k s reads p r (BYTE b) e = byte_holds k reads r (heard k s b p) e
bus_holds k s reads p r (TAKE ack) e = take_holds k reads r ack (known_to k p) e

-- ---- the controller beside the events

module _ (s : Controller) (past : List Happening) (b : Beside s past) (r : ℕ) where
  at_bus : {e : Event} {x : Bus} → Is e x → decided (line_after silent past) e ≡ act.Read r ∷ [] → (next s e).progress ≡ holding s.machine.kind r (reading s.machine r)
  unfolding next Holds
  at_bus {e} {x} i d =
      let is : turn_of s e ≡ bus_turn s.machine.kind s.machine.straps (reading s.machine) s.progress x = turn_is s.machine b.since (read_by past) s.progress i in
      let acts = (bus_lands s.machine.straps (reading s.machine) b.since (read_by past) s.machine.kind s.progress b.stands x).acts in
      let told : decides s.machine.kind s.machine.straps (b.since ++ (x ∷ [])) ≡ act.Read r ∷ [] = sym (decided_is s.machine b.since (read_by past) i) ∙ ap (λ l. decided l e) (sym b.line) ∙ d in
      ap (λ (t : Turn). t.progress) is ∙ bus_holds s.machine.kind s.machine.straps (reading s.machine) s.progress r x (acts ∙ told)

  held : (e : Event) → decided (line_after silent past) e ≡ act.Read r ∷ [] → (next s e).progress ≡ holding s.machine.kind r (reading s.machine r)
  unfolding decided
  held Start d = at_bus a_start d
  held Stop d = at_bus a_stop d
  held (Byte x) d = at_bus a_byte d
  held (Take ack) d = at_bus a_take d
  held (Pins levels) d = let z : ◌≡◌ {A = ℕ} 0 1 = cc in absurd (omega arith)
  held Tick d = let z : ◌≡◌ {A = ℕ} 0 1 = cc in absurd (omega arith)
  held (Reset straps levels short) d = let z : ◌≡◌ {A = ℕ} 0 1 = cc in absurd (omega arith)
  held Timeout d = absurd (omega (arith, ap length d))

-- What is passed over leaves the command and the kind in force.
passed : {hs : List Happening} → PassedOver hs → (s : Controller) → ((run s hs).progress ≡ s.progress) × ((run s hs).machine.kind ≡ s.machine.kind)
unfolding run next turn_of does pins_to tick_to name_to
passed none s = (refl, refl)
passed (pins levels k) s = passed k (next s (Pins levels))
passed (tick k) s = passed k (next s Tick)
passed (naming n k) s = passed k (named_to n s)

-- A bus event leaves the kind in force, and so does every event but a RESET.
kind_kept : (s : Controller) (past : List Happening) (b : Beside s past) (r : ℕ) (e : Event) → decided (line_after silent past) e ≡ act.Read r ∷ [] → (next s e).machine.kind ≡ s.machine.kind
unfolding does_all does
kind_kept s past b r e d =
    ap (λ (m : Machine). m.kind) ((takes_it s past b e).does_acts ∙ ap (λ l. does_all (decided l e) s.machine) (sym b.line) ∙ ap (λ k. does_all k s.machine) d)

pub driven :
    (xs ys : List Happening) (e : Event) (r : ℕ) (ack : Bool) → decided (line_after silent xs) e ≡ act.Read r ∷ [] → PassedOver ys
    → reply_to (xs ++ (event e ∷ ys)) (Take ack) ≡ Driven (reading (machine_after xs) r)
unfolding run
driven xs ys e r ack d k =
    let s = run fresh_controller xs in
    let b : Beside s xs = run_beside xs fresh_controller [] fresh_beside in
    let t = next s e in
    let further : Beside (run t ys) ((xs ++ (event e ∷ [])) ++ ys) = run_beside ys t (xs ++ (event e ∷ [])) (next_beside s xs b e) in
    let over = passed k t in
    let holds = over.0 ∙ held s xs b r e d ∙ ap (λ x. holding x r (reading s.machine r)) (sym (over.1 ∙ kind_kept s xs b r e d)) in
    ap (λ hs. reply_to hs (Take ack)) (sym (append_assoc xs (event e ∷ []) ys)) ∙ sym (next_reply (run t ys) ((xs ++ (event e ∷ [])) ++ ys) further (Take ack))
    ∙ (take_gives (run t ys) r (reading s.machine r) holds).driven ack
    ∙ ap (λ m. Driven (reading m r)) b.machine

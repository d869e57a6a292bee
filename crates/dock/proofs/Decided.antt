-- When a command is decided, and what ends it (document 01, "Bus commands"; document 03, "Bus transfers"): in the first kind nothing is written
-- before the STOP, in the second each data byte is; and a TAKE gives what was read before it. By cases on how far the command has come.
-- Assumes nothing.
use Prim.Native.Nat.{ℕ, zero, suc}
use native.Mathlib.Omega.{arith}
use mathlib.Core.Path.{◌≡◌, refl, ap, ◌∙◌, sym}
use mathlib.Core.Logic.{◌≢◌}
use mathlib.Core.Bool.{Bool, false, true≢false, true}
use Rattle.event.specs.declared.Event.{Event}
use Rattle.event.specs.declared.Event.TheVariants.{Start, Stop, Byte, Take, Pins, Tick, Reset, Timeout}
use Rattle.bus.specs.Progress.{heard, heard_known, holding, known_to, next_register, own_read_byte, own_write_byte}
use Rattle.bus.specs.declared.Progress.{Progress}
use Rattle.bus.specs.declared.Progress.TheVariants.{Idle, Opened, Addressed, Register, Data, Again, Reading, Sending, Writing}
use Rattle.bus.specs.declared.Heard.{Heard}
use Rattle.bus.specs.declared.Heard.TheVariants.{On, Write, Read, End}
use Rattle.bus.specs.declared.Reply.TheVariants.{NoAck, Driven}
use Rattle.machine.specs.Record.{bay_at}
use Rattle.machine.specs.InForce.{reading}
use Rattle.machine.specs.Acts.{does, pins_to, tick_to}
use Rattle.machine.specs.Moves.{moves_bay}
use Rattle.machine.proofs.Moves.{nothing_else_moves}
use Rattle.dock.specs.Moves.{event_moves}
use Rattle.dock.specs.Events.{at_stop, stop_deed, byte_heard, byte_at, turn_of, done, next, at_byte, read_at, take_at, take_known, taken}
use Rattle.dock.specs.declared.Controller.{Controller}
use Rattle.dock.specs.declared.Turn.{Turn}
use Rattle.dock.proofs.Laws.{pins_passed_over, tick_passed_over}
use Rattle.machine.specs.declared.Act.{Act}
use Rattle.kind.specs.declared.Kind.TheVariants.{First, Second}
use Rattle.kind.specs.declared.Kind.{Kind}
use Rattle.machine.specs.declared.Machine.{Machine}
use lib.Dec.{eqb}
use Rattle.bay.proofs.Taut.{pick}
use Rattle.machine.specs.declared.Act.TheVariants as act
use Rattle.std.specs.Prelude.{Some, None}

-- ---- what writes

-- START, TAKE and TIMEOUT leave the machine in either kind.
pub record NeverWrites (s : Controller) : Type 0 where
  pub start : (next s Start).machine ≡ s.machine
  pub take : (ack : Bool) → (next s (Take ack)).machine ≡ s.machine
  pub timeout : (next s Timeout).machine ≡ s.machine

take_leaves : (m : Machine) (ack : Bool) (p : Progress) → done (take_known m.kind (reading m) ack p).deed m ≡ m
unfolding take_known read_at does
take_leaves m ack Idle = refl
take_leaves m ack Opened = refl
take_leaves m ack Addressed = refl
take_leaves m ack (Register r) = refl
take_leaves m ack (Data r v) = refl
take_leaves m ack (Again r) = refl
take_leaves m ack (Reading v) = refl
take_leaves m ack (Writing r) = refl
take_leaves m ack (Sending r v) = pick (λ (t : Turn). done t.deed m ≡ m) ack (λ _. refl) (λ _. refl)

pub never_writes : (s : Controller) → NeverWrites s
unfolding next turn_of
never_writes s = record { start = refl; take = λ ack. take_leaves s.machine ack (known_to s.machine.kind s.progress); timeout = refl }

-- What a part of the machine comes to at a BYTE: a write is done where it is heard as one.
pub at_byte_lem :
    {A : Type 0} (part : Machine → A) (m : Machine) (h : Heard) → part (done (byte_heard m.kind (reading m) h).deed m) ≡ at_byte (λ a. part (does a m)) (part m) h
unfolding byte_heard read_at does
at_byte_lem part m (On p) = refl
at_byte_lem part m (Write r v) = refl
at_byte_lem part m (Read r) = refl
at_byte_lem part m End = refl

-- In the first kind nothing is written before the STOP: a BYTE leaves the machine, and so does a STOP but after a data byte.
pub record OnlyStopWrites (s : Controller) : Type 0 where
  pub byte : (b : ℕ) → (next s (Byte b)).machine ≡ s.machine
  pub stop_early : ((r v : ℕ) → s.progress ≢ Data r v) → (next s Stop).machine ≡ s.machine

first_byte : {A : Type 0} (of : Act → A) (other : A) (straps b : ℕ) (p : Progress) → at_byte of other (heard First straps b p) ≡ other
unfolding heard heard_known known_to
first_byte of other straps b Idle = refl
first_byte of other straps b Opened = pick (λ h. at_byte of other h ≡ other) (eqb b (own_write_byte straps)) (λ _. refl) (λ _. refl)
first_byte of other straps b Addressed = refl
first_byte of other straps b (Register r) = refl
first_byte of other straps b (Data r v) = refl
first_byte of other straps b (Again r) = pick (λ h. at_byte of other h ≡ other) (eqb b (own_read_byte straps)) (λ _. refl) (λ _. refl)
first_byte of other straps b (Reading v) = refl
first_byte of other straps b (Writing r) = refl
first_byte of other straps b (Sending r v) = refl

first_stop : (m : Machine) (p : Progress) → ((r v : ℕ) → p ≢ Data r v) → done (stop_deed First p) m ≡ m
unfolding stop_deed known_to
first_stop m Idle n = refl
first_stop m Opened n = refl
first_stop m Addressed n = refl
first_stop m (Register r) n = refl
first_stop m (Data r v) n = absurd (n r v refl)
first_stop m (Again r) n = refl
first_stop m (Reading v) n = refl
first_stop m (Writing r) n = refl
first_stop m (Sending r v) n = refl

pub only_stop_writes : (s : Controller) → s.machine.kind ≡ First → OnlyStopWrites s
unfolding next turn_of byte_at
only_stop_writes s e =
    record {
      byte = λ b.
          at_byte_lem (λ m. m) s.machine (heard s.machine.kind s.machine.straps b s.progress)
          ∙ ap (λ k. at_byte (λ a. does a s.machine) s.machine (heard k s.machine.straps b s.progress)) e
          ∙ first_byte (λ a. does a s.machine) s.machine s.machine.straps b s.progress;
      stop_early = λ n. ap (λ k. done (stop_deed k s.progress) s.machine) e ∙ first_stop s.machine s.progress n;
    }

-- In the second kind a data byte after the register byte, or after another, is a whole write at once, at the number, which then rises; and
-- a STOP leaves the machine.
pub record EachByteWrites (s : Controller) : Type 0 where
  pub first_byte : (r b : ℕ) → s.progress ≡ Register r → next s (Byte b) ≡ record { machine = does (act.Write r b) s.machine; progress = Writing (next_register r) }
  pub next_byte : (r b : ℕ) → s.progress ≡ Writing r → next s (Byte b) ≡ record { machine = does (act.Write r b) s.machine; progress = Writing (next_register r) }
  pub stop : (next s Stop).machine ≡ s.machine

second_stop : (m : Machine) (p : Progress) → done (stop_deed Second p) m ≡ m
unfolding stop_deed known_to
second_stop m Idle = refl
second_stop m Opened = refl
second_stop m Addressed = refl
second_stop m (Register r) = refl
second_stop m (Data r v) = refl
second_stop m (Again r) = refl
second_stop m (Reading v) = refl
second_stop m (Writing r) = refl
second_stop m (Sending r v) = refl

pub each_byte_writes : (s : Controller) → s.machine.kind ≡ Second → EachByteWrites s
unfolding next turn_of byte_at byte_heard heard heard_known known_to
each_byte_writes s e =
    record {
      first_byte = λ r b p. ap (λ (h : Heard). taken (byte_heard s.machine.kind (reading s.machine) h) s.machine) (at_progress (Register r) b p);
      next_byte = λ r b p. ap (λ (h : Heard). taken (byte_heard s.machine.kind (reading s.machine) h) s.machine) (at_progress (Writing r) b p);
      stop = ap (λ k. done (stop_deed k s.progress) s.machine) e ∙ second_stop s.machine s.progress;
    }
  where
    at_progress : (q : Progress) (b : ℕ) → s.progress ≡ q → heard s.machine.kind s.machine.straps b s.progress ≡ heard Second s.machine.straps b q
    at_progress q b p = ap (λ k. heard k s.machine.straps b s.progress) e ∙ ap (heard Second s.machine.straps b) p

-- So no event but these moves a bay.
pub no_other_event_moves :
    (s : Controller) (e : Event) (i : ℕ) → event_moves s i e ≡ false → (bay_at (next s e).machine i).state ≡ (bay_at s.machine i).state
unfolding next turn_of stop_deed byte_at
no_other_event_moves s Start i h = refl
no_other_event_moves s Stop i h = stops (known_to s.machine.kind s.progress) h
  where
    stops :
        (p : Progress) → at_stop (moves_bay s.machine i) false p ≡ false → (bay_at (done (at_stop Some None p) s.machine) i).state ≡ (bay_at s.machine i).state
    stops Idle k = refl
    stops Opened k = refl
    stops Addressed k = refl
    stops (Register r) k = refl
    stops (Data r v) k = nothing_else_moves s.machine i (act.Write r v) k
    stops (Again r) k = refl
    stops (Reading v) k = refl
    stops (Writing r) k = refl
    stops (Sending r v) k = refl
no_other_event_moves s (Byte b) i h =
    at_byte_lem (λ m. (bay_at m i).state) s.machine (heard s.machine.kind s.machine.straps b s.progress)
    ∙ bytes (heard s.machine.kind s.machine.straps b s.progress) h
  where
    bytes :
        (x : Heard) → at_byte (moves_bay s.machine i) false x ≡ false
        → at_byte (λ a. (bay_at (does a s.machine) i).state) (bay_at s.machine i).state x ≡ (bay_at s.machine i).state
    bytes (On p) k = refl
    bytes (Write r v) k = nothing_else_moves s.machine i (act.Write r v) k
    bytes (Read r) k = refl
    bytes End k = refl
no_other_event_moves s (Take ack) i h = ap (λ m. (bay_at m i).state) ((never_writes s).take ack)
no_other_event_moves s (Pins levels) i h = nothing_else_moves s.machine i (act.Pins levels) h
no_other_event_moves s Tick i h = nothing_else_moves s.machine i act.Tick h
no_other_event_moves s (Reset straps levels short) i h = absurd (true≢false h)
no_other_event_moves s Timeout i h = refl

-- ---- a read is decided at the own read byte

-- The command then holds what the register reads at that time ..
pub byte_decides :
    (s : Controller) (b r : ℕ) → heard s.machine.kind s.machine.straps b s.progress ≡ Read r
    → (next s (Byte b)).progress ≡ holding s.machine.kind r (reading s.machine r)
unfolding next turn_of byte_at byte_heard read_at
byte_decides s b r h = ap (λ x. (byte_heard s.machine.kind (reading s.machine) x).progress) h

-- .. which the TAKE gives. In the second kind, one that the host ACKs then holds what the next register reads.
pub record Gives (s : Controller) (k : Kind) (r v : ℕ) : Type 0 where
  pub driven : (ack : Bool) → (turn_of s (Take ack)).reply ≡ Driven v
  pub further : k ≡ Second → (next s (Take true)).progress ≡ Sending (next_register r) (reading s.machine (next_register r))
  pub closed : (next s (Take false)).progress ≡ Idle

pub take_gives : (s : Controller) (r v : ℕ) → s.progress ≡ holding s.machine.kind r v → Gives s s.machine.kind r v
unfolding next turn_of take_known read_at known_to holding
take_gives s r v p =
    record {
      driven = λ ack. ap (λ q. (take_at s.machine ack q).reply) p ∙ reply_of_lem s.machine.kind ack;
      further = λ e. ap (λ q. (take_at s.machine true q).progress) p ∙ goes_on s.machine.kind refl e;
      closed = ap (λ q. (take_at s.machine false q).progress) p ∙ closes s.machine.kind;
    }
  where
    reply_of_lem : (k : Kind) (ack : Bool) → (take_known s.machine.kind (reading s.machine) ack (known_to k (holding k r v))).reply ≡ Driven v
    reply_of_lem First ack = refl
    reply_of_lem Second ack = pick (λ (t : Turn). t.reply ≡ Driven v) ack (λ _. refl) (λ _. refl)

    goes_on :
        (k : Kind) → s.machine.kind ≡ k → k ≡ Second
        → (take_known s.machine.kind (reading s.machine) true (known_to k (holding k r v))).progress ≡ Sending (next_register r) (reading s.machine (next_register r))
    goes_on k e q = ap (λ x. (take_known s.machine.kind (reading s.machine) true (known_to x (holding x r v))).progress) q ∙ ap (λ x. holding x (next_register r) (reading s.machine (next_register r))) (e ∙ q)

    closes : (k : Kind) → (take_known s.machine.kind (reading s.machine) false (known_to k (holding k r v))).progress ≡ Idle
    closes First = refl
    closes Second = refl

-- So pin changes between the own read byte and the TAKE don't alter the value, though levels be accepted there (the button's from five
-- ticks on, a contact's from ten).
abbrev pub ticks_of : ℕ → Controller → Controller
ticks_of zero s = s
ticks_of (suc n) s = next (ticks_of n s) Tick

ticks_passed_over : (n : ℕ) (s : Controller) → ((ticks_of n s).progress ≡ s.progress) × ((ticks_of n s).machine.kind ≡ s.machine.kind)
unfolding next turn_of does tick_to
ticks_passed_over zero s = (refl, refl)
ticks_passed_over (suc n) s = let before = ticks_passed_over n s in (tick_passed_over (ticks_of n s) ∙ before.0, before.1)

pub pins_inside_a_read :
    (s : Controller) (b r levels n : ℕ) (ack : Bool) → heard s.machine.kind s.machine.straps b s.progress ≡ Read r
    → (turn_of (ticks_of n (next (next s (Byte b)) (Pins levels))) (Take ack)).reply ≡ Driven (reading s.machine r)
unfolding next turn_of byte_at byte_heard read_at does pins_to
pins_inside_a_read s b r levels n ack h =
    let t = next s (Byte b) in
    let passed = ticks_passed_over n (next t (Pins levels)) in
    (take_gives (ticks_of n (next t (Pins levels))) r _
    (passed.0 ∙ pins_passed_over levels t ∙ byte_decides s b r h ∙ ap (λ k. holding k r (reading s.machine r)) (sym (passed.1 ∙ kept_kind b r h)))).driven ack
  where
    kept_kind : (b r : ℕ) → heard s.machine.kind s.machine.straps b s.progress ≡ Read r → (next s (Byte b)).machine.kind ≡ s.machine.kind
    kept_kind b r h = ap (λ x. (done (byte_heard s.machine.kind (reading s.machine) x).deed s.machine).kind) h

-- ---- what ends a command

-- STOP, TIMEOUT and RESET leave no command open, whatever it had come to, nor does a TAKE without ACK, or in the first kind any, and
-- neither does a BYTE without ACK.
pub record LeavesNone (s : Controller) : Type 0 where
  pub stop : (next s Stop).progress ≡ Idle
  pub timeout : (next s Timeout).progress ≡ Idle
  pub reset : (straps levels : ℕ) (short : Bool) → (next s (Reset straps levels short)).progress ≡ Idle
  pub byte : (b : ℕ) → (turn_of s (Byte b)).reply ≡ NoAck → (next s (Byte b)).progress ≡ Idle
  pub take : (next s (Take false)).progress ≡ Idle
  pub first_take : s.machine.kind ≡ First → (ack : Bool) → (next s (Take ack)).progress ≡ Idle

pub leaves_none : (s : Controller) → LeavesNone s
unfolding next turn_of byte_at byte_heard read_at take_known known_to
leaves_none s =
    record {
      stop = refl;
      timeout = refl;
      reset = λ straps levels short. refl;
      byte = λ b. by_byte (heard s.machine.kind s.machine.straps b s.progress);
      take = by_take (known_to s.machine.kind s.progress);
      first_take = λ e ack. ap (λ k. (take_known s.machine.kind (reading s.machine) ack (known_to k s.progress)).progress) e ∙ by_first ack s.progress;
    }
  where
    by_byte : (h : Heard) → (byte_heard s.machine.kind (reading s.machine) h).reply ≡ NoAck → (byte_heard s.machine.kind (reading s.machine) h).progress ≡ Idle
    by_byte (On p) e = let z : ◌≡◌ {A = ℕ} 0 1 = cc in absurd (omega arith)
    by_byte (Write r v) e = let z : ◌≡◌ {A = ℕ} 0 1 = cc in absurd (omega arith)
    by_byte (Read r) e = let z : ◌≡◌ {A = ℕ} 0 1 = cc in absurd (omega arith)
    by_byte End e = refl

    by_take : (p : Progress) → (take_known s.machine.kind (reading s.machine) false p).progress ≡ Idle
    by_take Idle = refl
    by_take Opened = refl
    by_take Addressed = refl
    by_take (Register r) = refl
    by_take (Data r v) = refl
    by_take (Again r) = refl
    by_take (Reading v) = refl
    by_take (Writing r) = refl
    by_take (Sending r v) = refl

    by_first : (ack : Bool) (p : Progress) → (take_known s.machine.kind (reading s.machine) ack (known_to First p)).progress ≡ Idle
    by_first ack Idle = refl
    by_first ack Opened = refl
    by_first ack Addressed = refl
    by_first ack (Register r) = refl
    by_first ack (Data r v) = refl
    by_first ack (Again r) = refl
    by_first ack (Reading v) = refl
    by_first ack (Writing r) = refl
    by_first ack (Sending r v) = refl

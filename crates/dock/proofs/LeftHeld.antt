-- What each event and each name leave of the byte that an open read holds (document 02, request 7). By cases on the command. Assumes nothing.
use Prim.Native.Nat.{ℕ}
use mathlib.Core.Path.{◌≡◌, refl, sym, ◌∙◌}
use mathlib.Core.Bool.{Bool, true, false, cond, true≢false}
use Rattle.kind.specs.Kind.{numbered}
use Rattle.kind.specs.declared.Kind.{Kind}
use Rattle.kind.specs.declared.Kind.TheVariants.{First, Second}
use Rattle.event.specs.Words.{unpacked}
use Rattle.event.specs.declared.Event.{Event}
use Rattle.event.specs.declared.Event.TheVariants as event
use Rattle.bus.specs.Progress.{known_to, started_known, started, heard_known, heard, holding, next_register, own_read_byte, own_write_byte, held_known, held_by}
use Rattle.bus.specs.declared.Progress.{Progress}
use Rattle.bus.specs.declared.Progress.TheVariants.{Idle, Opened, Addressed, Register, Data, Again, Reading, Writing, Sending}
use Rattle.bus.specs.declared.Heard.{Heard}
use Rattle.bus.specs.declared.Heard.TheVariants.{On, Write, Read, End}
use Rattle.bay.proofs.Taut.{pick, either_way, neither}
use lib.Dec.{eqb}
use Rattle.machine.specs.Record.{fits}
use Rattle.machine.specs.InForce.{reading}
use Rattle.machine.specs.Acts.{does, pins_to, tick_to, name_to}
use Rattle.machine.specs.declared.Machine.{Machine}
use Rattle.machine.proofs.Fit.{fits_kept}
use Rattle.dock.specs.Events.{turn_of, taken, next, take_known, read_at, byte_at, byte_heard}
use Rattle.dock.specs.Step.{takes, step_of}
use Rattle.dock.specs.Name.{name_fit, name_of}
use Rattle.dock.specs.Held.{as_held, held_fit, told_held}
use Rattle.dock.specs.declared.Controller.{Controller}
use Rattle.dock.specs.declared.Stepped.{Stepped}
use Rattle.dock.proofs.Kept.{name_keeps}
use Rattle.dock.proofs.Laws.{step_fit_lem}
use Rattle.dock.proofs.OpenRead.{told_fit, not_started}
use Rattle.std.specs.Prelude.{Ok, None, Option, Result, Some, Err}
use Rattle.dock.specs.declared.Refusal.{Refusal}
use Rattle.kind.specs.declared.UnknownKind.{UnknownKind}

-- What is told after a word of this event.
abbrev pub Leaves : Controller → Event → Result (Option ℕ) Refusal → Type 0
Leaves s e h = (w : ℕ) → unpacked w ≡ Ok e → told_held (step_of s w).controller ≡ h

module _ (s : Controller) (e : Event) (h : Result (Option ℕ) Refusal) (f : fits s.machine ≡ true) where
  stepped :
      (takes s.machine.started e ≡ true → held_fit (next s e) ≡ h) → (takes s.machine.started e ≡ false → held_fit s ≡ h)
      → (w : ℕ) → unpacked w ≡ Ok e → held_fit (step_of s w).controller ≡ h
  unfolding step_of
  stepped t r w u = rw (f, u) (pick (λ (x : Stepped). held_fit x.controller ≡ h) (takes s.machine.started e) t r)

  leaves : (takes s.machine.started e ≡ true → held_fit (next s e) ≡ h) → (takes s.machine.started e ≡ false → held_fit s ≡ h) → Leaves s e h
  leaves t r w u = told_fit (step_of s w).controller (step_fit_lem s w f) ∙ stepped t r w u

-- One that is not taken was given to a state that isn't started.
untaken : (s : Controller) (e : Event) → takes s.machine.started e ≡ false → held_fit s ≡ Ok None
unfolding takes
untaken s e r = not_started s (neither _ _ r).0

-- A machine, and what its command has come to; where nothing is held then in either kind, nothing is told.
abbrev at : Machine → Progress → Controller
at m p = record { machine = m; progress = p }

quiet : (m : Machine) (p : Progress) → ((k : Kind) → as_held (held_by k p) ≡ Ok None) → held_fit (at m p) ≡ Ok None
unfolding held_fit
quiet m p n = rw (n m.kind) (either_way (Ok None) m.started)

idle : (m : Machine) → held_fit (at m Idle) ≡ Ok None
unfolding held_by held_known known_to
idle m = quiet m Idle (λ k. refl)

after_start : (m : Machine) (p : Progress) → held_fit (at m (started_known p)) ≡ Ok None
unfolding held_by held_known known_to started_known
after_start m Idle = quiet m Opened (λ k. refl)
after_start m Opened = idle m
after_start m Addressed = idle m
after_start m (Register r) = quiet m (Again r) (λ k. refl)
after_start m (Data r v) = idle m
after_start m (Again r) = idle m
after_start m (Reading v) = idle m
after_start m (Writing n) = idle m
after_start m (Sending n v) = idle m

-- A BYTE leaves what the register reads then where it decides a read, and else nothing.
abbrev pub left_by_byte : (ℕ → ℕ) → Heard → Result (Option ℕ) Refusal
left_by_byte reads (On p) = Ok None
left_by_byte reads (Write r v) = Ok None
left_by_byte reads (Read r) = Ok (Some (reads r))
left_by_byte reads End = Ok None

-- A TAKE that the host ACKs leaves in the second kind what the next register reads then, where a byte was held; any other nothing.
abbrev pub left_by_take : (ℕ → ℕ) → Bool → Progress → Result (Option ℕ) Refusal
left_by_take reads ack Idle = Ok None
left_by_take reads ack Opened = Ok None
left_by_take reads ack Addressed = Ok None
left_by_take reads ack (Register r) = Ok None
left_by_take reads ack (Data r v) = Ok None
left_by_take reads ack (Again r) = Ok None
left_by_take reads ack (Reading v) = Ok None
left_by_take reads ack (Writing n) = Ok None
left_by_take reads ack (Sending n v) = cond ack (Ok (Some (reads (next_register n)))) (Ok None)

module _ (m : Machine) (t : m.started ≡ true) where
  after_read : (r v : ℕ) → held_fit (at m (holding m.kind r v)) ≡ Ok (Some v)
  unfolding held_fit held_by held_known known_to holding
  after_read r v = rw t (go m.kind)
    where
      go : (k : Kind) → as_held (held_by k (holding k r v)) ≡ Ok (Some v)
      go First = refl
      go Second = refl

  -- The command after a BYTE that was heard as this.
  Left : Heard → Type 0
  Left h = held_fit (taken (byte_heard m.kind (reading m) h) m) ≡ left_by_byte (reading m) h

  heard_data : (r v : ℕ) → Left (On (Data r v))
  unfolding Left held_by held_known known_to byte_heard
  heard_data r v = quiet m (Data r v) (elim [ First ↦ refl | Second ↦ refl ])

  heard_write : (r v : ℕ) → Left (Write r v)
  unfolding Left held_by held_known known_to byte_heard
  heard_write r v = quiet _ (Writing (next_register r)) (elim [ First ↦ refl | Second ↦ refl ])

  heard_end : Left End
  unfolding Left byte_heard
  heard_end = idle m

  after_byte : (b : ℕ) (p : Progress) → Left (heard_known m.kind m.straps b p)
  unfolding Left held_by held_known known_to heard_known byte_heard read_at does
  after_byte b Idle = heard_end
  after_byte b Opened = pick Left (eqb b (own_write_byte m.straps)) (λ _. quiet m Addressed (λ k. refl)) (λ _. heard_end)
  after_byte b Addressed = quiet m (Register b) (λ k. refl)
  after_byte b (Register r) = go m.kind
    where
      go : (k : Kind) → Left (heard_known k m.straps b (Register r))
      go First = heard_data r b
      go Second = heard_write r b
  after_byte b (Data r v) = heard_end
  after_byte b (Again r) = pick Left (eqb b (own_read_byte m.straps)) (λ _. after_read r (reading m r)) (λ _. heard_end)
  after_byte b (Reading v) = heard_end
  after_byte b (Writing n) = heard_write n b
  after_byte b (Sending n v) = heard_end

  after_take : (ack : Bool) (p : Progress) → held_fit (taken (take_known m.kind (reading m) ack p) m) ≡ left_by_take (reading m) ack p
  unfolding take_known read_at does
  after_take ack Idle = idle m
  after_take ack Opened = idle m
  after_take ack Addressed = idle m
  after_take ack (Register r) = idle m
  after_take ack (Data r v) = idle m
  after_take ack (Again r) = idle m
  after_take ack (Reading v) = idle m
  after_take ack (Writing n) = idle m
  after_take true (Sending n v) = after_read (next_register n) (reading m (next_register n))
  after_take false (Sending n v) = idle m

-- What each event leaves of the byte, and a name: START, STOP, TIMEOUT and RESET leave none, PINS, TICK and a name leave it as it is.
pub record LeftHeld (s : Controller) : Type 0 where
  pub start : Leaves s event.Start (Ok None)
  pub stop : Leaves s event.Stop (Ok None)
  pub byte :
      (b : ℕ) → s.machine.started ≡ true
      → Leaves s (event.Byte b) (left_by_byte (reading s.machine) (heard s.machine.kind s.machine.straps b s.progress))
  pub take :
      (ack : Bool) → s.machine.started ≡ true
      → Leaves s (event.Take ack) (left_by_take (reading s.machine) ack (known_to s.machine.kind s.progress))
  pub pins : (levels : ℕ) → Leaves s (event.Pins levels) (told_held s)
  pub tick : Leaves s event.Tick (told_held s)
  pub reset : (straps levels : ℕ) (short : Bool) → Leaves s (event.Reset straps levels short) (Ok None)
  pub timeout : Leaves s event.Timeout (Ok None)
  pub name : (n : ℕ) → told_held (name_of s n).controller ≡ told_held s

module _ (s : Controller) (f : fits s.machine ≡ true) where
  -- An event that ends in none is none, taken or not.
  none_left : (e : Event) → held_fit (next s e) ≡ Ok None → Leaves s e (Ok None)
  none_left e n = leaves s e (Ok None) f (λ t. n) (untaken s e)

  passed_over : (e : Event) → held_fit (next s e) ≡ held_fit s → Leaves s e (told_held s)
  passed_over e n = leaves s e (told_held s) f (λ t. n ∙ sym (told_fit s f)) (λ r. sym (told_fit s f))

  if_started : (e : Event) (h : Result (Option ℕ) Refusal) → s.machine.started ≡ true → held_fit (next s e) ≡ h → Leaves s e h
  unfolding takes
  if_started e h t n = leaves s e h f (λ _. n) (λ r. absurd (true≢false (sym t ∙ (neither _ _ r).0)))

  renamed_fit : (n : ℕ) → held_fit (name_of s n).controller ≡ held_fit s
  unfolding name_of held_fit does name_to
  renamed_fit n = rw f (by_number (numbered n))
    where
      by_number : (k : Result Kind UnknownKind) → held_fit (name_fit s k).controller ≡ held_fit s
      by_number (Ok k) = refl
      by_number (Err why) = refl

  pub left_held : LeftHeld s
  unfolding next turn_of started byte_at heard held_fit does pins_to tick_to Left
  left_held =
      record {
        start = none_left event.Start (after_start s.machine (known_to s.machine.kind s.progress));
        stop = none_left event.Stop (idle (next s event.Stop).machine);
        byte = λ b t. if_started (event.Byte b) _ t (after_byte s.machine t b (known_to s.machine.kind s.progress));
        take = λ ack t. if_started (event.Take ack) _ t (after_take s.machine t ack (known_to s.machine.kind s.progress));
        pins = λ levels. passed_over (event.Pins levels) refl;
        tick = passed_over event.Tick refl;
        reset = λ straps levels short. none_left (event.Reset straps levels short) (idle (next s (event.Reset straps levels short)).machine);
        timeout = none_left event.Timeout (idle s.machine);
        name = λ n. told_fit (name_of s n).controller (name_keeps (λ m. fits m ≡ true) fits_kept s n f) ∙ renamed_fit n ∙ sym (told_fit s f);
      }

-- What a bus that several controllers share builds on (document 02, request 9), in the terms of how a controller that is fit stands: how it stands
-- after a word and after a name, what it says to a word, what it takes up, and its outputs. By cases on the event, on whether it is taken, and on
-- what the command had come to. Assumes nothing.
use Prim.Native.Nat.{ℕ, ◌+◌}
use native.Mathlib.Omega.{arith}
use mathlib.Core.Path.{◌≡◌, refl, sym, ap, ◌∙◌}
use mathlib.Core.Logic.{◌⊎◌, inl, inr}
use mathlib.Core.Bool.{Bool, true, false, cond, ◌||◌, true≢false, false≢true}
use borrow.Author.Tests.{eqb-true}
use lib.Dec.{eqb}
use Rattle.event.specs.Words.{unpacked, is_reset}
use Rattle.event.specs.declared.Event.{Event}
use Rattle.event.specs.declared.Event.TheVariants.{Start, Stop, Byte, Take, Pins, Tick, Reset, Timeout}
use Rattle.kind.specs.Kind.{numbered}
use Rattle.kind.specs.declared.Kind.{Kind}
use Rattle.kind.specs.declared.Kind.TheVariants.{First, Second}
use Rattle.bus.specs.Progress.{own_write_byte, own_read_byte, known_to, heard, heard_known, held_known, held_by}
use Rattle.bus.specs.declared.Progress.{Progress}
use Rattle.bus.specs.declared.Progress.TheVariants.{Idle, Opened, Addressed, Register, Data, Again, Reading, Writing, Sending}
use Rattle.bus.specs.declared.Heard.{Heard}
use Rattle.bus.specs.declared.Heard.TheVariants.{On, Write, Read, End}
use Rattle.bus.specs.declared.Reply.{Reply}
use Rattle.bus.specs.declared.Reply.TheVariants.{Nothing, Ack, NoAck, Driven, NotDriven}
use Rattle.bay.proofs.Taut.{pick, neither}
use Rattle.machine.specs.Record.{fits, fresh_machine}
use Rattle.machine.specs.Acts.{does, pins_to, tick_to, name_to, reset_as}
use Rattle.machine.specs.InForce.{reading}
use Rattle.machine.specs.Outputs.{outputs}
use Rattle.machine.specs.declared.Machine.{Machine}
use Rattle.machine.proofs.Addresses.{write_steady}
use Rattle.machine.proofs.Fit.{fresh_fit}
use Rattle.machine.proofs.Laws.{silent_before_reset}
use Rattle.machine.specs.declared.Act.{Act}
use Rattle.machine.specs.declared.Act.TheVariants as act
use Rattle.dock.specs.Record.{fresh_controller}
use Rattle.dock.specs.Answers.{refusal_of, reply_in, outputs_of}
use Rattle.dock.specs.Events.{turn_of, next, at_stop, at_byte, byte_at, byte_heard, read_at, take_known}
use Rattle.dock.specs.Parts.{part_next}
use Rattle.dock.specs.Step.{takes, refused, done_step, step_fit, step_of, told_outputs}
use Rattle.dock.specs.Name.{name_fit, name_of}
use Rattle.dock.specs.Held.{as_held, held_fit}
use Rattle.dock.specs.Shared.{is_byte, standing_of}
use Rattle.dock.specs.declared.Controller.{Controller}
use Rattle.dock.specs.declared.Renamed.{Renamed}
use Rattle.dock.specs.declared.Standing.{Standing}
use Rattle.dock.specs.declared.Stepped.{Stepped}
use Rattle.dock.proofs.Laws.{step_fit_lem}
use Rattle.dock.proofs.LeftHeld.{Leaves, left_held, left_by_byte, left_by_take}
use Rattle.dock.proofs.OpenRead.{told_fit}
use Rattle.dock.proofs.Parts.{part_next_lem}
use Rattle.dock.proofs.Refusals.{reset_taken}
use Rattle.std.specs.Prelude.{Ok, None, Option, Result, Err}
use Rattle.dock.specs.declared.Refusal.{Refusal}
use Rattle.dock.specs.declared.Refusal.TheVariants.{NotStarted}
use Rattle.kind.specs.declared.UnknownKind.{UnknownKind}

-- Whether an event is a BYTE.
abbrev pub is_byte_event : Event → Bool
is_byte_event Start = false
is_byte_event Stop = false
is_byte_event (Byte b) = true
is_byte_event (Take ack) = false
is_byte_event (Pins p) = false
is_byte_event Tick = false
is_byte_event (Reset s l short) = false
is_byte_event Timeout = false

-- Whether an event is a TAKE.
abbrev pub is_take_event : Event → Bool
is_take_event Start = false
is_take_event Stop = false
is_take_event (Byte b) = false
is_take_event (Take ack) = true
is_take_event (Pins p) = false
is_take_event Tick = false
is_take_event (Reset s l short) = false
is_take_event Timeout = false

-- How a controller stands after a word.
abbrev pub stands_after : Controller → ℕ → Standing
stands_after s w = standing_of (step_of s w).controller

-- What a word of this event leaves: a fit state; whether it is started and its own address, but at a RESET, which makes both anew and leaves no read
-- open. A read is opened by the own read byte alone.
pub record Stands (s : Controller) (w : ℕ) (e : Event) : Type 0 where
  pub fit : (stands_after s w).fit ≡ true
  pub kept : is_reset e ≡ false → ((stands_after s w).started ≡ (standing_of s).started) × ((stands_after s w).address ≡ (standing_of s).address)
  pub reset :
      (straps levels : ℕ) (short : Bool) → e ≡ Reset straps levels short
      → stands_after s w ≡ record { fit = true; started = true; address = own_write_byte straps; reading = false }
  pub by_byte : (b : ℕ) → e ≡ Byte b → (stands_after s w).reading ≡ true → b ≡ (standing_of s).address + 1
  pub by_others : is_byte_event e ≡ false → (stands_after s w).reading ≡ true → (standing_of s).reading ≡ true

-- ---- what lasts until a RESET

-- Whether a machine is started, and its straps.
abbrev lasting : Machine → Bool × ℕ
lasting m = (m.started, m.straps)

write_lasts : (r v : ℕ) (m : Machine) → lasting (does (act.Write r v) m) ≡ lasting m
unfolding does
write_lasts r v m = rw ((write_steady r v m).started, (write_steady r v m).straps)

event_lasts : (s : Controller) (e : Event) → is_reset e ≡ false → lasting (next s e).machine ≡ lasting s.machine
unfolding does pins_to tick_to
event_lasts s e n = part_next_lem lasting (λ m a. lasting (does a m)) (λ a m. refl) s e ∙ by_event_lem e n
  where
    acts : Act → Bool × ℕ
    acts a = lasting (does a s.machine)

    stops : (p : Progress) → at_stop acts (lasting s.machine) p ≡ lasting s.machine
    stops Idle = refl
    stops Opened = refl
    stops Addressed = refl
    stops (Register r) = refl
    stops (Data r v) = write_lasts r v s.machine
    stops (Again r) = refl
    stops (Reading v) = refl
    stops (Writing n) = refl
    stops (Sending n v) = refl

    bytes : (h : Heard) → at_byte acts (lasting s.machine) h ≡ lasting s.machine
    bytes (On p) = refl
    bytes (Write r v) = write_lasts r v s.machine
    bytes (Read r) = refl
    bytes End = refl

    by_event_lem : (x : Event) → is_reset x ≡ false → part_next lasting (λ m a. lasting (does a m)) s x ≡ lasting s.machine
    by_event_lem Start k = refl
    by_event_lem Stop k = stops (known_to s.machine.kind s.progress)
    by_event_lem (Byte b) k = bytes (heard s.machine.kind s.machine.straps b s.progress)
    by_event_lem (Take ack) k = refl
    by_event_lem (Pins levels) k = refl
    by_event_lem Tick k = refl
    by_event_lem (Reset straps levels short) k = absurd (true≢false k)
    by_event_lem Timeout k = refl

-- ---- whether a read is open

-- A BYTE is heard as a read only where it is the own read byte.
own_read_byte_lem : (k : Kind) (straps b : ℕ) (reads : ℕ → ℕ) (p : Progress) → is_byte (left_by_byte reads (heard_known k straps b p)) ≡ true → b ≡ own_write_byte straps + 1
unfolding heard_known own_read_byte
own_read_byte_lem k straps b reads Idle r = absurd (false≢true r)
own_read_byte_lem k straps b reads Opened r =
    pick (λ h. is_byte (left_by_byte reads h) ≡ true → b ≡ own_write_byte straps + 1) (eqb b (own_write_byte straps)) (λ _ x. absurd (false≢true x)) (λ _ x. absurd (false≢true x)) r
own_read_byte_lem k straps b reads Addressed r = absurd (false≢true r)
own_read_byte_lem First straps b reads (Register n) r = absurd (false≢true r)
own_read_byte_lem Second straps b reads (Register n) r = absurd (false≢true r)
own_read_byte_lem k straps b reads (Data n v) r = absurd (false≢true r)
own_read_byte_lem k straps b reads (Again n) r =
    pick (λ h. is_byte (left_by_byte reads h) ≡ true → b ≡ own_write_byte straps + 1) (eqb b (own_read_byte straps)) (λ q x. eqb-true b (own_read_byte straps) q) (λ _ x. absurd (false≢true x)) r
own_read_byte_lem k straps b reads (Reading v) r = absurd (false≢true r)
own_read_byte_lem k straps b reads (Writing n) r = absurd (false≢true r)
own_read_byte_lem k straps b reads (Sending n v) r = absurd (false≢true r)

-- A TAKE leaves a read open only where one was.
was_open : (reads : ℕ → ℕ) (ack : Bool) (p : Progress) → is_byte (left_by_take reads ack p) ≡ true → is_byte (as_held (held_known p)) ≡ true
unfolding held_known
was_open reads ack Idle r = r
was_open reads ack Opened r = r
was_open reads ack Addressed r = r
was_open reads ack (Register n) r = r
was_open reads ack (Data n v) r = r
was_open reads ack (Again n) r = r
was_open reads ack (Reading v) r = refl
was_open reads ack (Writing n) r = r
was_open reads ack (Sending n v) r = refl

-- A read is open only in a started state.
pub reading_started : (s : Controller) → (standing_of s).reading ≡ true → (standing_of s).started ≡ true
unfolding standing_of held_fit
reading_started s = pick (λ h. is_byte h ≡ true → s.machine.started ≡ true) s.machine.started (λ t r. t) (λ t r. absurd (false≢true r))

module _ (s : Controller) (w : ℕ) (f : (standing_of s).fit ≡ true) where
  after_fit : (stands_after s w).fit ≡ true
  unfolding standing_of
  after_fit = step_fit_lem s w f

  step_is : (e : Event) → unpacked w ≡ Ok e → step_of s w ≡ step_fit s (Ok e)
  unfolding step_of standing_of
  step_is e u = rw (f, u)

  -- A word that isn't taken leaves the state as it is.
  kept : (e : Event) → unpacked w ≡ Ok e → is_reset e ≡ false → ((stands_after s w).started ≡ (standing_of s).started) × ((stands_after s w).address ≡ (standing_of s).address)
  unfolding standing_of
  kept e u n = rw (step_is e u) (pick Same (takes s.machine.started e) (λ _. (ap (λ x. x.0) lasts, ap (λ x. own_write_byte x.1) lasts)) (λ _. (refl, refl)))
    where
      Same : Stepped → Type 0
      Same x = (x.controller.machine.started ≡ s.machine.started) × (own_write_byte x.controller.machine.straps ≡ own_write_byte s.machine.straps)

      lasts : lasting (next s e).machine ≡ lasting s.machine
      lasts = event_lasts s e n

  reading_after : (e : Event) (h : Result (Option ℕ) Refusal) → unpacked w ≡ Ok e → Leaves s e h → (stands_after s w).reading ≡ is_byte h
  unfolding standing_of
  reading_after e h u l = ap is_byte (sym (told_fit (step_of s w).controller (step_fit_lem s w f)) ∙ l w u)

  reset_leaves :
      (straps levels : ℕ) (short : Bool) → unpacked w ≡ Ok (Reset straps levels short)
      → stands_after s w ≡ record { fit = true; started = true; address = own_write_byte straps; reading = false }
  unfolding standing_of next turn_of does reset_as
  reset_leaves straps levels short u =
      let e = Reset straps levels short in
      let is : step_of s w ≡ done_step s e = step_is e u ∙ rw (reset_taken s.machine.started straps levels short) in
      let none : is_byte (held_fit (step_of s w).controller) ≡ false = reading_after e _ u ((left_held s f).reset straps levels short) in
      rw (step_fit_lem s w f, none, is)

  -- A state that has a read open after an event that isn't a RESET was started before it.
  was_started : (e : Event) → unpacked w ≡ Ok e → is_reset e ≡ false → (stands_after s w).reading ≡ true → (standing_of s).started ≡ true
  was_started e u n r = sym (kept e u n).0 ∙ reading_started (step_of s w).controller r

  by_byte : (b : ℕ) → unpacked w ≡ Ok (Byte b) → (stands_after s w).reading ≡ true → b ≡ (standing_of s).address + 1
  unfolding standing_of heard
  by_byte b u r =
      own_read_byte_lem s.machine.kind s.machine.straps b (reading s.machine) (known_to s.machine.kind s.progress)
      (sym (reading_after (Byte b) _ u ((left_held s f).byte b (was_started (Byte b) u refl r))) ∙ r)

  by_others : (e : Event) → unpacked w ≡ Ok e → is_byte_event e ≡ false → (stands_after s w).reading ≡ true → (standing_of s).reading ≡ true
  unfolding standing_of held_fit held_by
  by_others Start u n r = absurd (false≢true (sym (reading_after Start _ u (left_held s f).start) ∙ r))
  by_others Stop u n r = absurd (false≢true (sym (reading_after Stop _ u (left_held s f).stop) ∙ r))
  by_others (Byte b) u n r = absurd (true≢false n)
  by_others (Take ack) u n r =
      let t : s.machine.started ≡ true = was_started (Take ack) u refl r in
      rw t (was_open (reading s.machine) ack _ (sym (reading_after (Take ack) _ u ((left_held s f).take ack t)) ∙ r))
  by_others (Pins levels) u n r = ap is_byte (sym (told_fit s f)) ∙ sym (reading_after (Pins levels) _ u ((left_held s f).pins levels)) ∙ r
  by_others Tick u n r = ap is_byte (sym (told_fit s f)) ∙ sym (reading_after Tick _ u (left_held s f).tick) ∙ r
  by_others (Reset straps levels short) u n r = absurd (false≢true (sym (reading_after (Reset straps levels short) _ u ((left_held s f).reset straps levels short)) ∙ r))
  by_others Timeout u n r = absurd (false≢true (sym (reading_after Timeout _ u (left_held s f).timeout) ∙ r))

-- Each word leaves a fit controller so.
pub stands : (s : Controller) (w : ℕ) (e : Event) → (standing_of s).fit ≡ true → unpacked w ≡ Ok e → Stands s w e
stands s w e f u =
    record {
      fit = after_fit s w f;
      kept = kept s w f e u;
      reset = λ straps levels short x. reset_leaves s w f straps levels short (u ∙ ap Ok x);
      by_byte = λ b x. by_byte s w f b (u ∙ ap Ok x);
      by_others = by_others s w f e u;
    }

-- ---- a name, and a fresh state

-- A name leaves how a controller stands.
pub name_stands : (s : Controller) (n : ℕ) → (standing_of s).fit ≡ true → standing_of (name_of s n).controller ≡ standing_of s
unfolding standing_of name_of held_fit fits does name_to
name_stands s n f = pick (λ (x : Renamed). standing_of x.controller ≡ standing_of s) (fits s.machine) (λ _. by_number (numbered n)) (λ _. refl)
  where
    by_number : (k : Result Kind UnknownKind) → standing_of (name_fit s k).controller ≡ standing_of s
    by_number (Ok k) = refl
    by_number (Err why) = refl

-- How a fresh controller stands.
pub fresh_stands : standing_of fresh_controller ≡ record { fit = true; started = false; address = own_write_byte 0; reading = false }
unfolding standing_of fresh_controller fresh_machine held_fit
fresh_stands = ap (λ x. record { fit = x; started = false; address = own_write_byte 0; reading = false }) fresh_fit

-- ---- what it says to a word

-- The reply of the single call.
abbrev pub spoken : Controller → ℕ → Reply
spoken s w = reply_in (step_of s w).answer

-- What is said to a word of this event: a BYTE is ACKed or not, a TAKE is driven exactly if a read is open, and nothing is said to any other, nor
-- before the first RESET.
pub record Speaks (s : Controller) (w : ℕ) (e : Event) : Type 0 where
  pub byte : (b : ℕ) → e ≡ Byte b → (spoken s w ≡ Ack) ⊎ (spoken s w ≡ NoAck) ⊎ (spoken s w ≡ Nothing)
  pub take_open : (ack : Bool) → e ≡ Take ack → (standing_of s).reading ≡ true → (v : ℕ) × (spoken s w ≡ Driven v)
  pub take_closed : (ack : Bool) → e ≡ Take ack → (standing_of s).reading ≡ false → (spoken s w ≡ NotDriven) ⊎ (spoken s w ≡ Nothing)
  pub others : is_byte_event e ≡ false → is_take_event e ≡ false → spoken s w ≡ Nothing
  pub acked : spoken s w ≡ Ack → is_byte_event e ≡ true
  pub driven : (v : ℕ) → spoken s w ≡ Driven v → (is_take_event e ≡ true) × ((standing_of s).reading ≡ true)

-- What is said to a BYTE, and to a TAKE while a read is open or not.
ToByte : Reply → Type 0
ToByte r = (r ≡ Ack) ⊎ (r ≡ NoAck) ⊎ (r ≡ Nothing)

ToTake : Bool → Reply → Type 0
ToTake true r = (v : ℕ) × (r ≡ Driven v)
ToTake false r = (r ≡ NotDriven) ⊎ (r ≡ Nothing)

to_byte : (k : Kind) (reads : ℕ → ℕ) (h : Heard) → ToByte (byte_heard k reads h).reply
unfolding ToByte byte_heard read_at
to_byte k reads (On p) = inl refl
to_byte k reads (Write r v) = inl refl
to_byte k reads (Read r) = inl refl
to_byte k reads End = inr (inl refl)

to_take : (k : Kind) (reads : ℕ → ℕ) (ack : Bool) (p : Progress) → ToTake (is_byte (as_held (held_known p))) (take_known k reads ack p).reply
unfolding ToTake held_known take_known read_at
to_take k reads ack Idle = inl refl
to_take k reads ack Opened = inl refl
to_take k reads ack Addressed = inl refl
to_take k reads ack (Register r) = inl refl
to_take k reads ack (Data r v) = inl refl
to_take k reads ack (Again r) = inl refl
to_take k reads ack (Reading v) = (v, refl)
to_take k reads ack (Writing n) = inl refl
to_take k reads true (Sending n v) = (v, refl)
to_take k reads false (Sending n v) = (v, refl)

to_others : (s : Controller) (e : Event) → is_byte_event e ≡ false → is_take_event e ≡ false → (turn_of s e).reply ≡ Nothing
unfolding turn_of
to_others s Start n m = refl
to_others s Stop n m = refl
to_others s (Byte b) n m = absurd (true≢false n)
to_others s (Take ack) n m = absurd (true≢false m)
to_others s (Pins levels) n m = refl
to_others s Tick n m = refl
to_others s (Reset straps levels short) n m = refl
to_others s Timeout n m = refl

-- So a BYTE is never driven, a TAKE is never ACKed, and driven only while a read is open.
byte_not_driven : (r : Reply) (v : ℕ) → ToByte r → r ≡ Driven v → ⊥
unfolding ToByte
byte_not_driven r v (inl e) d = let z : ◌≡◌ {A = ℕ} 0 1 = cc in omega arith
byte_not_driven r v (inr (inl e)) d = let z : ◌≡◌ {A = ℕ} 0 1 = cc in omega arith
byte_not_driven r v (inr (inr e)) d = let z : ◌≡◌ {A = ℕ} 0 1 = cc in omega arith

take_not_acked : (o : Bool) (r : Reply) → ToTake o r → r ≡ Ack → ⊥
unfolding ToTake
take_not_acked true r (v, e) a = let z : ◌≡◌ {A = ℕ} 0 1 = cc in omega arith
take_not_acked false r (inl e) a = let z : ◌≡◌ {A = ℕ} 0 1 = cc in omega arith
take_not_acked false r (inr e) a = let z : ◌≡◌ {A = ℕ} 0 1 = cc in omega arith

driven_open : (o : Bool) (r : Reply) (v : ℕ) → ToTake o r → r ≡ Driven v → o ≡ true
unfolding ToTake
driven_open true r v t d = refl
driven_open false r v (inl e) d = let z : ◌≡◌ {A = ℕ} 0 1 = cc in absurd (omega arith)
driven_open false r v (inr e) d = let z : ◌≡◌ {A = ℕ} 0 1 = cc in absurd (omega arith)

module _ (s : Controller) (w : ℕ) (f : (standing_of s).fit ≡ true) where
  said_to_byte : (b : ℕ) → unpacked w ≡ Ok (Byte b) → ToByte (spoken s w)
  unfolding ToByte turn_of byte_at
  said_to_byte b u =
      rw (step_is s w f (Byte b) u)
      (pick (λ (x : Stepped). ToByte (reply_in x.answer)) (takes s.machine.started (Byte b))
      (λ _. to_byte s.machine.kind (reading s.machine) (heard s.machine.kind s.machine.straps b s.progress)) (λ _. inr (inr refl)))

  said_to_take : (ack : Bool) → unpacked w ≡ Ok (Take ack) → ToTake (standing_of s).reading (spoken s w)
  unfolding ToTake standing_of held_fit held_by takes turn_of
  said_to_take ack u = rw (step_is s w f (Take ack) u) (go s.machine.started)
    where
      known : Progress
      known = known_to s.machine.kind s.progress

      go :
          (t : Bool)
          → ToTake (is_byte (cond t (as_held (held_known known)) (Ok None)))
          (reply_in (cond (takes t (Take ack)) (done_step s (Take ack)) (refused s (Err NotStarted))).answer)
      go true = to_take s.machine.kind (reading s.machine) ack known
      go false = inr refl

  said_to_others : (e : Event) → unpacked w ≡ Ok e → is_byte_event e ≡ false → is_take_event e ≡ false → spoken s w ≡ Nothing
  said_to_others e u n m = rw (step_is s w f e u) (pick (λ (x : Stepped). reply_in x.answer ≡ Nothing) (takes s.machine.started e) (λ _. to_others s e n m) (λ _. refl))

  -- By the kind of the event: a BYTE, a TAKE or another.
  by_kind :
      (P : Event → Type 0) → ((b : ℕ) → ToByte (spoken s w) → P (Byte b)) → ((ack : Bool) → ToTake (standing_of s).reading (spoken s w) → P (Take ack))
      → ((e : Event) → spoken s w ≡ Nothing → P e) → (e : Event) → unpacked w ≡ Ok e → P e
  by_kind P b t o Start u = o Start (said_to_others Start u refl refl)
  by_kind P b t o Stop u = o Stop (said_to_others Stop u refl refl)
  by_kind P b t o (Byte x) u = b x (said_to_byte x u)
  by_kind P b t o (Take ack) u = t ack (said_to_take ack u)
  by_kind P b t o (Pins levels) u = o (Pins levels) (said_to_others (Pins levels) u refl refl)
  by_kind P b t o Tick u = o Tick (said_to_others Tick u refl refl)
  by_kind P b t o (Reset straps levels short) u = o (Reset straps levels short) (said_to_others (Reset straps levels short) u refl refl)
  by_kind P b t o Timeout u = o Timeout (said_to_others Timeout u refl refl)

  ack_of_a_byte : (e : Event) → unpacked w ≡ Ok e → spoken s w ≡ Ack → is_byte_event e ≡ true
  ack_of_a_byte =
      by_kind (λ e. spoken s w ≡ Ack → is_byte_event e ≡ true) (λ b t a. refl) (λ ack t a. absurd (take_not_acked (standing_of s).reading (spoken s w) t a))
      (λ e n a. let z : ◌≡◌ {A = ℕ} 0 1 = cc in absurd (omega arith))

  driven_by_a_take : (e : Event) → unpacked w ≡ Ok e → (v : ℕ) → spoken s w ≡ Driven v → (is_take_event e ≡ true) × ((standing_of s).reading ≡ true)
  driven_by_a_take =
      by_kind (λ e. (v : ℕ) → spoken s w ≡ Driven v → (is_take_event e ≡ true) × ((standing_of s).reading ≡ true))
      (λ b t v d. absurd (byte_not_driven (spoken s w) v t d)) (λ ack t v d. (refl, driven_open (standing_of s).reading (spoken s w) v t d))
      (λ e n v d. let z : ◌≡◌ {A = ℕ} 0 1 = cc in absurd (omega arith))

-- Each word has a fit controller say so.
pub speaks : (s : Controller) (w : ℕ) (e : Event) → (standing_of s).fit ≡ true → unpacked w ≡ Ok e → Speaks s w e
unfolding ToByte ToTake
speaks s w e f u =
    record {
      byte = λ b x. said_to_byte s w f b (u ∙ ap Ok x);
      take_open = λ ack x o. rw o at (said_to_take s w f ack (u ∙ ap Ok x));
      take_closed = λ ack x o. rw o at (said_to_take s w f ack (u ∙ ap Ok x));
      others = said_to_others s w f e u;
      acked = ack_of_a_byte s w f e u;
      driven = driven_by_a_take s w f e u;
    }

-- ---- what is taken up, and what passes a silent controller over

-- A controller that isn't started passes over any word but a RESET: its state stays, and 3 is answered.
pub passed_over :
    (s : Controller) (w : ℕ) (e : Event) → (standing_of s).fit ≡ true → (standing_of s).started ≡ false → is_reset e ≡ false → unpacked w ≡ Ok e
    → step_of s w ≡ record { controller = s; answer = Err NotStarted }
unfolding standing_of takes
passed_over s w e f t n u = step_is s w f e u ∙ rw (t, n)

-- One that is started takes up every word, and a RESET is taken up by any.
pub taken_up :
    (s : Controller) (w : ℕ) (e : Event) → (standing_of s).fit ≡ true → unpacked w ≡ Ok e → ((standing_of s).started ≡ true) ⊎ (is_reset e ≡ true)
    → refusal_of (step_of s w).answer ≡ 0
unfolding standing_of takes
taken_up s w e f u t = rw (step_is s w f e u) (go s.machine.started (is_reset e) t)
  where
    go : (a b : Bool) → (a ≡ true) ⊎ (b ≡ true) → refusal_of (cond (a || b) (done_step s e) (refused s (Err NotStarted))).answer ≡ 0
    go true b t = refl
    go false true t = refl
    go false false (inl t) = absurd (false≢true t)
    go false false (inr t) = absurd (false≢true t)

-- ---- the outputs

-- A controller that isn't started has all outputs 0.
pub silent_outputs : (s : Controller) → (standing_of s).fit ≡ true → (standing_of s).started ≡ false → told_outputs s ≡ Ok 0
unfolding standing_of told_outputs
silent_outputs s f t = rw (f, (silent_before_reset s.machine t).0)

-- The outputs that the single call answers are those of the state that it leaves.
pub outputs_after_lem :
    (s : Controller) (w : ℕ) (e : Event) → (standing_of s).fit ≡ true → unpacked w ≡ Ok e
    → told_outputs (step_of s w).controller ≡ Ok (outputs_of (step_of s w).answer)
unfolding standing_of told_outputs takes
outputs_after_lem s w e f u =
    rw (step_fit_lem s w f, step_is s w f e u)
    (pick (λ (x : Stepped). ◌≡◌ {A = Result ℕ Refusal} (Ok (outputs x.controller.machine)) (Ok (outputs_of x.answer))) (takes s.machine.started e) (λ _. refl)
    (λ n. ap Ok (silent_before_reset s.machine (neither _ _ n).0).0))

-- A list of one record: the call is the single call of document 01. The record afterwards is the same, and so is the answer, but for the outputs,
-- which are 0 with every refusal here, and with refusal 2 of the single call those of the state. By cases on the state, the word and the event.
-- Assumes nothing.
use Prim.Native.Nat.{ℕ}
use native.Mathlib.Omega.{arith}
use mathlib.Core.Path.{◌≡◌, refl, ap, ◌∙◌}
use mathlib.Core.Logic.{◌⊎◌, inl, inr}
use mathlib.Core.Bool.{Bool, true, false, cond, not, ◌||◌}
use mathlib.Core.List.{[], ◌∷◌}
use Rattle.event.specs.Words.{unpacked}
use Rattle.event.specs.declared.Event.{Event}
use Rattle.event.specs.declared.Event.TheVariants.{Start, Stop, Byte, Take, Pins, Tick, Reset, Timeout}
use Rattle.bus.specs.Reply.{reply_number}
use Rattle.bus.specs.declared.Reply.{Reply}
use Rattle.bus.specs.declared.Reply.TheVariants.{Nothing, Ack, NoAck, Driven, NotDriven}
use Rattle.machine.specs.Record.{fits}
use Rattle.dock.specs.Events.{turn_of}
use Rattle.dock.specs.Shared.{standing_of}
use Rattle.dock.specs.Step.{takes, refused, done_step, step_of}
use Rattle.dock.specs.declared.Controller.{Controller}
use Rattle.dock.specs.declared.Stepped.{Stepped}
use Rattle.dock.proofs.Replies.{replies}
use Rattle.dock.proofs.Shown.{shown_after}
use Rattle.chassis.specs.declared.Refusal.TheVariants.{Unfit, StrayBit, NotStarted}
use Rattle.chassis.specs.Judge.{faulty, by_event, by_word, judged, verdict_of}
use Rattle.chassis.specs.Chassis.{goes_to, record_at, reply_at, records_from, replies_from, unanswered, heard, four, records_by, told_by, records_of, told_of}
use Rattle.std.specs.Prelude.{Result, Ok, Err}
use Rattle.event.specs.declared.NoEvent.{NoEvent}
use Rattle.dock.specs.Answers.{Answer as Single}
use Rattle.dock.specs.declared.Refusal.TheVariants as single
use Rattle.chassis.specs.declared.Refusal.{Refusal}

-- The single call's answer as the chassis gives it: with the same refusal, reply and byte, and these outputs.
abbrev pub as_answered : Single → Result Reply Refusal
as_answered (Ok d) = Ok d.reply
as_answered (Err single.Unfit) = Err Unfit
as_answered (Err (single.StrayBit o)) = Err StrayBit
as_answered (Err single.NotStarted) = Err NotStarted

abbrev pub as_shown : Single → ℕ
as_shown (Ok d) = d.outputs
as_shown (Err why) = 0

-- ---- one reply is the reply

to_byte : (r : Reply) → (reply_number r ≡ 1) ⊎ (reply_number r ≡ 2) → heard NoAck (r ∷ []) ≡ r
unfolding heard
to_byte Nothing (inl e) = absurd (omega arith)
to_byte Nothing (inr e) = absurd (omega arith)
to_byte Ack h = refl
to_byte NoAck h = refl
to_byte (Driven v) (inl e) = absurd (omega arith)
to_byte (Driven v) (inr e) = absurd (omega arith)
to_byte NotDriven (inl e) = absurd (omega arith)
to_byte NotDriven (inr e) = absurd (omega arith)

to_take : (r : Reply) → (reply_number r ≡ 3) ⊎ (reply_number r ≡ 4) → heard NotDriven (r ∷ []) ≡ r
unfolding heard
to_take Nothing (inl e) = absurd (omega arith)
to_take Nothing (inr e) = absurd (omega arith)
to_take Ack (inl e) = absurd (omega arith)
to_take Ack (inr e) = absurd (omega arith)
to_take NoAck (inl e) = absurd (omega arith)
to_take NoAck (inr e) = absurd (omega arith)
to_take (Driven v) h = refl
to_take NotDriven h = refl

to_others : (r : Reply) → reply_number r ≡ 0 → heard Nothing (r ∷ []) ≡ r
unfolding heard
to_others Nothing e = refl
to_others Ack e = absurd (omega arith)
to_others NoAck e = absurd (omega arith)
to_others (Driven v) e = absurd (omega arith)
to_others NotDriven e = absurd (omega arith)

said : (c : Controller) (e : Event) → heard (unanswered e) ((turn_of c e).reply ∷ []) ≡ (turn_of c e).reply
said c Start = to_others (turn_of c Start).reply (replies c).start
said c Stop = to_others (turn_of c Stop).reply (replies c).stop
said c (Byte b) = to_byte (turn_of c (Byte b)).reply ((replies c).byte b)
said c (Take ack) = to_take (turn_of c (Take ack)).reply ((replies c).take ack)
said c (Pins levels) = to_others (turn_of c (Pins levels)).reply ((replies c).pins levels)
said c Tick = to_others (turn_of c Tick).reply (replies c).tick
said c (Reset straps levels short) = to_others (turn_of c (Reset straps levels short)).reply ((replies c).reset straps levels short)
said c Timeout = to_others (turn_of c Timeout).reply (replies c).timeout

-- Whatever the event, it goes to the only record.
goes : (e : Event) → goes_to e 0 0 ≡ true
goes Start = refl
goes Stop = refl
goes (Byte b) = refl
goes (Take ack) = refl
goes (Pins levels) = refl
goes Tick = refl
goes (Reset straps levels short) = refl
goes Timeout = refl

-- ---- one standing is judged as the single call judges

by_started : (v r : Result Event Refusal) (t : Bool) → cond (not (t || false)) r v ≡ cond (t || false) v r
by_started v r true = refl
by_started v r false = refl

by_own : (v r : Result Event Refusal) (t : Bool) → cond (not t) r v ≡ cond (t || false) v r
by_own v r true = refl
by_own v r false = refl

always : (v r : Result Event Refusal) (t : Bool) → v ≡ cond (t || true) v r
always v r true = refl
always v r false = refl

verdict : (c : Controller) (e : Event) → by_event 1 (standing_of c ∷ []) 0 e ≡ cond (takes c.machine.started e) (Ok e) (Err NotStarted)
unfolding standing_of takes
verdict c Start = by_started _ _ c.machine.started
verdict c Stop = by_started _ _ c.machine.started
verdict c (Byte b) = by_started _ _ c.machine.started
verdict c (Take ack) = by_started _ _ c.machine.started
verdict c (Pins levels) = by_own _ _ c.machine.started
verdict c Tick = by_started _ _ c.machine.started
verdict c (Reset straps levels short) = always _ _ c.machine.started
verdict c Timeout = by_started _ _ c.machine.started

-- ---- the call

module _ (c : Controller) (w : ℕ) where
  -- What the chassis does by a verdict is what the single call does.
  pub record Agrees (v : Result Event Refusal) (r : Stepped) : Type 0 where
    pub leaves : records_by v 0 w (c ∷ []) ≡ r.controller ∷ []
    pub answers : (told_by v 0 w (c ∷ [])).answer ≡ as_answered r.answer
    pub shows : (told_by v 0 w (c ∷ [])).outputs ≡ four (as_shown r.answer ∷ [])

  sent : (e : Event) → step_of c w ≡ done_step c e → Agrees (Ok e) (done_step c e)
  unfolding records_by told_by records_from replies_from record_at reply_at
  sent e step =
      record {
        leaves = rw (goes e, step);
        answers = rw (goes e, step) (ap Ok (said c e));
        shows = rw (goes e, ← shown_after c w, step);
      }

  by_event_lem : (e : Event) → step_of c w ≡ cond (takes c.machine.started e) (done_step c e) (refused c (Err single.NotStarted))
      → Agrees (by_event 1 (standing_of c ∷ []) 0 e) (step_of c w)
  unfolding records_by told_by
  by_event_lem e step = rw (verdict c e) (go (takes c.machine.started e) refl)
    where
      go : (t : Bool) → takes c.machine.started e ≡ t → Agrees (cond (takes c.machine.started e) (Ok e) (Err NotStarted)) (step_of c w)
      go true f = let s : step_of c w ≡ done_step c e = step ∙ rw f in rw (f, s) (sent e s)
      go false f = let s : step_of c w ≡ refused c (Err single.NotStarted) = step ∙ rw f in rw (f, s) (record { leaves = refl; answers = refl; shows = refl })

  by_word_lem : fits c.machine ≡ true → (u : Result Event NoEvent) → unpacked w ≡ u → Agrees (by_word 1 (standing_of c ∷ []) 0 u) (step_of c w)
  unfolding by_word step_of records_by told_by
  by_word_lem f (Err why) e = rw (f, e) (record { leaves = refl; answers = refl; shows = refl })
  by_word_lem f (Ok x) e = by_event_lem x (rw (f, e))

  goes_on : (standing_of c).fit ≡ true → verdict_of (c ∷ []) 0 w ≡ by_word 1 (standing_of c ∷ []) 0 (unpacked w)
  unfolding judged faulty
  goes_on f = rw f

  fit : fits c.machine ≡ true → Agrees (verdict_of (c ∷ []) 0 w) (step_of c w)
  unfolding standing_of
  fit f = rw (goes_on f) (by_word_lem f (unpacked w) refl)

  unfit : fits c.machine ≡ false → Agrees (verdict_of (c ∷ []) 0 w) (step_of c w)
  unfolding judged faulty standing_of step_of records_by told_by
  unfit f = rw f (record { leaves = refl; answers = refl; shows = refl })

  agrees : Agrees (verdict_of (c ∷ []) 0 w) (step_of c w)
  agrees = go (fits c.machine) refl
    where
      go : (t : Bool) → fits c.machine ≡ t → Agrees (verdict_of (c ∷ []) 0 w) (step_of c w)
      go true f = fit f
      go false f = unfit f

  pub alone_leaves : records_of (c ∷ []) 0 w ≡ (step_of c w).controller ∷ []
  alone_leaves = agrees.leaves

  pub alone_answers : (told_of (c ∷ []) 0 w).answer ≡ as_answered (step_of c w).answer
  alone_answers = agrees.answers

  pub alone_shows : (told_of (c ∷ []) 0 w).outputs ≡ four (as_shown (step_of c w).answer ∷ [])
  alone_shows = agrees.shows

-- The plain machine stays beside the controller, event by event and name by name, and then call by call: refused calls leave no trace in
-- either. Assumes nothing.
use Prim.Native.Nat.{ℕ}
use Rattle.event.specs.declared.Event.TheVariants.{Start, Stop, Byte, Take, Pins, Tick, Reset, Timeout}
use Rattle.bus.specs.declared.Heard.TheVariants.{On, Write, Read, End}
use Rattle.bus.specs.declared.Progress.TheVariants.{Idle, Opened, Addressed, Register, Data, Again, Reading, Writing, Sending}
use Rattle.dock.specs.declared.Turn.{Turn}
use Rattle.dock.specs.Step.{takes, step_fit, step_of}
use Rattle.dock.specs.Run.{Call, word, naming, after_calls}
use Rattle.machine.specs.Record.{fits, fresh_machine}
use Rattle.demand.specs.Acts.{Happening, event, name, Is, a_start, a_stop, a_byte, a_take, Line, silent, having, on_bus, hears, decided, meets, acts_at, line_after, acts_of}
use Rattle.kind.specs.Kind.{numbered, unknown_kind}
use Rattle.demand.specs.Bus.{START, STOP, BYTE, Bus, TAKE}
use mathlib.Core.Bool.{Bool, false, true, cond}
use Rattle.dock.specs.declared.Controller.{Controller}
use Rattle.event.specs.declared.Event.{Event}
use Rattle.bus.specs.declared.Heard.{Heard}
use Rattle.kind.specs.declared.Kind.{Kind}
use mathlib.Core.List.{List, [], ◌++◌, ◌∷◌, append_assoc, append-nil}
use Rattle.machine.specs.declared.Machine.{Machine}
use Rattle.bus.specs.declared.Progress.{Progress}
use Rattle.demand.proofs.Commands.{Stands, bus_lands, bus_turn, deed_acts, held_by, reply_bus}
use mathlib.Core.Path.{◌∙◌, ◌≡◌, ap, refl, subst, sym}
use Rattle.demand.specs.Words.{accepted, keep, keep_name}
use Rattle.event.proofs.Straps.{accepted_straps}
use Rattle.demand.proofs.Lists.{acts_append, does_append, line_append, reads_append}
use Rattle.dock.specs.Events.{at_stop, byte_at, byte_heard, done, next, read_at, stop_deed, take_known, turn_of}
use Rattle.demand.specs.Described.{decides}
use Rattle.machine.specs.Acts.{does, does_all, name_to, pins_to, reset_as, tick_to}
use Rattle.dock.specs.Record.{fresh_controller}
use Rattle.bus.specs.Progress.{heard, known_to}
use Rattle.demand.specs.Plain.{last_read, machine_after, read_by, reply_to, to_word, reply_by}
use Rattle.machine.proofs.Fit.{name_fits}
use Rattle.dock.specs.Name.{name_of, named_to, name_fit}
use Rattle.bay.proofs.Taut.{pick}
use Rattle.machine.specs.InForce.{reading}
use Rattle.dock.proofs.Laws.{step_fit_lem}
use Rattle.dock.proofs.Kept.{taken_started}
use Rattle.event.specs.Words.{unpacked}
use Rattle.machine.proofs.Addresses.{write_steady}
use Rattle.machine.specs.declared.Act.TheVariants as act
use Rattle.std.specs.Prelude.{Result, Ok, Err, None, Option, Some}
use Rattle.event.specs.declared.NoEvent.{NoEvent}
use Rattle.event.specs.Words.{no_event}
use Rattle.machine.specs.declared.Act.{Act}
use Rattle.kind.specs.declared.UnknownKind.{UnknownKind}

-- ---- a bus event

-- A line that has been heard beside a machine: it has the machine's straps and kinds.
abbrev pub beside : Machine → List Bus → Line
beside m xs = record { straps = m.straps; kind = m.kind; named = m.named; since = xs }

abbrev pub with : Machine → Progress → Controller
with m p = record { machine = m; progress = p }

-- What a bus event has the machine do is a write, a read or nothing, and leaves its straps and kinds.
unfoldable pub BusDeed : Option Act → Type 0
BusDeed None = Unit {0}
BusDeed (Some (act.Write r v)) = Unit {0}
BusDeed (Some (act.Read r)) = Unit {0}
BusDeed (Some (act.Pins levels)) = ⊥
BusDeed (Some act.Tick) = ⊥
BusDeed (Some (act.Reset straps levels short)) = ⊥
BusDeed (Some (act.Name k)) = ⊥

stop_deed_lem : (p : Progress) → BusDeed (at_stop Some None p)
unfolding BusDeed
stop_deed_lem Idle = tt
stop_deed_lem Opened = tt
stop_deed_lem Addressed = tt
stop_deed_lem (Register r) = tt
stop_deed_lem (Data r v) = tt
stop_deed_lem (Again r) = tt
stop_deed_lem (Reading v) = tt
stop_deed_lem (Writing r) = tt
stop_deed_lem (Sending r v) = tt

byte_deed : (k : Kind) (reads : ℕ → ℕ) (h : Heard) → BusDeed (byte_heard k reads h).deed
unfolding BusDeed byte_heard read_at
byte_deed k reads (On p) = tt
byte_deed k reads (Write r v) = tt
byte_deed k reads (Read r) = tt
byte_deed k reads End = tt

take_deed : (k : Kind) (reads : ℕ → ℕ) (ack : Bool) (p : Progress) → BusDeed (take_known k reads ack p).deed
unfolding BusDeed take_known read_at
take_deed k reads ack Idle = tt
take_deed k reads ack Opened = tt
take_deed k reads ack Addressed = tt
take_deed k reads ack (Register r) = tt
take_deed k reads ack (Data r v) = tt
take_deed k reads ack (Again r) = tt
take_deed k reads ack (Reading v) = tt
take_deed k reads ack (Writing r) = tt
take_deed k reads ack (Sending r v) = pick (λ (t : Turn). BusDeed t.deed) ack (λ _. tt) (λ _. tt)

pub bus_deed : (k : Kind) (s : ℕ) (reads : ℕ → ℕ) (p : Progress) (b : Bus) → BusDeed (bus_turn k s reads p b).deed
unfolding BusDeed stop_deed
bus_deed k s reads p START = tt
bus_deed k s reads p STOP = stop_deed_lem (known_to k p)
bus_deed k s reads p (BYTE b) = byte_deed k reads (heard k s b p)
bus_deed k s reads p (TAKE ack) = take_deed k reads ack (known_to k p)

record Same (m n : Machine) : Type 0 where
  straps : n.straps ≡ m.straps
  kind : n.kind ≡ m.kind
  named : n.named ≡ m.named

deed_same : (d : Option Act) → BusDeed d → (m : Machine) → Same m (done d m)
unfolding BusDeed does
deed_same None h m = record { straps = refl; kind = refl; named = refl }
deed_same (Some (act.Write r v)) h m = let w = write_steady r v m in record { straps = w.straps; kind = w.kind; named = w.named }
deed_same (Some (act.Read r)) h m = record { straps = refl; kind = refl; named = refl }
deed_same (Some (act.Pins levels)) h m = absurd h
deed_same (Some act.Tick) h m = absurd h
deed_same (Some (act.Reset straps levels short)) h m = absurd h
deed_same (Some (act.Name k)) h m = absurd h

done_acts : (d : Option Act) (m : Machine) → done d m ≡ does_all (deed_acts d) m
unfolding does_all
done_acts None m = refl
done_acts (Some a) m = refl

held_read : (v : ℕ) (d : Option Act) (m : Machine) → held_by (reading m) v d ≡ last_read v (deed_acts d) m
unfolding last_read
held_read v None m = refl
held_read v (Some (act.Write r x)) m = refl
held_read v (Some (act.Read r)) m = refl
held_read v (Some (act.Pins levels)) m = refl
held_read v (Some act.Tick) m = refl
held_read v (Some (act.Reset straps levels short)) m = refl
held_read v (Some (act.Name k)) m = refl

-- ---- every event

-- What an event comes to, of a controller, the bus events xs of its open command and the last value v read: the controller does the
-- acts that the event decides, replies as the description says, and stands where the line has come to.
pub record Takes (s : Controller) (xs : List Bus) (v : ℕ) (e : Event) : Type 0 where
  pub since : List Bus
  pub does_acts : (next s e).machine ≡ does_all (decided (beside s.machine xs) e) s.machine
  pub line : hears (beside s.machine xs) e ≡ beside (next s e).machine since
  pub stands :
      Stands (next s e).machine.kind (next s e).machine.straps (next s e).progress since (last_read v (decided (beside s.machine xs) e) s.machine)
  pub replies : (turn_of s e).reply ≡ reply_by (beside s.machine xs) v e

module _ (m : Machine) (xs : List Bus) (v : ℕ) where
  pub turn_is : (p : Progress) {e : Event} {b : Bus} → Is e b → turn_of (with m p) e ≡ bus_turn m.kind m.straps (reading m) p b
  unfolding turn_of byte_at
  turn_is p a_start = refl
  turn_is p a_stop = refl
  turn_is p a_byte = refl
  turn_is p a_take = refl

  pub hears_is : {e : Event} {b : Bus} → Is e b → hears (beside m xs) e ≡ on_bus (beside m xs) b
  unfolding hears
  hears_is a_start = refl
  hears_is a_stop = refl
  hears_is a_byte = refl
  hears_is a_take = refl

  pub decided_is : {e : Event} {b : Bus} → Is e b → decided (beside m xs) e ≡ decides m.kind m.straps (xs ++ (b ∷ []))
  unfolding decided
  decided_is a_start = refl
  decided_is a_stop = refl
  decided_is a_byte = refl
  decided_is a_take = refl

  reply_is : {e : Event} {b : Bus} → Is e b → reply_by (beside m xs) v e ≡ reply_bus m.kind m.straps xs v b
  unfolding reply_by
  reply_is a_start = refl
  reply_is a_stop = refl
  reply_is a_byte = refl
  reply_is a_take = refl

  at_bus : (p : Progress) → Stands m.kind m.straps p xs v → {e : Event} {b : Bus} → Is e b → Takes (with m p) xs v e
  unfolding next on_bus
  at_bus p x {e} {b} i =
      let l = bus_lands m.straps (reading m) xs v m.kind p x b in
      let t : Turn = bus_turn m.kind m.straps (reading m) p b in
      let is : turn_of (with m p) e ≡ t = turn_is p i in
      let same = deed_same t.deed (bus_deed m.kind m.straps (reading m) p b) m in
      let acts : decided (beside m xs) e ≡ deed_acts t.deed = decided_is i ∙ sym l.acts in
      record {
        since = l.since;
        does_acts = ap (λ (u : Turn). done u.deed m) is ∙ done_acts t.deed m ∙ ap (λ k. does_all k m) (sym acts);
        line =
            hears_is i ∙ ap (λ k. having k (beside m xs)) l.line
            ∙ sym (ap (λ (u : Turn). beside (done u.deed m) l.since) is ∙ kept (done t.deed m) same.straps same.kind same.named l.since);
        stands =
            subst (λ (u : Turn). Stands (done u.deed m).kind (done u.deed m).straps u.progress l.since (last_read v (decided (beside m xs) e) m)) (sym is)
            (subst (λ k. Stands k (done t.deed m).straps t.progress l.since (last_read v (decided (beside m xs) e) m)) (sym same.kind)
            (subst (λ k. Stands m.kind k t.progress l.since (last_read v (decided (beside m xs) e) m)) (sym same.straps)
            (subst (Stands m.kind m.straps t.progress l.since) (held_read v t.deed m ∙ ap (λ k. last_read v k m) (sym acts)) l.stands)));
        replies = ap (λ (u : Turn). u.reply) is ∙ l.replies ∙ sym (reply_is i);
      }
    where
      kept : (n : Machine) → n.straps ≡ m.straps → n.kind ≡ m.kind → n.named ≡ m.named → (ys : List Bus) → beside n ys ≡ having ys (beside m xs)
      kept n a k q ys = rw (a, k, q)

  pub event_takes : (p : Progress) → Stands m.kind m.straps p xs v → (e : Event) → Takes (with m p) xs v e
  unfolding next turn_of Stands hears decided reply_by does does_all last_read pins_to tick_to reset_as
  event_takes p x Start = at_bus p x a_start
  event_takes p x Stop = at_bus p x a_stop
  event_takes p x (Byte b) = at_bus p x a_byte
  event_takes p x (Take ack) = at_bus p x a_take
  event_takes p x (Pins levels) = record { since = xs; does_acts = refl; line = refl; stands = x; replies = refl }
  event_takes p x Tick = record { since = xs; does_acts = refl; line = refl; stands = x; replies = refl }
  event_takes p x (Reset straps levels short) = record { since = []; does_acts = refl; line = refl; stands = refl; replies = refl }
  event_takes p x Timeout = record { since = []; does_acts = refl; line = refl; stands = refl; replies = refl }

-- ---- beside a list

-- A controller beside what has happened to it: its machine has done the acts, and its command stands where the line has come to.
pub record Beside (s : Controller) (past : List Happening) : Type 0 where
  pub since : List Bus
  pub machine : s.machine ≡ machine_after past
  pub line : line_after silent past ≡ beside s.machine since
  pub stands : Stands s.machine.kind s.machine.straps s.progress since (read_by past)

-- What a happening adds to those before it.
module _ (past : List Happening) (h : Happening) (l : Line) (e : line_after silent past ≡ l) where
  now_acts : acts_of (line_after silent past) (h ∷ []) ≡ acts_at l h
  unfolding acts_of
  now_acts = append-nil _ ∙ ap (λ k. acts_at k h) e

  all_acts : acts_of silent (past ++ (h ∷ [])) ≡ acts_of silent past ++ acts_at l h
  all_acts = acts_append silent past (h ∷ []) ∙ ap (λ k. acts_of silent past ++ k) now_acts

  more_machine : machine_after (past ++ (h ∷ [])) ≡ does_all (acts_at l h) (machine_after past)
  unfolding machine_after
  more_machine = ap (λ k. does_all k fresh_machine) all_acts ∙ does_append (acts_of silent past) _ fresh_machine

  more_read : read_by (past ++ (h ∷ [])) ≡ last_read (read_by past) (acts_at l h) (machine_after past)
  unfolding read_by machine_after
  more_read = ap (λ k. last_read 0 k fresh_machine) all_acts ∙ reads_append 0 (acts_of silent past) _ fresh_machine

  more_line : line_after silent (past ++ (h ∷ [])) ≡ meets l h
  unfolding line_after
  more_line = line_append silent past (h ∷ []) ∙ ap (λ k. meets k h) e

-- ---- one event, and one name

module _ (s : Controller) (past : List Happening) (h : Beside s past) where
  module _ (e : Event) where
    pub takes_it : Takes s h.since (read_by past) e
    takes_it = event_takes s.machine h.since (read_by past) s.progress h.stands e

    pub next_machine : (next s e).machine ≡ machine_after (past ++ (event e ∷ []))
    unfolding acts_at
    next_machine =
        takes_it.does_acts ∙ ap (does_all (decided (beside s.machine h.since) e)) h.machine
        ∙ sym (more_machine past (event e) (beside s.machine h.since) h.line)

    pub next_beside : Beside (next s e) (past ++ (event e ∷ []))
    unfolding acts_at meets
    next_beside =
        record {
          since = takes_it.since;
          machine = next_machine;
          line = more_line past (event e) (beside s.machine h.since) h.line ∙ takes_it.line;
          stands =
              subst (Stands (next s e).machine.kind (next s e).machine.straps (next s e).progress takes_it.since)
              (ap (last_read (read_by past) (decided (beside s.machine h.since) e)) h.machine
              ∙ sym (more_read past (event e) (beside s.machine h.since) h.line))
              takes_it.stands;
        }

    pub next_reply : (turn_of s e).reply ≡ reply_to past e
    unfolding reply_to
    next_reply = takes_it.replies ∙ ap (λ l. reply_by l (read_by past) e) (sym h.line)

  pub named_beside : (k : Kind) → Beside (named_to k s) (past ++ (name k ∷ []))
  unfolding acts_at meets does name_to does_all last_read
  named_beside k =
      let l = beside s.machine h.since in
      record {
        since = h.since;
        machine = ap (name_to k) h.machine ∙ sym (more_machine past (name k) l h.line);
        line = more_line past (name k) l h.line;
        stands = subst (Stands s.machine.kind s.machine.straps s.progress h.since) (sym (more_read past (name k) l h.line)) h.stands;
      }

-- ---- one word

-- The answer to a word is the plain machine's, and a word that is refused leaves no trace.
pub word_answer : (s : Controller) (past : List Happening) → Beside s past → fits s.machine ≡ true → (w : ℕ) → (step_of s w).answer ≡ to_word past (unpacked w)
unfolding step_of
word_answer s past h f w = rw f (go (unpacked w))
  where
    by_test : (e : Event) (t : Bool) → takes s.machine.started e ≡ t → (step_fit s (Ok e)).answer ≡ to_word past (Ok e)
    by_test e true k = rw (k, ← h.machine, k, next_reply s past h e, next_machine s past h e)
    by_test e false k = rw (k, ← h.machine, k)

    go : (u : Result Event NoEvent) → (step_fit s u).answer ≡ to_word past u
    go (Err why) = rw h.machine
    go (Ok e) = by_test e (takes s.machine.started e) refl

-- ---- a list of calls

-- A controller after what happens to it.
abbrev pub happens_to : Controller → Happening → Controller
happens_to s (event e) = next s e
happens_to s (name k) = named_to k s

unfoldable pub run : Controller → List Happening → Controller
run s [] = s
run s (h ∷ hs) = run (happens_to s h) hs

happens_beside : (h : Happening) (s : Controller) (past : List Happening) → Beside s past → Beside (happens_to s h) (past ++ (h ∷ []))
happens_beside (event e) s past b = next_beside s past b e
happens_beside (name k) s past b = named_beside s past b k

pub run_beside : (hs : List Happening) (s : Controller) (past : List Happening) → Beside s past → Beside (run s hs) (past ++ hs)
unfolding run
run_beside [] s past b = rw append-nil b
run_beside (h ∷ hs) s past b = rw (← append_assoc past (h ∷ []) hs) (run_beside hs (happens_to s h) (past ++ (h ∷ [])) (happens_beside h s past b))

-- What is accepted of a list of calls is what happens to the controller.
Runs : List Call → Controller → Type 0
Runs cs s = after_calls s cs ≡ run s (accepted s.machine.started cs)

-- What a word that is refused, and one that is taken, leaves of a fit controller.
stray_stays : (w : ℕ) (s : Controller) → fits s.machine ≡ true → unpacked w ≡ Err no_event → (step_of s w).controller ≡ s
unfolding step_of
stray_stays w s f p = rw (f, p)

early_stays :
    (w : ℕ) (s : Controller) (e : Event) → fits s.machine ≡ true → unpacked w ≡ Ok e → takes s.machine.started e ≡ false → (step_of s w).controller ≡ s
unfolding step_of
early_stays w s e f p k = rw (f, p, k)

taken_goes :
    (w : ℕ) (s : Controller) (e : Event) → fits s.machine ≡ true → unpacked w ≡ Ok e → takes s.machine.started e ≡ true → (step_of s w).controller ≡ next s e
unfolding step_of
taken_goes w s e f p k = rw (f, p, k)

word_run :
    (w : ℕ) (cs : List Call) (s : Controller) → fits s.machine ≡ true → ((t : Controller) → fits t.machine ≡ true → Runs cs t)
    → (u : Result Event NoEvent) → unpacked w ≡ u → Runs (word w ∷ cs) s
unfolding Runs after_calls run accepted
word_run w cs s f further (Err no_event) p =
    ap (λ t. after_calls t cs) (stray_stays w s f p) ∙ further s f
    ∙ ap (λ u. run s (keep s.machine.started u (accepted true cs) (accepted s.machine.started cs))) (sym p)
word_run w cs s f further (Ok e) p = by_test (takes s.machine.started e) refl
  where
    now : Result Event NoEvent → Controller
    now u = run s (keep s.machine.started u (accepted true cs) (accepted s.machine.started cs))

    by_test : (t : Bool) → takes s.machine.started e ≡ t → after_calls (step_of s w).controller cs ≡ now (unpacked w)
    by_test true k =
        let goes = taken_goes w s e f p k in
        let fit : fits (next s e).machine ≡ true = sym (ap (λ (t : Controller). fits t.machine) goes) ∙ step_fit_lem s w f in
        ap (λ t. after_calls t cs) goes ∙ further (next s e) fit
        ∙ ap (λ b. run (next s e) (accepted b cs)) (taken_started s e f (accepted_straps w e p) k)
        ∙ sym (ap now p ∙ ap (λ t. run s (cond t (event e ∷ accepted true cs) (accepted s.machine.started cs))) k)
    by_test false k =
        ap (λ t. after_calls t cs) (early_stays w s e f p k) ∙ further s f
        ∙ sym (ap now p ∙ ap (λ t. run s (cond t (event e ∷ accepted true cs) (accepted s.machine.started cs))) k)

-- What a name leaves.
name_goes : (n : ℕ) (s : Controller) (u : Result Kind UnknownKind) → fits s.machine ≡ true → numbered n ≡ u → (name_of s n).controller ≡ (name_fit s u).controller
unfolding name_of
name_goes n s u f p = rw (f, p)

name_run :
    (n : ℕ) (cs : List Call) (s : Controller) → fits s.machine ≡ true → ((t : Controller) → fits t.machine ≡ true → Runs cs t)
    → (u : Result Kind UnknownKind) → numbered n ≡ u → Runs (naming n ∷ cs) s
unfolding Runs after_calls run accepted does name_to
name_run n cs s f further (Ok k) p =
    ap (λ t. after_calls t cs) (name_goes n s (Ok k) f p) ∙ further (named_to k s) (name_fits k s.machine f)
    ∙ ap (λ u. run s (keep_name u (accepted s.machine.started cs))) (sym p)
name_run n cs s f further (Err unknown_kind) p =
    ap (λ t. after_calls t cs) (name_goes n s (Err unknown_kind) f p) ∙ further s f ∙ ap (λ u. run s (keep_name u (accepted s.machine.started cs))) (sym p)

pub calls_run : (cs : List Call) (s : Controller) → fits s.machine ≡ true → after_calls s cs ≡ run s (accepted s.machine.started cs)
unfolding Runs after_calls run accepted
calls_run [] s f = refl
calls_run (word w ∷ cs) s f = word_run w cs s f (calls_run cs) (unpacked w) refl
calls_run (naming n ∷ cs) s f = name_run n cs s f (calls_run cs) (numbered n) refl

pub calls_beside :
    (cs : List Call) (s : Controller) (past : List Happening) → Beside s past → fits s.machine ≡ true
    → Beside (after_calls s cs) (past ++ accepted s.machine.started cs)
calls_beside cs s past h f = rw (calls_run cs s f) (run_beside (accepted s.machine.started cs) s past h)

-- From a fresh controller.
pub fresh_beside : Beside fresh_controller []
unfolding fresh_controller fresh_machine silent line_after acts_of machine_after does_all read_by last_read Stands
fresh_beside = record { since = []; machine = refl; line = refl; stands = refl }

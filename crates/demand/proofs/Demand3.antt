-- Demand 3. Take any list of event words from a fresh controller and drop the refused ones. Let a plain machine, which knows no
-- bytes, do each whole command at once at its deciding event, with pin samples, ticks and resets in their places. After every event
-- all 256 register readings and all nine outputs agree with it, and each byte the host reads is what that machine read at the
-- deciding event. A command broken off counts for nothing.
-- It holds for each kind of controller with its own deciding events, and for lists that change the kind on the way, by naming calls between the
-- words (document 02, request 2). The machine is that of crate machine; whole commands, the acts of a list and the answers are those of
-- specs/. A list's every beginning is a list, so what is said of its end is said after every event. Assumes nothing.
use Rattle.dock.specs.declared.Controller.{Controller}
use Rattle.dock.specs.declared.Renamed.{Renamed}
use Rattle.dock.specs.declared.Stepped.{Stepped}
use Prim.Native.Nat.{ℕ, ◌*◌, ◌<◌}
use mathlib.Core.Path.{◌≡◌, ap, sym, ◌∙◌, refl}
use Rattle.event.specs.declared.Event.TheVariants.{Take}
use Rattle.dock.specs.Step.{step_of, told_reading, told_outputs}
use Rattle.kind.specs.Kind.{numbered}
use Rattle.machine.specs.Record.{fresh_machine, fits}
use Rattle.machine.proofs.Fit.{fresh_fit, fits_kept}
use Rattle.dock.specs.Run.{Call, word, naming, after, answers_to, after_calls}
use Rattle.demand.specs.Acts.{Happening, event, silent, line_after, decided, PassedOver, Line}
use Rattle.calls.specs.Numbers.{outcome_count}
use Rattle.batch.proofs.Theorems.{Alone, alone_or_batched}
use Rattle.batch.specs.declared.Batched.{Batched}
use Rattle.demand.proofs.Follows.{Beside, calls_beside, fresh_beside, word_answer}
use mathlib.Core.Bool.{Bool, false, true}
use Rattle.bus.specs.declared.Reply.TheVariants.{Driven}
use Rattle.event.specs.declared.Event.{Event}
use mathlib.Core.List.{List, [], ◌++◌, ◌∷◌, map}
use denote.Ref.{Bor}
use denote.MutBor.{MutBor}
use Rattle.demand.specs.Words.{accepted}
use Rattle.demand.specs.Plain.{acts_after, machine_after, plain_answer, reply_to}
use Rattle.dock.proofs.Run.{calls_append, words_calls}
use Rattle.dock.proofs.Kept.{calls_keep}
use Rattle.demand.proofs.Broken.{calls_same, none_open}
use Rattle.machine.specs.Acts.{does_all}
use Rattle.demand.proofs.Driven.{driven}
use lib.ListN.{drop, get_or, length, take}
use Rattle.dock.specs.Record.{fresh_controller}
use Rattle.demand.proofs.Lists.{machine_append}
use Rattle.dock.specs.Name.{name_fit, name_of}
use Rattle.batch.specs.Batch.{outcome_of}
use Rattle.machine.specs.Outputs.{outputs}
use Rattle.machine.specs.InForce.{reading}
use Rattle.batch.specs.Record.{record_of}
use Rattle.demand.specs.Broken.{strike, BrokenOff}
use Rattle.machine.specs.declared.Act.TheVariants as act
use Rattle.dock.proofs.Controller.fresh.Reads as fresh_call
use Rattle.dock.proofs.Controller.step.Reads as step_call
use Rattle.dock.proofs.Controller.name.Reads as name_call
use Rattle.dock.proofs.Controller.reading.Reads as reading_call
use Rattle.dock.proofs.Controller.outputs.Reads as outputs_call
use Rattle.batch.proofs.batch.Reads as batch_call
use Rattle.dock.specs.declared.Refusal.{Refusal}
use Rattle.std.specs.Prelude.{Ok, Result, Err}
use Rattle.dock.specs.declared.NamingRefusal.TheVariants.{NoSuchKind}
use Rattle.dock.specs.declared.NamingRefusal.{NamingRefusal}
use Rattle.kind.specs.declared.Kind.{Kind}
use Rattle.kind.specs.declared.UnknownKind.{UnknownKind}

-- ---- the theorem

-- What a number answers as a name.
abbrev pub named_as : Result Kind UnknownKind → Result (Unit {0}) NamingRefusal
named_as (Ok k) = Ok tt
named_as (Err why) = Err NoSuchKind

-- The controller after calls on a fresh one, and the plain machine after the acts of what was accepted of them.
pub record Agrees (cs : List Call) : Type 0 where
  -- The machine inside is the plain machine ..
  pub machine : (after_calls fresh_controller cs).machine ≡ machine_after (accepted false cs)
  -- .. so that all 256 readings and the nine outputs agree ..
  pub readings : (a : ℕ) → told_reading (after_calls fresh_controller cs) a ≡ Ok (reading (machine_after (accepted false cs)) a)
  pub nine_outputs : told_outputs (after_calls fresh_controller cs) ≡ Ok (outputs (machine_after (accepted false cs)))
  -- .. and the answer to any next word, its refusal, reply, byte and outputs, is the plain machine's ..
  pub answers : (w : ℕ) → (step_of (after_calls fresh_controller cs) w).answer ≡ plain_answer cs w
  -- .. and a number is refused as a name exactly if it is of neither kind.
  pub names : (n : ℕ) → (name_of (after_calls fresh_controller cs) n).naming ≡ named_as (numbered n)

pub reached_fit : (cs : List Call) → fits (after_calls fresh_controller cs).machine ≡ true
unfolding fresh_controller
reached_fit cs = calls_keep (λ m. fits m ≡ true) fits_kept fresh_controller cs fresh_fit

pub reached_beside : (cs : List Call) → Beside (after_calls fresh_controller cs) (accepted false cs)
unfolding fresh_controller fresh_machine
reached_beside cs = calls_beside cs fresh_controller [] fresh_beside fresh_fit

pub after_every_event : (cs : List Call) → Agrees cs
unfolding told_reading told_outputs plain_answer name_of
after_every_event cs =
    let b = reached_beside cs in
    let f = reached_fit cs in
    record {
      machine = b.machine;
      readings = λ a. rw (f, b.machine);
      nine_outputs = rw (f, b.machine);
      answers = word_answer (after_calls fresh_controller cs) (accepted false cs) b f;
      names = λ n. rw f (by_number (numbered n));
    }
  where
    by_number : (u : Result Kind UnknownKind) → (name_fit (after_calls fresh_controller cs) u).naming ≡ named_as u
    by_number (Ok k) = refl
    by_number (Err why) = refl

-- ---- from any point on

-- Calls that come after others do to the machine that is there what their acts do: so what is promised of a machine over acts is promised of
-- the controller over calls.
pub from_there_on : (cs ds : List Call) → (after_calls fresh_controller (cs ++ ds)).machine ≡ does_all (acts_after cs ds) (after_calls fresh_controller cs).machine
unfolding acts_after
from_there_on cs ds =
    let b = reached_beside cs in
    ap (λ (s : Controller). s.machine) (calls_append fresh_controller cs ds)
    ∙ (calls_beside ds (after_calls fresh_controller cs) (accepted false cs) b (reached_fit cs)).machine
    ∙ machine_append (accepted false cs) (accepted (after_calls fresh_controller cs).machine.started ds) ∙ rw b.machine

-- ---- a byte driven is what the plain machine read at the deciding event

-- An event e decides a read of r, PINS, TICK and names are passed over, and the TAKE comes.
pub read_at_the_deciding_event :
    (xs ys : List Happening) (e : Event) (r : ℕ) (ack : Bool) → decided (line_after silent xs) e ≡ act.Read r ∷ [] → PassedOver ys
    → reply_to (xs ++ (event e ∷ ys)) (Take ack) ≡ Driven (reading (machine_after xs) r)
read_at_the_deciding_event = driven

-- ---- a command broken off counts for nothing

-- With no command open after the calls xs, the calls cs are a command broken off. Strike its bus events, and every later state and
-- answer is the same.
pub record CountsForNothing (xs cs : List Call) : Type 0 where
  pub states : (ys : List Call) → after_calls fresh_controller (xs ++ (cs ++ ys)) ≡ after_calls fresh_controller (xs ++ (strike cs ++ ys))
  pub answers : (ws : List ℕ) → answers_to (after_calls fresh_controller (xs ++ cs)) ws ≡ answers_to (after_calls fresh_controller (xs ++ strike cs)) ws

pub broken_off :
    (xs cs : List Call) → (line_after silent (accepted false xs)).since ≡ []
    → BrokenOff (line_after silent (accepted false xs)).kind (line_after silent (accepted false xs)).straps (accepted (machine_after (accepted false xs)).started cs)
    → CountsForNothing xs cs
broken_off xs cs o k =
    record {
      states = λ ys. parts cs ys ∙ ap (λ s. after_calls s ys) same ∙ sym (parts (strike cs) ys);
      answers = λ ws. ap (λ s. answers_to s ws) (calls_append fresh_controller xs cs ∙ same ∙ sym (calls_append fresh_controller xs (strike cs)));
    }
  where
    s : Controller
    s = after_calls fresh_controller xs

    b : Beside s (accepted false xs)
    b = reached_beside xs

    open_since : b.since ≡ []
    open_since = sym (ap (λ (l : Line). l.since) b.line) ∙ o

    same : after_calls s cs ≡ after_calls s (strike cs)
    same = calls_same s cs (reached_fit xs) (none_open _ _ _ _ (rw open_since at b.stands)) (rw (b.line, ← b.machine) at k)

    parts : (zs ys : List Call) → after_calls fresh_controller (xs ++ (zs ++ ys)) ≡ after_calls (after_calls s zs) ys
    parts zs ys = calls_append fresh_controller xs (zs ++ ys) ∙ calls_append s zs ys

-- ---- it reaches the code: the single calls

-- Single calls one after the other, each of which answered as its contract says.
pub data Called : List Call → Controller → Type 0 where
  fresh : (s : Controller) → fresh_call.Post tt tt s tt → Called [] s
  step :
      {cs : List Call} {s : Controller} (w : ℕ) (r : Stepped) → Called cs s → step_call.Post tt (s, (w, tt)) r (s, (w, tt))
      → Called (cs ++ (word w ∷ [])) r.controller
  name :
      {cs : List Call} {s : Controller} (n : ℕ) (r : Renamed) → Called cs s → name_call.Post tt (s, (n, tt)) r (s, (n, tt))
      → Called (cs ++ (naming n ∷ [])) r.controller

-- What the next single calls return, whatever a call returns that meets its contract.
pub record Single (cs : List Call) (s : Controller) : Type 0 where
  pub machine : s.machine ≡ machine_after (accepted false cs)
  pub answers : (w : ℕ) (r : Stepped) → step_call.Post tt (s, (w, tt)) r (s, (w, tt)) → r.answer ≡ plain_answer cs w
  pub names : (n : ℕ) (r : Renamed) → name_call.Post tt (s, (n, tt)) r (s, (n, tt)) → r.naming ≡ named_as (numbered n)
  pub readings : (a : ℕ) (r : Result ℕ Refusal) → reading_call.Post tt (s, (a, tt)) r (s, (a, tt)) → r ≡ Ok (reading (machine_after (accepted false cs)) a)
  pub nine_outputs : (r : Result ℕ Refusal) → outputs_call.Post tt (s, tt) r (s, tt) → r ≡ Ok (outputs (machine_after (accepted false cs)))

called_is : {cs : List Call} {s : Controller} → Called cs s → s ≡ after_calls fresh_controller cs
unfolding after_calls
called_is (fresh s p) = p
called_is (step {cs} {s} w r c p) =
    ap (λ (x : Stepped). x.controller) p ∙ ap (λ t. (step_of t w).controller) (called_is c) ∙ sym (calls_append fresh_controller cs (word w ∷ []))
called_is (name {cs} {s} n r c p) =
    ap (λ (x : Renamed). x.controller) p ∙ ap (λ t. (name_of t n).controller) (called_is c) ∙ sym (calls_append fresh_controller cs (naming n ∷ []))

pub compiled_calls : {cs : List Call} {s : Controller} → Called cs s → Single cs s
compiled_calls {cs} {s} c =
    let is = called_is c in
    let a = after_every_event cs in
    record {
      machine = rw is a.machine;
      answers = λ w r p. ap (λ (x : Stepped). x.answer) p ∙ rw is (a.answers w);
      names = λ n r p. ap (λ (x : Renamed). x.naming) p ∙ rw is (a.names n);
      readings = λ x r p. p ∙ rw is (a.readings x);
      nine_outputs = λ r p. p ∙ rw is a.nine_outputs;
    }

-- ---- and the batch

-- A batch that is accepted, of a controller after calls: the state, the count, every byte of every record, and the bytes past the last.
pub record Batch (cs : List Call) (ws buffer : List ℕ) (r : Batched) (left : List ℕ) : Type 0 where
  pub machine : r.controller.machine ≡ machine_after (accepted false (cs ++ map word ws))
  pub count : outcome_count r.outcome ≡ length ws
  pub records : (i : ℕ) → i < length ws → take 4 (drop (4 * i) left) ≡ record_of (plain_answer (cs ++ map word (take i ws)) (get_or ws i 0))
  pub past : drop (4 * length ws) left ≡ drop (4 * length ws) buffer

-- The state after words of a controller after calls.
words_after : {cs : List Call} {s : Controller} → Called cs s → (ws : List ℕ) → after s ws ≡ after_calls fresh_controller (cs ++ map word ws)
words_after {cs} {s} c ws = sym (words_calls s ws) ∙ ap (λ t. after_calls t (map word ws)) (called_is c) ∙ sym (calls_append fresh_controller cs (map word ws))

pub compiled_batch :
    {cs : List Call} {s : Controller} → Called cs s → (κs : _) (words : Bor (List ℕ)) (records left : MutBor (List ℕ)) (r : Batched) (n : ℕ)
    → outcome_of s (length words.now) (length records.now) ≡ Ok n
    → batch_call.Post κs (s, (words, (records, tt))) r (s, (words, (left, tt))) → Batch cs words.now records.now r left.now
compiled_batch {cs} {s} c κs words records left r n e p =
    let b : Alone s words.now records.now r left.now = rw (p.0, p.1) (alone_or_batched s words.now records.now n e) in
    record {
      machine = ap (λ (x : Controller). x.machine) (b.state ∙ words_after c words.now) ∙ (after_every_event (cs ++ map word words.now)).machine;
      count = b.count;
      records = λ i l.
          b.records i l
          ∙ ap record_of (ap (λ t. (step_of t (get_or words.now i 0)).answer) (words_after c (take i words.now)) ∙ (after_every_event (cs ++ map word (take i words.now))).answers (get_or words.now i 0));
      past = b.past;
    }

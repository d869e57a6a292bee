-- Demand 3 for each controller of a chassis, over the events that reach it (document 02, request 9). From any number of fresh controllers on one bus,
-- and after any calls, each record is the controller after its own calls alone, of which demand 3 holds; so every answer of the chassis is made of the
-- plain machines' own, and a byte that the host reads is what one of them read at its deciding event. Assumes nothing.
use Prim.Native.Nat.{ℕ, zero, suc, ◌+◌, ◌<◌}
use native.Mathlib.Omega.{arith}
use native.Mathlib.Nat.{add-zero, add-suc, suc-add, zero-add}
use mathlib.Core.Path.{◌≡◌, refl, sym, ap, ◌∙◌}
use mathlib.Core.Logic.{◌≢◌}
use mathlib.Core.Bool.{Bool, true, false, cond}
use mathlib.Core.List.{List, [], ◌∷◌, ◌++◌, map}
use lib.ListN.{length, get_or, length-map, length-replicate, get_or-replicate}
use lib.Seq.{ext_get_or}
use Rattle.event.specs.Words.{unpacked}
use Rattle.event.specs.declared.Event.{Event}
use Rattle.event.specs.declared.Event.TheVariants.{Take}
use Rattle.bus.specs.declared.Reply.{Reply}
use Rattle.bus.specs.declared.Reply.TheVariants.{Nothing, Driven}
use Rattle.bay.proofs.Taut.{pick}
use Rattle.machine.specs.InForce.{reading}
use Rattle.machine.specs.Outputs.{outputs}
use Rattle.machine.specs.declared.Act.TheVariants as act
use Rattle.dock.specs.Answers.{reply_in, told_value}
use Rattle.dock.specs.Record.{fresh_controller}
use Rattle.dock.specs.Run as alone
use Rattle.dock.specs.Step.{step_of, takes, told_reading, told_outputs}
use Rattle.dock.specs.declared.Controller.{Controller}
use Rattle.chassis.specs.Chassis.{goes_to, reply_at, replies_from, records_from, shown, records_by, told_by, told_of}
use Rattle.chassis.specs.Numbers.{answer_refusal}
use Rattle.chassis.specs.Run.{ChassisCall, word, after_call}
use Rattle.chassis.proofs.Accepting.{sent}
use Rattle.chassis.proofs.AtPlace.{replies_length, reply_at_lem, shown_at}
use Rattle.chassis.proofs.Hears.{OneDrives, one_drives}
use Rattle.chassis.proofs.Run.{calls_length, after_next, each_alone, run_never_1}
use Rattle.chassis.proofs.Usable.{fresh_usable}
use Rattle.demand.specs.Acts.{Happening, event, silent, line_after, with_event, decided, PassedOver}
use Rattle.demand.specs.Bus.{TAKE}
use Rattle.demand.specs.Described.{is_going_on}
use Rattle.demand.specs.Words.{accepted}
use Rattle.demand.specs.Plain.{machine_after, read_by, plain_answer, to_event, reply_to, reply_by}
use Rattle.demand.specs.Chassis.{begun, reached, own, heard_at, plain_at, reply_of_plain, plain_reply, each, plain_told}
use Rattle.demand.proofs.Demand3.{after_every_event, read_at_the_deciding_event}
use Rattle.std.specs.Prelude.{Ok, Err}
use Rattle.dock.specs.declared.Refusal.TheVariants.{NotStarted}

-- ---- the theorem

-- A byte v that the host reads at a word w after calls: one plain machine drives it and no other does, and it is what that machine read last, ..
pub record ReadByOne (k : ℕ) (calls : List ChassisCall) (w v : ℕ) : Type 0 where
  pub place : ℕ
  pub there : place < k
  pub drives : reply_of_plain k calls w place ≡ Driven v
  pub no_other : (j u : ℕ) → j < k → reply_of_plain k calls w j ≡ Driven u → j ≡ place
  pub read_last : v ≡ read_by (heard_at k calls place)
  -- .. at its deciding event: that event decided a read of r, and since then PINS, TICK and names were passed over.
  pub read_then :
      (xs ys : List Happening) (e : Event) (r : ℕ) → heard_at k calls place ≡ xs ++ (event e ∷ ys) → decided (line_after silent xs) e ≡ act.Read r ∷ []
      → PassedOver ys → v ≡ reading (machine_after xs) r

-- So many fresh controllers after calls on their chassis.
pub record EachAgrees (k : ℕ) (calls : List ChassisCall) : Type 0 where
  -- Each is the controller after its own calls alone, and the machine inside is its plain machine ..
  pub alone_is : (i : ℕ) → i < k → get_or (reached k calls) i fresh_controller ≡ alone.after_calls fresh_controller (own k calls i)
  pub machine : (i : ℕ) → i < k → (get_or (reached k calls) i fresh_controller).machine ≡ plain_at k calls i
  -- .. so that all 256 readings and the nine outputs agree ..
  pub readings : (i : ℕ) → i < k → (a : ℕ) → told_reading (get_or (reached k calls) i fresh_controller) a ≡ Ok (reading (plain_at k calls i) a)
  pub nine_outputs : (i : ℕ) → i < k → told_outputs (get_or (reached k calls) i fresh_controller) ≡ Ok (outputs (plain_at k calls i))
  -- .. and the whole answer of the chassis to a next word that isn't refused is made of the plain machines' answers ..
  pub answers :
      (n w : ℕ) (e : Event) → unpacked w ≡ Ok e → answer_refusal (told_of (reached k calls) n w).answer ≡ 0
      → told_of (reached k calls) n w ≡ plain_told k calls e n w
  -- .. and each byte that the host reads is what one of them read at its deciding event.
  pub bytes : (n w v : ℕ) → (told_of (reached k calls) n w).answer ≡ Ok (Driven v) → ReadByOne k calls w v
  -- No word is refused with 1.
  pub usable : (n w : ℕ) → answer_refusal (told_of (reached k calls) n w).answer ≢ 1

-- ---- one for each place

each_length : {A : Type 0} (k p : ℕ) (f : ℕ → A) → length (each k p f) ≡ k
unfolding each
each_length zero p f = refl
each_length (suc k) p f = ap suc (each_length k (suc p) f)

each_from : {A : Type 0} (k p : ℕ) (f : ℕ → A) (i : ℕ) (d : A) → i < k → get_or (each k p f) i d ≡ f (p + i)
unfolding each
each_from zero p f i d l = absurd (omega arith)
each_from (suc k) p f zero d l = ap f (sym (add-zero p))
each_from (suc k) p f (suc i) d l = each_from k (suc p) f i d (omega arith) ∙ ap f (suc-add p i ∙ sym (add-suc p i))

-- A list that has at each place what a function gives.
is_each : {A : Type 0} (l : List A) (k : ℕ) (f : ℕ → A) (d : A) → length l ≡ k → ((i : ℕ) → i < k → get_or l i d ≡ f i) → l ≡ each k 0 f
is_each l k f d n at =
    ext_get_or d l (each k 0 f) (n ∙ sym (each_length k 0 f)) (λ i m. at i (rw n at m) ∙ sym (each_from k 0 f i d (rw n at m) ∙ ap f (zero-add i)))

-- ---- each record

module _ (k : ℕ) (calls : List ChassisCall) where
  count : length (reached k calls) ≡ k
  count = calls_length (begun k) calls ∙ length-replicate k fresh_controller

  is_alone : (i : ℕ) → i < k → get_or (reached k calls) i fresh_controller ≡ alone.after_calls fresh_controller (own k calls i)
  is_alone i l =
      each_alone (begun k) calls i (rw (length-replicate k fresh_controller) l)
      ∙ ap (λ (s : Controller). alone.after_calls s (own k calls i)) (get_or-replicate k i fresh_controller fresh_controller l)

  -- What its single call replies, and what it shows.
  replies_so : (w i : ℕ) → i < k → reply_in (step_of (get_or (reached k calls) i fresh_controller) w).answer ≡ reply_of_plain k calls w i
  replies_so w i l = rw (is_alone i l) (ap reply_in ((after_every_event (own k calls i)).answers w))

  shows_so : (i : ℕ) → i < k → shown (get_or (reached k calls) i fresh_controller) ≡ outputs (plain_at k calls i)
  shows_so i l = rw (is_alone i l) (ap told_value (after_every_event (own k calls i)).nine_outputs)

  all_shown : map shown (reached k calls) ≡ each k 0 (λ i. outputs (plain_at k calls i))
  all_shown =
      is_each (map shown (reached k calls)) k (λ i. outputs (plain_at k calls i)) 0 (length-map (reached k calls) shown ∙ count)
      (λ i l. shown_at (reached k calls) i fresh_controller (rw count l) ∙ shows_so i l)

  all_reply : (e : Event) (n w : ℕ) → replies_from e n w 0 (reached k calls) ≡ each k 0 (plain_reply k calls e n w)
  unfolding reply_at
  all_reply e n w =
      is_each (replies_from e n w 0 (reached k calls)) k (plain_reply k calls e n w) Nothing (replies_length e n w 0 (reached k calls) ∙ count)
      (λ i l. reply_at_lem e n w (reached k calls) i fresh_controller (rw count l) ∙ ap (λ (r : Reply). cond (goes_to e n i) r Nothing) (replies_so w i l))

-- ---- the answer to a word that isn't refused

told_so :
    (k : ℕ) (calls : List ChassisCall) (n w : ℕ) (e : Event) → unpacked w ≡ Ok e → answer_refusal (told_of (reached k calls) n w).answer ≡ 0
    → told_of (reached k calls) n w ≡ plain_told k calls e n w
unfolding plain_told told_by records_by after_call
told_so k calls n w e u r =
    let v = sent (reached k calls) n w e u r in
    let after : reached k (calls ++ (word n w ∷ [])) ≡ records_from e n w 0 (reached k calls) = after_next (begun k) calls (word n w) ∙ rw v in
    rw (v, all_reply k calls e n w, ← after, all_shown k (calls ++ (word n w ∷ [])))

-- ---- a byte that the host reads

plain_take :
    (cs : List alone.Call) (w v : ℕ) (ack : Bool) → unpacked w ≡ Ok (Take ack) → reply_in (plain_answer cs w) ≡ Driven v
    → reply_to (accepted false cs) (Take ack) ≡ Driven v
unfolding plain_answer
plain_take cs w v ack u d = go (takes (machine_after (accepted false cs)).started (Take ack)) (rw u at d)
  where
    go :
        (t : Bool) → reply_in (cond t (to_event (accepted false cs) (Take ack)) (Err NotStarted)) ≡ Driven v
        → reply_to (accepted false cs) (Take ack) ≡ Driven v
    go true d = d
    go false d = let z : ◌≡◌ {A = ℕ} 0 1 = cc in absurd (omega arith)

take_reads : (past : List Happening) (ack : Bool) (v : ℕ) → reply_to past (Take ack) ≡ Driven v → v ≡ read_by past
unfolding reply_to reply_by
take_reads past ack v =
    let l = line_after silent past in
    pick (λ (r : Reply). r ≡ Driven v → v ≡ read_by past) (is_going_on l.kind l.straps (with_event l (TAKE ack))) (λ t d. cc)
    (λ t d. let z : ◌≡◌ {A = ℕ} 0 1 = cc in absurd (omega arith))

read_by_one : (k : ℕ) (calls : List ChassisCall) (n w v : ℕ) → (told_of (reached k calls) n w).answer ≡ Ok (Driven v) → ReadByOne k calls w v
read_by_one k calls n w v told =
    record {
      place = o.place;
      there = there;
      drives = drives;
      no_other = λ j u l p. o.alone j u (rw (count k calls) l) (replies_so k calls w j l ∙ p);
      read_last = take_reads (heard_at k calls o.place) o.ack v reply;
      read_then = λ xs ys e r q x p.
          same (ap (λ (hs : List Happening). reply_to hs (Take o.ack)) (sym q) ∙ reply) (read_at_the_deciding_event xs ys e r o.ack x p);
    }
  where
    o : OneDrives (reached k calls) fresh_controller w v
    o = one_drives (reached k calls) fresh_controller n w v told

    there : o.place < k
    there = rw (count k calls) at o.there

    drives : reply_of_plain k calls w o.place ≡ Driven v
    drives = sym (replies_so k calls w o.place there) ∙ o.drives

    reply : reply_to (heard_at k calls o.place) (Take o.ack) ≡ Driven v
    reply = plain_take (own k calls o.place) w v o.ack o.at_a_take drives

    same : {r : Reply} {u : ℕ} → r ≡ Driven v → r ≡ Driven u → v ≡ u
    same p q = cc

-- ---- so it holds, whatever the calls

pub each_agrees : (k : ℕ) (calls : List ChassisCall) → EachAgrees k calls
each_agrees k calls =
    record {
      alone_is = is_alone k calls;
      machine = λ i l. rw (is_alone k calls i l) (after_every_event (own k calls i)).machine;
      readings = λ i l a. rw (is_alone k calls i l) ((after_every_event (own k calls i)).readings a);
      nine_outputs = λ i l. rw (is_alone k calls i l) (after_every_event (own k calls i)).nine_outputs;
      answers = told_so k calls;
      bytes = read_by_one k calls;
      usable = λ n w. run_never_1 (begun k) calls n w (fresh_usable k);
    }

-- Demand 3, of the calls on a state that a program holds. From a begun state, any calls one after the other: the bytes are the image of
-- the controller that took them, and every answer, reading, output and held byte is the plain machine's. Assumes nothing.
use Prim.Native.Nat.{ℕ, ◌*◌, ◌<◌, ◌≤◌}
use mathlib.Core.Path.{◌≡◌, refl, ap, sym, ◌∙◌}
use mathlib.Core.Bool.{Bool, true, false, cond}
use mathlib.Core.List.{List, [], ◌∷◌, ◌++◌, map}
use lib.Dec.{ltb}
use lib.ListN.{length, get_or, take, drop}
use denote.Ref.{Bor}
use denote.MutBor.{MutBor}
use borrow.Author.Tests.{eq-eqb, le-ltb}
use Rattle.kind.specs.Kind.{numbered}
use Rattle.machine.specs.Record.{fits}
use Rattle.machine.specs.Outputs.{outputs}
use Rattle.machine.specs.InForce.{reading}
use Rattle.dock.specs.Record.{fresh_controller}
use Rattle.dock.specs.Step.{step_of}
use Rattle.dock.specs.Run.{after, Call, word, naming, after_calls}
use Rattle.dock.specs.declared.Controller.{Controller}
use Rattle.dock.proofs.Run.{calls_append, words_calls}
use Rattle.dock.proofs.OpenRead.{driven_by, as_a_take}
use Rattle.batch.specs.Batch.{outcome_of, state_by, buffer_after}
use Rattle.batch.specs.Decode.{number_of}
use Rattle.batch.specs.Record.{record_of}
use Rattle.batch.proofs.Theorems.{alone_or_batched}
use Rattle.image.specs.Layout.{BYTES}
use Rattle.image.specs.Save.{saved}
use Rattle.image.specs.Shape.{Shaped}
use Rattle.image.proofs.Shape.{fresh_shaped, calls_shaped}
use Rattle.link.specs.Answer.{both, batched_as, named_as, told_as, held_as}
use Rattle.link.specs.Held.{begun_in, answer_in, outcome_in, records_in, naming_in, reading_in, outputs_in, held_in}
use Rattle.link.proofs.Saved.{held_answer, held_step, held_outcome, held_batch, held_records, held_naming, held_name, held_reading, held_outputs, held_byte}
use Rattle.link.proofs.held.dock_begin.Reads as begin_call
use Rattle.link.proofs.held.dock_step.Reads as step_call
use Rattle.link.proofs.held.dock_batch.Reads as batch_call
use Rattle.link.proofs.held.dock_name_kind.Reads as name_call
use Rattle.link.proofs.held.dock_reading.Reads as reading_call
use Rattle.link.proofs.held.dock_outputs.Reads as outputs_call
use Rattle.link.proofs.held.dock_held_byte.Reads as held_byte_call
use Rattle.demand.specs.Words.{accepted}
use Rattle.demand.specs.Plain.{machine_after, plain_answer}
use Rattle.demand.specs.Held.{taken}
use Rattle.demand.proofs.Demand3.{after_every_event, reached_fit, named_as as answer_to}
use Rattle.calls.specs.declared.Refusal.TheVariants.{TooFewPlaces, TooMany}
use Rattle.std.specs.Prelude.{Err, Ok}

-- Calls one after the other, each of which answered and left its bytes as its contract says: the words and names that they took, and the
-- bytes. A question leaves the bytes, so it needs no place here.
pub data Held : List Call → List ℕ → Type 0 where
  begin : (κs : _) (state left : MutBor (List ℕ)) (r : ℕ) → length state.now ≡ BYTES → begin_call.Post κs (state, tt) r (left, tt) → Held [] left.now
  step :
      {cs : List Call} (κs : _) (state left : MutBor (List ℕ)) (w r : ℕ) → Held cs state.now → step_call.Post κs (state, (w, tt)) r (left, (w, tt))
      → Held (cs ++ (word w ∷ [])) left.now
  batch :
      {cs : List Call} (κs : _) (state : MutBor (List ℕ)) (words : Bor (List ℕ)) (records left written : MutBor (List ℕ)) (r : ℕ) → Held cs state.now
      → batch_call.Post κs (state, (words, (records, tt))) r (left, (words, (written, tt)))
      → Held (cs ++ map word (taken words.now (length records.now))) left.now
  name :
      {cs : List Call} (κs : _) (state left : MutBor (List ℕ)) (n r : ℕ) → Held cs state.now → name_call.Post κs (state, (n, tt)) r (left, (n, tt))
      → Held (cs ++ (naming n ∷ [])) left.now

-- The bytes are the image of the controller after the calls.
taken_state :
    (s : Controller) (ws : List ℕ) (room : ℕ) → fits s.machine ≡ true → state_by (outcome_of s (length ws) room) s ws ≡ after s (taken ws room)
unfolding outcome_of taken after
taken_state s ws room f = rw f (go (ltb 16384 (length ws)) (ltb room (4 * length ws)))
  where
    go :
        (m b : Bool)
        → state_by (cond m (Err TooMany) (cond b (Err TooFewPlaces) (Ok (length ws)))) s ws ≡ after s (cond m [] (cond b [] ws))
    go true b = refl
    go false true = refl
    go false false = refl

-- The controller after the calls, and after words more.
abbrev reached : List Call → Controller
reached cs = after_calls fresh_controller cs

reached_shaped : (cs : List Call) → Shaped (reached cs).machine
reached_shaped cs = calls_shaped fresh_controller cs fresh_shaped

words_more : (cs : List Call) (ws : List ℕ) → after (reached cs) ws ≡ reached (cs ++ map word ws)
words_more cs ws = sym (words_calls (reached cs) ws) ∙ sym (calls_append fresh_controller cs (map word ws))

held_image : {cs : List Call} {bytes : List ℕ} → Held cs bytes → bytes ≡ saved (reached cs)
unfolding begun_in after_calls
held_image (begin κs state left r l p) = p.1 ∙ rw (eq-eqb _ BYTES l) refl
held_image (step {cs} κs state left w r h p) =
    p.1 ∙ rw (held_image h) (held_step (reached cs) (reached_shaped cs) w) ∙ ap saved (sym (calls_append fresh_controller cs (word w ∷ [])))
held_image (batch {cs} κs state words records left written r h p) =
    p.1.0 ∙ rw (held_image h) (held_batch (reached cs) (reached_shaped cs) words.now (length records.now))
    ∙ ap saved (taken_state (reached cs) words.now (length records.now) (reached_fit cs) ∙ words_more cs (taken words.now (length records.now)))
held_image (name {cs} κs state left n r h p) =
    p.1 ∙ rw (held_image h) (held_name (reached cs) (reached_shaped cs) n) ∙ ap saved (sym (calls_append fresh_controller cs (naming n ∷ [])))

-- ---- the theorem

-- A batch that is accepted: its count, each record at its own place, and the bytes past the last.
pub record Records (cs : List Call) (words buffer written : List ℕ) (r : ℕ) : Type 0 where
  pub count : r ≡ both 0 (length words)
  pub records : (i : ℕ) → i < length words → take 4 (drop (4 * i) written) ≡ record_of (plain_answer (cs ++ map word (take i words)) (get_or words i 0))
  pub past : drop (4 * length words) written ≡ drop (4 * length words) buffer

-- The next calls on the bytes, whatever a call answers that meets its contract.
pub record Agrees (cs : List Call) (bytes : List ℕ) : Type 0 where
  pub image : bytes ≡ saved (reached cs)
  pub answers :
      (κs : _) (state left : MutBor (List ℕ)) (w r : ℕ) → state.now ≡ bytes → step_call.Post κs (state, (w, tt)) r (left, (w, tt))
      → r ≡ number_of (record_of (plain_answer cs w))
  pub batches :
      (κs : _) (state : MutBor (List ℕ)) (words : Bor (List ℕ)) (records left written : MutBor (List ℕ)) (r : ℕ) → state.now ≡ bytes → length words.now ≤ 16384
      → 4 * length words.now ≤ length records.now
      → batch_call.Post κs (state, (words, (records, tt))) r (left, (words, (written, tt)))
      → Records cs words.now records.now written.now r
  pub names :
      (κs : _) (state left : MutBor (List ℕ)) (n r : ℕ) → state.now ≡ bytes → name_call.Post κs (state, (n, tt)) r (left, (n, tt))
      → r ≡ named_as (answer_to (numbered n))
  pub readings :
      (κs : _) (state : Bor (List ℕ)) (a r : ℕ) → state.now ≡ bytes → reading_call.Post κs (state, (a, tt)) r (state, (a, tt))
      → r ≡ both 0 (reading (machine_after (accepted false cs)) a)
  pub nine_outputs :
      (κs : _) (state : Bor (List ℕ)) (r : ℕ) → state.now ≡ bytes → outputs_call.Post κs (state, tt) r (state, tt)
      → r ≡ both 0 (outputs (machine_after (accepted false cs)))
  -- The byte that an open read holds is the one that the plain machine drives at a TAKE, ACKed or not; none where it drives none.
  pub held_bytes :
      (κs : _) (state : Bor (List ℕ)) (r : ℕ) → state.now ≡ bytes → held_byte_call.Post κs (state, tt) r (state, tt)
      → (r ≡ held_as (driven_by (plain_answer cs 0x6000))) × (r ≡ held_as (driven_by (plain_answer cs 0x6001)))

module _ (cs : List Call) where
  has_room : (words : List ℕ) (room : ℕ) → length words ≤ 16384 → 4 * length words ≤ room → outcome_of (reached cs) (length words) room ≡ Ok (length words)
  unfolding outcome_of
  has_room words room m b = rw (reached_fit cs, le-ltb 16384 (length words) m, le-ltb room (4 * length words) b) refl

  batch_agrees :
      (words buffer written : List ℕ) (r : ℕ) → length words ≤ 16384 → 4 * length words ≤ length buffer
      → r ≡ batched_as (outcome_of (reached cs) (length words) (length buffer)) → written ≡ buffer_after (reached cs) words buffer
      → Records cs words buffer written r
  batch_agrees words buffer written r m b e w =
      let o = has_room words (length buffer) m b in
      let a = alone_or_batched (reached cs) words buffer (length words) o in
      record {
        count = e ∙ ap batched_as o;
        records =
            λ i l.
            rw w (a.records i l)
            ∙ ap (λ t. record_of (step_of t (get_or words i 0)).answer) (words_more cs (take i words))
            ∙ ap record_of ((after_every_event (cs ++ map word (take i words))).answers (get_or words i 0));
        past = rw w a.past;
      }

pub held_calls : {cs : List Call} {bytes : List ℕ} → Held cs bytes → Agrees cs bytes
held_calls {cs} {bytes} c =
    let i = held_image c in
    let t = reached_shaped cs in
    let e = after_every_event cs in
    record {
      image = i;
      answers =
          λ κs state left w r n p.
          p.0 ∙ ap (λ x. number_of (record_of x)) (ap (λ b. answer_in b w) (n ∙ i) ∙ held_answer (reached cs) t w ∙ e.answers w);
      batches =
          λ κs state words records left written r n m b p.
          batch_agrees cs words.now records.now written.now r m b
          (p.0 ∙ ap batched_as (ap (λ x. outcome_in x (length words.now) (length records.now)) (n ∙ i) ∙ held_outcome (reached cs) t _ _))
          (p.1.1 ∙ ap (λ x. records_in x words.now records.now) (n ∙ i) ∙ held_records (reached cs) t _ _);
      names =
          λ κs state left k r n p. p.0 ∙ ap named_as (ap (λ b. naming_in b k) (n ∙ i) ∙ held_naming (reached cs) t k ∙ e.names k);
      readings = λ κs state a r n p. p ∙ ap told_as (ap (λ b. reading_in b a) (n ∙ i) ∙ held_reading (reached cs) t a ∙ e.readings a);
      nine_outputs = λ κs state r n p. p ∙ ap told_as (ap outputs_in (n ∙ i) ∙ held_outputs (reached cs) t ∙ e.nine_outputs);
      held_bytes =
          λ κs state r n p.
          let told = p ∙ ap held_as (ap held_in (n ∙ i) ∙ held_byte (reached cs) t) in (
            told ∙ ap held_as ((as_a_take (reached cs)).nacked ∙ ap driven_by (e.answers 0x6000)),
            told ∙ ap held_as ((as_a_take (reached cs)).acked ∙ ap driven_by (e.answers 0x6001)),
          );
    }

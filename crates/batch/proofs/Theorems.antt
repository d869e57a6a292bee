-- The theorems on batches (document 01, "Replies and refusal numbers"; demand 2, "alone or batched"). They are about the definitions
-- of specs/, which the contract of `batch` gives as the whole answer and the whole buffer. Assumes nothing.
use Prim.Native.Nat.{ℕ, suc, ◌*◌, ◌<◌}
use native.Mathlib.Omega.{arith}
use mathlib.Core.Path.{◌≡◌, refl, ap, sym, ◌∙◌}
use mathlib.Core.Bool.{Bool, true, false, cond}
use mathlib.Core.List.{List, [], ◌∷◌, ◌++◌, append_assoc}
use lib.ListN.{length, get_or, take, drop, take-append-drop}
use lib.Seq.{take_at, drop_at, drop-cons, length-take-le}
use denote.Ref.{Bor}
use denote.MutBor.{MutBor}
use Rattle.machine.specs.Record.{fits}
use Rattle.dock.specs.Step.{step_of}
use Rattle.dock.specs.Run.{after, answers_to}
use Rattle.dock.specs.Answers.{byte_of, outputs_of, Answer, done_with}
use Rattle.dock.specs.Held.{held_value, held_fit}
use Rattle.dock.specs.declared.Controller.{Controller}
use Rattle.bus.specs.declared.Reply.TheVariants.{Driven}
use Rattle.dock.proofs.Widths.{byte_wide, outputs_wide}
use Rattle.dock.proofs.Run.{after_append, answers_append, answers_length}
use Rattle.batch.specs.Record.{record_number, record_of, records_of}
use Rattle.batch.specs.Batch.{outcome_of, state_by, batch_of, buffer_after}
use Rattle.calls.specs.Numbers.{outcome_count}
use Rattle.batch.specs.Decode.{number_of, answer_in, decode}
use Rattle.batch.specs.declared.Batched.{Batched}
use Rattle.batch.proofs.Records.{record_length, records_length, records_append}
use Rattle.batch.proofs.Accepted.{has_room}
use Rattle.batch.proofs.Decode.{decoded}
use Rattle.batch.proofs.batch.Reads as batch_reads
use Rattle.batch.proofs.record.Reads as record_reads
use Rattle.batch.proofs.answer_in.Reads as answer_reads
use Rattle.std.specs.Prelude.{Ok, Err}
use Rattle.calls.specs.declared.Refusal.TheVariants.{Unfit}

-- The i-th answer of a list of words is the single call's, in the state that the words before it leave.
answers_split :
    (s : Controller) (ws : List ℕ) (i : ℕ) → i < length ws
    → answers_to s ws
    ≡ answers_to s (take i ws) ++ ((step_of (after s (take i ws)) (get_or ws i 0)).answer ∷ answers_to (step_of (after s (take i ws)) (get_or ws i 0)).controller (drop (suc i) ws))
unfolding answers_to
answers_split s ws i l =
    ap (answers_to s) (sym (take-append-drop i ws)) ∙ answers_append s (take i ws) (drop i ws) ∙ ap (λ r. answers_to s (take i ws) ++ answers_to (after s (take i ws)) r) (drop-cons ws i 0 l)

-- ---- alone or batched

pub record Alone (s : Controller) (ws buffer : List ℕ) (r : Batched) (written : List ℕ) : Type 0 where
  -- The state is the one that the words leave, one single call after the other.
  pub state : r.controller ≡ after s ws
  -- The count is the number of records written.
  pub count : outcome_count r.outcome ≡ length ws
  -- The record at each word's own place is that of the answer to this word alone, in the state that the words before it leave.
  pub records : (i : ℕ) → i < length ws → take 4 (drop (4 * i) written) ≡ record_of (step_of (after s (take i ws)) (get_or ws i 0)).answer
  -- Bytes past the last record are unchanged.
  pub past : drop (4 * length ws) written ≡ drop (4 * length ws) buffer

pub alone_or_batched :
    (s : Controller) (ws buffer : List ℕ) (n : ℕ) → outcome_of s (length ws) (length buffer) ≡ Ok n
    → Alone s ws buffer (batch_of s ws (length buffer)) (buffer_after s ws buffer)
unfolding batch_of buffer_after records_of
alone_or_batched s ws buffer n e =
    rw e
    (record {
      state = refl;
      count = (has_room s (length ws) (length buffer) n e).2;
      records = at_place;
      past = drop_at (records_of (answers_to s ws)) (drop (4 * length ws) buffer) (4 * length ws) all_length;
    })
  where
    all_length : length (records_of (answers_to s ws)) ≡ 4 * length ws
    all_length = records_length (answers_to s ws) ∙ ap (λ k. 4 * k) (answers_length s ws)

    at_place :
        (i : ℕ) → i < length ws
        → take 4 (drop (4 * i) (records_of (answers_to s ws) ++ drop (4 * length ws) buffer)) ≡ record_of (step_of (after s (take i ws)) (get_or ws i 0)).answer
    at_place i l =
        rw (answers_split s ws i l, records_append, append_assoc, append_assoc)
        (ap (take 4) (drop_at (records_of (answers_to s (take i ws))) _ (4 * i) before) ∙ take_at (record_of (step_of (after s (take i ws)) (get_or ws i 0)).answer) _ 4 (record_length _))
      where
        before : length (records_of (answers_to s (take i ws))) ≡ 4 * i
        before = records_length (answers_to s (take i ws)) ∙ omega (arith, answers_length s (take i ws), length-take-le i ws (omega arith))

-- A batch of one word leaves the state that the single call leaves, of an unfit state too.
pub one_word : (s : Controller) (w : ℕ) → (batch_of s (w ∷ []) 4).controller ≡ (step_of s w).controller
unfolding batch_of outcome_of after step_of
one_word s w = go (fits s.machine) refl
  where
    go : (f : Bool) → fits s.machine ≡ f → state_by (cond f (Ok 1) (Err Unfit)) s (w ∷ []) ≡ (step_of s w).controller
    go true e = refl
    go false e = rw e

-- ---- a list cut anywhere into batches

pub record Cut (s : Controller) (xs ys : List ℕ) : Type 0 where
  pub same_state : after (after s xs) ys ≡ after s (xs ++ ys)
  pub same_records : records_of (answers_to s xs) ++ records_of (answers_to (after s xs) ys) ≡ records_of (answers_to s (xs ++ ys))

pub cut_anywhere : (s : Controller) (xs ys : List ℕ) → Cut s xs ys
cut_anywhere s xs ys =
    record {
      same_state = sym (after_append s xs ys);
      same_records = sym (ap records_of (answers_append s xs ys) ∙ records_append (answers_to s xs) (answers_to (after s xs) ys));
    }

-- ---- a record decodes to the answer it was made of

pub record_decodes : (a : Answer) → byte_of a < 256 → outputs_of a < 512 → decode (record_of a) ≡ a
record_decodes = decoded

-- So the record of each answer of the single call tells it, in a state whose held byte is one.
pub call_decodes : (s : Controller) (w : ℕ) → held_value (held_fit s) < 512 → answer_in (number_of (record_of (step_of s w).answer)) ≡ (step_of s w).answer
unfolding decode
call_decodes s w h = decoded (step_of s w).answer (byte_wide s w h) (outputs_wide s w)

-- The paper's last record, of the answer 0, 3, 15h, 041h.
pub last_record : record_of (done_with (Driven 0x15) 0x041) ≡ 0x06 ∷ 0x2A ∷ 0x41 ∷ 0x00 ∷ []
unfolding record_of record_number
last_record = refl

-- The record of document 03's trace, of the answer 0, 3, 77h, 000h.
pub second_kinds_record : record_of (done_with (Driven 0x77) 0x000) ≡ 0x06 ∷ 0xEE ∷ 0x00 ∷ 0x00 ∷ []
unfolding record_of record_number
second_kinds_record = refl

-- ---- the contracts determine their answers

pub record_determined : (a : Answer) (r s : List ℕ) → record_reads.Post tt (a, tt) r (a, tt) → record_reads.Post tt (a, tt) s (a, tt) → r ≡ s
record_determined a r s p q = p ∙ sym q

pub answer_determined : (n : ℕ) (r s : Answer) → answer_reads.Post tt (n, tt) r (n, tt) → answer_reads.Post tt (n, tt) s (n, tt) → r ≡ s
answer_determined n r s p q = p ∙ sym q

-- Of a batch also the buffer that it leaves.
pub batch_determined :
    (κs : _) (s : Controller) (words : Bor (List ℕ)) (records : MutBor (List ℕ)) (r r' : Batched) (left left' : MutBor (List ℕ))
    → batch_reads.Post κs (s, (words, (records, tt))) r (s, (words, (left, tt)))
    → batch_reads.Post κs (s, (words, (records, tt))) r' (s, (words, (left', tt)))
    → (r ≡ r') × (left.now ≡ left'.now)
batch_determined κs s words records r r' left left' p q = (p.0 ∙ sym q.0, p.1 ∙ sym q.1)

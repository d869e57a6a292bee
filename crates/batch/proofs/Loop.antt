-- The loop of a batch: after i words the state and the records are those of these words, and the rest of the buffer is as it came.
-- Assumes nothing.
use Prim.Native.Nat.{ℕ, ◌+◌, ◌*◌, ◌<◌, ◌≤◌}
use native.Mathlib.Omega.{arith}
use native.Mathlib.Numerals.{add-one}
use mathlib.Core.Path.{◌≡◌, refl, ap, ◌∙◌, sym}
use mathlib.Core.Bool.{true}
use mathlib.Core.List.{List, ◌++◌, append_assoc}
use lib.ListN.{length, get_or, take, drop, length-append, length-drop}
use lib.Seq.{take_at, drop_at, drop-drop, take-length, length-take-le}
use Rattle.machine.specs.Record.{fits}
use Rattle.machine.specs.Outputs.{outputs}
use Rattle.dock.specs.Step.{step_of, went_of}
use Rattle.dock.specs.Run.{after, answers_to}
use Rattle.dock.specs.declared.Controller.{Controller}
use Rattle.dock.proofs.Goes.{goes_as_step}
use Rattle.dock.proofs.Laws.{step_fit_lem}
use Rattle.dock.proofs.Run.{after_next, answers_next, answers_length}
use Rattle.batch.specs.Record.{record_of, records_of}
use Rattle.batch.proofs.Records.{records_length, records_append}

-- The first i of the words have been taken, from the state s₀ and the buffer b₀.
pub record Taken (s₀ : Controller) (ws : List ℕ) (b₀ : List ℕ) (i : ℕ) (s : Controller) (b : List ℕ) : Type 0 where
  pub within : i ≤ length ws
  pub state : s ≡ after s₀ (take i ws)
  pub records : b ≡ records_of (answers_to s₀ (take i ws)) ++ drop (4 * i) b₀

pub none_taken : (s : Controller) (ws b : List ℕ) → Taken s ws b 0 s b
unfolding after answers_to records_of
none_taken s ws b = record { within = omega arith; state = refl; records = refl }

module _ (s₀ : Controller) (ws b₀ : List ℕ) (i : ℕ) (s : Controller) (b : List ℕ) (h : Taken s₀ ws b₀ i s b) where
  written_length : length (records_of (answers_to s₀ (take i ws))) ≡ 4 * i
  written_length = records_length (answers_to s₀ (take i ws)) ∙ omega (arith, answers_length s₀ (take i ws), length-take-le i ws h.within)

  pub length_kept : 4 * length ws ≤ length b₀ → length b ≡ length b₀
  length_kept l =
      ap length h.records ∙ length-append (records_of (answers_to s₀ (take i ws))) (drop (4 * i) b₀)
      ∙ omega (arith, written_length, length-drop (4 * i) b₀, h.within)

  -- The next word's record at its own place, and the state that its event leaves.
  pub one_more :
      i < length ws
      → Taken s₀ ws b₀ (i + 1) (step_of s (get_or ws i 0)).controller
      (take (4 * i) b ++ (record_of (step_of s (get_or ws i 0)).answer ++ drop 4 (drop (4 * i) b)))
  unfolding record_of records_of
  one_more l =
      record {
        within = omega arith;
        state = rw (add-one, after_next s₀ ws i l) (ap (λ t. (step_of t (get_or ws i 0)).controller) h.state);
        records = before ∙ sym (rw (next, add-one, answers_next s₀ ws i l, records_append, ← h.state, append_assoc));
      }
    where
      before :
          take (4 * i) b ++ (record_of (step_of s (get_or ws i 0)).answer ++ drop 4 (drop (4 * i) b))
          ≡ records_of (answers_to s₀ (take i ws)) ++ (record_of (step_of s (get_or ws i 0)).answer ++ drop (4 * i + 4) b₀)
      before =
          rw (
            h.records,
            take_at (records_of (answers_to s₀ (take i ws))) (drop (4 * i) b₀) (4 * i) written_length,
            drop_at (records_of (answers_to s₀ (take i ws))) (drop (4 * i) b₀) (4 * i) written_length,
            drop-drop 4 (4 * i) b₀,
          )

      next : 4 * (i + 1) ≡ 4 * i + 4
      next = omega arith

-- .. and the state is fit, with these outputs.
pub record Going (s₀ : Controller) (ws : List ℕ) (b₀ : List ℕ) (i : ℕ) (s : Controller) (shown : ℕ) (b : List ℕ) : Type 0 where
  pub taken : Taken s₀ ws b₀ i s b
  pub fit : fits s.machine ≡ true
  pub known : shown ≡ outputs s.machine

pub none_gone : (s : Controller) (ws b : List ℕ) → fits s.machine ≡ true → Going s ws b 0 s (outputs s.machine) b
none_gone s ws b f = record { taken = none_taken s ws b; fit = f; known = refl }

pub goes_on :
    (s₀ : Controller) (ws b₀ : List ℕ) (i : ℕ) (s : Controller) (shown : ℕ) (b : List ℕ) → Going s₀ ws b₀ i s shown b → i < length ws
    → Going s₀ ws b₀ (i + 1) (went_of s shown (get_or ws i 0)).controller (went_of s shown (get_or ws i 0)).outputs
    (take (4 * i) b ++ (record_of (went_of s shown (get_or ws i 0)).answer ++ drop 4 (drop (4 * i) b)))
goes_on s₀ ws b₀ i s shown b h l =
    rw (ap (λ o. went_of s o (get_or ws i 0)) h.known ∙ goes_as_step s (get_or ws i 0) h.fit)
    (record { taken = one_more s₀ ws b₀ i s b h.taken l; fit = step_fit_lem s (get_or ws i 0) h.fit; known = refl })

-- All of the words have been taken.
pub all_taken : (s₀ : Controller) (ws b₀ : List ℕ) (i : ℕ) (s : Controller) (b : List ℕ) → Taken s₀ ws b₀ i s b → length ws ≤ i
    → (s ≡ after s₀ ws) × (b ≡ records_of (answers_to s₀ ws) ++ drop (4 * length ws) b₀)
all_taken s₀ ws b₀ i s b h l =
    let e : i ≡ length ws = omega (arith, h.within) in
    let whole : take i ws ≡ ws = rw e (take-length ws) in
    (h.state ∙ ap (after s₀) whole, h.records ∙ rw (whole, e))

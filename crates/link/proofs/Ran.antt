-- Words taken from a state held: what a batch from the state of its image comes to, in bytes. Assumes nothing.
use Prim.Native.Nat.{ℕ}
use mathlib.Core.Path.{◌≡◌, refl, ap, sym, ◌∙◌}
use mathlib.Core.Bool.{true, false}
use mathlib.Core.List.{List}
use lib.ListN.{length}
use Rattle.batch.specs.Batch.{state_by, batch_of, buffer_after}
use Rattle.batch.specs.declared.Batched.{Batched}
use Rattle.image.specs.Save.{saved}
use Rattle.image.specs.Load.{is_image, state_in}
use Rattle.image.specs.Shape.{Octets}
use Rattle.image.proofs.Whole.{image_whole}
use Rattle.image.proofs.RoundTrip.{saved_loaded}
use Rattle.link.specs.Held.{outcome_in, batched_in, records_in}
use Rattle.calls.specs.Numbers.{Outcome}
use Rattle.calls.specs.declared.Refusal.{Refusal}
use Rattle.calls.specs.declared.Refusal.TheVariants.{Unfit}
use Rattle.std.specs.Prelude.{Err}

module _ (bytes ws buffer : List ℕ) where
  -- The outcome, the state and the records that a call of `run` answers and leaves.
  abbrev pub Ran : Outcome → List ℕ → List ℕ → Type 0
  Ran o state records =
      (o ≡ outcome_in bytes (length ws) (length buffer)) × (state ≡ batched_in bytes ws (length buffer)) × (records ≡ records_in bytes ws buffer)

  pub ran_nothing : is_image bytes ≡ false → Ran (Err Unfit) bytes buffer
  unfolding outcome_in batched_in records_in
  ran_nothing h = rw h (refl, refl, refl)

  module _ (h : is_image bytes ≡ true) (r : Batched) (e : r ≡ batch_of (state_in bytes) ws (length buffer)) where
    pub ran : Ran r.outcome (saved r.controller) (buffer_after (state_in bytes) ws buffer)
    unfolding outcome_in batched_in records_in batch_of
    ran = rw (h, e) (refl, refl, refl)

    -- A batch that is refused leaves the bytes, since they are the image of the state.
    pub ran_refused : Octets bytes → (x : Refusal) → r.outcome ≡ Err x → Ran (Err x) bytes (buffer_after (state_in bytes) ws buffer)
    unfolding batch_of
    ran_refused o x t = (sym t ∙ ran.0, back ∙ ran.1, ran.2)
      where
        same : r.controller ≡ state_in bytes
        same = ap (λ (x : Batched). x.controller) e ∙ ap (λ o. state_by o (state_in bytes) ws) (sym (ap (λ (x : Batched). x.outcome) e)) ∙ ap (λ o. state_by o (state_in bytes) ws) t

        back : bytes ≡ saved r.controller
        back = sym (saved_loaded bytes o (image_whole bytes h)) ∙ ap saved (sym same)

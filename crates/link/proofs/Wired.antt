-- Samples heard from a held state that the caller holds: what the call's definitions come to, by what was loaded. Assumes nothing.
use Prim.Native.Nat.{ℕ, ◌≤◌}
use native.Mathlib.Omega.{arith}
use mathlib.Core.Path.{◌≡◌, refl, sym, ap, ◌∙◌}
use mathlib.Core.Bool.{Bool, true, false}
use mathlib.Core.Logic.{◌≢◌}
use mathlib.Core.List.{List}
use lib.Dec.{ltb}
use lib.ListN.{length}
use borrow.Author.Tests.{ltb-false}
use Rattle.std.specs.Prelude.{Result, Ok, Err}
use Rattle.bay.proofs.Taut.{pick}
use Rattle.calls.specs.Numbers.{outcome_refusal, outcome_count}
use Rattle.calls.specs.declared.Refusal.{Refusal}
use Rattle.calls.specs.declared.Refusal.TheVariants.{Unfit}
use Rattle.wire.specs.Record.{fits}
use Rattle.wire.specs.Listen.{outcome_of, state_by, listen_of, places_by, places_after}
use Rattle.wire.specs.Image.{is_image, saved, wire_in}
use Rattle.wire.specs.declared.Wire.{Wire}
use Rattle.wire.specs.declared.Listened.{Listened}
use Rattle.wire.proofs.Cut.{words_most}
use Rattle.wire.proofs.Bytes.{saved_image, state_back}
use Rattle.link.specs.Wires.{bytes_by, outcome_in, listened_in, words_in}

-- What the call leaves, whatever it is: the outcome, the bytes, and the places.
pub record Left (bytes samples places : List ℕ) (o : Result ℕ Refusal) (now-held now-words : List ℕ) : Type 0 where
  pub outcome : o ≡ outcome_in bytes samples (length places)
  pub held : now-held ≡ listened_in bytes samples (length places)
  pub words : now-words ≡ words_in bytes samples places

pub heard_nothing : (bytes samples places : List ℕ) → is_image bytes ≡ false → Left bytes samples places (Err Unfit) bytes places
unfolding outcome_in listened_in words_in
heard_nothing bytes samples places n = record { outcome = rw n; held = rw n; words = rw n }

module _ (bytes samples places : List ℕ) (w : Wire) (image : is_image bytes ≡ true) (is : w ≡ wire_in bytes) (r : Listened) (e : r ≡ listen_of w samples (length places)) where
  told : r.outcome ≡ outcome_of (wire_in bytes) samples (length places)
  unfolding listen_of
  told = ap (λ (x : Listened). x.outcome) e ∙ ap (λ t. outcome_of t samples (length places)) is

  told_in : r.outcome ≡ outcome_in bytes samples (length places)
  unfolding outcome_in
  told_in = rw image told

  pub heard_refused :
      (words : List ℕ) (x : Refusal) → words ≡ places_after w samples places → r.outcome ≡ Err x → Left bytes samples places (Err x) bytes words
  unfolding listened_in words_in
  heard_refused words x p d =
      record {
        outcome = sym d ∙ told_in;
        held = rw (image, ← told, d) refl;
        words = rw image (p ∙ ap (λ t. places_after t samples places) is);
      }

  pub heard :
      (words : List ℕ) (n : ℕ) → words ≡ places_after w samples places → r.outcome ≡ Ok n
      → Left bytes samples places (Ok n) (saved r.wire) words
  unfolding listened_in words_in listen_of
  heard words n p d =
      record {
        outcome = sym d ∙ told_in;
        held = rw (image, ← told, d) (ap saved (ap (λ (x : Listened). x.wire) e ∙ rw (is, ← told, d)));
        words = rw image (p ∙ ap (λ t. places_after t samples places) is);
      }

-- It counts at most 16,384 words.
count_most : (w : Wire) (samples : List ℕ) (places : ℕ) → outcome_count (outcome_of w samples places) ≤ 16384
unfolding outcome_of
count_most w samples places =
    pick Small (fits w)
    (λ f. pick Small (ltb 16384 (length samples)) (λ m. omega arith)
    (λ m. pick Small (ltb places (length samples)) (λ b. omega arith) (λ b. omega (arith, ltb-false 16384 (length samples) m, words_most w samples))))
    (λ f. omega arith)
  where
    Small : Result ℕ Refusal → Type 0
    Small o = outcome_count o ≤ 16384

pub heard_most : (bytes samples : List ℕ) (places : ℕ) → outcome_count (outcome_in bytes samples places) ≤ 16384
unfolding outcome_in
heard_most bytes samples places = pick (λ o. outcome_count o ≤ 16384) (is_image bytes) (λ i. count_most (wire_in bytes) samples places) (λ i. omega arith)

-- ---- the calls on the image of a held state are the cell's

pub record AsTheCell (w : Wire) (samples places : List ℕ) : Type 0 where
  pub outcome : outcome_in (saved w) samples (length places) ≡ outcome_of w samples (length places)
  pub held : listened_in (saved w) samples (length places) ≡ saved (state_by (outcome_of w samples (length places)) w samples)
  pub words : words_in (saved w) samples places ≡ places_after w samples places

pub as_the_cell : (w : Wire) (samples places : List ℕ) → AsTheCell w samples places
unfolding outcome_in listened_in words_in
as_the_cell w samples places =
    record {
      outcome = rw (saved_image w, state_back w);
      held = rw (saved_image w, state_back w) (by_outcome (outcome_of w samples (length places)));
      words = rw (saved_image w, state_back w);
    }
  where
    by_outcome : (o : Result ℕ Refusal) → bytes_by o w samples (saved w) ≡ saved (state_by o w samples)
    by_outcome (Ok n) = refl
    by_outcome (Err r) = refl

-- Refused: the bytes as they came, count 0, nothing written.
pub record AsTheyCame (bytes samples places : List ℕ) : Type 0 where
  pub held : listened_in bytes samples (length places) ≡ bytes
  pub words : words_in bytes samples places ≡ places
  pub count : outcome_count (outcome_in bytes samples (length places)) ≡ 0

pub refused_as_they_came : (bytes samples places : List ℕ) → outcome_refusal (outcome_in bytes samples (length places)) ≢ 0 → AsTheyCame bytes samples places
unfolding outcome_in listened_in words_in places_after
refused_as_they_came bytes samples places = go (is_image bytes) refl
  where
    w : Wire
    w = wire_in bytes

    accepted_not : (o : Result ℕ Refusal) → outcome_refusal o ≢ 0 → (bytes_by o w samples bytes ≡ bytes) × (places_by o w samples places ≡ places) × (outcome_count o ≡ 0)
    accepted_not (Ok n) h = absurd (h refl)
    accepted_not (Err r) h = (refl, refl, refl)

    go : (t : Bool) → is_image bytes ≡ t → outcome_refusal (outcome_in bytes samples (length places)) ≢ 0 → AsTheyCame bytes samples places
    go false e h = record { held = rw e; words = rw e; count = rw e }
    go true e h = let k = accepted_not (outcome_of (wire_in bytes) samples (length places)) (rw e at h) in record { held = rw e k.0; words = rw e k.1; count = rw e k.2 }

-- What a bus puts on the two lines, as lists of samples (document 02, request 7): START, STOP and pulses of SCLK that are bytes, each level
-- held for any number of samples from one up. It is put together from its parts and says nothing of how it is heard.
use Rattle.std.specs.Prelude.{ℕ, suc, ◌<◌, ◌≤◌, ◌≡◌, Bool, true, false, not, List, [], ◌∷◌, ◌++◌, length}
use Rattle.bits.specs.Bits.{bit}
use Rattle.event.specs.declared.Event.{Event}
use Rattle.event.specs.declared.Event.TheVariants.{Start, Stop, Byte, Take, Timeout}

-- SCLK high for some samples, with SDAT at this level in all of them; the other bits of a sample may be anything.
pub data High (d : Bool) : List ℕ → Type 0 where
  one : (s : ℕ) → bit 1 s ≡ true → bit 0 s ≡ d → High d (s ∷ [])
  more : (s : ℕ) {ss : List ℕ} → bit 1 s ≡ true → bit 0 s ≡ d → High d ss → High d (s ∷ ss)

-- SCLK low for so many samples; SDAT may move.
pub data Low : ℕ → List ℕ → Type 0 where
  one : (s : ℕ) → bit 1 s ≡ false → Low 1 (s ∷ [])
  more : (s : ℕ) {n : ℕ} {ss : List ℕ} → bit 1 s ≡ false → Low n ss → Low (suc n) (s ∷ ss)

-- A pulse that shows a bit: SCLK low, for 17,500 samples at most, and high, with SDAT at the bit's level.
pub data Pulse (d : Bool) : List ℕ → Type 0 where
  pulse : {n : ℕ} {low high : List ℕ} → Low n low → n ≤ 17500 → High d high → Pulse d (low ++ high)

-- Pulses for bits, one after the other.
pub data Pulses : List Bool → List ℕ → Type 0 where
  none : Pulses [] []
  next : {d : Bool} {ds : List Bool} {p ps : List ℕ} → Pulse d p → Pulses ds ps → Pulses (d ∷ ds) (p ++ ps)

-- SDAT's level after them, where it was at a level before.
abbrev pub level_after : Bool → List Bool → Bool
level_after d [] = d
level_after d (b ∷ bs) = level_after b bs

-- A byte's bits, most significant first, and with the ninth.
abbrev pub eight : ℕ → List Bool
eight b = bit 7 b ∷ bit 6 b ∷ bit 5 b ∷ bit 4 b ∷ bit 3 b ∷ bit 2 b ∷ bit 1 b ∷ bit 0 b ∷ []

abbrev pub nine : ℕ → Bool → List Bool
nine b ninth = eight b ++ (ninth ∷ [])

-- Bytes that the host sends, from one level of SDAT to another. They may break off: inside a byte, which is then none, and before a ninth bit.
pub data Sends : Bool → List Event → List ℕ → Bool → Type 0 where
  breaks : {d : Bool} {p : List ℕ} (ds : List Bool) → length ds ≤ 7 → Pulses ds p → Sends d [] p (level_after d ds)
  no_ninth : {d : Bool} {p : List ℕ} (b : ℕ) → b < 256 → Pulses (eight b) p → Sends d (Byte b ∷ []) p (bit 0 b)
  byte :
      {d e : Bool} {p ps : List ℕ} {es : List Event} (b : ℕ) (ninth : Bool) → b < 256 → Pulses (nine b ninth) p → Sends ninth es ps e
      → Sends d (Byte b ∷ es) (p ++ ps) e

-- Bytes that the host clocks in, whatever they are: it ACKs one by a low ninth bit. They may break off inside one, which is then none.
pub data Clocks : Bool → List Event → List ℕ → Bool → Type 0 where
  breaks : {d : Bool} {p : List ℕ} (ds : List Bool) → length ds ≤ 8 → Pulses ds p → Clocks d [] p (level_after d ds)
  take :
      {d e : Bool} {p ps : List ℕ} {es : List Event} (b : ℕ) (ninth : Bool) → Pulses (nine b ninth) p → Clocks ninth es ps e
      → Clocks d (Take (not ninth) ∷ es) (p ++ ps) e

-- What follows a START, after which SDAT is low: a first byte, by whose lowest bit the host then sends bytes or clocks them in.
pub data Follows : List Event → List ℕ → Bool → Type 0 where
  breaks : {p : List ℕ} (ds : List Bool) → length ds ≤ 7 → Pulses ds p → Follows [] p (level_after false ds)
  no_ninth : {p : List ℕ} (b : ℕ) → b < 256 → Pulses (eight b) p → Follows (Byte b ∷ []) p (bit 0 b)
  writes :
      {e : Bool} {p ps : List ℕ} {es : List Event} (b : ℕ) (ninth : Bool) → b < 256 → bit 0 b ≡ false → Pulses (nine b ninth) p
      → Sends ninth es ps e → Follows (Byte b ∷ es) (p ++ ps) e
  reads :
      {e : Bool} {p ps : List ℕ} {es : List Event} (b : ℕ) (ninth : Bool) → b < 256 → bit 0 b ≡ true → Pulses (nine b ninth) p
      → Clocks ninth es ps e → Follows (Byte b ∷ es) (p ++ ps) e

-- A waveform and the bus events that it spells, from SCLK high and SDAT at a level, inside a transfer or between two.
pub data Wave : Bool → Bool → List Event → List ℕ → Type 0 where
  ends : {inside d : Bool} → Wave inside d [] []
  -- The lines rest.
  rests : {inside d : Bool} {h ss : List ℕ} {es : List Event} → High d h → Wave inside d es ss → Wave inside d es (h ++ ss)
  -- Between transfers pulses spell nothing.
  idles : {d e : Bool} {p ss : List ℕ} {es : List Event} → Pulse e p → Wave false e es ss → Wave false d es (p ++ ss)
  -- START: SDAT falls while SCLK is high.
  starts :
      {inside d : Bool} {h p ss : List ℕ} {bs es : List Event} → High false h → Follows bs p d → Wave true d es ss
      → Wave inside true (Start ∷ (bs ++ es)) (h ++ (p ++ ss))
  -- STOP: SDAT rises while SCLK is high.
  stops : {inside : Bool} {h ss : List ℕ} {es : List Event} → High true h → Wave false true es ss → Wave inside false (Stop ∷ es) (h ++ ss)
  -- TIMEOUT: SCLK is low for more than 17,500 samples, and high again or not.
  times_out :
      {inside d e : Bool} {n : ℕ} {l h ss : List ℕ} {es : List Event} → Low n l → 17500 < n → High e h → Wave false e es ss
      → Wave inside d (Timeout ∷ es) (l ++ (h ++ ss))
  stays_low : {inside d : Bool} {n : ℕ} {l : List ℕ} → Low n l → 17500 < n → Wave inside d (Timeout ∷ []) l

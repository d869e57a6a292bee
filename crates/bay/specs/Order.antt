-- The removal button beside a device that leaves or arrives (document 02, requests 1, 5 and 6; document 03, "Bay moves"): a press is
-- accepted 5 ticks after it began and a contact 10 ticks after, a device that arrives then seats for the ticks given, and what becomes of
-- the bay by which of them comes first.
use Rattle.std.specs.Prelude.{ℕ, zero, suc, ◌+◌, ◌-◌, ◌<◌, ◌≡◌, ◌⊎◌, Bool, true, false, not, cond, ◌&&◌, ◌||◌, ltb, leb}
use Rattle.bay.specs.Record.{NREMREQ, contact, present}
use Rattle.bay.specs.Debounced.{rest_line, differing}
use Rattle.bay.specs.Moves.{in_use, ticked_bay}
use Rattle.bay.specs.Happens.{line}
use Rattle.bay.specs.declared.Bay.{Bay}
use Rattle.bay.specs.declared.Setting.{Setting}

-- A bay after so many TICKs with nothing else between them.
unfoldable pub ticked_for : Bool → Setting → ℕ → Bay → Bay
ticked_for hides s zero b = b
ticked_for hides s (suc k) b = ticked_bay hides s (ticked_for hides s k b)

-- ---- what is under way

-- The button: nREMREQ, accepted as a, has differed from that for r ticks. From 1 it is a press, from 0 a release.
pub record Button (a : Bool) (r : ℕ) (b : Bay) : Type 0 where
  pub input : line b NREMREQ ≡ differing a r
  pub short : r < 5

abbrev pub Pressing : ℕ → Bay → Type 0
Pressing r b = Button true r b

abbrev pub Releasing : ℕ → Bay → Type 0
Releasing r b = Button false r b

-- Contacts of which each is open, or has differed from this accepted level for p ticks.
abbrev pub Contacts : Bool → ℕ → Bay → Type 0
Contacts a p b = (i : ℕ) → i < 2 → (line b i ≡ rest_line true) ⊎ (line b i ≡ differing a p)

-- A removal: there is contact, and its contacts opened p ticks ago.
pub record Leaving (p : ℕ) (b : Bay) : Type 0 where
  pub contacts : Contacts false p b
  pub there : contact b ≡ true
  pub short : p < 10

-- An arrival: a contact closed p ticks ago, or both.
pub record Coming (p : ℕ) (b : Bay) : Type 0 where
  pub contacts : Contacts true p b
  pub closed : (line b 0 ≡ differing true p) ⊎ (line b 1 ≡ differing true p)
  pub short : p < 10

-- ---- what becomes of it, k ticks later; the press began p - r ticks after the device moved

-- What a press needs for a move: REMREQ_EN set, REMREQ_STS clear, Inserted or Enabled.
abbrev pub heeds : Bay → Bool
heeds b = b.control.remreq_en && not b.remreq_sts && in_use b

pub record RemovalAndPress (hides : Bool) (p r k : ℕ) (before after : Bay) : Type 0 where
  -- The device is there until the tenth tick of its removal.
  pub device : present hides after ≡ ltb (p + k) 10
  -- The press is told from its fifth tick on, if it began less than 5 ticks after the removal, and else never.
  pub told : after.remreq_sts ≡ (before.remreq_sts || leb 5 (r + k) && ltb p (r + 5))
  -- From then on the bay is in Removal Requested, if it may be, until the device has left: then it is Empty.
  pub moves : after.state ≡ cond (leb 10 (p + k)) 0 (cond (leb 5 (r + k) && heeds before) 3 before.state)

-- w are the ticks to wait, and v those for which the device is hidden.
pub record ArrivalAndPress (hides : Bool) (w v p r k : ℕ) (before after : Bay) : Type 0 where
  -- The device is there from the tenth tick of its arrival on, or from when it is no longer hidden.
  pub device : present hides after ≡ leb (10 + v) (p + k)
  -- The press is told from its fifth tick on, if that isn't before the device is there, and else never.
  pub told : after.remreq_sts ≡ (before.remreq_sts || leb 5 (r + k) && leb (r + 5 + v) p)
  -- The device seats from the tenth tick of its arrival on: with DEVSTSCHG_EN, or whatever that is where it is hidden ..
  pub seats : after.wait ≡ cond (leb 10 (p + k) && (hides || before.control.devstschg_en)) (10 + w - (p + k)) 0
  -- .. and once it has, the bay is Inserted, with DEVSTSCHG_EN. A press that is accepted in a later tick than that moves it on, if it may.
  pub moves :
      after.state
      ≡ cond (leb (10 + w) (p + k) && before.control.devstschg_en)
      (cond (leb 5 (r + k) && ltb (r + 5 + w) p && before.control.remreq_en && not before.remreq_sts) 3 1) 0

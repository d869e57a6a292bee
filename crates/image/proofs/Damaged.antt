-- Damaged images of a fresh controller, one of each kind, and what each is told to be. Assumes nothing.
use Prim.Native.Nat.{ℕ}
use mathlib.Core.Path.{◌≡◌, refl}
use mathlib.Core.Bool.{true, false}
use mathlib.Core.List.{List}
use lib.ListN.{set, drop}
use Rattle.second.specs.Record.{fresh, fits as second_fits}
use Rattle.bay.specs.Record.{empty_bay, bay_fit}
use Rattle.machine.specs.Record.{bay_in, fresh_machine, fits}
use Rattle.dock.specs.Record.{fresh_controller}
use Rattle.image.specs.Save.{progress_bytes, saved}
use Rattle.image.specs.Load.{first_over, progress_verdict, sized_verdict, verdict_on, state_in}
use Rattle.image.specs.declared.Flaw.TheVariants.{NotAFlag, NotUsed, UnknownProgress, UnknownVersion, WrongLength}
use Rattle.std.specs.Prelude.{Err, Ok}

-- The image with another byte at a place.
abbrev pub damaged : ℕ → ℕ → List ℕ
damaged i b = set (saved fresh_controller) i b

-- .. and with the second kind in force.
abbrev in_second : List ℕ → List ℕ
in_second bytes = set bytes 2 1

pub record Told : Type 0 where
  pub short : verdict_on (drop 1 (saved fresh_controller)) ≡ Err WrongLength
  -- The layout before this one.
  pub version : verdict_on (damaged 0 3) ≡ Err UnknownVersion
  pub first_flag : verdict_on (damaged 1 2) ≡ Err (NotAFlag 1)
  pub last_flag : verdict_on (damaged 40 255) ≡ Err (NotAFlag 40)
  pub progress : verdict_on (damaged 71 9) ≡ Err UnknownProgress
  pub first_byte : verdict_on (damaged 72 1) ≡ Err (NotUsed 72)
  pub second_byte : verdict_on (damaged 73 1) ≡ Err (NotUsed 73)
  -- A number out of its range is no damage to the image: the state is loaded as it is, and is not fit.
  pub phase : verdict_on (damaged 45 200) ≡ Ok tt
  pub unfit : fits (state_in (damaged 45 200)).machine ≡ false
  -- Of the removal request count 4 is the last that fits.
  pub button : verdict_on (damaged 55 5) ≡ Ok tt
  pub button_fit : fits (state_in (damaged 55 4)).machine ≡ true
  pub button_unfit : fits (state_in (damaged 55 5)).machine ≡ false
  -- Any byte fits as 42h.
  pub wait_time_fit : fits (state_in (damaged 44 255)).machine ≡ true
  -- With the first kind in force 255 is the last wait that fits, and with the second 560; of a form factor 7 is, in both.
  pub wait_fit : fits (state_in (damaged 61 255)).machine ≡ true
  pub wait_unfit : fits (state_in (damaged 60 1)).machine ≡ false
  pub second_wait_fit : fits (state_in (in_second (set (damaged 60 2) 61 48))).machine ≡ true
  pub second_wait_unfit : fits (state_in (in_second (set (damaged 60 2) 61 49))).machine ≡ false
  pub form_factor_fit : fits (state_in (damaged 51 7)).machine ≡ true
  pub form_factor_unfit : fits (state_in (damaged 51 8)).machine ≡ false
  -- Written with the number has one byte, and reading with number and held byte two.
  pub writing : verdict_on (set (damaged 71 7) 73 1) ≡ Err (NotUsed 73)
  pub sending : verdict_on (set (damaged 71 8) 73 1) ≡ Ok tt

pub damage_told : Told
unfolding verdict_on sized_verdict progress_verdict first_over state_in saved progress_bytes fresh_controller fresh_machine empty_bay fresh bay_in fits second_fits bay_fit
damage_told =
    record {
      short = refl;
      version = refl;
      first_flag = refl;
      last_flag = refl;
      progress = refl;
      first_byte = refl;
      second_byte = refl;
      phase = refl;
      unfit = refl;
      button = refl;
      button_fit = refl;
      button_unfit = refl;
      wait_time_fit = refl;
      wait_fit = refl;
      wait_unfit = refl;
      second_wait_fit = refl;
      second_wait_unfit = refl;
      form_factor_fit = refl;
      form_factor_unfit = refl;
      writing = refl;
      sending = refl;
    }

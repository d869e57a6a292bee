-- What is true of every bay that RESET has made and events have changed, beyond its numbers being fit (document 01, "Registers"
-- and "Bay moves"), in either kind of controller: where a wait hides the device, and where not.
use Rattle.std.specs.Prelude.{ℕ, ◌<◌, ◌≡◌, ◌≢◌, ◌⊎◌, Bool, true, false}
use Rattle.bay.specs.Record.{level, accepted_level, count, contact, present, EMPTY}
use Rattle.bay.specs.declared.Bay.{Bay}

pub record Sound (hides : Bool) (b : Bay) : Type 0 where
  -- Power is on only with the lock and a device.
  pub powered : b.control.pwr_ctl ≡ true → (b.control.lock_ctl ≡ true) × (present hides b ≡ true)
  -- A bay that isn't Empty holds a device.
  pub held : b.state ≢ EMPTY → present hides b ≡ true
  -- A device stays in Empty only while DEVSTSCHG_EN is clear or a wait runs, which then doesn't hide it.
  pub waiting : present hides b ≡ true → b.state ≡ EMPTY → (b.control.devstschg_en ≡ false) ⊎ (0 < b.wait)
  -- A wait runs only in Empty, over a contact, and where it doesn't hide the device with DEVSTSCHG_EN set.
  pub seating : 0 < b.wait → (b.state ≡ EMPTY) × (contact b ≡ true) × (hides ≡ false → b.control.devstschg_en ≡ true)
  -- The count of an input is 0 where its level is the accepted one.
  pub still : (i : ℕ) → level b i ≡ accepted_level b i → count b i ≡ 0

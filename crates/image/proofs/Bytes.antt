-- The bytes as the code reads and makes them, part by part, are those of the definitions. Assumes nothing.
use Prim.Native.Nat.{ℕ, zero, suc}
use mathlib.Core.Path.{◌≡◌, refl, ap, ◌∙◌}
use mathlib.Core.Bool.{Bool, true, false}
use mathlib.Core.List.{List, [], ◌∷◌, ◌++◌, map}
use lib.ListN.{length, get_or, take, drop}
use mir.Val.{bool_byte}
use Rattle.pairs.specs.Pairs.{two_bytes}
use Rattle.bus.specs.declared.Progress.{Progress}
use Rattle.bus.specs.declared.Progress.TheVariants.{Idle, Opened, Addressed, Register, Data, Again, Reading, Writing, Sending}
use Rattle.kind.specs.Kind.{is_second, kind_by}
use Rattle.bay.specs.Record.{N1394, NUSB, NREMREQ, count}
use Rattle.bay.specs.declared.Bay.{Bay}
use Rattle.machine.specs.Record.{bay0, bay1}
use Rattle.machine.specs.declared.Machine.{Machine}
use Rattle.dock.specs.declared.Controller.{Controller}
use Rattle.image.specs.Layout.{LAYOUT, BYTES}
use Rattle.image.specs.Save.{flag_byte, bay_flags, second_flags, second_numbers, flags_of, numbers_of, progress_bytes, saved}
use Rattle.image.specs.Load.{byte_at, is_set, bay_by, second_by, machine_in}
use Rattle.image.proofs.Elements.{by_elements}

-- An element of a list of bytes read as flags is that byte read as a flag.
pub flag_at : (bs : List ℕ) (i : ℕ) → get_or (map is_set bs) i false ≡ is_set (get_or bs i 0)
flag_at [] i = refl
flag_at (b ∷ bs) zero = refl
flag_at (b ∷ bs) (suc i) = flag_at bs i

-- A machine's parts in as many bytes as an image has, each at its place.
pub machine_parts :
    (bytes : List ℕ) → length bytes ≡ BYTES
    → machine_in bytes
    ≡ record {
      started = is_set (byte_at bytes 1);
      straps = byte_at bytes 41;
      kind = kind_by (is_set (byte_at bytes 2));
      named = kind_by (is_set (byte_at bytes 3));
      shared =
          record {
            dbccr_written = is_set (byte_at bytes 4);
            seclock = is_set (byte_at bytes 5);
            bay_count = byte_at bytes 42;
            lock_time = byte_at bytes 43;
            wait_time = byte_at bytes 44;
          };
      second = second_by (map is_set (take 7 (drop 6 bytes))) (take 7 (drop 46 bytes));
      phase = byte_at bytes 45;
      bays =
          bay_by (map is_set (take 14 (drop 13 bytes))) (take 9 (drop 53 bytes)) ∷ bay_by (map is_set (take 14 (drop 27 bytes))) (take 9 (drop 62 bytes))
          ∷ [];
    }
machine_parts = by_elements 0 BYTES _ (λ f. refl)

-- The three bytes of a command in progress, one by one.
abbrev pub three : List ℕ → List ℕ
three bytes = byte_at bytes 0 ∷ byte_at bytes 1 ∷ byte_at bytes 2 ∷ []

three_are : (p : Progress) → three (progress_bytes p) ≡ progress_bytes p
unfolding progress_bytes
three_are Idle = refl
three_are Opened = refl
three_are Addressed = refl
three_are (Register r) = refl
three_are (Data r v) = refl
three_are (Again r) = refl
three_are (Reading v) = refl
three_are (Writing r) = refl
three_are (Sending r v) = refl

-- A flag as the code casts it to a number.
pub cast_flag : (b : Bool) → bool_byte b ≡ flag_byte b
cast_flag true = refl
cast_flag false = refl

cast_flags : (fs : List Bool) → map bool_byte fs ≡ map flag_byte fs
cast_flags [] = refl
cast_flags (f ∷ fs) = rw (cast_flag f, cast_flags fs)

-- A bay's numbers, of whose pulse and wait the two bytes are at hand.
abbrev two : List ℕ → List ℕ
two bytes = byte_at bytes 0 ∷ byte_at bytes 1 ∷ []

abbrev numbers_with : Bay → List ℕ → List ℕ → List ℕ
numbers_with b pulse wait = count b N1394 ∷ count b NUSB ∷ count b NREMREQ ∷ b.state ∷ b.control.request ∷ (two pulse ++ two wait)

-- The bytes as the code puts them together, of parts that are the definition's.
module _ (s : Controller) (kind named : Bool) (pulse-0 wait-0 pulse-1 wait-1 progress : List ℕ) where
  abbrev m : Machine
  m = s.machine

  abbrev flags : List Bool
  flags =
      m.started ∷ kind ∷ named ∷ m.shared.dbccr_written ∷ m.shared.seclock
      ∷ (second_flags m.second ++ (bay_flags (bay0 m.bays) ++ bay_flags (bay1 m.bays)))

  abbrev numbers : List ℕ
  numbers =
      m.straps ∷ m.shared.bay_count ∷ m.shared.lock_time ∷ m.shared.wait_time ∷ m.phase
      ∷ (second_numbers m.second ++ (numbers_with (bay0 m.bays) pulse-0 wait-0 ++ numbers_with (bay1 m.bays) pulse-1 wait-1))

  pub put_together :
      kind ≡ is_second m.kind → named ≡ is_second m.named
      → pulse-0 ≡ two_bytes (bay0 m.bays).pulse → wait-0 ≡ two_bytes (bay0 m.bays).wait
      → pulse-1 ≡ two_bytes (bay1 m.bays).pulse → wait-1 ≡ two_bytes (bay1 m.bays).wait
      → progress ≡ progress_bytes s.progress
      → LAYOUT ∷ (map bool_byte flags ++ (numbers ++ three progress)) ≡ saved s
  unfolding saved
  put_together k n p w q v c =
      ap (λ l. LAYOUT ∷ (l ++ (numbers ++ three progress))) (cast_flags flags)
      ∙ rw (k, n, p, w, q, v, c) (ap (λ l. LAYOUT ∷ (map flag_byte (flags_of m) ++ (numbers_of m ++ l))) (three_are s.progress))

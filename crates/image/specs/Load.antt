-- What bytes are: no image, or the image of a state, fit or not.
use Rattle.std.specs.Prelude.{ℕ, ◌+◌, ◌-◌, Bool, true, false, cond, ◌&&◌, ◌||◌, List, [], ◌∷◌, map, eqb, leb, length, get_or, take, drop}
use Rattle.std.specs.Prelude.{Option, Some, None, Result, Ok, Err}
use Rattle.pairs.specs.Pairs.{wide}
use Rattle.bus.specs.declared.Progress.{Progress}
use Rattle.bus.specs.declared.Progress.TheVariants.{Idle, Opened, Addressed, Register, Data, Again, Reading, Writing, Sending}
use Rattle.kind.specs.Kind.{kind_by}
use Rattle.second.specs.declared.Second.{Second}
use Rattle.bay.specs.declared.Bay.{Bay}
use Rattle.machine.specs.declared.Machine.{Machine}
use Rattle.dock.specs.Record.{fresh_controller}
use Rattle.dock.specs.declared.Controller.{Controller}
use Rattle.image.specs.Layout.{LAYOUT, BYTES, FLAGS, NUMBERS, PROGRESS}
use Rattle.image.specs.declared.Flaw.TheVariants.{NotAFlag, NotUsed, UnknownProgress, UnknownVersion, WrongLength}
use Rattle.image.specs.declared.Flaw.{Flaw}
use Rattle.image.specs.declared.Loaded.{Loaded}

-- ---- the parts of an image

abbrev pub byte_at : List ℕ → ℕ → ℕ
byte_at bytes i = get_or bytes i 0

abbrev pub flag_bytes : List ℕ → List ℕ
flag_bytes bytes = take (NUMBERS - FLAGS) (drop FLAGS bytes)

abbrev pub numbers_in : List ℕ → List ℕ
numbers_in bytes = take (PROGRESS - NUMBERS) (drop NUMBERS bytes)

-- ---- every byte string is answered

abbrev pub all_flags : List ℕ → Bool
all_flags [] = true
all_flags (b ∷ bs) = leb b 1 && all_flags bs

-- How many bytes come before the first above 1.
unfoldable pub first_over : List ℕ → ℕ
first_over [] = 0
first_over (b ∷ bs) = cond (leb b 1) (1 + first_over bs) 0

-- What bytes are: an image, or no image and why.
abbrev pub Verdict : Type 0
Verdict = Result (Unit {0}) Flaw

-- From a register byte on (3) a command in progress holds one byte; with a data byte (4), or sending (8), two; 8 is the last.
unfoldable pub progress_verdict : ℕ → ℕ → ℕ → Verdict
progress_verdict which first second =
    cond (leb which 8)
    (cond (leb 3 which || eqb first 0)
    (cond (eqb which 4 || eqb which 8 || eqb second 0) (Ok tt) (Err (NotUsed (PROGRESS + 2))))
    (Err (NotUsed (PROGRESS + 1))))
    (Err UnknownProgress)

-- Not an image: wrong length, unknown version, a flag above 1, an unknown progress, a byte that the progress doesn't use and that
-- isn't 0.
unfoldable pub sized_verdict : List ℕ → Verdict
sized_verdict bytes =
    cond (eqb (byte_at bytes 0) LAYOUT)
    (cond (all_flags (flag_bytes bytes))
    (progress_verdict (byte_at bytes PROGRESS) (byte_at bytes (PROGRESS + 1)) (byte_at bytes (PROGRESS + 2)))
    (Err (NotAFlag (FLAGS + first_over (flag_bytes bytes)))))
    (Err UnknownVersion)

unfoldable pub verdict_on : List ℕ → Verdict
verdict_on bytes = cond (eqb (length bytes) BYTES) (sized_verdict bytes) (Err WrongLength)

abbrev pub whole : Verdict → Bool
whole (Ok t) = true
whole (Err why) = false

unfoldable pub is_image : List ℕ → Bool
is_image bytes = whole (verdict_on bytes)

-- ---- the state of an image

abbrev pub is_set : ℕ → Bool
is_set b = eqb b 1

-- A bay from its fourteen flags and its nine numbers.
abbrev pub bay_by : List Bool → List ℕ → Bay
bay_by flags numbers =
    record {
      levels = flag 0 ∷ flag 1 ∷ flag 2 ∷ [];
      accepted = flag 3 ∷ flag 4 ∷ flag 5 ∷ [];
      counts = number 0 ∷ number 1 ∷ number 2 ∷ [];
      n_sl = flag 6;
      state = number 3;
      remreq_sts = flag 7;
      devstschg = flag 8;
      control =
          record {
            lock_ctl = flag 9;
            request = number 4;
            remreq_en = flag 10;
            devstschg_en = flag 11;
            remevtwak_en = flag 12;
            pwr_ctl = flag 13;
          };
      pulse = wide (number 5) (number 6);
      wait = wide (number 7) (number 8);
    }
  where
    flag : ℕ → Bool
    flag i = get_or flags i false

    number : ℕ → ℕ
    number i = get_or numbers i 0

-- The second kind's own registers, from their seven flags and seven numbers.
abbrev pub second_by : List Bool → List ℕ → Second
second_by flags numbers =
    record {
      subsystem = number 0 ∷ number 1 ∷ number 2 ∷ number 3 ∷ [];
      subsystem_written = flag 0 ∷ flag 1 ∷ flag 2 ∷ flag 3 ∷ [];
      form_factors = number 4 ∷ number 5 ∷ [];
      form_factors_written = flag 4 ∷ flag 5 ∷ [];
      sfr = number 6;
      sfr_written = flag 6;
    }
  where
    flag : ℕ → Bool
    flag i = get_or flags i false

    number : ℕ → ℕ
    number i = get_or numbers i 0

-- A machine from its flags and its numbers.
abbrev pub machine_by : List Bool → List ℕ → Machine
machine_by flags numbers =
    record {
      started = get_or flags 0 false;
      straps = get_or numbers 0 0;
      kind = kind_by (get_or flags 1 false);
      named = kind_by (get_or flags 2 false);
      shared =
          record {
            dbccr_written = get_or flags 3 false;
            seclock = get_or flags 4 false;
            bay_count = get_or numbers 1 0;
            lock_time = get_or numbers 2 0;
            wait_time = get_or numbers 3 0;
          };
      second = second_by (take 7 (drop 5 flags)) (take 7 (drop 5 numbers));
      phase = get_or numbers 4 0;
      bays = bay_by (take 14 (drop 12 flags)) (take 9 (drop 12 numbers)) ∷ bay_by (drop 26 flags) (drop 21 numbers) ∷ [];
    }

abbrev pub progress_by : ℕ → ℕ → ℕ → Progress
progress_by which first second =
    get_or (Idle ∷ Opened ∷ Addressed ∷ Register first ∷ Data first second ∷ Again first ∷ Reading first ∷ Writing first ∷ Sending first second ∷ []) which Idle

abbrev pub machine_in : List ℕ → Machine
machine_in bytes = machine_by (map is_set (flag_bytes bytes)) (numbers_in bytes)

unfoldable pub state_in : List ℕ → Controller
state_in bytes =
    record {
      machine = machine_in bytes;
      progress = progress_by (byte_at bytes PROGRESS) (byte_at bytes (PROGRESS + 1)) (byte_at bytes (PROGRESS + 2));
    }

-- Bytes that are no image have no state.
abbrev pub checked_by : Verdict → List ℕ → Result Controller Flaw
checked_by (Ok t) bytes = Ok (state_in bytes)
checked_by (Err why) bytes = Err why

unfoldable pub checked_of : List ℕ → Result Controller Flaw
checked_of bytes = checked_by (verdict_on bytes) bytes

-- Beside a verdict that the bytes are no image stands a fresh state.
abbrev pub state_by : Verdict → List ℕ → Controller
state_by (Ok t) bytes = state_in bytes
state_by (Err why) bytes = fresh_controller

unfoldable pub load_of : List ℕ → Loaded
load_of bytes = record { verdict = verdict_on bytes; controller = state_by (verdict_on bytes) bytes }

-- The state alone, without why there is none.
unfoldable pub state_of : List ℕ → Option Controller
state_of bytes = cond (is_image bytes) (Some (state_in bytes)) None

-- A command broken off counts for nothing: the controller that heard it and the one that heard only what stays of it come to the same
-- state, so that nothing later can tell them apart. By induction on the rest of the command. Assumes nothing.
use Rattle.machine.specs.Record.{fits}
use Rattle.kind.specs.Kind.{numbered}
use Rattle.dock.specs.Step.{takes}
use Prim.Native.Nat.{ℕ}
use Rattle.event.specs.declared.Event.TheVariants.{Start, Stop, Byte, Take, Pins, Tick, Reset, Timeout}
use Rattle.bus.specs.declared.Progress.TheVariants.{Idle, Opened, Addressed, Register, Data, Again, Reading, Writing, Sending}
use Rattle.dock.specs.declared.Turn.{Turn}
use Rattle.dock.specs.Run.{Call, word, naming as names, after_calls}
use Rattle.kind.specs.declared.Kind.TheVariants.{First, Second}
use Rattle.demand.specs.Broken.{no_write, quiet, Breaks, pins, tick, naming, goes_on, spent, timeout, reset, BrokenOff, opened, struck, strike}
use mathlib.Core.Bool.{Bool, ◌||◌, cond, false, true, true≢false}
use Rattle.demand.specs.Bus.{Bus, bytes_in, fills}
use Rattle.demand.proofs.Follows.{BusDeed, bus_deed, calls_run, run, turn_is, with}
use Rattle.dock.specs.declared.Controller.{Controller}
use Rattle.event.specs.declared.Event.{Event}
use Rattle.demand.specs.Acts.{Happening, Is, event, name, a_byte, a_start, a_take, a_stop}
use Rattle.kind.specs.declared.Kind.{Kind}
use mathlib.Core.List.{List, [], ◌++◌, ◌∷◌}
use Rattle.machine.specs.declared.Machine.{Machine}
use Rattle.bus.specs.declared.Progress.{Progress}
use Rattle.demand.proofs.Commands.{Stands, bus_lands, bus_turn, deed_acts, held_by, since_after}
use mathlib.Core.Path.{◌∙◌, ◌≡◌, ap, refl, subst, sym}
use Rattle.demand.specs.Words.{accepted}
use native.Mathlib.Omega.{arith}
use Rattle.demand.specs.Described.{completes, decides, is_going_on}
use Rattle.machine.specs.Acts.{does, name_to, pins_to, tick_to}
use Rattle.dock.specs.Events.{done, next, turn_of}
use Rattle.demand.specs.Commands.{first_completes, first_decides, first_goes_on, read_form, value, write_form, whole, register}
use Rattle.bus.specs.Progress.{known_to, own_read_byte, own_write_byte, started, started_known}
use lib.ListN.{length}
use Rattle.demand.proofs.Forms.{none_begins}
use Rattle.machine.specs.InForce.{reading}
use Rattle.demand.specs.Transfers.{second_completes, second_decides, second_goes_on}
use Rattle.event.specs.Words.{unpacked}
use Rattle.machine.specs.declared.Act.TheVariants as act
use Rattle.std.specs.Prelude.{Result, Ok, Err, None, Option, Some}
use Rattle.event.specs.declared.NoEvent.{NoEvent}
use Rattle.machine.specs.declared.Act.{Act}
use Rattle.kind.specs.declared.UnknownKind.{UnknownKind}

-- A command with no bus events isn't open.
pub none_open : (k : Kind) (straps : ℕ) (p : Progress) (v : ℕ) → Stands k straps p [] v → p ≡ Idle
unfolding Stands
none_open k straps Idle v x = refl
none_open k straps Opened v x = absurd (omega (arith, ap length x))
none_open k straps Addressed v x = absurd (omega (arith, ap length x))
none_open k straps (Register r) v x = absurd (omega (arith, ap length x))
none_open First straps (Data r d) v x = absurd (omega (arith, ap length x))
none_open Second straps (Data r d) v x = absurd x
none_open k straps (Again r) v x = absurd (omega (arith, ap length x))
none_open First straps (Reading y) v x = absurd (omega (arith, ap length x.1))
none_open Second straps (Reading y) v x = absurd x
none_open First straps (Writing n) v x = absurd x
none_open Second straps (Writing n) v x = absurd (omega (arith, ap length x.3))
none_open First straps (Sending n y) v x = absurd x
none_open Second straps (Sending n y) v x = absurd (omega (arith, ap length x.2))

-- ---- what is decided is no write

-- In the first kind only the STOP of a whole write decides one.
first_no_write : (s : ℕ) (es : List Bus) → completes First s es ≡ false → no_write (decides First s es) ≡ true
unfolding completes decides first_completes first_decides
first_no_write s es c = go (fills (write_form s).to_decide es) (fills (read_form s).to_decide es) c
  where
    go :
        (w r : Bool) → (w || (fills (whole (read_form s)) es || false)) ≡ false
        → no_write (cond w (act.Write (register (bytes_in es)) (value (bytes_in es)) ∷ []) [] ++ (cond r (act.Read (register (bytes_in es)) ∷ []) [] ++ [])) ≡ true
    go true r n = absurd (true≢false n)
    go false true n = refl
    go false false n = refl

no_write_lem : (k : Kind) (s : ℕ) (es : List Bus) → completes k s es ≡ false → quiet k s es ≡ true → no_write (decides k s es) ≡ true
no_write_lem First s es c q = first_no_write s es c
no_write_lem Second s es c q = q

-- What a deed that is no write leaves.
left_by : (d : Option Act) → BusDeed d → no_write (deed_acts d) ≡ true → (m : Machine) → done d m ≡ m
unfolding BusDeed does
left_by None h n m = refl
left_by (Some (act.Write r v)) h n m = absurd (true≢false (sym n))
left_by (Some (act.Read r)) h n m = refl
left_by (Some (act.Pins levels)) h n m = absurd h
left_by (Some act.Tick) h n m = absurd h
left_by (Some (act.Reset straps levels short)) h n m = absurd h
left_by (Some (act.Name k)) h n m = absurd h

-- ---- a bus event of a command

module _ (m : Machine) (p : Progress) (xs : List Bus) (v : ℕ) (h : Stands m.kind m.straps p xs v) where
  -- Where the line has come to, the command stands, and the machine is as it was.
  pub record Passes (e : Event) (since : List Bus) : Type 0 where
    pub held : ℕ
    pub left : next (with m p) e ≡ with m (next (with m p) e).progress
    pub stands : Stands m.kind m.straps (next (with m p) e).progress since held

  passes :
      {e : Event} {b : Bus} (i : Is e b) (since : List Bus) → since_after m.kind m.straps xs b ≡ since
      → no_write (decides m.kind m.straps (xs ++ (b ∷ []))) ≡ true → Passes e since
  unfolding next
  passes {e} {b} i since c n =
      let l = bus_lands m.straps (reading m) xs v m.kind p h b in
      let t : Turn = bus_turn m.kind m.straps (reading m) p b in
      let is : turn_of (with m p) e ≡ t = turn_is m xs v p i in
      let there : l.since ≡ since = sym l.line ∙ c in
      let same : done (turn_of (with m p) e).deed m ≡ m = ap (λ (u : Turn). done u.deed m) is ∙ left_by t.deed (bus_deed m.kind m.straps (reading m) p b) (ap no_write l.acts ∙ n) m in
      record {
        held = held_by (reading m) v t.deed;
        left = ap (λ k. with k (turn_of (with m p) e).progress) same;
        stands =
            subst (λ (u : Turn). Stands m.kind m.straps u.progress since (held_by (reading m) v t.deed)) (sym is)
            (subst (λ s. Stands m.kind m.straps t.progress s (held_by (reading m) v t.deed)) there l.stands);
      }

-- ---- the rest of a command that is broken off

struck_bus : {e : Event} {b : Bus} → Is e b → (rest : List Happening) → struck (event e ∷ rest) ≡ struck rest
unfolding struck
struck_bus a_start rest = refl
struck_bus a_stop rest = refl
struck_bus a_byte rest = refl
struck_bus a_take rest = refl

breaks_same :
    {k : Kind} {straps : ℕ} {xs : List Bus} {rest : List Happening} → Breaks k straps xs rest
    → (m : Machine) → m.kind ≡ k → m.straps ≡ straps → (p : Progress) (v : ℕ) → Stands m.kind m.straps p xs v
    → run (with m p) rest ≡ run (with m Idle) (struck rest)
unfolding run struck next turn_of does pins_to tick_to name_to
breaks_same (pins levels b) m k q p v h = breaks_same b (pins_to levels m) k q p v h
breaks_same (tick b) m k q p v h = breaks_same b (tick_to m) k q p v h
breaks_same (naming n b) m k q p v h = breaks_same b (name_to n m) k q p v h
breaks_same (goes_on {since = xs} {rest = rest} {e = e} {b = x} i g c u b) m k q p v h =
    let quietly = no_write_lem m.kind m.straps (xs ++ (x ∷ [])) (rw (k, q) c) (rw (k, q) u) in
    let n = passes m p xs v h i (xs ++ (x ∷ [])) (rw (k, q, g, c)) quietly in
    ap (λ s. run s rest) n.left ∙ breaks_same b m k q (next (with m p) e).progress n.held n.stands ∙ ap (run (with m Idle)) (sym (struck_bus i rest))
breaks_same (spent {since = xs} {e = e} {b = x} i g) m k q p v h =
    let nothing = (none_begins m.kind m.straps (xs ++ (x ∷ [])) (rw (k, q) g)).undecided in
    let n = passes m p xs v h i [] (rw (k, q, g)) (ap no_write nothing) in
    n.left ∙ ap (with m) (none_open m.kind m.straps _ n.held n.stands) ∙ ap (run (with m Idle)) (sym (struck_bus i []))
breaks_same timeout m k q p v h = refl
breaks_same (reset s levels short) m k q p v h = refl

-- From its opening START.
pub broken_same : (m : Machine) (c : List Happening) → BrokenOff m.kind m.straps c → run (with m Idle) c ≡ run (with m Idle) (struck c)
unfolding run struck next turn_of started started_known known_to Stands
broken_same m c (opened k) = breaks_same k m refl refl Opened 0 refl

-- ---- calls

-- Striking the bus events from the calls strikes them from what is accepted.
Strikes : List Call → Bool → Type 0
Strikes cs begun = accepted begun (strike cs) ≡ struck (accepted begun cs)

word_strike : (w : ℕ) (cs : List Call) → ((b : Bool) → Strikes cs b) → (u : Result Event NoEvent) → unpacked w ≡ u → (begun : Bool) → Strikes (word w ∷ cs) begun
unfolding Strikes accepted strike struck takes
word_strike w cs further (Err why) p begun = rw (p, p) (further begun)
word_strike w cs further (Ok Start) p true = rw p (further true)
word_strike w cs further (Ok Start) p false = rw p (further false)
word_strike w cs further (Ok Stop) p true = rw p (further true)
word_strike w cs further (Ok Stop) p false = rw p (further false)
word_strike w cs further (Ok (Byte b)) p true = rw p (further true)
word_strike w cs further (Ok (Byte b)) p false = rw p (further false)
word_strike w cs further (Ok (Take ack)) p true = rw p (further true)
word_strike w cs further (Ok (Take ack)) p false = rw p (further false)
word_strike w cs further (Ok (Pins levels)) p true = rw (p, p) (ap (λ l. event (Pins levels) ∷ l) (further true))
word_strike w cs further (Ok (Pins levels)) p false = rw (p, p) (further false)
word_strike w cs further (Ok Tick) p true = rw (p, p) (ap (λ l. event Tick ∷ l) (further true))
word_strike w cs further (Ok Tick) p false = rw (p, p) (further false)
word_strike w cs further (Ok (Reset straps levels short)) p true = rw (p, p) (ap (λ l. event (Reset straps levels short) ∷ l) (further true))
word_strike w cs further (Ok (Reset straps levels short)) p false = rw (p, p) (ap (λ l. event (Reset straps levels short) ∷ l) (further true))
word_strike w cs further (Ok Timeout) p true = rw (p, p) (ap (λ l. event Timeout ∷ l) (further true))
word_strike w cs further (Ok Timeout) p false = rw (p, p) (further false)

name_strike : (n : ℕ) (cs : List Call) → ((b : Bool) → Strikes cs b) → (u : Result Kind UnknownKind) → numbered n ≡ u → (begun : Bool) → Strikes (names n ∷ cs) begun
unfolding Strikes accepted strike struck
name_strike n cs further (Ok k) p begun = rw p (ap (λ l. name k ∷ l) (further begun))
name_strike n cs further (Err why) p begun = rw p (further begun)

pub strike_accepted : (cs : List Call) (begun : Bool) → accepted begun (strike cs) ≡ struck (accepted begun cs)
unfolding Strikes accepted strike struck
strike_accepted [] begun = refl
strike_accepted (word w ∷ cs) begun = word_strike w cs (strike_accepted cs) (unpacked w) refl begun
strike_accepted (names n ∷ cs) begun = name_strike n cs (strike_accepted cs) (numbered n) refl begun

-- So with no command open, the calls of a command broken off leave what the calls that stay leave.
pub calls_same :
    (s : Controller) (cs : List Call) → fits s.machine ≡ true → s.progress ≡ Idle
    → BrokenOff s.machine.kind s.machine.straps (accepted s.machine.started cs) → after_calls s cs ≡ after_calls s (strike cs)
calls_same s cs f i k =
    calls_run cs s f ∙ ap (λ t. run t c) whole ∙ broken_same s.machine c k ∙ ap (λ t. run t (struck c)) (sym whole)
    ∙ ap (run s) (sym (strike_accepted cs s.machine.started)) ∙ sym (calls_run (strike cs) s f)
  where
    c : List Happening
    c = accepted s.machine.started cs

    whole : s ≡ with s.machine Idle
    whole = ap (with s.machine) i

-- ---- such commands exist

-- A second data byte, with a tick between the bytes; and a read that a STOP ends instead of its TAKE.
pub a_write_broken_off :
    BrokenOff First 0 (event Start ∷ event (Byte 0x90) ∷ event Tick ∷ event (Byte 0x14) ∷ event (Byte 0x04) ∷ event (Byte 0x05) ∷ [])
unfolding is_going_on completes first_goes_on first_completes own_write_byte own_read_byte
a_write_broken_off = opened (goes_on a_byte refl refl refl (tick (goes_on a_byte refl refl refl (goes_on a_byte refl refl refl (spent a_byte refl)))))

pub a_read_broken_off :
    BrokenOff First 0 (event Start ∷ event (Byte 0x90) ∷ event (Byte 0x10) ∷ event Start ∷ event (Byte 0x91) ∷ event Stop ∷ [])
unfolding is_going_on completes first_goes_on first_completes own_write_byte own_read_byte
a_read_broken_off =
    opened (goes_on a_byte refl refl refl (goes_on a_byte refl refl refl (goes_on a_start refl refl refl (goes_on a_byte refl refl refl (spent a_stop refl)))))

-- In the second kind: a read with a byte taken and another read ahead; and a transfer that ends before its first data byte.
pub a_second_read_broken_off :
    BrokenOff Second 0
    (event Start ∷ event (Byte 0x90) ∷ event (Byte 0xFF) ∷ event Start ∷ event (Byte 0x91) ∷ event (Take true) ∷ name First ∷ event Stop ∷ [])
unfolding is_going_on completes decides second_goes_on second_completes second_decides own_write_byte own_read_byte
a_second_read_broken_off =
    opened
    (goes_on a_byte refl refl refl (goes_on a_byte refl refl refl (goes_on a_start refl refl refl (goes_on a_byte refl refl refl (goes_on a_take refl refl refl (naming First (spent a_stop refl)))))))

pub a_second_write_broken_off : BrokenOff Second 0 (event Start ∷ event (Byte 0x90) ∷ event (Byte 0x10) ∷ event (Take false) ∷ [])
unfolding is_going_on completes decides second_goes_on second_completes second_decides own_write_byte own_read_byte
a_second_write_broken_off = opened (goes_on a_byte refl refl refl (goes_on a_byte refl refl refl (spent a_take refl)))

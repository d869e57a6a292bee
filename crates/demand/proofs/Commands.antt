-- The controller's progress and the paper's description of an open command go hand in hand, in either kind: at each point of a command the bus
-- events since its START are the ones that lead there, and each bus event takes both to the same next point, with the same act and the
-- same reply. By cases on the point. Assumes nothing.
use Rattle.dock.specs.declared.Turn.{Turn}
use Prim.Native.Nat.{ℕ, suc}
use Rattle.bus.specs.declared.Reply.TheVariants.{Ack, Driven, NoAck, NotDriven, Nothing}
use Rattle.machine.specs.declared.Act.{Act}
use Rattle.bus.specs.declared.Progress.TheVariants.{Addressed, Again, Data, Idle, Opened, Reading, Register, Sending, Writing}
use Rattle.demand.specs.Bus.{BYTE, Bus, START, STOP, TAKE, any_byte, stop, take_acked, take_nacked}
use Rattle.kind.specs.declared.Kind.TheVariants.{First, Second}
use Rattle.kind.specs.declared.Kind.{Kind}
use mathlib.Core.List.{List, [], ◌++◌, ◌∷◌, map}
use Rattle.bus.specs.declared.Progress.{Progress}
use Rattle.bus.specs.declared.Reply.{Reply}
use mathlib.Core.Path.{◌∙◌, ◌≡◌, ap, refl, sym}
use Rattle.dock.specs.Events.{byte_heard, ended, start_at, stop_at, take_known, read_at, stop_deed}
use Rattle.demand.specs.Described.{completes, decides, is_going_on}
use mathlib.Core.Bool.{cond, false, true, Bool}
use borrow.Author.Tests.{eq-eqb, eqb-true}
use lib.Dec.{eqb}
use Rattle.bus.specs.Progress.{heard, known_to, own_read_byte, own_write_byte, started, started_known, heard_known, holding, next_register}
use lib.ListN.{length}
use Rattle.demand.proofs.Forms.{none_begins, on_more, bytes_more, last_more, length_more, map_more, over_more, some_more, takes_more, within_more}
use Rattle.demand.specs.Transfers.{number_after, second_completes, second_decides, second_goes_on}
use Rattle.demand.specs.Commands.{first_completes, first_decides, first_goes_on}
use Rattle.machine.specs.declared.Act.TheVariants as act
use Rattle.std.specs.Prelude.{None, Option, Some}

-- The bus events that lead to a point of a command, for the controller with these straps, and the value that a read holds. No point of the
-- other kind is come to.
unfoldable pub Stands : Kind → ℕ → Progress → List Bus → ℕ → Type 0
Stands k s Idle xs v = xs ≡ []
Stands k s Opened xs v = xs ≡ START ∷ []
Stands k s Addressed xs v = xs ≡ START ∷ BYTE (own_write_byte s) ∷ []
Stands k s (Register r) xs v = xs ≡ START ∷ BYTE (own_write_byte s) ∷ BYTE r ∷ []
Stands First s (Data r d) xs v = xs ≡ START ∷ BYTE (own_write_byte s) ∷ BYTE r ∷ BYTE d ∷ []
Stands Second s (Data r d) xs v = ⊥
Stands k s (Again r) xs v = xs ≡ START ∷ BYTE (own_write_byte s) ∷ BYTE r ∷ START ∷ []
Stands First s (Reading x) xs v = (r : ℕ) × (xs ≡ START ∷ BYTE (own_write_byte s) ∷ BYTE r ∷ START ∷ BYTE (own_read_byte s) ∷ []) × (v ≡ x)
Stands Second s (Reading x) xs v = ⊥
Stands First s (Writing n) xs v = ⊥
Stands Second s (Writing n) xs v =
    (r : ℕ) × (d : ℕ) × (ds : List ℕ) × (xs ≡ START ∷ BYTE (own_write_byte s) ∷ BYTE r ∷ BYTE d ∷ map BYTE ds) × (n ≡ number_after (suc (length ds)) r)
Stands First s (Sending n x) xs v = ⊥
Stands Second s (Sending n x) xs v =
    (r : ℕ) × (ks : List ℕ) × (xs ≡ START ∷ BYTE (own_write_byte s) ∷ BYTE r ∷ START ∷ BYTE (own_read_byte s) ∷ map (λ k. TAKE true) ks)
    × (n ≡ number_after (length ks) r)
    × (v ≡ x)

-- ---- what a bus event comes to

-- In the controller: of this kind, with these straps and registers that read so.
abbrev pub bus_turn : Kind → ℕ → (ℕ → ℕ) → Progress → Bus → Turn
bus_turn k s reads p START = start_at k p
bus_turn k s reads p STOP = stop_at k p
bus_turn k s reads p (BYTE b) = byte_heard k reads (heard k s b p)
bus_turn k s reads p (TAKE ack) = take_known k reads ack (known_to k p)

abbrev pub deed_acts : Option Act → List Act
deed_acts None = []
deed_acts (Some a) = a ∷ []

-- The value read last, then.
abbrev pub held_by : (ℕ → ℕ) → ℕ → Option Act → ℕ
held_by reads v None = v
held_by reads v (Some (act.Write r x)) = v
held_by reads v (Some (act.Read r)) = reads r
held_by reads v (Some (act.Pins levels)) = v
held_by reads v (Some act.Tick) = v
held_by reads v (Some (act.Reset straps levels short)) = v
held_by reads v (Some (act.Name k)) = v

-- By the description.
abbrev pub since_after : Kind → ℕ → List Bus → Bus → List Bus
since_after k s xs b = cond (is_going_on k s (xs ++ (b ∷ []))) (cond (completes k s (xs ++ (b ∷ []))) [] (xs ++ (b ∷ []))) []

abbrev pub reply_bus : Kind → ℕ → List Bus → ℕ → Bus → Reply
reply_bus k s xs v START = Nothing
reply_bus k s xs v STOP = Nothing
reply_bus k s xs v (BYTE b) = cond (is_going_on k s (xs ++ (BYTE b ∷ []))) Ack NoAck
reply_bus k s xs v (TAKE ack) = cond (is_going_on k s (xs ++ (TAKE ack ∷ []))) (Driven v) NotDriven

pub record Lands (k : Kind) (s : ℕ) (reads : ℕ → ℕ) (p : Progress) (xs : List Bus) (v : ℕ) (b : Bus) : Type 0 where
  pub since : List Bus
  pub acts : deed_acts (bus_turn k s reads p b).deed ≡ decides k s (xs ++ (b ∷ []))
  pub line : since_after k s xs b ≡ since
  pub stands : Stands k s (bus_turn k s reads p b).progress since (held_by reads v (bus_turn k s reads p b).deed)
  pub replies : (bus_turn k s reads p b).reply ≡ reply_bus k s xs v b

-- ---- point by point

module _ (s : ℕ) (reads : ℕ → ℕ) (xs : List Bus) (v : ℕ) where
  -- An own byte is the next one.
  own : eqb (own_write_byte s) (own_write_byte s) ≡ true
  own = eq-eqb (own_write_byte s) (own_write_byte s) refl

  own_read : eqb (own_read_byte s) (own_read_byte s) ≡ true
  own_read = eq-eqb (own_read_byte s) (own_read_byte s) refl

  -- A bus event that isn't the next of a form ends the command, with this reply, and decides nothing.
  abbrev spent_reply : Bus → Reply
  spent_reply START = Nothing
  spent_reply STOP = Nothing
  spent_reply (BYTE b) = NoAck
  spent_reply (TAKE ack) = NotDriven

  spent_is : (k : Kind) (b : Bus) → is_going_on k s (xs ++ (b ∷ [])) ≡ false → reply_bus k s xs v b ≡ spent_reply b
  spent_is k START g = refl
  spent_is k STOP g = refl
  spent_is k (BYTE b) g = rw g
  spent_is k (TAKE ack) g = rw g

  spent : (k : Kind) (p : Progress) (b : Bus) → is_going_on k s (xs ++ (b ∷ [])) ≡ false → bus_turn k s reads p b ≡ ended (spent_reply b) → Lands k s reads p xs v b
  unfolding Stands
  spent k p b g t =
      record {
        since = [];
        acts = rw (t, (none_begins k s (xs ++ (b ∷ [])) g).undecided);
        line = rw g;
        stands = rw t refl;
        replies = ap (λ (x : Turn). x.reply) t ∙ sym (spent_is k b g);
      }

  -- ---- START

  at_start : (k : Kind) (p : Progress) → Stands k s p xs v → Lands k s reads p xs v START
  unfolding Stands is_going_on completes decides first_goes_on first_completes first_decides second_goes_on second_completes second_decides started started_known known_to
  at_start First Idle x = record { since = START ∷ []; acts = rw x; line = rw x; stands = refl; replies = refl }
  at_start Second Idle x = record { since = START ∷ []; acts = rw x; line = rw x; stands = refl; replies = refl }
  at_start First Opened x = spent First Opened START (rw x) refl
  at_start Second Opened x = spent Second Opened START (rw x) refl
  at_start First Addressed x = spent First Addressed START (rw (x, own)) refl
  at_start Second Addressed x = spent Second Addressed START (rw (x, own)) refl
  at_start First (Register r) x =
      record { since = START ∷ BYTE (own_write_byte s) ∷ BYTE r ∷ START ∷ []; acts = rw (x, own); line = rw (x, own); stands = refl; replies = refl }
  at_start Second (Register r) x =
      record { since = START ∷ BYTE (own_write_byte s) ∷ BYTE r ∷ START ∷ []; acts = rw (x, own); line = rw (x, own); stands = refl; replies = refl }
  at_start First (Data r d) x = spent First (Data r d) START (rw (x, own)) refl
  at_start Second (Data r d) x = absurd x
  at_start First (Again r) x = spent First (Again r) START (rw (x, own)) refl
  at_start Second (Again r) x = spent Second (Again r) START (rw (x, own)) refl
  at_start First (Reading y) x = spent First (Reading y) START (rw (x.1, own, own_read)) refl
  at_start Second (Reading y) x = absurd x
  at_start First (Writing n) x = absurd x
  at_start Second (Writing n) x = spent Second (Writing n) START (rw (x.3, own, on_more any_byte stop BYTE (λ _. refl) (λ _. refl) x.2 START)) refl
  at_start First (Sending n y) x = absurd x
  at_start Second (Sending n y) x =
      spent Second (Sending n y) START (rw (x.2, own, own_read, on_more take_acked take_nacked (λ k. TAKE true) (λ _. refl) (λ _. refl) x.1 START)) refl

  -- ---- STOP

  at_stop_lem : (k : Kind) (p : Progress) → Stands k s p xs v → Lands k s reads p xs v STOP
  unfolding Stands is_going_on completes decides first_goes_on first_completes first_decides second_goes_on second_completes second_decides stop_deed known_to
  at_stop_lem First Idle x = spent First Idle STOP (rw x) refl
  at_stop_lem Second Idle x = spent Second Idle STOP (rw x) refl
  at_stop_lem First Opened x = spent First Opened STOP (rw x) refl
  at_stop_lem Second Opened x = spent Second Opened STOP (rw x) refl
  at_stop_lem First Addressed x = spent First Addressed STOP (rw (x, own)) refl
  at_stop_lem Second Addressed x = spent Second Addressed STOP (rw (x, own)) refl
  at_stop_lem First (Register r) x = spent First (Register r) STOP (rw (x, own)) refl
  at_stop_lem Second (Register r) x = record { since = []; acts = rw (x, own); line = rw (x, own); stands = refl; replies = refl }
  at_stop_lem First (Data r d) x = record { since = []; acts = rw (x, own); line = rw (x, own); stands = refl; replies = refl }
  at_stop_lem Second (Data r d) x = absurd x
  at_stop_lem First (Again r) x = spent First (Again r) STOP (rw (x, own)) refl
  at_stop_lem Second (Again r) x = spent Second (Again r) STOP (rw (x, own)) refl
  at_stop_lem First (Reading y) x = spent First (Reading y) STOP (rw (x.1, own, own_read)) refl
  at_stop_lem Second (Reading y) x = absurd x
  at_stop_lem First (Writing n) x = absurd x
  at_stop_lem Second (Writing n) x =
      record {
        since = [];
        acts = rw (x.3, own, within_more any_byte stop BYTE (λ _. refl) (λ _. refl) x.2 STOP);
        line = rw (x.3, own, on_more any_byte stop BYTE (λ _. refl) (λ _. refl) x.2 STOP, over_more any_byte stop BYTE (λ _. refl) (λ _. refl) x.2 STOP);
        stands = refl;
        replies = refl;
      }
  at_stop_lem First (Sending n y) x = absurd x
  at_stop_lem Second (Sending n y) x =
      spent Second (Sending n y) STOP (rw (x.2, own, own_read, on_more take_acked take_nacked (λ k. TAKE true) (λ _. refl) (λ _. refl) x.1 STOP)) refl

  -- ---- BYTE

  -- The own byte that a command waits for is the next one, and any other ends it.
  at_opened : (k : Kind) (b : ℕ) (t : Bool) → xs ≡ START ∷ [] → eqb b (own_write_byte s) ≡ t → Lands k s reads Opened xs v (BYTE b)
  unfolding Stands is_going_on completes decides first_goes_on first_completes first_decides second_goes_on second_completes second_decides byte_heard heard heard_known known_to
  at_opened First b true x e =
      record { since = START ∷ BYTE b ∷ []; acts = rw (x, e); line = rw (x, e); stands = rw e (ap (λ n. START ∷ BYTE n ∷ []) (eqb-true _ _ e)); replies = rw (x, e) }
  at_opened Second b true x e =
      record { since = START ∷ BYTE b ∷ []; acts = rw (x, e); line = rw (x, e); stands = rw e (ap (λ n. START ∷ BYTE n ∷ []) (eqb-true _ _ e)); replies = rw (x, e) }
  at_opened First b false x e = spent First Opened (BYTE b) (rw (x, e)) (rw e)
  at_opened Second b false x e = spent Second Opened (BYTE b) (rw (x, e)) (rw e)

  at_again :
      (k : Kind) (b r : ℕ) (t : Bool) → xs ≡ START ∷ BYTE (own_write_byte s) ∷ BYTE r ∷ START ∷ [] → eqb b (own_read_byte s) ≡ t → Lands k s reads (Again r) xs v (BYTE b)
  unfolding Stands is_going_on completes decides first_goes_on first_completes first_decides second_goes_on second_completes second_decides byte_heard read_at holding heard heard_known known_to
  at_again First b r true x e =
      record {
        since = START ∷ BYTE (own_write_byte s) ∷ BYTE r ∷ START ∷ BYTE b ∷ [];
        acts = rw (x, own, e);
        line = rw (x, own, e);
        stands = rw e (r, ap (λ n. START ∷ BYTE (own_write_byte s) ∷ BYTE r ∷ START ∷ BYTE n ∷ []) (eqb-true _ _ e), refl);
        replies = rw (x, own, e);
      }
  at_again Second b r true x e =
      record {
        since = START ∷ BYTE (own_write_byte s) ∷ BYTE r ∷ START ∷ BYTE b ∷ [];
        acts = rw (x, own, e);
        line = rw (x, own, e);
        stands = rw e (r, [], ap (λ n. START ∷ BYTE (own_write_byte s) ∷ BYTE r ∷ START ∷ BYTE n ∷ []) (eqb-true _ _ e), refl, refl);
        replies = rw (x, own, e);
      }
  at_again First b r false x e = spent First (Again r) (BYTE b) (rw (x, own, e)) (rw e)
  at_again Second b r false x e = spent Second (Again r) (BYTE b) (rw (x, own, e)) (rw e)

  at_byte_lem : (k : Kind) (b : ℕ) (p : Progress) → Stands k s p xs v → Lands k s reads p xs v (BYTE b)
  unfolding Stands is_going_on completes decides first_goes_on first_completes first_decides second_goes_on second_completes second_decides byte_heard heard heard_known known_to next_register
  at_byte_lem First b Idle x = spent First Idle (BYTE b) (rw x) refl
  at_byte_lem Second b Idle x = spent Second Idle (BYTE b) (rw x) refl
  at_byte_lem First b Opened x = at_opened First b (eqb b (own_write_byte s)) x refl
  at_byte_lem Second b Opened x = at_opened Second b (eqb b (own_write_byte s)) x refl
  at_byte_lem First b Addressed x =
      record { since = START ∷ BYTE (own_write_byte s) ∷ BYTE b ∷ []; acts = rw (x, own); line = rw (x, own); stands = refl; replies = rw (x, own) }
  at_byte_lem Second b Addressed x =
      record { since = START ∷ BYTE (own_write_byte s) ∷ BYTE b ∷ []; acts = rw (x, own); line = rw (x, own); stands = refl; replies = rw (x, own) }
  at_byte_lem First b (Register r) x =
      record { since = START ∷ BYTE (own_write_byte s) ∷ BYTE r ∷ BYTE b ∷ []; acts = rw (x, own); line = rw (x, own); stands = refl; replies = rw (x, own) }
  at_byte_lem Second b (Register r) x =
      record {
        since = START ∷ BYTE (own_write_byte s) ∷ BYTE r ∷ BYTE b ∷ [];
        acts = rw (x, own);
        line = rw (x, own);
        stands = (r, b, [], refl, refl);
        replies = rw (x, own);
      }
  at_byte_lem First b (Data r d) x = spent First (Data r d) (BYTE b) (rw (x, own)) refl
  at_byte_lem Second b (Data r d) x = absurd x
  at_byte_lem First b (Again r) x = at_again First b r (eqb b (own_read_byte s)) x refl
  at_byte_lem Second b (Again r) x = at_again Second b r (eqb b (own_read_byte s)) x refl
  at_byte_lem First b (Reading y) x = spent First (Reading y) (BYTE b) (rw (x.1, own, own_read)) refl
  at_byte_lem Second b (Reading y) x = absurd x
  at_byte_lem First b (Writing n) x = absurd x
  at_byte_lem Second b (Writing n) x =
      let ds = x.2 in
      record {
        since = START ∷ BYTE (own_write_byte s) ∷ BYTE x.0 ∷ BYTE x.1 ∷ map BYTE (ds ++ (b ∷ []));
        acts =
            rw (
              x.3,
              own,
              within_more any_byte stop BYTE (λ _. refl) (λ _. refl) ds (BYTE b),
              bytes_more ds b,
              some_more ds b,
              last_more ds b,
              length_more ds b,
              x.4,
            );
        line =
            rw (
              x.3,
              own,
              on_more any_byte stop BYTE (λ _. refl) (λ _. refl) ds (BYTE b),
              over_more any_byte stop BYTE (λ _. refl) (λ _. refl) ds (BYTE b),
              map_more BYTE ds b,
            );
        stands = (x.0, x.1, ds ++ (b ∷ []), refl, rw (length_more ds b, x.4));
        replies = rw (x.3, own, on_more any_byte stop BYTE (λ _. refl) (λ _. refl) ds (BYTE b));
      }
  at_byte_lem First b (Sending n y) x = absurd x
  at_byte_lem Second b (Sending n y) x =
      spent Second (Sending n y) (BYTE b) (rw (x.2, own, own_read, on_more take_acked take_nacked (λ k. TAKE true) (λ _. refl) (λ _. refl) x.1 (BYTE b))) refl

  -- ---- TAKE

  -- In an open read of the second kind: ACKed, and not.
  at_sending : (ack : Bool) (n y : ℕ) → Stands Second s (Sending n y) xs v → Lands Second s reads (Sending n y) xs v (TAKE ack)
  unfolding Stands is_going_on completes decides second_goes_on second_completes second_decides take_known read_at holding known_to next_register
  at_sending true n y x =
      let ks = x.1 in
      record {
        since = START ∷ BYTE (own_write_byte s) ∷ BYTE x.0 ∷ START ∷ BYTE (own_read_byte s) ∷ map (λ k. TAKE true) (ks ++ (0 ∷ []));
        acts =
            rw (
              x.2,
              own,
              own_read,
              within_more take_acked take_nacked (λ k. TAKE true) (λ _. refl) (λ _. refl) ks (TAKE true),
              takes_more ks,
              x.3,
            );
        line =
            rw (
              x.2,
              own,
              own_read,
              on_more take_acked take_nacked (λ k. TAKE true) (λ _. refl) (λ _. refl) ks (TAKE true),
              over_more take_acked take_nacked (λ k. TAKE true) (λ _. refl) (λ _. refl) ks (TAKE true),
              map_more (λ k. TAKE true) ks 0,
            );
        stands = (x.0, ks ++ (0 ∷ []), refl, rw (length_more ks 0, x.3), refl);
        replies = rw (x.2, own, own_read, on_more take_acked take_nacked (λ k. TAKE true) (λ _. refl) (λ _. refl) ks (TAKE true), x.4);
      }
  at_sending false n y x =
      let ks = x.1 in
      record {
        since = [];
        acts = rw (x.2, own, own_read, within_more take_acked take_nacked (λ k. TAKE true) (λ _. refl) (λ _. refl) ks (TAKE false));
        line =
            rw (
              x.2,
              own,
              own_read,
              on_more take_acked take_nacked (λ k. TAKE true) (λ _. refl) (λ _. refl) ks (TAKE false),
              over_more take_acked take_nacked (λ k. TAKE true) (λ _. refl) (λ _. refl) ks (TAKE false),
            );
        stands = refl;
        replies = rw (x.2, own, own_read, on_more take_acked take_nacked (λ k. TAKE true) (λ _. refl) (λ _. refl) ks (TAKE false), x.4);
      }

  at_take : (k : Kind) (ack : Bool) (p : Progress) → Stands k s p xs v → Lands k s reads p xs v (TAKE ack)
  unfolding Stands is_going_on completes decides first_goes_on first_completes first_decides second_goes_on second_completes second_decides take_known known_to
  at_take First ack Idle x = spent First Idle (TAKE ack) (rw x) refl
  at_take Second ack Idle x = spent Second Idle (TAKE ack) (rw x) refl
  at_take First ack Opened x = spent First Opened (TAKE ack) (rw x) refl
  at_take Second ack Opened x = spent Second Opened (TAKE ack) (rw x) refl
  at_take First ack Addressed x = spent First Addressed (TAKE ack) (rw (x, own)) refl
  at_take Second ack Addressed x = spent Second Addressed (TAKE ack) (rw (x, own)) refl
  at_take First ack (Register r) x = spent First (Register r) (TAKE ack) (rw (x, own)) refl
  at_take Second ack (Register r) x = spent Second (Register r) (TAKE ack) (rw (x, own)) refl
  at_take First ack (Data r d) x = spent First (Data r d) (TAKE ack) (rw (x, own)) refl
  at_take Second ack (Data r d) x = absurd x
  at_take First ack (Again r) x = spent First (Again r) (TAKE ack) (rw (x, own)) refl
  at_take Second ack (Again r) x = spent Second (Again r) (TAKE ack) (rw (x, own)) refl
  at_take First ack (Reading y) x =
      record { since = []; acts = rw (x.1, own, own_read); line = rw (x.1, own, own_read); stands = refl; replies = rw (x.1, own, own_read, x.2) }
  at_take Second ack (Reading y) x = absurd x
  at_take First ack (Writing n) x = absurd x
  at_take Second ack (Writing n) x = spent Second (Writing n) (TAKE ack) (rw (x.3, own, on_more any_byte stop BYTE (λ _. refl) (λ _. refl) x.2 (TAKE ack))) refl
  at_take First ack (Sending n y) x = absurd x
  at_take Second ack (Sending n y) x = at_sending ack n y x

  pub bus_lands : (k : Kind) (p : Progress) → Stands k s p xs v → (b : Bus) → Lands k s reads p xs v b
  bus_lands k p x START = at_start k p x
  bus_lands k p x STOP = at_stop_lem k p x
  bus_lands k p x (BYTE b) = at_byte_lem k b p x
  bus_lands k p x (TAKE ack) = at_take k ack p x

-- The wire cell before the controller (document 02, request 7): whatever waveform spells bus events, the plain machine of demand 3 has done the acts
-- of those events. So a whole command on the wires is done as a whole: a write is one act, and a read drives what the register held at its deciding
-- event. Each level of the waveform may last as long as it likes. Assumes nothing.
use Prim.Native.Nat.{ℕ}
use native.Mathlib.Omega.{arith}
use mathlib.Core.Path.{◌≡◌, refl, ap, sym, ◌∙◌}
use mathlib.Core.Bool.{Bool, true, false}
use mathlib.Core.List.{List, [], ◌∷◌, ◌++◌, map, append_assoc}
use lib.ListN.{length, take}
use lib.Dec.{eqb}
use borrow.Author.Tests.{eq-eqb}
use Rattle.kind.specs.declared.Kind.{Kind}
use Rattle.kind.specs.declared.Kind.TheVariants.{First, Second}
use Rattle.event.specs.Words.{unpacked, word_of}
use Rattle.event.specs.declared.Event.{Event}
use Rattle.event.specs.declared.Event.TheVariants.{Start, Stop, Byte, Take}
use Rattle.machine.specs.Acts.{does, does_all}
use Rattle.machine.specs.InForce.{reading}
use Rattle.machine.specs.declared.Machine.{Machine}
use Rattle.machine.specs.declared.Act.TheVariants.{Write, Read}
use Rattle.bus.specs.Progress.{own_write_byte, own_read_byte}
use Rattle.bus.specs.declared.Reply.TheVariants.{Driven}
use Rattle.dock.specs.Record.{fresh_controller}
use Rattle.dock.specs.Step.{takes, step_of}
use Rattle.machine.specs.Outputs.{outputs}
use Rattle.dock.specs.Run.{Call, word, after_calls}
use Rattle.dock.proofs.Run.{calls_append}
use Rattle.dock.specs.declared.Controller.{Controller}
use Rattle.machine.specs.Record.{fits}
use Rattle.wire.specs.Record.{fresh_wire}
use Rattle.wire.specs.Hear.{words_of}
use Rattle.wire.specs.Waves.{Wave}
use Rattle.wire.proofs.Spoken.{words_unpack}
use Rattle.wire.proofs.Theorems.{heard_as_spelled}
use Rattle.demand.specs.Acts.{Happening, event, none, Line, silent, line_after, acts_of, acts_at, meets, hears, on_bus, decided}
use Rattle.demand.specs.Described.{is_going_on, completes, decides}
use Rattle.demand.specs.Commands.{first_goes_on, first_completes, first_decides}
use Rattle.demand.specs.Transfers.{second_goes_on, second_completes, second_decides}
use Rattle.demand.specs.Words.{accepted}
use Rattle.demand.specs.Plain.{acts_after, machine_after, reply_to, to_word}
use Rattle.demand.proofs.Lists.{line_append, machine_append}
use Rattle.demand.proofs.Follows.{calls_beside, word_answer}
use Rattle.demand.proofs.Demand3.{after_every_event, reached_fit, reached_beside, from_there_on, read_at_the_deciding_event}
use Rattle.std.specs.Prelude.{Ok}
use Rattle.dock.specs.Answers.{done_with}

-- ---- the words that a waveform gives are accepted as its events

heard_accepted : (ws : List ℕ) (es : List Event) → map unpacked ws ≡ map Ok es → accepted true (map word ws) ≡ map event es
unfolding accepted takes
heard_accepted [] [] p = refl
heard_accepted [] (e ∷ es) p = absurd (omega (arith, ap length p))
heard_accepted (w ∷ ws) [] p = absurd (omega (arith, ap length p))
heard_accepted (w ∷ ws) (e ∷ es) p =
    let h : unpacked w ≡ Ok e = cc in
    let t : map unpacked ws ≡ map Ok es = cc in
    rw h (ap (λ hs. event e ∷ hs) (heard_accepted ws es t))

-- The controller after calls, and then after the samples of a waveform.
abbrev pub before : List Call → Machine
before cs = (after_calls fresh_controller cs).machine

abbrev pub after_wave : List Call → List ℕ → Machine
after_wave cs ss = (after_calls fresh_controller (cs ++ map word (words_of fresh_wire ss))).machine

-- What has been heard of the bus before it.
abbrev pub line_of : List Call → Line
line_of cs = line_after silent (accepted false cs)

-- ---- the machine does the acts of the events that the waveform spells

pub on_the_wires :
    (cs : List Call) (es : List Event) (ss : List ℕ) → (before cs).started ≡ true → Wave false true es ss
    → after_wave cs ss ≡ does_all (acts_of (line_of cs) (map event es)) (before cs)
unfolding acts_after
on_the_wires cs es ss b w =
    let s : (machine_after (accepted false cs)).started ≡ true = sym (ap (λ (m : Machine). m.started) (after_every_event cs).machine) ∙ b in
    let h : accepted true (map word (words_of fresh_wire ss)) ≡ map event es =
    heard_accepted (words_of fresh_wire ss) es (words_unpack fresh_wire ss ∙ ap (map Ok) (heard_as_spelled es ss w).events) in
    from_there_on cs (map word (words_of fresh_wire ss)) ∙ rw (s, h)

-- ---- a whole write

abbrev pub a_write : ℕ → ℕ → ℕ → List Event
a_write straps r v = Start ∷ Byte (own_write_byte straps) ∷ Byte r ∷ Byte v ∷ Stop ∷ []

own_byte : (straps : ℕ) → eqb (own_write_byte straps) (own_write_byte straps) ≡ true
own_byte straps = eq-eqb (own_write_byte straps) (own_write_byte straps) refl

write_acts : (k n : Kind) (straps r v : ℕ) → acts_of (record { straps = straps; kind = k; named = n; since = [] }) (map event (a_write straps r v)) ≡ Write r v ∷ []
unfolding acts_of acts_at meets hears on_bus decided is_going_on completes decides first_goes_on first_completes first_decides second_goes_on second_completes second_decides
write_acts First n straps r v = let own = own_byte straps in rw (own, own, own, own)
write_acts Second n straps r v = let own = own_byte straps in rw (own, own, own, own)

-- In either kind, with no transfer open before it.
pub whole_write_on_the_wires :
    (cs : List Call) (r v : ℕ) (ss : List ℕ) → (before cs).started ≡ true → (line_of cs).since ≡ [] → Wave false true (a_write (line_of cs).straps r v) ss
    → after_wave cs ss ≡ does (Write r v) (before cs)
unfolding does_all
whole_write_on_the_wires cs r v ss b o w =
    on_the_wires cs (a_write (line_of cs).straps r v) ss b w ∙ ap (λ done. does_all done (before cs)) (of_line (line_of cs) o)
  where
    of_line : (l : Line) → l.since ≡ [] → acts_of l (map event (a_write l.straps r v)) ≡ Write r v ∷ []
    of_line l e = ap (λ s. acts_of (record { straps = l.straps; kind = l.kind; named = l.named; since = s }) (map event (a_write l.straps r v))) e ∙ write_acts l.kind l.named l.straps r v

-- ---- a whole read

-- Up to its own read byte, and with it; the TAKE comes then.
abbrev pub to_read : ℕ → ℕ → List Event
to_read straps r = Start ∷ Byte (own_write_byte straps) ∷ Byte r ∷ Start ∷ []

abbrev pub a_read : ℕ → ℕ → List Event
a_read straps r = to_read straps r ++ (Byte (own_read_byte straps) ∷ [])

-- With no transfer open before it.
abbrev quiet : Kind → Kind → ℕ → Line
quiet k n straps = record { straps = straps; kind = k; named = n; since = [] }

own_read_byte_lem : (straps : ℕ) → eqb (own_read_byte straps) (own_read_byte straps) ≡ true
own_read_byte_lem straps = eq-eqb (own_read_byte straps) (own_read_byte straps) refl

-- Up to the own read byte nothing is decided, and it decides the read.
read_decided :
    (k n : Kind) (straps r : ℕ)
    → (acts_of (quiet k n straps) (map event (to_read straps r)) ≡ [])
    × (decided (line_after (quiet k n straps) (map event (to_read straps r))) (Byte (own_read_byte straps)) ≡ Read r ∷ [])
unfolding acts_of line_after acts_at meets hears on_bus decided is_going_on completes decides first_goes_on first_completes first_decides second_goes_on second_completes second_decides
read_decided First n straps r = let own = own_byte straps in rw (own, own, own, own, own_read_byte_lem straps) (refl, refl)
read_decided Second n straps r = let own = own_byte straps in rw (own, own, own, own, own_read_byte_lem straps) (refl, refl)

-- The machine is as it was before it, after its TAKE too.
read_leaves : (k n : Kind) (straps r : ℕ) (ack : Bool) (m : Machine) → does_all (acts_of (quiet k n straps) (map event (a_read straps r ++ (Take ack ∷ [])))) m ≡ m
unfolding does_all does acts_of line_after acts_at meets hears on_bus decided is_going_on completes decides first_goes_on first_completes first_decides second_goes_on second_completes second_decides
read_leaves First n straps r true m = let own = own_byte straps in let reads = own_read_byte_lem straps in rw (own, own, own, own, reads, own, reads) refl
read_leaves First n straps r false m = let own = own_byte straps in let reads = own_read_byte_lem straps in rw (own, own, own, own, reads, own, reads) refl
read_leaves Second n straps r true m = let own = own_byte straps in let reads = own_read_byte_lem straps in rw (own, own, own, own, reads, own, reads) refl
read_leaves Second n straps r false m = let own = own_byte straps in let reads = own_read_byte_lem straps in rw (own, own, own, own, reads, own, reads) refl

-- .. and before it.
read_leaves_so_far : (k n : Kind) (straps r : ℕ) (m : Machine) → does_all (acts_of (quiet k n straps) (map event (a_read straps r))) m ≡ m
unfolding does_all does acts_of line_after acts_at meets hears on_bus decided is_going_on completes decides first_goes_on first_completes first_decides second_goes_on second_completes second_decides
read_leaves_so_far First n straps r m = let own = own_byte straps in rw (own, own, own, own, own_read_byte_lem straps)
read_leaves_so_far Second n straps r m = let own = own_byte straps in rw (own, own, own, own, own_read_byte_lem straps)

-- The words of the waveform are those of the five events and the TAKE, and the TAKE is answered with what the register read before it all; the
-- machine is as it was.
pub record WholeRead (cs : List Call) (r : ℕ) (ack : Bool) (ss : List ℕ) : Type 0 where
  pub words : words_of fresh_wire ss ≡ map word_of (a_read (line_of cs).straps r) ++ (word_of (Take ack) ∷ [])
  pub answer :
      (step_of (after_calls fresh_controller (cs ++ map word (map word_of (a_read (line_of cs).straps r)))) (word_of (Take ack))).answer
      ≡ done_with (Driven (reading (before cs) r)) (outputs (before cs))
  pub machine : after_wave cs ss ≡ before cs

-- A line with no transfer open.
is_quiet : (l : Line) → l.since ≡ [] → l ≡ quiet l.kind l.named l.straps
is_quiet l o = ap (λ since. record { straps = l.straps; kind = l.kind; named = l.named; since = since }) o

-- The events up to the own read byte, as what happens to the controller.
abbrev read_here : List Call → ℕ → List Happening
read_here cs r = map event (a_read (line_of cs).straps r)

module _ (cs : List Call) (r : ℕ) (ack : Bool) (o : (line_of cs).since ≡ []) where
  line_is : line_of cs ≡ quiet (line_of cs).kind (line_of cs).named (line_of cs).straps
  line_is = is_quiet (line_of cs) o

  same_machine : machine_after (accepted false cs) ≡ before cs
  same_machine = sym (after_every_event cs).machine

  -- What leaves the machine as it was.
  leaves :
      (ys : List Happening) → does_all (acts_of (quiet (line_of cs).kind (line_of cs).named (line_of cs).straps) ys) (before cs) ≡ before cs
      → machine_after (accepted false cs ++ ys) ≡ before cs
  leaves ys h =
      machine_append (accepted false cs) ys ∙ ap (does_all (acts_of (line_of cs) ys)) same_machine
      ∙ ap (λ l. does_all (acts_of l ys) (before cs)) line_is ∙ h

  reply : reply_to (accepted false cs ++ read_here cs r) (Take ack) ≡ Driven (reading (before cs) r)
  unfolding does_all
  reply =
      let d = read_decided (line_of cs).kind (line_of cs).named (line_of cs).straps r in
      let xs = accepted false cs ++ map event (to_read (line_of cs).straps r) in
      let decides-it : decided (line_after silent xs) (Byte (own_read_byte (line_of cs).straps)) ≡ Read r ∷ [] =
      ap (λ l. decided l (Byte (own_read_byte (line_of cs).straps))) (line_append silent (accepted false cs) (map event (to_read (line_of cs).straps r)))
      ∙ ap (λ l. decided (line_after l (map event (to_read (line_of cs).straps r))) (Byte (own_read_byte (line_of cs).straps))) line_is ∙ d.1 in
      ap (λ hs. reply_to hs (Take ack)) (sym (append_assoc (accepted false cs) (map event (to_read (line_of cs).straps r)) (event (Byte (own_read_byte (line_of cs).straps)) ∷ [])))
      ∙ read_at_the_deciding_event xs [] (Byte (own_read_byte (line_of cs).straps)) r ack decides-it none
      ∙ ap (λ m. Driven (reading m r)) (leaves (map event (to_read (line_of cs).straps r)) (ap (λ done. does_all done (before cs)) d.0))

  after_take : machine_after ((accepted false cs ++ read_here cs r) ++ (event (Take ack) ∷ [])) ≡ before cs
  after_take =
      ap machine_after (append_assoc (accepted false cs) (read_here cs r) (event (Take ack) ∷ []))
      ∙ leaves (map event (a_read (line_of cs).straps r ++ (Take ack ∷ []))) (read_leaves (line_of cs).kind (line_of cs).named (line_of cs).straps r ack (before cs))

  -- After the waveform up to the own read byte, the TAKE's word is answered by what happened so far.
  answered : (before cs).started ≡ true → map unpacked (map word_of (a_read (line_of cs).straps r)) ≡ map Ok (a_read (line_of cs).straps r)
      → unpacked (word_of (Take ack)) ≡ Ok (Take ack)
      → (step_of (after_calls fresh_controller (cs ++ map word (map word_of (a_read (line_of cs).straps r)))) (word_of (Take ack))).answer
      ≡ done_with (Driven (reading (before cs) r)) (outputs (before cs))
  unfolding takes
  answered b u t =
      let ds = map word (map word_of (a_read (line_of cs).straps r)) in
      let happened : accepted (before cs).started ds ≡ read_here cs r = rw b (heard_accepted (map word_of (a_read (line_of cs).straps r)) (a_read (line_of cs).straps r) u) in
      let beside = calls_beside ds (after_calls fresh_controller cs) (accepted false cs) (reached_beside cs) (reached_fit cs) in
      ap (λ s. (step_of s (word_of (Take ack))).answer) (calls_append fresh_controller cs ds)
      ∙ word_answer (after_calls (after_calls fresh_controller cs) ds) _ beside (ap (λ (s : Controller). fits s.machine) (sym (calls_append fresh_controller cs ds)) ∙ reached_fit (cs ++ ds)) (word_of (Take ack))
      ∙ ap (λ hs. to_word (accepted false cs ++ hs) (unpacked (word_of (Take ack)))) happened
      ∙ ap (to_word (accepted false cs ++ read_here cs r)) t
      ∙ rw (leaves (read_here cs r) (read_leaves_so_far (line_of cs).kind (line_of cs).named (line_of cs).straps r (before cs)), b, reply, after_take)

pub whole_read_on_the_wires :
    (cs : List Call) (r : ℕ) (ack : Bool) (ss : List ℕ) → (before cs).started ≡ true → (line_of cs).since ≡ []
    → Wave false true (a_read (line_of cs).straps r ++ (Take ack ∷ [])) ss → WholeRead cs r ack ss
whole_read_on_the_wires cs r ack ss b o w =
    let heard = heard_as_spelled (a_read (line_of cs).straps r ++ (Take ack ∷ [])) ss w in
    let u : map unpacked (map word_of (a_read (line_of cs).straps r ++ (Take ack ∷ []))) ≡ map Ok (a_read (line_of cs).straps r ++ (Take ack ∷ [])) =
    ap (map unpacked) (sym heard.words) ∙ words_unpack fresh_wire ss ∙ ap (map Ok) heard.events in
    let five : map unpacked (map word_of (a_read (line_of cs).straps r)) ≡ map Ok (a_read (line_of cs).straps r) = ap (take 5) u in
    let last : unpacked (word_of (Take ack)) ≡ Ok (Take ack) = cc in
    record {
      words = heard.words;
      answer = answered cs r ack o b five last;
      machine =
          on_the_wires cs (a_read (line_of cs).straps r ++ (Take ack ∷ [])) ss b w
          ∙ ap (λ l. does_all (acts_of l (map event (a_read (line_of cs).straps r ++ (Take ack ∷ [])))) (before cs)) (is_quiet (line_of cs) o)
          ∙ read_leaves (line_of cs).kind (line_of cs).named (line_of cs).straps r ack (before cs);
    }

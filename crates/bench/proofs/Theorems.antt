-- What a line does to the bench, over the definitions that `heed` meets. Assumes nothing.
use Prim.Native.Nat.{ℕ, ◌*◌}
use native.Mathlib.Omega.{arith}
use mathlib.Core.Bool.{Bool, true, false, cond}
use mathlib.Core.Path.{◌≡◌, refl, ap}
use mathlib.Core.Logic.{◌≢◌}
use mathlib.Core.List.{List, [], ◌∷◌, ◌++◌, map, flatten}
use lib.Dec.{eqb, ltb}
use lib.ListN.{length, get_or}
use lib.Seq.{get_or-set_other}
use borrow.Author.Tests.{ne_eqb}
use Rattle.script.specs.Text.{characters, blank, trimmed, first, rest, only}
use Rattle.script.specs.Verbs.{verbs, verb_of}
use Rattle.script.specs.Arguments.{digit_of, octet_of, word_of as word_in, pair_of, count_from, count_of, ticks_of, small_of, further_of, follows_at, all_further, further_values}
use Rattle.script.specs.Hands.{bay_of, only_bay, kind_of, insert_line, hand_line}
use Rattle.script.specs.Lines.{Line, reset_line, take_line, write_line, span, read_line, chassis_line, order_line, verb_line, plain, argument_of, text_line, line_of}
use Rattle.script.specs.declared.Order.{Order}
use Rattle.std.proofs.Common.{Some, None, Result, Ok, Err}
use Rattle.std.specs.Result.{is_ok}
use Rattle.script.specs.declared.Order.TheVariants.{Event as One, Ticks, Write, Address, Load, Name, Choose}
use Rattle.script.proofs.OneWord.{load_argument, load_line}
use Rattle.event.specs.Words.{unpacked, word_of, straps_of, packed, Bytes}
use Rattle.event.specs.declared.Event.{Event}
use Rattle.event.specs.declared.Event.TheVariants.{Pins, Reset}
use Rattle.event.proofs.Theorems.{pack_then_unpack}
use Rattle.second.specs.Record.{fits as second_fits}
use Rattle.bay.specs.Record.{empty_bay, reset_bay, bay_fit}
use Rattle.bay.proofs.Taut.{pick, either_way}
use Rattle.machine.specs.Record.{bay_in, fresh_machine, fits}
use Rattle.dock.specs.Examples.{R, N, w, pins, ticks}
use Rattle.dock.specs.Record.{fresh_controller}
use Rattle.dock.specs.Run.{after, naming, after_call}
use Rattle.dock.specs.Step.{step_of}
use Rattle.dock.specs.declared.Controller.{Controller}
use Rattle.image.specs.Layout.{BYTES}
use Rattle.image.specs.Load.{first_over, progress_verdict, sized_verdict, verdict_on, state_in, checked_of}
use Rattle.image.specs.Save.{saved}
use Rattle.image.specs.Shape.{Shaped}
use Rattle.image.proofs.RoundTrip.{saved_length}
use Rattle.paste.specs.Digits.{hex_of, bytes_of}
use Rattle.paste.specs.Ranges.{longest, out_of}
use Rattle.paste.specs.Findings.{finding_of, judged, unread, pasted_of}
use Rattle.paste.specs.declared.Pasted.{Pasted}
use Rattle.paste.specs.declared.Refused.{Refused}
use Rattle.paste.proofs.Theorems.{Octets, two_each, one_word, state_back}
use Rattle.chassis.specs.Judge.{MOST}
use Rattle.chassis.specs.Numbers.{answer_refusal}
use Rattle.chassis.specs.Held.{stepped_of}
use Rattle.chassis.specs.declared.Chassis.{Chassis}
use Rattle.bench.proofs.Alone.{as_answered, alone_leaves, alone_answers}
use Rattle.bench.specs.Docks.{AT_REST, record_at, with_record, levels_at, with_levels}
use Rattle.bench.specs.Levels.{pulled, raised, given_by, given_in, levels_after, bay_levels, levels_in}
use Rattle.bench.specs.Orders.{words_of, fresh_docks, fresh_bench, sent_of, after_words, sending, is_there, becomes, named_as, taken_up, loaded_by, obeyed, does, heeded, left, after_line, followed}
use Rattle.bench.specs.Examples.{Example, words_typed, typed_words, examples, trace_lines, trace_words, Loading, loaded_words, loadings}
use Rattle.bench.specs.declared.Bench.{Bench}
use Rattle.std.specs.Prelude.{Result, Ok, Err}
use Rattle.event.specs.declared.NoEvent.{NoEvent}

-- What is typed as the paper writes it sends the words of the paper's examples P1 to P12, whatever the levels are.
pub record AsInThePaper : Type 0 where
  pub RTyped : (l : ℕ) (t : List ℕ) → words_of 0x90 l (One (Reset 0 0xBF false)) t ≡ R
  pub NTyped : (l : ℕ) (t : List ℕ) → words_of 0x90 l (One (Reset 0 0xFF false)) t ≡ N
  pub P12Typed : (l : ℕ) (t : List ℕ) → words_of 0x90 l (One (Reset 1 0xFF true)) t ≡ 0xD1FF ∷ []
  pub w_typed : (l r v : ℕ) (t : List ℕ) → words_of 0x90 l (Write r v 0) t ≡ w r v
  pub pins_typed : (l p : ℕ) (t : List ℕ) → words_of 0x90 l (One (Pins p)) t ≡ pins p
  pub ticks_typed : (l n : ℕ) (t : List ℕ) → words_of 0x90 l (Ticks n) t ≡ ticks n

pub as_in_the_paper : AsInThePaper
unfolding words_of packed word_of straps_of further_values
as_in_the_paper = record { RTyped = λ l t. refl; NTyped = λ l t. refl; P12Typed = λ l t. refl; w_typed = λ l r v t. refl; pins_typed = λ l p t. refl; ticks_typed = λ l n t. refl }

-- Each of the examples sends the words written there.
pub examples_hold : map typed_words examples ≡ map (λ (e : Example). e.words) examples
unfolding examples unpacked words_of pulled raised packed word_of straps_of line_of argument_of plain text_line verb_line order_line hand_line insert_line only bay_of only_bay kind_of reset_line take_line write_line span read_line chassis_line further_of follows_at all_further further_values octet_of digit_of word_in pair_of ticks_of small_of count_of count_from verb_of verbs trimmed first rest blank
examples_hold = refl

-- Document 03's trace is typed in four lines.
pub trace_typed : flatten (map (words_typed 0xFF) trace_lines) ≡ trace_words
unfolding trace_lines trace_words flatten unpacked words_of packed word_of straps_of line_of argument_of plain text_line verb_line order_line only reset_line take_line write_line span read_line chassis_line further_of follows_at all_further further_values octet_of digit_of word_in pair_of verb_of verbs trimmed first rest blank
trace_typed = refl

-- After `at 96` a whole write begins with that byte.
pub at_stays : (b : Bench) (t : List ℕ) (l : ℕ) → words_of (obeyed (Address 0x96) t b).address l (Write 0x14 0x04 0) t ≡ 0x0000 ∷ 0x4096 ∷ 0x4014 ∷ 0x4004 ∷ 0x2000 ∷ []
unfolding words_of obeyed packed word_of straps_of further_values
at_stays b t l = refl

-- ---- one dock

-- This dock is alone on the bus, and chosen. What stands at the other places stays there and never matters.
pub record Alone (b : Bench) (c : Controller) (others : List Controller) : Type 0 where
  pub one : b.chassis.count ≡ 1
  pub chosen : b.dock ≡ 0
  pub stands : b.chassis.records ≡ c ∷ others

-- So a bench begins.
pub fresh_alone : Alone fresh_bench fresh_controller (fresh_controller ∷ fresh_controller ∷ fresh_controller ∷ [])
unfolding fresh_bench fresh_docks
fresh_alone = record { one = refl; chosen = refl; stands = refl }

-- A word is then the core's single call: the dock afterwards is the one that it leaves, and what is answered has its refusal, reply and byte.
pub single_call : (v : ℕ) (b : Bench) (c : Controller) (others : List Controller) → Alone b c others → Alone (sent_of b v).bench (step_of c v).controller others
unfolding sent_of stepped_of
single_call v b c others a =
    record { one = rw a.one; chosen = a.chosen; stands = rw (a.one, a.chosen, a.stands, alone_leaves c v) }

pub single_answer : (v : ℕ) (b : Bench) (c : Controller) (others : List Controller) → Alone b c others → (sent_of b v).answer ≡ as_answered (step_of c v).answer
unfolding sent_of stepped_of
single_answer v b c others a = rw (a.one, a.chosen, a.stands) (alone_answers c v)

-- The dock on the bench is one that was given the words, by one single call after the other; the levels don't come into it.
pub dock_follows : (ws : List ℕ) (b : Bench) (c : Controller) (others : List Controller) → Alone b c others → Alone (after_words b ws) (after c ws) others
unfolding after_words after
dock_follows [] b c others a = a
dock_follows (v ∷ ws) b c others a = dock_follows ws (sent_of b v).bench (step_of c v).controller others (single_call v b c others a)

-- ---- several docks

-- The chassis after words that each have this number beside them, one call after the other.
unfoldable pub called : Chassis → ℕ → List ℕ → Chassis
called h d [] = h
called h d (v ∷ ws) = called (stepped_of h d v).chassis d ws

numbered : (ws : List ℕ) (b : Bench) → (after_words b ws).chassis ≡ called b.chassis b.dock ws
unfolding after_words called sent_of
numbered [] b = refl
numbered (v ∷ ws) b = numbered ws (sent_of b v).bench

-- What is typed after `dock d` sends its words with that number, over the levels of that dock.
pub typed_for_dock : (d : ℕ) (t : List ℕ) (o : Order) (u : List ℕ) (b : Bench)
    → (sending o u (obeyed (Choose d) t b)).chassis ≡ called b.chassis d (words_of b.address (levels_at d b.levels) o u)
unfolding obeyed
typed_for_dock d t o u b = numbered (words_of b.address (levels_at d b.levels) o u) (obeyed (Choose d) t b)

-- A line that names a kind is the naming call of the chosen dock; what the host speaks to and the levels stay.
pub dock_named : (n : ℕ) (t : List ℕ) (b : Bench) → is_there b ≡ true
    → obeyed (Name n) t b ≡ becomes (after_call (record_at b.dock b.chassis) (naming n)) b.levels b
unfolding obeyed named_as
dock_named n t b there = rw there

-- For a dock that isn't there neither that nor an image changes anything.
pub absent_kept : (n : ℕ) (t : List ℕ) (b : Bench) → is_there b ≡ false → (obeyed (Name n) t b ≡ b) × (obeyed Load t b ≡ b)
unfolding obeyed named_as loaded_by
absent_kept n t b absent = (rw absent, rw absent)

-- The levels are those of the last PINS or RESET that was not refused: an event gives its own, to the dock that is chosen ..
pub levels_given : (e : Event) → Bytes e → (v : ℕ) → packed e ≡ Ok v → (b : Bench) → answer_refusal (sent_of b v).answer ≡ 0
    → (sent_of b v).bench.levels ≡ with_levels b.dock (given_by e (levels_at b.dock b.levels)) b.levels
unfolding sent_of levels_after
levels_given e fine v p b done = rw (done, pack_then_unpack e fine v p)

-- .. and a word that is refused gives none.
pub levels_kept : (v : ℕ) (b : Bench) → (answer_refusal (sent_of b v).answer ≡ 0 → ⊥) → (sent_of b v).bench.levels ≡ b.levels
unfolding sent_of levels_after
levels_kept v b refused = rw (ne_eqb _ _ refused)

-- No word gives levels to a dock that isn't chosen.
given_elsewhere : (d k l : ℕ) (ls : List ℕ) → k ≢ d → levels_at k (with_levels d l ls) ≡ levels_at k ls
unfolding levels_at with_levels
given_elsewhere d k l ls other =
    ap (λ (x : ℕ). cond (ltb k MOST) x AT_REST)
    (pick (λ (xs : List ℕ). get_or xs k 0 ≡ get_or ls k 0) (ltb d MOST) (λ _. get_or-set_other ls d k l 0 other) (λ _. refl))

pub levels_elsewhere : (v : ℕ) (b : Bench) (k : ℕ) → k ≢ b.dock → levels_at k (sent_of b v).bench.levels ≡ levels_at k b.levels
unfolding sent_of levels_after
levels_elsewhere v b k other =
    pick (λ (ls : List ℕ). levels_at k ls ≡ levels_at k b.levels) (eqb (answer_refusal (sent_of b v).answer) 0) (λ _. by_word_lem (unpacked v)) (λ _. refl)
  where
    by_word_lem : (u : Result Event NoEvent) → levels_at k (given_in u b.dock b.levels) ≡ levels_at k b.levels
    by_word_lem (Ok e) = given_elsewhere b.dock k (given_by e (levels_at b.dock b.levels)) b.levels other
    by_word_lem (Err why) = refl

-- ---- lines

-- A line that is no order, as one that isn't understood, changes nothing: not the dock, not the address and not the levels.
pub nothing_done : (l : List ℕ) (b : Bench) → ((o : Order) → line_of l ≡ Ok (Some o) → ⊥) → after_line l b ≡ b
unfolding heeded
nothing_done l b no-order = go (line_of l) refl
  where
    go : (m : Line) → line_of l ≡ m → left (does m (argument_of l) b) b ≡ b
    go (Ok None) e = refl
    go (Ok (Some o)) e = absurd (no-order o e)
    go (Err m) e = refl

-- .. of the bench that the program goes on with.
pub nothing_followed : (l : List ℕ) (b : Bench) → ((o : Order) → line_of l ≡ Ok (Some o) → ⊥) → (followed l b).bench ≡ b
unfolding followed
nothing_followed l b no-order = nothing_done l b no-order

-- ---- images

-- A `load` of what `save` tells brings the dock back as the one that is chosen, whatever the bench held, with the levels that it has
-- stored; the host speaks to the address that it spoke to.
pub loads_back :
    (s : Controller) → Shaped s.machine → Octets (saved s) → fits s.machine ≡ true → (b : Bench) → is_there b ≡ true
    → heeded (characters "load " ++ hex_of (saved s)) b ≡ Ok (becomes s (with_levels b.dock (levels_in s.machine) b.levels) b)
unfolding heeded obeyed loaded_by
loads_back s shaped octets fit b there =
    let digits : length (hex_of (saved s)) ≡ 2 * BYTES = omega (arith, two_each (saved s), saved_length s) in
    rw (
      load_line (hex_of (saved s)) (one_word (saved s)) (omega arith),
      load_argument (hex_of (saved s)) (one_word (saved s)),
      state_back s shaped octets fit,
      there,
    )

-- Any other text changes nothing.
pub damage_kept : (t : List ℕ) (b : Bench) → is_ok (pasted_of t) ≡ false → obeyed Load t b ≡ b
unfolding obeyed loaded_by
damage_kept t b damaged = rw (untouched (pasted_of t) damaged, either_way b (is_there b))
  where
    untouched : (p : Result Pasted Refused) → is_ok p ≡ false → taken_up p b ≡ b
    untouched (Ok p) e = cc
    untouched (Err r) e = refl

-- After a `load` the next line goes over the levels of the loaded state, or, after a damaged one, over those that were there.
pub loadings_hold : map loaded_words loadings ≡ map (λ (e : Loading). e.words) loadings
unfolding loadings heeded obeyed loaded_by is_there with_record with_levels levels_at fresh_docks pasted_of judged finding_of unread bytes_of longest out_of checked_of verdict_on sized_verdict progress_verdict first_over state_in fits second_fits bay_in bay_fit levels_in bay_levels fresh_bench fresh_controller fresh_machine empty_bay words_of pulled raised packed word_of straps_of line_of argument_of plain text_line verb_line order_line hand_line insert_line only bay_of only_bay kind_of reset_line take_line write_line span read_line chassis_line further_of follows_at all_further further_values octet_of digit_of word_in pair_of ticks_of small_of count_of count_from verb_of verbs trimmed first rest blank
loadings_hold = refl

-- The levels that a RESET gives are those that the dock then has stored: of a bay, all sixteen.
abbrev sixteen : List ℕ
sixteen = 0 ∷ 1 ∷ 2 ∷ 3 ∷ 4 ∷ 5 ∷ 6 ∷ 7 ∷ 8 ∷ 9 ∷ 10 ∷ 11 ∷ 12 ∷ 13 ∷ 14 ∷ 15 ∷ []

pub stored_levels : (lock : Bool) → map (λ l. bay_levels (reset_bay l lock)) sixteen ≡ sixteen
unfolding bay_levels reset_bay
stored_levels lock = refl

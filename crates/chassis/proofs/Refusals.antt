-- Each refusal is given exactly when document 02, request 9, says, and returns every record unchanged with reply, byte and outputs 0. The tests of the
-- rule, in their order, say what the conditions of specs/Refusals.antt are; then by cases on the six tests. Assumes nothing.
use Prim.Native.Nat.{ℕ}
use native.Mathlib.Omega.{arith}
use mathlib.Core.Path.{◌≡◌, refl, sym, ap, ◌∙◌}
use mathlib.Core.Logic.{◌↔◌, ◌≢◌, ◌⊎◌, inl, inr, ⊎_elim}
use mathlib.Core.Bool.{Bool, true, false, not, true≢false}
use mathlib.Core.List.{List, [], ◌∷◌}
use lib.Dec.{eqb, ltb}
use lib.ListN.{length, length-map}
use borrow.Author.Tests.{eqb-false}
use Rattle.event.specs.Words.{unpacked, is_reset}
use Rattle.event.specs.declared.Event.{Event}
use Rattle.event.specs.declared.Event.TheVariants.{Start, Stop, Byte, Take, Pins, Tick, Reset, Timeout}
use Rattle.event.proofs.Theorems.{words_refused}
use Rattle.event.proofs.RoundTrip.{accepted_is_none}
use Rattle.bus.specs.Progress.{own_write_byte}
use Rattle.bay.proofs.Taut.{pick}
use Rattle.dock.specs.Shared.{standing_of}
use Rattle.dock.specs.declared.Controller.{Controller}
use Rattle.dock.specs.declared.Standing.{Standing}
use Rattle.chassis.specs.Judge.{some, wrong_length, faulty, names, absent, nobody, started, unheard, has, address_taken, by_word, judged, standings, verdict_of}
use Rattle.chassis.specs.Numbers.{answer_refusal, answer_reply, answer_byte}
use Rattle.chassis.specs.Chassis.{told_by, records_by, records_of, told_of}
use Rattle.chassis.specs.Refusals.{standing_at, IsPins, IsReset, Nine, One, Two, Ten, Three, Eleven, Exactly}
use Rattle.chassis.proofs.Places.{Says, says_iff, says_or, says_and, says_not, says_true, says_false, says_eqb, says_ltb, says_known, says_never, is_true}
use Rattle.chassis.proofs.Places.{SomeAt, some_says, SomeElse, else_says, faulty_says}
use Rattle.std.specs.Prelude.{Result, Ok, Err}
use Rattle.event.specs.declared.NoEvent.{NoEvent}
use Rattle.chassis.specs.declared.Refusal.{Refusal}

-- ---- the six tests

nine_says : (cs : List Controller) → Says (wrong_length (length cs)) (Nine cs)
nine_says cs = says_or (eqb (length cs) 0) (ltb 4 (length cs)) (says_eqb (length cs) 0) (says_ltb 4 (length cs))

pub one_says : (cs : List Controller) → Says (faulty (standings cs)) (One cs)
one_says cs = rw (length-map cs standing_of) at (faulty_says (standings cs))

-- Of a word that is an event: whether it names a record, ..
module _ (w : ℕ) where
  abbrev Naming : Type 0
  Naming = IsPins w ⊎ IsReset w

  -- another event of the same word is the same event
  same : {x y : Event} → unpacked w ≡ Ok x → unpacked w ≡ Ok y → x ≡ y
  same {x} {y} p q = let j : Ok x ≡ Ok y = sym p ∙ q in cc

  unnamed : (e : Event) → unpacked w ≡ Ok e → names e ≡ false → Naming → ⊥
  unnamed e u n (inl (levels, p)) = true≢false (sym (ap names (same u p)) ∙ n)
  unnamed e u n (inr (straps, (levels, short, p))) = true≢false (sym (ap names (same u p)) ∙ n)

  names_says : (e : Event) → unpacked w ≡ Ok e → Says (names e) Naming
  names_says Start u = says_never (unnamed Start u refl)
  names_says Stop u = says_never (unnamed Stop u refl)
  names_says (Byte b) u = says_never (unnamed (Byte b) u refl)
  names_says (Take ack) u = says_never (unnamed (Take ack) u refl)
  names_says (Pins levels) u = says_known (inl (levels, u))
  names_says Tick u = says_never (unnamed Tick u refl)
  names_says (Reset straps levels short) u = says_known (inr (straps, (levels, short, u)))
  names_says Timeout u = says_never (unnamed Timeout u refl)

-- .. and the last three tests.
module _ (cs : List Controller) (n w : ℕ) where
  ten_says : (e : Event) → unpacked w ≡ Ok e → Says (absent e n (length cs)) (Ten cs n w)
  ten_says e u =
      says_and (names e) (not (ltb n (length cs))) (names_says w e u)
      (says_iff (λ h. omega (arith, h)) (λ l m. omega arith) (says_not (ltb n (length cs)) (says_ltb n (length cs))))

  places : length (standings cs) ≡ length cs
  places = length-map cs standing_of

  none_says : (e : Event) → unpacked w ≡ Ok e → names e ≡ false → Says (not (some started (standings cs))) (Three cs n w)
  none_says e u f = says_iff to from (says_not (some started (standings cs)) (some_says started (standings cs) nobody))
    where
      off : (t : Bool) → (t ≡ true → ⊥) → t ≡ false
      off true h = absurd (h refl)
      off false h = refl

      to : (SomeAt started (standings cs) nobody → ⊥) → Three cs n w
      to h = inr (λ p. unnamed w e u f (inl p), λ r. unnamed w e u f (inr r), λ i l. off _ (λ t. h (i, rw places l, t)))

      from : Three cs n w → SomeAt started (standings cs) nobody → ⊥
      from (inl (p, q)) (i, l, t) = unnamed w e u f (inl p)
      from (inr (p, q, all)) (i, l, t) = true≢false (sym t ∙ all i (rw places at l))

  three_says : (e : Event) → unpacked w ≡ Ok e → Says (unheard e n (standings cs)) (Three cs n w)
  three_says Start u = none_says Start u refl
  three_says Stop u = none_says Stop u refl
  three_says (Byte b) u = none_says (Byte b) u refl
  three_says (Take ack) u = none_says (Take ack) u refl
  three_says (Pins levels) u =
      says_iff (λ t. inl ((levels, u), t)) (⊎_elim (λ h. h.1) (λ h. absurd (h.0 (levels, u)))) (says_false (standing_at cs n).started)
  three_says Tick u = none_says Tick u refl
  three_says (Reset straps levels short) u =
      says_never (⊎_elim (λ h. is_reset_lem h.0) (λ h. h.1 (straps, (levels, short, u))))
    where
      is_reset_lem : IsPins w → ⊥
      is_reset_lem (x, p) = let q : Pins x ≡ Reset straps levels short = same w p u in let z : ◌≡◌ {A = ℕ} 0 1 = cc in omega arith
  three_says Timeout u = none_says Timeout u refl

  never_says : (e : Event) → unpacked w ≡ Ok e → is_reset e ≡ false → Says false (Eleven cs n w)
  never_says e u f = says_never (λ h. true≢false (sym (ap is_reset (same w u h.1.2)) ∙ f))

  pub eleven_says : (e : Event) → unpacked w ≡ Ok e → Says (address_taken e n (standings cs)) (Eleven cs n w)
  eleven_says Start u = never_says Start u refl
  eleven_says Stop u = never_says Stop u refl
  eleven_says (Byte b) u = never_says (Byte b) u refl
  eleven_says (Take ack) u = never_says (Take ack) u refl
  eleven_says (Pins levels) u = never_says (Pins levels) u refl
  eleven_says Tick u = never_says Tick u refl
  eleven_says (Reset straps levels short) u = says_iff to from (else_says (has (own_write_byte straps)) n (standings cs) nobody)
    where
      has_says : (s : Standing) (x : ℕ) → Says (has x s) ((s.started ≡ true) × (s.address ≡ x))
      has_says s x = says_and s.started (eqb s.address x) (says_true s.started) (says_eqb s.address x)

      to : SomeElse (has (own_write_byte straps)) n (standings cs) nobody → Eleven cs n w
      to (i, l, d, h) = let p = (has_says (standing_at cs i) (own_write_byte straps)).yes h in (straps, (levels, short, u), i, rw places at l, d, p.0, p.1)

      from : Eleven cs n w → SomeElse (has (own_write_byte straps)) n (standings cs) nobody
      from (x, (y, z, p), i, l, d, t, a) =
          let q : Reset x y z ≡ Reset straps levels short = same w p u in
          let same-straps : x ≡ straps = cc in
          (i, rw places l, d, is_true _ (has_says (standing_at cs i) (own_write_byte straps)) (t, a ∙ ap own_write_byte same-straps))
  eleven_says Timeout u = never_says Timeout u refl

-- ---- by cases on the six tests

-- A number that is given, and one that isn't.
so : {A : Type 0} {k : ℕ} → A → (k ≡ k) ↔ A
so a = (λ e. a, λ b. refl)

no : {A : Type 0} {r k : ℕ} → eqb r k ≡ false → (A → ⊥) → (r ≡ k) ↔ A
no d f = (λ e. absurd (eqb-false _ _ d e), λ a. absurd (f a))

module _ (cs : List Controller) (n w : ℕ) where
  refused_9 : Nine cs → Exactly cs n w 9
  refused_9 a =
      record {
        nine = so a;
        one = no refl (λ h. h.0 a);
        two = no refl (λ h. h.0 a);
        ten = no refl (λ h. h.0 a);
        three = no refl (λ h. h.0 a);
        eleven = no refl (λ h. h.0 a);
        none = no refl (λ h. h.0 a);
      }

  refused_1 : (Nine cs → ⊥) → One cs → Exactly cs n w 1
  refused_1 a b =
      record {
        nine = no refl a;
        one = so (a, b);
        two = no refl (λ h. h.1 b);
        ten = no refl (λ h. h.1 b);
        three = no refl (λ h. h.1 b);
        eleven = no refl (λ h. h.1 b);
        none = no refl (λ h. h.1 b);
      }

  refused_2 : (Nine cs → ⊥) → (One cs → ⊥) → Two w → Exactly cs n w 2
  refused_2 a b c =
      record {
        nine = no refl a;
        one = no refl (λ h. b h.1);
        two = so (a, b, c);
        ten = no refl (λ h. h.2 c);
        three = no refl (λ h. h.2 c);
        eleven = no refl (λ h. h.2 c);
        none = no refl (λ h. h.2 c);
      }

  refused_10 : (Nine cs → ⊥) → (One cs → ⊥) → (Two w → ⊥) → Ten cs n w → Exactly cs n w 10
  refused_10 a b c d =
      record {
        nine = no refl a;
        one = no refl (λ h. b h.1);
        two = no refl (λ h. c h.2);
        ten = so (a, b, c, d);
        three = no refl (λ h. h.3 d);
        eleven = no refl (λ h. h.3 d);
        none = no refl (λ h. h.3 d);
      }

  refused_3 : (Nine cs → ⊥) → (One cs → ⊥) → (Two w → ⊥) → (Ten cs n w → ⊥) → Three cs n w → Exactly cs n w 3
  refused_3 a b c d e =
      record {
        nine = no refl a;
        one = no refl (λ h. b h.1);
        two = no refl (λ h. c h.2);
        ten = no refl (λ h. d h.3);
        three = so (a, b, c, d, e);
        eleven = no refl (λ h. h.4 e);
        none = no refl (λ h. h.4 e);
      }

  refused_11 : (Nine cs → ⊥) → (One cs → ⊥) → (Two w → ⊥) → (Ten cs n w → ⊥) → (Three cs n w → ⊥) → Eleven cs n w → Exactly cs n w 11
  refused_11 a b c d e f =
      record {
        nine = no refl a;
        one = no refl (λ h. b h.1);
        two = no refl (λ h. c h.2);
        ten = no refl (λ h. d h.3);
        three = no refl (λ h. e h.4);
        eleven = so (a, b, c, d, e, f);
        none = no refl (λ h. h.5 f);
      }

  accepted : (Nine cs → ⊥) → (One cs → ⊥) → (Two w → ⊥) → (Ten cs n w → ⊥) → (Three cs n w → ⊥) → (Eleven cs n w → ⊥) → Exactly cs n w 0
  accepted a b c d e f =
      record {
        nine = no refl a;
        one = no refl (λ h. b h.1);
        two = no refl (λ h. c h.2);
        ten = no refl (λ h. d h.3);
        three = no refl (λ h. e h.4);
        eleven = no refl (λ h. f h.5);
        none = so (a, b, c, d, e, f);
      }

  by_event_lem :
      (Nine cs → ⊥) → (One cs → ⊥) → (Two w → ⊥) → (e : Event) → unpacked w ≡ Ok e
      → Exactly cs n w (answer_refusal (told_by (by_word (length cs) (standings cs) n (Ok e)) n w cs).answer)
  unfolding by_word told_by
  by_event_lem a b c e u =
      let ten = ten_says cs n w e u in
      let three = three_says cs n w e u in
      let eleven = eleven_says cs n w e u in
      pick Right (absent e n (length cs)) (λ t. refused_10 a b c (ten.yes t))
      (λ t. pick Right (unheard e n (standings cs)) (λ s. refused_3 a b c (ten.no t) (three.yes s))
      (λ s. pick Right (address_taken e n (standings cs)) (λ r. refused_11 a b c (ten.no t) (three.no s) (eleven.yes r))
      (λ r. accepted a b c (ten.no t) (three.no s) (eleven.no r))))
    where
      Right : Result Event Refusal → Type 0
      Right v = Exactly cs n w (answer_refusal (told_by v n w cs).answer)

  by_word_lem :
      (Nine cs → ⊥) → (One cs → ⊥) → (u : Result Event NoEvent) → unpacked w ≡ u
      → Exactly cs n w (answer_refusal (told_by (by_word (length cs) (standings cs) n u) n w cs).answer)
  unfolding by_word told_by
  by_word_lem a b (Err why) u = refused_2 a b ((words_refused w).0 u)
  by_word_lem a b (Ok e) u = by_event_lem a b (λ c. accepted_is_none (sym u ∙ (words_refused w).1 c)) e u

  pub exactly : Exactly cs n w (answer_refusal (told_of cs n w).answer)
  unfolding judged told_by
  exactly =
      pick Right (wrong_length (length cs)) (λ t. refused_9 ((nine_says cs).yes t))
      (λ t. pick Right (faulty (standings cs)) (λ s. refused_1 ((nine_says cs).no t) ((one_says cs).yes s))
      (λ s. by_word_lem ((nine_says cs).no t) ((one_says cs).no s) (unpacked w) refl))
    where
      Right : Result Event Refusal → Type 0
      Right v = Exactly cs n w (answer_refusal (told_by v n w cs).answer)

-- ---- a refusal returns every record unchanged, reply, byte and outputs 0

pub record Unchanged (cs : List Controller) (n w : ℕ) : Type 0 where
  pub records : records_of cs n w ≡ cs
  pub reply : answer_reply (told_of cs n w).answer ≡ 0
  pub byte : answer_byte (told_of cs n w).answer ≡ 0
  pub outputs : (told_of cs n w).outputs ≡ 0 ∷ 0 ∷ 0 ∷ 0 ∷ []

pub refused_unchanged : (cs : List Controller) (n w : ℕ) → answer_refusal (told_of cs n w).answer ≢ 0 → Unchanged cs n w
unfolding told_by records_by
refused_unchanged cs n w = go (verdict_of cs n w) refl
  where
    go : (v : Result Event Refusal) → verdict_of cs n w ≡ v → answer_refusal (told_of cs n w).answer ≢ 0 → Unchanged cs n w
    go (Ok e) p r = absurd (r (rw p))
    go (Err x) p r = record { records = rw p; reply = rw p; byte = rw p; outputs = rw p }

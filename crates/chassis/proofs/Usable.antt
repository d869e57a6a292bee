-- A list that isn't faulty stays so, whatever is called: so a list that is not refused with 1 is never refused with 1 afterwards. The core leaves each
-- record fit. An event but RESET leaves each record started or not, with its own address; a RESET gives an address that no started neighbour has, and
-- leaves no read open. A BYTE leaves a read open only where it is the own address + 1, so two open ones would have one address; any other event opens
-- none. Assumes nothing.
use Prim.Native.Nat.{ℕ, ◌+◌, ◌<◌}
use native.Mathlib.Omega.{arith}
use mathlib.Core.Path.{◌≡◌, refl, sym, ap, ◌∙◌}
use mathlib.Core.Logic.{◌≢◌, ◌⊎◌, inl, inr, ⊎_elim}
use mathlib.Core.Bool.{Bool, true, false, true≢false, false≢true}
use mathlib.Core.List.{List}
use lib.Dec.{eqb, ltb}
use lib.ListN.{length, get_or, set, replicate, length-map, length-replicate, get_or-replicate}
use lib.Seq.{map-set_same, set_out}
use borrow.Author.Tests.{eqb-true, eqb-false, eq-eqb, ne_eqb, ltb-true, ltb-false}
use Rattle.event.specs.Words.{unpacked, is_reset}
use Rattle.event.specs.declared.Event.{Event}
use Rattle.event.specs.declared.Event.TheVariants.{Start, Stop, Byte, Take, Pins, Tick, Reset, Timeout}
use Rattle.bus.specs.Progress.{own_write_byte}
use Rattle.bay.proofs.Taut.{pick}
use Rattle.dock.specs.Name.{name_of}
use Rattle.dock.specs.Record.{fresh_controller}
use Rattle.dock.specs.Shared.{standing_of}
use Rattle.dock.specs.declared.Controller.{Controller}
use Rattle.dock.specs.declared.Standing.{Standing}
use Rattle.dock.proofs.Sharing.{is_byte_event, stands, name_stands, fresh_stands}
use Rattle.chassis.specs.Judge.{faulty, standings, verdict_of}
use Rattle.chassis.specs.Numbers.{answer_refusal}
use Rattle.chassis.specs.Chassis.{goes_to, record_at, records_from, records_by, records_of, told_of}
use Rattle.chassis.specs.Refusals.{Clash, Nine}
use Rattle.chassis.proofs.Places.{SomeUnfit, TwoClash, fit_in_lem, apart_in, clash_turned, faulty_says, is_false}
use Rattle.chassis.proofs.Accepting.{Accepts, accepts}
use Rattle.chassis.proofs.AtPlace.{stands_at, from_length, record_at_lem, records_length}
use Rattle.chassis.proofs.Refusals.{one_says, eleven_says, exactly}
use Rattle.std.specs.Prelude.{Ok, Err, Result}
use Rattle.chassis.specs.declared.Refusal.{Refusal}

-- ---- the records of a list that isn't faulty

module _ (cs : List Controller) (f : faulty (standings cs) ≡ false) (d : Controller) where
  pub fit_at : (i : ℕ) → i < length cs → (standing_of (get_or cs i d)).fit ≡ true
  fit_at i l = rw (stands_at cs i d l) at (fit_in_lem (standings cs) f i (rw (length-map cs standing_of) l))

  pub apart_at : (i j : ℕ) → i < length cs → j < length cs → i ≢ j → Clash (standing_of (get_or cs i d)) (standing_of (get_or cs j d)) → ⊥
  apart_at i j l m z c =
      apart_in (standings cs) f i j (rw (length-map cs standing_of) l) (rw (length-map cs standing_of) m) z
      (rw (stands_at cs i d l, stands_at cs j d m) c)

-- .. and back: a list whose records are fit, of which no two clash, isn't faulty.
usable_by :
    (cs : List Controller) (d : Controller) → ((i : ℕ) → i < length cs → (standing_of (get_or cs i d)).fit ≡ true)
    → ((i j : ℕ) → i < length cs → j < length cs → i ≢ j → Clash (standing_of (get_or cs i d)) (standing_of (get_or cs j d)) → ⊥)
    → faulty (standings cs) ≡ false
usable_by cs d fit apart = is_false (faulty (standings cs)) (faulty_says (standings cs)) (⊎_elim unfit clash)
  where
    below : (i : ℕ) → i < length (standings cs) → i < length cs
    below i l = rw (length-map cs standing_of) at l

    unfit : SomeUnfit (standings cs) → ⊥
    unfit (i, l, e) = true≢false (sym (rw (stands_at cs i d (below i l)) (fit i (below i l))) ∙ e)

    clash : TwoClash (standings cs) → ⊥
    clash (i, j, l, m, z, c) = apart i j (below i l) (below j m) z (rw (stands_at cs i d (below i l), stands_at cs j d (below j m)) at c)

-- ---- an event but RESET

record Keeps (e : Event) (s t : Standing) : Type 0 where
  started : t.started ≡ s.started
  address : t.address ≡ s.address
  by_byte : (b : ℕ) → e ≡ Byte b → t.reading ≡ true → b ≡ s.address + 1
  by_others : is_byte_event e ≡ false → t.reading ≡ true → s.reading ≡ true

-- A BYTE goes to every record.
byte_or_not : (e : Event) → ((b : ℕ) × (e ≡ Byte b)) ⊎ (is_byte_event e ≡ false)
byte_or_not Start = inr refl
byte_or_not Stop = inr refl
byte_or_not (Byte b) = inl (b, refl)
byte_or_not (Take ack) = inr refl
byte_or_not (Pins levels) = inr refl
byte_or_not Tick = inr refl
byte_or_not (Reset straps levels short) = inr refl
byte_or_not Timeout = inr refl

keeps :
    (e : Event) (n w i : ℕ) (c : Controller) → (standing_of c).fit ≡ true → unpacked w ≡ Ok e → is_reset e ≡ false
    → Keeps e (standing_of c) (standing_of (record_at e n w i c))
unfolding record_at
keeps e n w i c f u r =
    pick (λ (x : Controller). Keeps e (standing_of c) (standing_of x)) (goes_to e n i)
    (λ g.
    let s = stands c w e f u in
    record { started = (s.kept r).0; address = (s.kept r).1; by_byte = s.by_byte; by_others = s.by_others })
    (λ g. record { started = refl; address = refl; by_byte = λ b p o. absurd (true≢false (sym (ap (λ x. goes_to x n i) p) ∙ g)); by_others = λ p o. o })

-- So two that clash after it clashed before it.
clashed : {e : Event} {s t s' t' : Standing} → Keeps e s s' → Keeps e t t' → Clash s' t' → Clash s t
clashed {e} {s} {t} {s'} {t'} k m c =
    record {
      first = sym k.started ∙ c.first;
      second = sym m.started ∙ c.second;
      shared = ⊎_elim (λ a. inl (sym k.address ∙ a ∙ m.address)) reads c.shared;
    }
  where
    reads : (s'.reading ≡ true) × (t'.reading ≡ true) → (s.address ≡ t.address) ⊎ ((s.reading ≡ true) × (t.reading ≡ true))
    reads (p, q) =
        ⊎_elim (λ b. inl (omega (arith, k.by_byte b.0 b.1 p, m.by_byte b.0 b.1 q)))
        (λ n. inr (k.by_others n p, m.by_others n q)) (byte_or_not e)

-- ---- a RESET

anew : ℕ → Standing
anew straps = record { fit = true; started = true; address = own_write_byte straps; reading = false }

module _ (straps levels : ℕ) (short : Bool) (n w i : ℕ) (c : Controller) where
  abbrev resets : Event
  resets = Reset straps levels short

  reset_here : (standing_of c).fit ≡ true → unpacked w ≡ Ok resets → i ≡ n → standing_of (record_at resets n w i c) ≡ anew straps
  unfolding record_at anew
  reset_here f u p = rw (eq-eqb i n p) ((stands c w resets f u).reset straps levels short refl)

  reset_else : i ≢ n → record_at resets n w i c ≡ c
  unfolding record_at
  reset_else p = rw (ne_eqb i n p)

-- ---- any call

by_reset :
    (P : Event → Type 0) → ((e : Event) → is_reset e ≡ false → P e) → ((straps levels : ℕ) (short : Bool) → P (Reset straps levels short))
    → (e : Event) → P e
by_reset P other reset Start = other Start refl
by_reset P other reset Stop = other Stop refl
by_reset P other reset (Byte b) = other (Byte b) refl
by_reset P other reset (Take ack) = other (Take ack) refl
by_reset P other reset (Pins levels) = other (Pins levels) refl
by_reset P other reset Tick = other Tick refl
by_reset P other reset (Reset straps levels short) = reset straps levels short
by_reset P other reset Timeout = other Timeout refl

module _ (cs : List Controller) (n w : ℕ) where
  abbrev d : Controller
  d = fresh_controller

  abbrev stood : Event → ℕ → Standing
  stood e i = standing_of (record_at e n w i (get_or cs i d))

  fit_after : (e : Event) → Accepts cs n w e → (i : ℕ) → i < length cs → (stood e i).fit ≡ true
  unfolding record_at
  fit_after e a i l =
      let f = fit_at cs a.usable d i l in
      pick (λ (x : Controller). (standing_of x).fit ≡ true) (goes_to e n i) (λ g. (stands (get_or cs i d) w e f a.is).fit) (λ g. f)

  Apart : Event → Type 0
  Apart e = Accepts cs n w e → (i j : ℕ) → i < length cs → j < length cs → i ≢ j → Clash (stood e i) (stood e j) → ⊥

  apart_kept : (e : Event) → is_reset e ≡ false → Apart e
  unfolding Apart
  apart_kept e r a i j l m z c =
      let k : (x : ℕ) → x < length cs → Keeps e (standing_of (get_or cs x d)) (stood e x) =
      λ x y. keeps e n w x (get_or cs x d) (fit_at cs a.usable d x y) a.is r in
      apart_at cs a.usable d i j l m z (clashed (k i l) (k j m) c)

  -- The one that a RESET names, and a neighbour.
  apart_named :
      (straps levels : ℕ) (short : Bool) → Accepts cs n w (Reset straps levels short) → (i j : ℕ) → i < length cs → j < length cs → i ≡ n → j ≢ n
      → Clash (stood (Reset straps levels short) i) (stood (Reset straps levels short) j) → ⊥
  unfolding anew
  apart_named straps levels short a i j l m p q c =
      ⊎_elim (λ x. taken (sym x)) (λ r. false≢true r.0) k.shared
    where
      k : Clash (anew straps) (standing_of (get_or cs j d))
      k =
          rw (reset_here straps levels short n w i (get_or cs i d) (fit_at cs a.usable d i l) a.is p, reset_else straps levels short n w j (get_or cs j d) q)
          at c

      taken : (standing_of (get_or cs j d)).address ≡ own_write_byte straps → ⊥
      taken x =
          (eleven_says cs n w (Reset straps levels short) a.is).no a.free
          (straps, (levels, short, a.is), j, m, q, rw (stands_at cs j d m) k.second, rw (stands_at cs j d m) x)

  apart_reset : (straps levels : ℕ) (short : Bool) → Apart (Reset straps levels short)
  unfolding Apart
  apart_reset straps levels short a i j l m z c = go (eqb i n) refl (eqb j n) refl
    where
      go : (p : Bool) → eqb i n ≡ p → (q : Bool) → eqb j n ≡ q → ⊥
      go true p true q = z (eqb-true i n p ∙ sym (eqb-true j n q))
      go true p false q = apart_named straps levels short a i j l m (eqb-true i n p) (eqb-false j n q) c
      go false p true q = apart_named straps levels short a j i m l (eqb-true j n q) (eqb-false i n p) (clash_turned c)
      go false p false q =
          apart_at cs a.usable d i j l m z
          (rw (reset_else straps levels short n w i (get_or cs i d) (eqb-false i n p), reset_else straps levels short n w j (get_or cs j d) (eqb-false j n q)) at c)

  apart_after : (e : Event) → Apart e
  apart_after = by_reset Apart apart_kept apart_reset

  sent_usable : (e : Event) → Accepts cs n w e → faulty (standings (records_from e n w 0 cs)) ≡ false
  unfolding Apart
  sent_usable e a =
      usable_by (records_from e n w 0 cs) d (λ i l. rw (record_at_lem e n w cs i d (within i l)) (fit_after e a i (within i l)))
      (λ i j l m z c.
      apart_after e a i j (within i l) (within j m) z (rw (record_at_lem e n w cs i d (within i l), record_at_lem e n w cs j d (within j m)) at c))
    where
      within : (i : ℕ) → i < length (records_from e n w 0 cs) → i < length cs
      within i l = rw (from_length e n w 0 cs) at l

-- A list that isn't faulty is not after any call.
pub stays_usable : (cs : List Controller) (n w : ℕ) → faulty (standings cs) ≡ false → faulty (standings (records_of cs n w)) ≡ false
unfolding records_by
stays_usable cs n w f = go (verdict_of cs n w) refl
  where
    go : (v : Result Event Refusal) → verdict_of cs n w ≡ v → faulty (standings (records_by v n w cs)) ≡ false
    go (Ok e) p = sent_usable cs n w e (accepts cs n w e p)
    go (Err x) p = f

-- .. nor after the call that names a kind, which leaves how every record stands ..
pub name_leaves :
    (cs : List Controller) (i k : ℕ) (d : Controller) → faulty (standings cs) ≡ false → standings (set cs i (name_of (get_or cs i d) k).controller) ≡ standings cs
name_leaves cs i k d f = go (ltb i (length cs)) refl
  where
    go : (t : Bool) → ltb i (length cs) ≡ t → standings (set cs i (name_of (get_or cs i d) k).controller) ≡ standings cs
    go true t = map-set_same standing_of cs i (name_of (get_or cs i d) k).controller d (name_stands (get_or cs i d) k (fit_at cs f d i (ltb-true i (length cs) t)))
    go false t = ap standings (set_out cs i _ (ltb-false i (length cs) t))

pub name_usable :
    (cs : List Controller) (i k : ℕ) (d : Controller) → faulty (standings cs) ≡ false
    → faulty (standings (set cs i (name_of (get_or cs i d) k).controller)) ≡ false
name_usable cs i k d f = ap faulty (name_leaves cs i k d f) ∙ f

-- .. and fresh records aren't.
pub fresh_usable : (k : ℕ) → faulty (standings (replicate k fresh_controller)) ≡ false
fresh_usable k =
    usable_by all fresh_controller (λ i l. rw (is i l) refl) (λ i j l m z c. false≢true (sym (ap (λ (s : Standing). s.started) (is i l)) ∙ c.first))
  where
    all : List Controller
    all = replicate k fresh_controller

    is : (i : ℕ) → i < length all → standing_of (get_or all i fresh_controller) ≡ record { fit = true; started = false; address = own_write_byte 0; reading = false }
    is i l = ap standing_of (get_or-replicate k i fresh_controller fresh_controller (rw (length-replicate k fresh_controller) at l)) ∙ fresh_stands

-- ---- so refusal 1 does not come of itself

pub never_1 :
    (cs : List Controller) (n w m x : ℕ) → answer_refusal (told_of cs n w).answer ≢ 1 → answer_refusal (told_of (records_of cs n w) m x).answer ≢ 1
never_1 cs n w m x not-1 one =
    let after = (exactly (records_of cs n w) m x).one.0 one in
    let length_fits : Nine cs → ⊥ = rw (records_length cs n w) at after.0 in
    let usable : faulty (standings cs) ≡ false = is_false _ (one_says cs) (λ h. not-1 ((exactly cs n w).one.1 (length_fits, h))) in
    (one_says (records_of cs n w)).no (stays_usable cs n w usable) after.1

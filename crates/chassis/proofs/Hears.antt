-- What the host hears. In a list that isn't faulty at most one record drives: the core drives a TAKE only while a read is open, and of two started
-- records not both have one open. So the reply is Ack exactly if one ACKs, and Driven exactly the byte of the one that drives. By induction along the
-- replies: what is heard is the first that is an ACK or a driven byte. Assumes nothing.
use Prim.Native.Nat.{ℕ, zero, suc, ◌<◌}
use native.Mathlib.Omega.{arith}
use mathlib.Core.Path.{◌≡◌, refl, sym, ap, ◌∙◌}
use mathlib.Core.Logic.{◌↔◌, ◌⊎◌, inl, inr, ⊎_elim}
use mathlib.Core.Bool.{Bool, true, false, true≢false, false≢true}
use mathlib.Core.List.{List, [], ◌∷◌}
use lib.Dec.{eqb}
use lib.ListN.{length, get_or}
use borrow.Author.Tests.{eqb-true, eqb-false}
use Rattle.event.specs.Words.{unpacked}
use Rattle.event.specs.declared.Event.{Event}
use Rattle.event.specs.declared.Event.TheVariants.{Start, Stop, Byte, Take, Pins, Tick, Reset, Timeout}
use Rattle.bus.specs.declared.Reply.{Reply}
use Rattle.bus.specs.declared.Reply.TheVariants.{Nothing, Ack, NoAck, Driven, NotDriven}
use Rattle.bay.proofs.Taut.{pick}
use Rattle.dock.specs.Shared.{standing_of}
use Rattle.dock.specs.declared.Controller.{Controller}
use Rattle.dock.proofs.Sharing.{is_byte_event, is_take_event, spoken, Speaks, speaks, reading_started}
use Rattle.chassis.specs.Judge.{faulty, standings, verdict_of}
use Rattle.chassis.specs.Chassis.{goes_to, reply_at, replies_from, unanswered, heard, told_by, told_of}
use Rattle.chassis.proofs.Accepting.{Accepts, accepts}
use Rattle.chassis.proofs.AtPlace.{replies_length, reply_at_lem}
use Rattle.chassis.proofs.Usable.{fit_at, apart_at}
use Rattle.std.specs.Prelude.{Ok, Err, Result}
use Rattle.chassis.specs.declared.Refusal.{Refusal}

-- ---- the statements

-- Some record's own single call replies so.
abbrev pub SomeReplies : List Controller → Controller → ℕ → Reply → Type 0
SomeReplies cs d w r = (i : ℕ) × (i < length cs) × (spoken (get_or cs i d) w ≡ r)

-- The reply r of the chassis to a word of this event.
pub record Hears (cs : List Controller) (d : Controller) (w : ℕ) (e : Event) (r : Reply) : Type 0 where
  -- A BYTE is ACKed if one ACKs, and else not.
  pub byte_acked : is_byte_event e ≡ true → (r ≡ Ack) ↔ SomeReplies cs d w Ack
  pub byte_not : is_byte_event e ≡ true → (r ≡ NoAck) ↔ (SomeReplies cs d w Ack → ⊥)
  -- A TAKE gives the byte of the one that drives, else reply 4.
  pub take_driven : is_take_event e ≡ true → (v : ℕ) → (r ≡ Driven v) ↔ SomeReplies cs d w (Driven v)
  pub take_not : is_take_event e ≡ true → (r ≡ NotDriven) ↔ ((v : ℕ) → SomeReplies cs d w (Driven v) → ⊥)
  -- Nothing is said to any other event.
  pub others : is_byte_event e ≡ false → is_take_event e ≡ false → r ≡ Nothing

-- At most one drives.
pub at_most_one_drives :
    (cs : List Controller) (d : Controller) (w : ℕ) (e : Event) → faulty (standings cs) ≡ false → unpacked w ≡ Ok e
    → (i j u v : ℕ) → i < length cs → j < length cs → spoken (get_or cs i d) w ≡ Driven u → spoken (get_or cs j d) w ≡ Driven v → i ≡ j
at_most_one_drives cs d w e f x i j u v l m p q = go (eqb i j) refl
  where
    open_at : (k v : ℕ) → k < length cs → spoken (get_or cs k d) w ≡ Driven v → (standing_of (get_or cs k d)).reading ≡ true
    open_at k v l p = ((speaks (get_or cs k d) w e (fit_at cs f d k l) x).driven v p).1

    go : (t : Bool) → eqb i j ≡ t → i ≡ j
    go true t = eqb-true i j t
    go false t =
        let a = open_at i u l p in
        let b = open_at j v m q in
        absurd (apart_at cs f d i j l m (eqb-false i j t) (record { first = reading_started _ a; second = reading_started _ b; shared = inr (a, b) }))

-- ---- what is heard of a list of replies

Loud : Reply → Type 0
Loud r = (r ≡ Ack) ⊎ ((v : ℕ) × (r ≡ Driven v))

-- None of them is an ACK or a byte, or the one at a place is and is what is heard.
Quiet : List Reply → Type 0
Quiet rs = (i : ℕ) → i < length rs → Loud (get_or rs i Nothing) → ⊥

HeardAt : Reply → List Reply → Type 0
HeardAt r rs = (i : ℕ) × (i < length rs) × Loud (get_or rs i Nothing) × (r ≡ get_or rs i Nothing)

nothing_quiet : Loud Nothing → ⊥
unfolding Loud
nothing_quiet (inl p) = let z : ◌≡◌ {A = ℕ} 0 1 = cc in omega arith
nothing_quiet (inr (v, p)) = let z : ◌≡◌ {A = ℕ} 0 1 = cc in omega arith

no_ack_quiet : Loud NoAck → ⊥
unfolding Loud
no_ack_quiet (inl p) = let z : ◌≡◌ {A = ℕ} 0 1 = cc in omega arith
no_ack_quiet (inr (v, p)) = let z : ◌≡◌ {A = ℕ} 0 1 = cc in omega arith

not_driven_quiet : Loud NotDriven → ⊥
unfolding Loud
not_driven_quiet (inl p) = let z : ◌≡◌ {A = ℕ} 0 1 = cc in omega arith
not_driven_quiet (inr (v, p)) = let z : ◌≡◌ {A = ℕ} 0 1 = cc in omega arith

one_more :
    (h other r : Reply) (rs : List Reply) → (Loud r → ⊥) → (Quiet rs × (h ≡ other)) ⊎ HeardAt h rs
    → (Quiet (r ∷ rs) × (h ≡ other)) ⊎ HeardAt h (r ∷ rs)
unfolding Quiet HeardAt
one_more h other r rs f (inl (q, e)) = inl (quiet, e)
  where
    quiet : Quiet (r ∷ rs)
    quiet zero l p = f p
    quiet (suc i) l p = q i (omega arith) p
one_more h other r rs f (inr (i, l, p, e)) = inr (suc i, omega arith, p, e)

heard_is : (other : Reply) (rs : List Reply) → (Quiet rs × (heard other rs ≡ other)) ⊎ HeardAt (heard other rs) rs
unfolding heard Quiet Loud HeardAt
heard_is other [] = inl (λ i l. absurd (omega arith), refl)
heard_is other (Nothing ∷ rs) = one_more (heard other rs) other Nothing rs nothing_quiet (heard_is other rs)
heard_is other (Ack ∷ rs) = inr (0, omega arith, inl refl, refl)
heard_is other (NoAck ∷ rs) = one_more (heard other rs) other NoAck rs no_ack_quiet (heard_is other rs)
heard_is other (Driven v ∷ rs) = inr (0, omega arith, inr (v, refl), refl)
heard_is other (NotDriven ∷ rs) = one_more (heard other rs) other NotDriven rs not_driven_quiet (heard_is other rs)

-- ---- what kind of event

-- A BYTE and a TAKE go to every record; the reply where none answers.
record Kinds (e : Event) : Type 0 where
  byte : is_byte_event e ≡ true → (is_take_event e ≡ false) × (unanswered e ≡ NoAck) × ((n i : ℕ) → goes_to e n i ≡ true)
  take : is_take_event e ≡ true → (is_byte_event e ≡ false) × (unanswered e ≡ NotDriven) × ((n i : ℕ) → goes_to e n i ≡ true)
  others : is_byte_event e ≡ false → is_take_event e ≡ false → unanswered e ≡ Nothing

kinds : (e : Event) → Kinds e
kinds Start = record { byte = λ p. absurd (false≢true p); take = λ p. absurd (false≢true p); others = λ p q. refl }
kinds Stop = record { byte = λ p. absurd (false≢true p); take = λ p. absurd (false≢true p); others = λ p q. refl }
kinds (Byte b) = record { byte = λ p. (refl, refl, λ n i. refl); take = λ p. absurd (false≢true p); others = λ p q. absurd (true≢false p) }
kinds (Take ack) = record { byte = λ p. absurd (false≢true p); take = λ p. (refl, refl, λ n i. refl); others = λ p q. absurd (true≢false q) }
kinds (Pins levels) = record { byte = λ p. absurd (false≢true p); take = λ p. absurd (false≢true p); others = λ p q. refl }
kinds Tick = record { byte = λ p. absurd (false≢true p); take = λ p. absurd (false≢true p); others = λ p q. refl }
kinds (Reset straps levels short) = record { byte = λ p. absurd (false≢true p); take = λ p. absurd (false≢true p); others = λ p q. refl }
kinds Timeout = record { byte = λ p. absurd (false≢true p); take = λ p. absurd (false≢true p); others = λ p q. refl }

-- ---- the reply of an accepted event

module _ (cs : List Controller) (d : Controller) (n w : ℕ) (e : Event) (a : Accepts cs n w e) where
  abbrev replies : List Reply
  replies = replies_from e n w 0 cs

  abbrev reply : Reply
  reply = heard (unanswered e) replies

  within : (i : ℕ) → i < length replies → i < length cs
  within i l = rw (replies_length e n w 0 cs) at l

  -- Where all get the event, the reply at a place is that of the single call.
  spoken_at : ((m i : ℕ) → goes_to e m i ≡ true) → (i : ℕ) → i < length cs → get_or replies i Nothing ≡ spoken (get_or cs i d) w
  unfolding reply_at
  spoken_at all i l = reply_at_lem e n w cs i d l ∙ rw (all n i)

  said : (i : ℕ) → i < length cs → Speaks (get_or cs i d) w e
  said i l = speaks (get_or cs i d) w e (fit_at cs a.usable d i l) a.is

  ByteHeard : Type 0
  ByteHeard = ((reply ≡ NoAck) × (SomeReplies cs d w Ack → ⊥)) ⊎ ((reply ≡ Ack) × SomeReplies cs d w Ack)

  byte_heard_lem : is_byte_event e ≡ true → ByteHeard
  unfolding ByteHeard Loud Quiet HeardAt
  byte_heard_lem b = ⊎_elim none one (heard_is (unanswered e) replies)
    where
      k : (is_take_event e ≡ false) × (unanswered e ≡ NoAck) × ((m i : ℕ) → goes_to e m i ≡ true)
      k = (kinds e).byte b

      none : Quiet replies × (reply ≡ unanswered e) → ByteHeard
      none (q, p) = inl (p ∙ k.1, λ s. q s.0 (rw (replies_length e n w 0 cs) s.1) (inl (spoken_at k.2 s.0 s.1 ∙ s.2)))

      one : HeardAt reply replies → ByteHeard
      one (i, l, p, h) =
          let is = spoken_at k.2 i (within i l) in
          let acks : spoken (get_or cs i d) w ≡ Ack =
          ⊎_elim (λ x. sym is ∙ x) (λ x. absurd (true≢false (sym ((said i (within i l)).driven x.0 (sym is ∙ x.1)).0 ∙ k.0))) p in
          inr (h ∙ is ∙ acks, (i, within i l, acks))

  TakeHeard : Type 0
  TakeHeard = ((reply ≡ NotDriven) × ((v : ℕ) → SomeReplies cs d w (Driven v) → ⊥)) ⊎ ((v : ℕ) × (reply ≡ Driven v) × SomeReplies cs d w (Driven v))

  take_heard : is_take_event e ≡ true → TakeHeard
  unfolding TakeHeard Loud Quiet HeardAt
  take_heard b = ⊎_elim none one (heard_is (unanswered e) replies)
    where
      k : (is_byte_event e ≡ false) × (unanswered e ≡ NotDriven) × ((m i : ℕ) → goes_to e m i ≡ true)
      k = (kinds e).take b

      none : Quiet replies × (reply ≡ unanswered e) → TakeHeard
      none (q, p) = inl (p ∙ k.1, λ v s. q s.0 (rw (replies_length e n w 0 cs) s.1) (inr (v, spoken_at k.2 s.0 s.1 ∙ s.2)))

      one : HeardAt reply replies → TakeHeard
      one (i, l, p, h) =
          let is = spoken_at k.2 i (within i l) in
          ⊎_elim (λ x. absurd (true≢false (sym ((said i (within i l)).acked (sym is ∙ x)) ∙ k.0)))
          (λ x. inr (x.0, h ∙ x.1, (i, within i l, sym is ∙ x.1))) p

  others_heard : is_byte_event e ≡ false → is_take_event e ≡ false → reply ≡ Nothing
  unfolding Loud Quiet HeardAt reply_at
  others_heard b t = ⊎_elim (λ q. q.1 ∙ (kinds e).others b t) (λ h. h.3 ∙ silent h.0 (within h.0 h.1)) (heard_is (unanswered e) replies)
    where
      silent : (i : ℕ) → i < length cs → get_or replies i Nothing ≡ Nothing
      silent i l = reply_at_lem e n w cs i d l ∙ pick (λ (r : Reply). r ≡ Nothing) (goes_to e n i) (λ g. (said i l).others b t) (λ g. refl)

  sent_hears : Hears cs d w e reply
  unfolding ByteHeard TakeHeard
  sent_hears =
      record {
        byte_acked = λ b. ⊎_elim (λ h. (λ p. absurd (ack_or_not p h.0), λ s. absurd (h.1 s))) (λ h. (λ p. h.1, λ s. h.0)) (byte_heard_lem b);
        byte_not = λ b. ⊎_elim (λ h. (λ p. h.1, λ s. h.0)) (λ h. (λ p. absurd (ack_or_not h.0 p), λ s. absurd (s h.1))) (byte_heard_lem b);
        take_driven = λ t v.
            ⊎_elim (λ h. (λ p. absurd (driven_or_not p h.0), λ s. absurd (h.1 v s)))
            (λ h. (λ p. let same : h.0 ≡ v = driven_same h.1 p in rw same at h.2, λ s. h.1 ∙ one_byte h.2 s)) (take_heard t);
        take_not = λ t.
            ⊎_elim (λ h. (λ p. h.1, λ s. h.0)) (λ h. (λ p. absurd (driven_or_not h.1 p), λ s. absurd (s h.0 h.2))) (take_heard t);
        others = others_heard;
      }
    where
      ack_or_not : reply ≡ Ack → reply ≡ NoAck → ⊥
      ack_or_not p q = let z : ◌≡◌ {A = ℕ} 0 1 = cc in omega arith

      driven_or_not : {v : ℕ} → reply ≡ Driven v → reply ≡ NotDriven → ⊥
      driven_or_not p q = let z : ◌≡◌ {A = ℕ} 0 1 = cc in omega arith

      driven_same : {u v : ℕ} → reply ≡ Driven u → reply ≡ Driven v → u ≡ v
      driven_same p q = cc

      -- They are one record.
      one_byte : {u v : ℕ} → SomeReplies cs d w (Driven u) → SomeReplies cs d w (Driven v) → Driven u ≡ Driven v
      one_byte {u} {v} (i, l, p) (j, m, q) =
          let same : i ≡ j = at_most_one_drives cs d w e a.usable a.is i j u v l m p q in
          sym p ∙ ap (λ (x : ℕ). spoken (get_or cs x d) w) same ∙ q

-- What the reply to an accepted word is.
pub hears :
    (cs : List Controller) (d : Controller) (n w : ℕ) (e : Event) → verdict_of cs n w ≡ Ok e
    → (r : Reply) × ((told_of cs n w).answer ≡ Ok r) × Hears cs d w e r
unfolding told_by
hears cs d n w e v = (heard (unanswered e) (replies_from e n w 0 cs), rw v, sent_hears cs d n w e (accepts cs n w e v))

-- ---- a byte that the host reads

-- It is the byte of one record and of no other, at a TAKE.
pub record OneDrives (cs : List Controller) (d : Controller) (w v : ℕ) : Type 0 where
  pub ack : Bool
  pub at_a_take : unpacked w ≡ Ok (Take ack)
  pub place : ℕ
  pub there : place < length cs
  pub drives : spoken (get_or cs place d) w ≡ Driven v
  pub alone : (j u : ℕ) → j < length cs → spoken (get_or cs j d) w ≡ Driven u → j ≡ place

a_take : (e : Event) → is_take_event e ≡ true → (ack : Bool) × (e ≡ Take ack)
a_take Start t = absurd (false≢true t)
a_take Stop t = absurd (false≢true t)
a_take (Byte b) t = absurd (false≢true t)
a_take (Take ack) t = (ack, refl)
a_take (Pins levels) t = absurd (false≢true t)
a_take Tick t = absurd (false≢true t)
a_take (Reset straps levels short) t = absurd (false≢true t)
a_take Timeout t = absurd (false≢true t)

driven_at_a_take :
    (cs : List Controller) (d : Controller) (w : ℕ) (e : Event) (r : Reply) (v : ℕ) → Hears cs d w e r → r ≡ Driven v → is_take_event e ≡ true
driven_at_a_take cs d w e r v h p = go (is_byte_event e) refl (is_take_event e) refl
  where
    go : (b : Bool) → is_byte_event e ≡ b → (t : Bool) → is_take_event e ≡ t → t ≡ true
    go b x true y = refl
    go true x false y =
        let none : SomeReplies cs d w Ack → ⊥ = λ s. let a = (h.byte_acked x).1 s in let z : ◌≡◌ {A = ℕ} 0 1 = cc in omega arith in
        let n = (h.byte_not x).1 none in
        let z : ◌≡◌ {A = ℕ} 0 1 = cc in
        absurd (omega arith)
    go false x false y = let n = h.others x y in let z : ◌≡◌ {A = ℕ} 0 1 = cc in absurd (omega arith)

pub one_drives : (cs : List Controller) (d : Controller) (n w v : ℕ) → (told_of cs n w).answer ≡ Ok (Driven v) → OneDrives cs d w v
unfolding told_by
one_drives cs d n w v told = go (verdict_of cs n w) refl
  where
    sent : (e : Event) → verdict_of cs n w ≡ Ok e → (r : Reply) → (told_of cs n w).answer ≡ Ok r → Hears cs d w e r → OneDrives cs d w v
    sent e p r q h =
        let all = accepts cs n w e p in
        let is : r ≡ Driven v = same_reply r q in
        let t = driven_at_a_take cs d w e r v h is in
        let take = a_take e t in
        let one = (h.take_driven t v).0 is in
        record {
          ack = take.0;
          at_a_take = all.is ∙ ap Ok take.1;
          place = one.0;
          there = one.1;
          drives = one.2;
          alone = λ j u l x. at_most_one_drives cs d w e all.usable all.is j one.0 u v l one.1 x one.2;
        }
      where
        same_reply : (r : Reply) → (told_of cs n w).answer ≡ Ok r → r ≡ Driven v
        same_reply r q = let j : (Ok r) ≡ (Ok (Driven v)) = sym q ∙ told in cc

    go : (x : Result Event Refusal) → verdict_of cs n w ≡ x → OneDrives cs d w v
    go (Ok e) p = let h = hears cs d n w e p in sent e p h.0 h.1 h.2
    go (Err x) p = let y : (Err x) ≡ (Ok (Driven v)) = rw p at told in let z : ◌≡◌ {A = ℕ} 0 1 = cc in absurd (omega arith)

-- A state and its image. `load (save s)` is `s` for every record that the code's types can hold, fit or not; what was loaded saves as
-- the bytes it came from, so that a state has one image. Assumes nothing.
use Prim.Native.Nat.{ℕ, zero, suc, ◌+◌, ◌-◌}
use native.Mathlib.Omega.{arith}
use mathlib.Core.Path.{◌≡◌, refl, ap, sym, ◌∙◌}
use mathlib.Core.Logic.{◌↔◌}
use mathlib.Core.Bool.{Bool, true, false, cond, ◌&&◌, false≢true}
use mathlib.Core.List.{List, [], ◌∷◌, ◌++◌, map}
use lib.Dec.{eqb, leb}
use lib.ListN.{length, get_or, take, drop}
use lib.Seq.{get_or-drop}
use borrow.Author.Tests.{leb-true, lt-leb, eqb-true}
use Rattle.pairs.proofs.Pairs.{word_back, high_back, low_back}
use Rattle.kind.proofs.Laws.{by_second, second_by_lem}
use Rattle.second.specs.declared.Second.{Second}
use Rattle.bay.specs.Record.{no_bay}
use Rattle.bay.specs.declared.Bay.{Bay}
use Rattle.bus.specs.declared.Progress.{Progress}
use Rattle.bus.specs.declared.Progress.TheVariants.{Idle, Opened, Addressed, Register, Data, Again, Reading, Writing, Sending}
use Rattle.machine.specs.Record.{bay0, bay1, bay_in}
use Rattle.machine.specs.declared.Machine.{Machine}
use Rattle.dock.specs.declared.Controller.{Controller}
use Rattle.machine.proofs.Bays.{each}
use Rattle.image.specs.Layout.{LAYOUT, BYTES, FLAGS, NUMBERS, PROGRESS}
use Rattle.image.specs.Save.{flag_byte, bay_flags, bay_numbers, second_flags, second_numbers, flags_of, numbers_of, progress_bytes, saved}
use Rattle.image.specs.Load.{Verdict, byte_at, flag_bytes, numbers_in, all_flags, first_over, whole, progress_verdict, sized_verdict, verdict_on, is_image, is_set, bay_by, second_by, machine_by, progress_by, state_in, checked_of, load_of, state_of}
use Rattle.image.specs.Shape.{ShapedBay, ShapedSecond, Shaped, Octets}
use Rattle.image.proofs.Elements.{by_elements}
use Rattle.image.specs.declared.Flaw.TheVariants.{NotAFlag, NotUsed, UnknownVersion, WrongLength}
use Rattle.std.specs.Prelude.{Some, Err, Ok}

-- ---- a saved state, loaded

set_back : (fs : List Bool) → map is_set (map flag_byte fs) ≡ fs
set_back [] = refl
set_back (true ∷ fs) = ap (λ l. true ∷ l) (set_back fs)
set_back (false ∷ fs) = ap (λ l. false ∷ l) (set_back fs)

are_flags : (fs : List Bool) → all_flags (map flag_byte fs) ≡ true
are_flags [] = refl
are_flags (true ∷ fs) = are_flags fs
are_flags (false ∷ fs) = are_flags fs

module _ {A : Type 0} (d : A) where
  four_are : (xs : List A) → length xs ≡ 4 → get_or xs 0 d ∷ get_or xs 1 d ∷ get_or xs 2 d ∷ get_or xs 3 d ∷ [] ≡ xs
  four_are = by_elements d 4 (λ xs. get_or xs 0 d ∷ get_or xs 1 d ∷ get_or xs 2 d ∷ get_or xs 3 d ∷ [] ≡ xs) (λ f. refl)

  three_are : (xs : List A) → length xs ≡ 3 → get_or xs 0 d ∷ get_or xs 1 d ∷ get_or xs 2 d ∷ [] ≡ xs
  three_are = by_elements d 3 (λ xs. get_or xs 0 d ∷ get_or xs 1 d ∷ get_or xs 2 d ∷ [] ≡ xs) (λ f. refl)

  two_are : (xs : List A) → length xs ≡ 2 → get_or xs 0 d ∷ get_or xs 1 d ∷ [] ≡ xs
  two_are = by_elements d 2 (λ xs. get_or xs 0 d ∷ get_or xs 1 d ∷ [] ≡ xs) (λ f. refl)

bay_back : (b : Bay) → ShapedBay b → bay_by (bay_flags b) (bay_numbers b) ≡ b
bay_back b h =
    rw (
      three_are false b.levels h.levels,
      three_are false b.accepted h.accepted,
      three_are 0 b.counts h.counts,
      word_back b.pulse,
      word_back b.wait,
    )
    refl

second_back : (r : Second) → ShapedSecond r → second_by (second_flags r) (second_numbers r) ≡ r
second_back r h =
    rw (
      four_are 0 r.subsystem h.subsystem,
      four_are false r.subsystem_written h.subsystem_written,
      two_are 0 r.form_factors h.form_factors,
      two_are false r.form_factors_written h.form_factors_written,
    )
    refl

machine_back : (m : Machine) → Shaped m → machine_by (flags_of m) (numbers_of m) ≡ m
unfolding bay_in
machine_back m h =
    rw (
      by_second m.kind,
      by_second m.named,
      second_back m.second h.second,
      bay_back (bay0 m.bays) (h.bays 0),
      bay_back (bay1 m.bays) (h.bays 1),
      two_are no_bay m.bays h.two,
    )
    refl

progress_back : (p : Progress) → progress_by (byte_at (progress_bytes p) 0) (byte_at (progress_bytes p) 1) (byte_at (progress_bytes p) 2) ≡ p
unfolding progress_bytes
progress_back Idle = refl
progress_back Opened = refl
progress_back Addressed = refl
progress_back (Register r) = refl
progress_back (Data r v) = refl
progress_back (Again r) = refl
progress_back (Reading v) = refl
progress_back (Writing r) = refl
progress_back (Sending r v) = refl

progress_whole : (p : Progress) → progress_verdict (byte_at (progress_bytes p) 0) (byte_at (progress_bytes p) 1) (byte_at (progress_bytes p) 2) ≡ Ok tt
unfolding progress_bytes progress_verdict
progress_whole Idle = refl
progress_whole Opened = refl
progress_whole Addressed = refl
progress_whole (Register r) = refl
progress_whole (Data r v) = refl
progress_whole (Again r) = refl
progress_whole (Reading v) = refl
progress_whole (Writing r) = refl
progress_whole (Sending r v) = refl

three_long : (p : Progress) → length (progress_bytes p) ≡ 3
unfolding progress_bytes
three_long Idle = refl
three_long Opened = refl
three_long Addressed = refl
three_long (Register r) = refl
three_long (Data r v) = refl
three_long (Again r) = refl
three_long (Reading v) = refl
three_long (Writing r) = refl
three_long (Sending r v) = refl

pub saved_length : (s : Controller) → length (saved s) ≡ BYTES
unfolding saved
saved_length s = rw (three_long s.progress) refl

saved_whole : (s : Controller) → verdict_on (saved s) ≡ Ok tt
unfolding verdict_on sized_verdict saved
saved_whole s = rw (saved_length s, are_flags (flags_of s.machine), progress_whole s.progress)

pub saved_image : (s : Controller) → is_image (saved s) ≡ true
unfolding is_image
saved_image s = ap whole (saved_whole s)

pub state_back : (s : Controller) → Shaped s.machine → state_in (saved s) ≡ s
unfolding state_in saved
state_back s h =
    ap (λ fs. held (machine_by fs (numbers_of s.machine)) (progress_by (byte_at (progress_bytes s.progress) 0) (byte_at (progress_bytes s.progress) 1) (byte_at (progress_bytes s.progress) 2))) (set_back (flags_of s.machine))
    ∙ ap (λ m. held m (progress_by (byte_at (progress_bytes s.progress) 0) (byte_at (progress_bytes s.progress) 1) (byte_at (progress_bytes s.progress) 2))) (machine_back s.machine h)
    ∙ ap (λ p. held s.machine p) (progress_back s.progress)
  where
    held : Machine → Progress → Controller
    held m p = record { machine = m; progress = p }

pub load_saved : (s : Controller) → Shaped s.machine → load_of (saved s) ≡ record { verdict = Ok tt; controller = s }
unfolding load_of
load_saved s h = rw (saved_whole s) (ap (λ t. record { verdict = Ok tt; controller = t }) (state_back s h))

-- The same of the two other ways to load: with the flaw, and, as the library's calls do, without it.
pub checked_saved : (s : Controller) → Shaped s.machine → checked_of (saved s) ≡ Ok s
unfolding checked_of
checked_saved s h = rw (saved_whole s) (ap Ok (state_back s h))

pub state_saved : (s : Controller) → Shaped s.machine → state_of (saved s) ≡ Some s
unfolding state_of
state_saved s h = rw (saved_image s) (ap Some (state_back s h))

-- ---- bytes that are an image, loaded and saved

pub record Parts (bytes : List ℕ) : Type 0 where
  pub long : length bytes ≡ BYTES
  pub version : byte_at bytes 0 ≡ LAYOUT
  pub flags : all_flags (flag_bytes bytes) ≡ true
  pub progress : progress_verdict (byte_at bytes PROGRESS) (byte_at bytes (PROGRESS + 1)) (byte_at bytes (PROGRESS + 2)) ≡ Ok tt

-- What a verdict without a flaw says.
pub parts : (bytes : List ℕ) → verdict_on bytes ≡ Ok tt → Parts bytes
unfolding verdict_on sized_verdict
parts bytes e = go (eqb (length bytes) BYTES) refl (eqb (byte_at bytes 0) LAYOUT) refl (all_flags (flag_bytes bytes)) refl e
  where
    go :
        (l : Bool) → eqb (length bytes) BYTES ≡ l → (v : Bool) → eqb (byte_at bytes 0) LAYOUT ≡ v → (f : Bool) → all_flags (flag_bytes bytes) ≡ f
        → cond l (cond v (cond f (progress_verdict (byte_at bytes PROGRESS) (byte_at bytes (PROGRESS + 1)) (byte_at bytes (PROGRESS + 2))) (Err (NotAFlag (1 + first_over (flag_bytes bytes))))) (Err UnknownVersion)) (Err WrongLength) ≡ Ok tt
        → Parts bytes
    go false l v p f q e = absurd (false≢true (ap whole e))
    go true l false p f q e = absurd (false≢true (ap whole e))
    go true l true p false q e = absurd (false≢true (ap whole e))
    go true l true p true q e = record { long = eqb-true _ BYTES l; version = eqb-true _ LAYOUT p; flags = q; progress = e }

flag_back : (b : ℕ) → leb b 1 ≡ true → flag_byte (is_set b) ≡ b
flag_back zero h = refl
flag_back (suc zero) h = refl
flag_back (suc (suc b)) h = absurd (omega (arith, leb-true (suc (suc b)) 1 h))

and_parts : (a b : Bool) → (a && b) ≡ true → (a ≡ true) × (b ≡ true)
and_parts true b h = (refl, h)
and_parts false b h = absurd (false≢true h)

flags_back : (bs : List ℕ) → all_flags bs ≡ true → map flag_byte (map is_set bs) ≡ bs
flags_back [] h = refl
flags_back (b ∷ bs) h =
    let t = and_parts (leb b 1) (all_flags bs) h in
    rw (flag_back b t.0) (ap (λ l. b ∷ l) (flags_back bs t.1))

first_zero : (a b i j : ℕ) → ◌≡◌ {A = Verdict} (cond (eqb a 0) (cond (eqb b 0) (Ok tt) (Err (NotUsed i))) (Err (NotUsed j))) (Ok tt) → (a ≡ 0) × (b ≡ 0)
first_zero a b i j = go (eqb a 0) refl (eqb b 0) refl
  where
    go : (t : Bool) → eqb a 0 ≡ t → (u : Bool) → eqb b 0 ≡ u → ◌≡◌ {A = Verdict} (cond t (cond u (Ok tt) (Err (NotUsed i))) (Err (NotUsed j))) (Ok tt) → (a ≡ 0) × (b ≡ 0)
    go true p true q h = (eqb-true a 0 p, eqb-true b 0 q)
    go true p false q h = absurd (false≢true (ap whole h))
    go false p u q h = absurd (false≢true (ap whole h))

second_zero : (b i : ℕ) → ◌≡◌ {A = Verdict} (cond (eqb b 0) (Ok tt) (Err (NotUsed i))) (Ok tt) → b ≡ 0
second_zero b i h = (first_zero 0 b i 0 h).1

progress_bytes_back : (which a b : ℕ) → progress_verdict which a b ≡ Ok tt → progress_bytes (progress_by which a b) ≡ which ∷ a ∷ b ∷ []
unfolding progress_verdict progress_bytes
progress_bytes_back zero a b h = let z = first_zero a b (PROGRESS + 2) (PROGRESS + 1) h in rw (z.0, z.1) refl
progress_bytes_back (suc zero) a b h = let z = first_zero a b (PROGRESS + 2) (PROGRESS + 1) h in rw (z.0, z.1) refl
progress_bytes_back (suc (suc zero)) a b h = let z = first_zero a b (PROGRESS + 2) (PROGRESS + 1) h in rw (z.0, z.1) refl
progress_bytes_back (suc (suc (suc zero))) a b h = rw (second_zero b (PROGRESS + 2) h) refl
progress_bytes_back (suc (suc (suc (suc zero)))) a b h = refl
progress_bytes_back (suc (suc (suc (suc (suc zero))))) a b h = rw (second_zero b (PROGRESS + 2) h) refl
progress_bytes_back (suc (suc (suc (suc (suc (suc zero)))))) a b h = rw (second_zero b (PROGRESS + 2) h) refl
progress_bytes_back (suc (suc (suc (suc (suc (suc (suc zero))))))) a b h = rw (second_zero b (PROGRESS + 2) h) refl
progress_bytes_back (suc (suc (suc (suc (suc (suc (suc (suc zero)))))))) a b h = refl
progress_bytes_back (suc (suc (suc (suc (suc (suc (suc (suc (suc n))))))))) a b h =
    absurd (false≢true (ap whole (rw (lt-leb (suc (suc (suc (suc (suc (suc (suc (suc (suc n))))))))) 8 (omega arith)) at h)))

flags_of_lem : (fs : List Bool) (ns : List ℕ) → length fs ≡ NUMBERS - FLAGS → flags_of (machine_by fs ns) ≡ fs
flags_of_lem fs ns = by_elements false (NUMBERS - FLAGS) (λ fs. flags_of (machine_by fs ns) ≡ fs) (λ f. rw (second_by_lem (f 1), second_by_lem (f 2)) refl) fs

numbers_of_lem : (fs : List Bool) (ns : List ℕ) → length ns ≡ PROGRESS - NUMBERS → Octets ns → numbers_of (machine_by fs ns) ≡ ns
numbers_of_lem fs ns =
    by_elements 0 (PROGRESS - NUMBERS) (λ ns. Octets ns → numbers_of (machine_by fs ns) ≡ ns)
    (λ f o. rw (
      high_back (f 17) (f 18) (o 18),
      low_back (f 17) (f 18) (o 18),
      high_back (f 19) (f 20) (o 20),
      low_back (f 19) (f 20) (o 20),
      high_back (f 26) (f 27) (o 27),
      low_back (f 26) (f 27) (o 27),
      high_back (f 28) (f 29) (o 29),
      low_back (f 28) (f 29) (o 29),
    )
    refl)
    ns

put_back :
    (bytes : List ℕ) → length bytes ≡ BYTES
    → byte_at bytes 0 ∷ (flag_bytes bytes ++ (numbers_in bytes ++ (byte_at bytes PROGRESS ∷ byte_at bytes (PROGRESS + 1) ∷ byte_at bytes (PROGRESS + 2) ∷ []))) ≡ bytes
put_back = by_elements 0 BYTES _ (λ f. refl)

pub flag_bytes_long : (bytes : List ℕ) → length bytes ≡ BYTES → length (flag_bytes bytes) ≡ NUMBERS - FLAGS
flag_bytes_long = by_elements 0 BYTES _ (λ f. refl)

flags_long : (bytes : List ℕ) → length bytes ≡ BYTES → length (map is_set (flag_bytes bytes)) ≡ NUMBERS - FLAGS
flags_long = by_elements 0 BYTES _ (λ f. refl)

numbers_long : (bytes : List ℕ) → length bytes ≡ BYTES → length (numbers_in bytes) ≡ PROGRESS - NUMBERS
numbers_long = by_elements 0 BYTES _ (λ f. refl)

octets_take : (n : ℕ) (bytes : List ℕ) → Octets bytes → Octets (take n bytes)
octets_take zero bytes o i = omega arith
octets_take (suc n) [] o i = omega arith
octets_take (suc n) (b ∷ bs) o zero = o zero
octets_take (suc n) (b ∷ bs) o (suc i) = octets_take n bs (λ j. o (suc j)) i

numbers_octets : (bytes : List ℕ) → Octets bytes → Octets (numbers_in bytes)
numbers_octets bytes o = octets_take (PROGRESS - NUMBERS) (drop NUMBERS bytes) (λ i. rw (get_or-drop NUMBERS bytes i 0) (o (NUMBERS + i)))

pub saved_loaded : (bytes : List ℕ) → Octets bytes → verdict_on bytes ≡ Ok tt → saved (state_in bytes) ≡ bytes
unfolding saved state_in
saved_loaded bytes o e =
    let t = parts bytes e in
    ap (λ f. image LAYOUT f (numbers_of machine) (progress_bytes progress))
    (ap (map flag_byte) (flags_of_lem (map is_set (flag_bytes bytes)) (numbers_in bytes) (flags_long bytes t.long)) ∙ flags_back (flag_bytes bytes) t.flags)
    ∙ ap (λ n. image LAYOUT (flag_bytes bytes) n (progress_bytes progress)) (numbers_of_lem (map is_set (flag_bytes bytes)) (numbers_in bytes) (numbers_long bytes t.long) (numbers_octets bytes o))
    ∙ ap (image LAYOUT (flag_bytes bytes) (numbers_in bytes)) (progress_bytes_back _ _ _ t.progress)
    ∙ ap (λ v. image v (flag_bytes bytes) (numbers_in bytes) (byte_at bytes PROGRESS ∷ byte_at bytes (PROGRESS + 1) ∷ byte_at bytes (PROGRESS + 2) ∷ [])) (sym t.version)
    ∙ put_back bytes t.long
  where
    image : ℕ → List ℕ → List ℕ → List ℕ → List ℕ
    image version flags numbers progress = version ∷ (flags ++ (numbers ++ progress))

    machine : Machine
    machine = machine_by (map is_set (flag_bytes bytes)) (numbers_in bytes)

    progress : Progress
    progress = progress_by (byte_at bytes PROGRESS) (byte_at bytes (PROGRESS + 1)) (byte_at bytes (PROGRESS + 2))

-- So a state has one image: two images of one state are the same bytes.
pub one_image : (xs ys : List ℕ) → Octets xs → Octets ys → verdict_on xs ≡ Ok tt → verdict_on ys ≡ Ok tt → state_in xs ≡ state_in ys → xs ≡ ys
one_image xs ys o w p q e = sym (saved_loaded xs o p) ∙ ap saved e ∙ saved_loaded ys w q

-- The state of bytes has the shape of a record, whatever the bytes are.
pub loaded_shaped : (bytes : List ℕ) → Shaped (state_in bytes).machine
unfolding state_in
loaded_shaped bytes =
    record {
      two = refl;
      bays =
          each ShapedBay (state_in bytes).machine.bays (record { levels = refl; accepted = refl; counts = refl })
          (record { levels = refl; accepted = refl; counts = refl });
      second = record { subsystem = refl; subsystem_written = refl; form_factors = refl; form_factors_written = refl };
    }

-- Bytes are an image exactly where they are the bytes of some record.
pub record Image (bytes : List ℕ) : Type 0 where
  pub state : Controller
  pub shaped : Shaped state.machine
  pub is : saved state ≡ bytes

pub images_exactly : (bytes : List ℕ) → Octets bytes → (verdict_on bytes ≡ Ok tt) ↔ Image bytes
images_exactly bytes o =
    (λ e. record { state = state_in bytes; shaped = loaded_shaped bytes; is = saved_loaded bytes o e }, λ i. rw (← i.is) (saved_whole i.state))

-- The chassis's call on a list of states that the caller holds, as the bytes of their images, one after the other (document 02, request 9).
use Rattle.std.specs.Prelude.{ℕ, zero, suc, ◌+◌, ◌*◌, ◌/◌, ◌%◌, ◌^◌, Bool, true, cond, not, ◌&&◌, ◌||◌, List, [], ◌∷◌, ◌++◌, map, eqb, length, get_or, take, drop}
use Rattle.std.specs.Prelude.{Option, Some, None, Err}
use Rattle.dock.specs.declared.Controller.{Controller}
use Rattle.chassis.specs.Judge.{wrong_length}
use Rattle.chassis.specs.Chassis.{four, records_of, told_of}
use Rattle.chassis.specs.Looking.{begun, seen_to}
use Rattle.chassis.specs.Numbers.{answer_refusal, answer_reply, answer_byte}
use Rattle.chassis.specs.Passing.{set_out_of, records_to, round_to}
use Rattle.chassis.specs.declared.Errand.{Errand}
use Rattle.chassis.specs.declared.Refusal.{Refusal}
use Rattle.chassis.specs.declared.Refusal.TheVariants.{WrongLength, Unfit}
use Rattle.chassis.specs.declared.Round.{Round}
use Rattle.chassis.specs.declared.Told.{Told}
use Rattle.image.specs.Layout.{BYTES}
use Rattle.image.specs.Save.{saved}
use Rattle.chassis.specs.declared.Seen.{Seen}
use Rattle.image.specs.Load.{is_image, state_in}

-- The images of records, one after the other.
unfoldable pub images_of : List Controller → List ℕ
images_of [] = []
images_of (c ∷ cs) = saved c ++ images_of cs

-- So many bytes hold so many images.
abbrev pub images_in : ℕ → ℕ
images_in n = n / BYTES

-- 9: they are not the bytes of one to four.
abbrev pub not_images : ℕ → Bool
not_images n = not (eqb (n % BYTES) 0) || wrong_length (images_in n)

-- The first so many parts, each of as many bytes as an image has.
unfoldable pub parts_of : ℕ → List ℕ → List (List ℕ)
parts_of zero bytes = []
parts_of (suc k) bytes = take BYTES bytes ∷ parts_of k (drop BYTES bytes)

abbrev pub parts_in : List ℕ → List (List ℕ)
parts_in bytes = parts_of (images_in (length bytes)) bytes

-- The states of the parts, ..
abbrev pub states_of : List (List ℕ) → List Controller
states_of parts = map state_in parts

abbrev pub states_in : List ℕ → List Controller
states_in bytes = states_of (parts_in bytes)

-- .. where each is an image.
unfoldable pub all_images : List (List ℕ) → Bool
all_images [] = true
all_images (p ∷ ps) = is_image p && all_images ps

-- What the states of the images give, or else what a refusal does: 9 for a wrong length, then 1 where a part is no image.
abbrev pub in_images : {A : Type 0} → List ℕ → (List Controller → A) → (Refusal → A) → A
in_images bytes gives refuses =
    cond (not_images (length bytes)) (refuses WrongLength) (cond (all_images (parts_in bytes)) (gives (states_in bytes)) (refuses Unfit))

-- The answer, and the bytes afterwards.
abbrev pub refused_with : Refusal → Told
refused_with x = record { answer = Err x; outputs = four [] }

unfoldable pub told_in : List ℕ → ℕ → ℕ → Told
told_in bytes n w = in_images bytes (λ cs. told_of cs n w) refused_with

unfoldable pub list_in : List ℕ → ℕ → ℕ → List ℕ
list_in bytes n w = in_images bytes (λ cs. images_of (records_of cs n w)) (λ x. bytes)

-- The answer as 64 bits: refusal 4, reply 3, byte 8, one zero bit, and four sets of outputs of 12 each.
abbrev pub head : ℕ → ℕ → ℕ → ℕ
head refusal reply byte = (refusal * 8 + reply) * 256 + byte

abbrev pub output_sets : ℕ → ℕ → ℕ → ℕ → ℕ
output_sets first second third fourth = first * 2 ^ 36 + second * 2 ^ 24 + third * 2 ^ 12 + fourth

unfoldable pub chassis_as : Told → ℕ
chassis_as t =
    head (answer_refusal t.answer) (answer_reply t.answer) (answer_byte t.answer) * 2 ^ 49
    + output_sets (get_or t.outputs 0 0) (get_or t.outputs 1 0) (get_or t.outputs 2 0) (get_or t.outputs 3 0)

-- ---- the code's own way

-- How many images there are, unless the length is wrong.
abbrev pub count_in : ℕ → Option ℕ
count_in n = cond (not_images n) None (Some (images_in n))

-- The first so many parts as they stand on the bus, where all of them are images.
unfoldable pub seen_in : List ℕ → ℕ → Option Seen
seen_in bytes count = cond (all_images (parts_of count bytes)) (Some (seen_to begun count (states_of (parts_of count bytes)))) None

-- The first so many parts, where they are images, are passed in their place: what is gathered, and the bytes.
abbrev pub round_in : List ℕ → ℕ → Errand → Round
round_in bytes places r = round_to r (set_out_of r) places (states_of (parts_of places bytes))

abbrev pub passed_in : List ℕ → ℕ → Errand → List ℕ
passed_in bytes places r = images_of (records_to r (set_out_of r) places (states_of (parts_of places bytes))) ++ drop (places * BYTES) bytes

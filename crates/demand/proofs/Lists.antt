-- Lists of events, names and acts, cut anywhere: what is heard, decided, done and read of the parts is that of the whole. Assumes nothing.
use Prim.Native.Nat.{ℕ}
use mathlib.Core.Path.{◌≡◌, refl, ap, sym, ◌∙◌}
use mathlib.Core.List.{List, [], ◌∷◌, ◌++◌, append_assoc}
use Rattle.machine.specs.Record.{fresh_machine}
use Rattle.machine.specs.Acts.{does, does_all}
use Rattle.machine.specs.declared.Machine.{Machine}
use Rattle.machine.specs.declared.Act.{Act}
use Rattle.demand.specs.Acts.{Line, silent, line_after, acts_of, Happening, acts_at, meets}
use Rattle.demand.specs.Plain.{machine_after, answered, last_read}

pub line_append : (l : Line) (xs ys : List Happening) → line_after l (xs ++ ys) ≡ line_after (line_after l xs) ys
unfolding line_after
line_append l [] ys = refl
line_append l (e ∷ xs) ys = line_append (meets l e) xs ys

pub acts_append : (l : Line) (xs ys : List Happening) → acts_of l (xs ++ ys) ≡ acts_of l xs ++ acts_of (line_after l xs) ys
unfolding line_after acts_of
acts_append l [] ys = refl
acts_append l (e ∷ xs) ys =
    ap (λ k. acts_at l e ++ k) (acts_append (meets l e) xs ys) ∙ sym (append_assoc (acts_at l e) (acts_of (meets l e) xs) (acts_of (line_after (meets l e) xs) ys))

pub does_append : (xs ys : List Act) (m : Machine) → does_all (xs ++ ys) m ≡ does_all ys (does_all xs m)
unfolding does_all
does_append [] ys m = refl
does_append (a ∷ xs) ys m = does_append xs ys (does a m)

pub machine_append : (xs ys : List Happening) → machine_after (xs ++ ys) ≡ does_all (acts_of (line_after silent xs) ys) (machine_after xs)
unfolding machine_after
machine_append xs ys =
    ap (λ k. does_all k fresh_machine) (acts_append silent xs ys) ∙ does_append (acts_of silent xs) (acts_of (line_after silent xs) ys) fresh_machine

pub reads_append : (v : ℕ) (xs ys : List Act) (m : Machine) → last_read v (xs ++ ys) m ≡ last_read (last_read v xs m) ys (does_all xs m)
unfolding last_read does_all
reads_append v [] ys m = refl
reads_append v (a ∷ xs) ys m = reads_append (answered v a m) xs ys (does a m)

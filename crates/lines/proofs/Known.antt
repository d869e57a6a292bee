-- What a read's answer says of the bytes that the reader has left, where these are known. Assumes nothing.
use Prim.Native.Nat.{ℕ, min, ◌≤◌, ◌<◌}
use native.Mathlib.Omega.{arith}
use mathlib.Core.Path.{◌≡◌, refl, ◌∙◌, sym}
use mathlib.Core.Bool.{Bool, true, false, cond}
use mathlib.Core.List.{List, [], ◌++◌, append_assoc, append-nil}
use lib.ListN.{length, take}
use lib.Dec.{eqb}
use borrow.Author.Tests.{eqb-true}
use Rattle.std.proofs.Common.{None, Some, Ok, Err}
use Rattle.std.specs.declared.result.Result.{Result}
use Rattle.std.specs.declared.option.Option.{Option}
use Rattle.std.specs.Io.{ReadsAtMost}
use Rattle.std.specs.Io.KnownBytes.{Consumes, Appends, IsAtEnd, Keeps, ReadConsumes}
use Rattle.lines.specs.declared.reads.Stopped.{Stopped}
use Rattle.lines.specs.Reads.{came_of}

-- ---- one behind the other

pub consumes_none : (a : Option (List ℕ)) → Consumes a a []
consumes_none None = tt
consumes_none (Some xs) = refl

pub consumes_more : (a b c : Option (List ℕ)) (xs ys : List ℕ) → Consumes a b xs → Consumes b c ys → Consumes a c (xs ++ ys)
consumes_more None b c xs ys p q = tt
consumes_more (Some ls) None c xs ys p q = absurd p
consumes_more (Some ls) (Some ms) None xs ys p q = absurd q
consumes_more (Some ls) (Some ms) (Some ns) xs ys p q = p ∙ rw q (sym (append_assoc xs ys ns))

pub appends_none : (a : Option (List ℕ)) → Appends a a []
appends_none None = tt
appends_none (Some xs) = sym (append-nil xs)

pub appends_more : (a b c : Option (List ℕ)) (xs ys : List ℕ) → Appends a b xs → Appends b c ys → Appends a c (xs ++ ys)
appends_more None b c xs ys p q = tt
appends_more (Some ls) None c xs ys p q = absurd p
appends_more (Some ls) (Some ms) None xs ys p q = absurd q
appends_more (Some ls) (Some ms) (Some ns) xs ys p q = q ∙ rw p (append_assoc ls xs ys)

pub keeps_all : (a b : Option (List ℕ)) → Keeps a b → Consumes a b []
keeps_all None b k = tt
keeps_all (Some xs) None k = absurd k
keeps_all (Some xs) (Some ys) k = sym k

-- ---- what came

-- Some bytes, or none.
some_picked : (b : Bool) (m k : ℕ) → ◌≡◌ {A = Result (Option ℕ) Stopped} (Ok (Some k)) (Ok (cond b None (Some m))) → k ≡ m
some_picked true m k e = absurd (let z : ◌≡◌ {A = ℕ} 0 1 = cc in omega arith)
some_picked false m k e = cc

none_picked : (b : Bool) (m : ℕ) → ◌≡◌ {A = Result (Option ℕ) Stopped} (Ok None) (Ok (cond b None (Some m))) → b ≡ true
none_picked true m e = refl
none_picked false m e = absurd (let z : ◌≡◌ {A = ℕ} 0 1 = cc in omega arith)

module _ {E : Type 0} (old new : Option (List ℕ)) (buffer : List ℕ) where
  pub some_came :
      (r : Result ℕ E) (k : ℕ) → Ok (Some k) ≡ came_of r (length buffer) → ReadsAtMost r buffer → ReadConsumes old new r buffer
      → (k ≤ length buffer) × Consumes old new (take k buffer)
  unfolding came_of
  some_came (Ok n) k e m c =
      let same : k ≡ n = some_picked (eqb n 0) (min n (length buffer)) k e ∙ omega (arith, m) in (rw same m.0, rw same c.0)
  some_came (Err x) k e m c = absurd (let z : ◌≡◌ {A = ℕ} 0 1 = cc in omega arith)

  pub none_came :
      (r : Result ℕ E) → Ok None ≡ came_of r (length buffer) → 0 < length buffer → ReadConsumes old new r buffer
      → Consumes old new [] × IsAtEnd new
  unfolding came_of
  none_came (Ok n) e l c =
      let none : n ≡ 0 = eqb-true n 0 (none_picked (eqb n 0) (min n (length buffer)) e) in (rw none at c.0, c.1 none l)
  none_came (Err x) e l c = absurd (let z : ◌≡◌ {A = ℕ} 0 1 = cc in omega arith)

  -- A read that failed has taken nothing.
  pub none_lost : (r : Result ℕ E) (e : Stopped) → Err e ≡ came_of r (length buffer) → ReadConsumes old new r buffer → Consumes old new []
  unfolding came_of
  none_lost (Ok n) e s c = absurd (let z : ◌≡◌ {A = ℕ} 0 1 = cc in omega arith)
  none_lost (Err x) e s c = keeps_all old new c

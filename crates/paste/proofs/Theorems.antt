-- The theorems on images as texts: what is written is read as the same bytes, and each contract determines its answer.
-- Assumes nothing.
use Prim.Native.Nat.{ℕ, suc, ◌+◌, ◌*◌, ◌/◌, ◌%◌, ◌<◌}
use native.Mathlib.Omega.{arith}
use mathlib.Core.Bool.{Bool, true, false}
use mathlib.Core.Path.{◌≡◌, refl, ap, ◌∙◌, sym}
use mathlib.Core.List.{List, [], ◌∷◌, map}
use Rattle.std.proofs.Common.{cond, None, Result, Ok, Err, subst}
use Rattle.std.specs.Option.{is_some, option_map}
use Rattle.std.specs.Result.{is_ok}
use lib.Dec.{eqb, ltb}
use lib.ListN.{length}
use borrow.Author.Tests.{eq-eqb}
use denote.Ref.{Bor}
use Rattle.hexes.specs.Digit.{digit_for}
use Rattle.script.specs.Text.{characters}
use Rattle.script.specs.Arguments.{digit_of}
use Rattle.script.proofs.OneWord.{OneWord}
use Rattle.script.proofs.Theorems.{digit_back}
use Rattle.dock.specs.declared.Controller.{Controller}
use Rattle.second.specs.Record.{fits as second_fits}
use Rattle.bay.specs.Record.{bay_fit}
use Rattle.machine.specs.Record.{bay_in, fits}
use Rattle.image.specs.Layout.{BYTES}
use Rattle.image.specs.Load.{first_over, progress_verdict, sized_verdict, verdict_on, state_in, checked_of}
use Rattle.image.specs.Save.{saved}
pub use Rattle.image.specs.Shape.{Shaped, Octets}
use Rattle.image.specs.declared.Flaw.{Flaw}
use Rattle.image.proofs.RoundTrip.{saved_length, checked_saved}
use Rattle.paste.specs.Digits.{hex_of, leading_digits, bytes_of}
use Rattle.paste.specs.Findings.{finding_of, found, judged_by, judged, unread, pasted_of}
use Rattle.paste.specs.Examples.{Example, examples, wrong}
use Rattle.paste.specs.Ranges.{longest, out_of}
use Rattle.paste.specs.declared.Finding.TheVariants.{NoDigit, OddDigit, OtherLength, Unfit}
use Rattle.paste.specs.declared.Pasted.{Pasted}
use Rattle.paste.specs.declared.Refused.{Refused}
use Rattle.paste.proofs.Fit.{named_is_out}
use Rattle.paste.proofs.digits.write.Reads as write_reads
use Rattle.paste.proofs.findings.read.Reads as read_reads

-- Each of the examples is what it is said to be.
pub examples_hold : map (λ (e : Example). wrong (pasted_of (characters e.pasted))) examples ≡ map (λ (e : Example). e.finding) examples
unfolding examples pasted_of judged finding_of unread bytes_of digit_of longest out_of checked_of verdict_on sized_verdict progress_verdict first_over state_in fits second_fits bay_in bay_fit
examples_hold = refl

-- ---- what is written is read as the same bytes

-- A digit that was written is one.
digit_read : (n : ℕ) → is_some (digit_of (digit_for n)) ≡ true
digit_read n = rw (digit_back n)

all_digits : (bs : List ℕ) → leading_digits (hex_of bs) ≡ length (hex_of bs)
unfolding hex_of
all_digits [] = refl
all_digits (b ∷ bs) = rw (digit_read (b / 16), digit_read b, all_digits bs) (omega arith)

pub two_each : (bs : List ℕ) → length (hex_of bs) ≡ 2 * length bs
unfolding hex_of
two_each [] = refl
two_each (b ∷ bs) = omega (arith, two_each bs)

same_bytes : (bs : List ℕ) → Octets bs → bytes_of (hex_of bs) ≡ bs
unfolding bytes_of hex_of
same_bytes [] all = refl
same_bytes (b ∷ bs) all =
    let whole : b / 16 % 16 * 16 + b % 16 ≡ b = omega (arith, all 0) in
    rw (digit_back (b / 16), digit_back b, whole, same_bytes bs (λ i. all (suc i)))

pub written_back : (bs : List ℕ) → Octets bs → length bs ≡ BYTES → pasted_of (hex_of bs) ≡ judged bs
unfolding pasted_of
written_back bs all size =
    let digits : length (hex_of bs) ≡ 2 * BYTES = omega (arith, two_each bs) in
    rw (eq-eqb _ _ (all_digits bs), digits, same_bytes bs all)

-- A fit state that is written is read back; each number of it is a byte, as it is in the code.
pub state_back :
    (s : Controller) → Shaped s.machine → Octets (saved s) → fits s.machine ≡ true
    → pasted_of (hex_of (saved s)) ≡ Ok (record { bytes = saved s; controller = s })
unfolding judged finding_of
state_back s shaped octets fit = written_back (saved s) octets (saved_length s) ∙ rw (checked_saved s shaped, fit)

-- What is written is one word of a line: no digit is a blank, and none begins a comment.
digit_above : (n : ℕ) → 47 < digit_for n
unfolding digit_for
digit_above n = go (ltb (n % 16) 10) refl
  where
    go : (b : Bool) → ltb (n % 16) 10 ≡ b → 47 < digit_for n
    go true e = rw e (omega arith)
    go false e = rw e (omega arith)

pub one_word : (bs : List ℕ) → OneWord (hex_of bs)
unfolding hex_of
one_word [] = tt
one_word (b ∷ bs) = (
  omega (arith, digit_above (b / 16)),
  λ e. omega (arith, e, digit_above (b / 16)),
  (omega (arith, digit_above b), λ e. omega (arith, e, digit_above b), one_word bs),
)

-- ---- what can be gone on from is fit

fit_by : (bytes : List ℕ) (r : Result Controller Flaw) (p : Pasted) → judged_by bytes r ≡ Ok p → fits p.controller.machine ≡ true
unfolding finding_of
fit_by bytes (Ok c) p e = go (fits c.machine) refl e
  where
    go : (b : Bool) → fits c.machine ≡ b → found bytes c (cond b None (option_map Unfit (out_of c.machine))) ≡ Ok p → fits p.controller.machine ≡ true
    go true f e = let same : record { bytes = bytes; controller = c } ≡ p = cc in subst (λ (q : Pasted). fits q.controller.machine ≡ true) same f
    go false f e = let named = named_is_out c.machine f in let refused = rw named.1 at e in cc
fit_by bytes (Err why) p e = cc

judged_fit : (bs : List ℕ) (p : Pasted) → judged bs ≡ Ok p → fits p.controller.machine ≡ true
unfolding judged
judged_fit bs p e = fit_by bs (checked_of bs) p e

pub accepted_is_fit : (t : List ℕ) (p : Pasted) → pasted_of t ≡ Ok p → fits p.controller.machine ≡ true
unfolding pasted_of
accepted_is_fit t p e = digits (eqb (leading_digits t) (length t)) (eqb (length t % 2) 1) (eqb (length t) (2 * BYTES)) e
  where
    digits : (d o w : Bool)
        → cond d (cond o (Err (unread (OddDigit (length t)))) (cond w (judged (bytes_of t)) (Err (unread (OtherLength (length t / 2)))))) (Err (unread (NoDigit (leading_digits t)))) ≡ Ok p
        → fits p.controller.machine ≡ true
    digits true false true e = judged_fit (bytes_of t) p e
    digits false o w e = cc
    digits true true w e = cc
    digits true false false e = cc

-- ---- the contract of each exported call, as the checker reads it, determines the call's answer

pub write_determined :
    (κs : _) (c : Controller) (r s : List ℕ) → write_reads.Post κs (c, tt) r (c, tt) → write_reads.Post κs (c, tt) s (c, tt) → r ≡ s
write_determined κs c r s p q = p ∙ sym q

pub read_determined :
    (κs : _) (text : Bor (List ℕ)) (r s : Result Pasted Refused) → read_reads.Post κs (text, tt) r (text, tt) → read_reads.Post κs (text, tt) s (text, tt) → r ≡ s
read_determined κs text r s p q = p ∙ sym q

-- And so whether a text can be gone on from.
pub is_fit_determined :
    (κs : _) (text : Bor (List ℕ)) (r s : Result Pasted Refused) → read_reads.Post κs (text, tt) r (text, tt) → read_reads.Post κs (text, tt) s (text, tt) → is_ok r ≡ is_ok s
is_fit_determined κs text r s p q = ap is_ok (read_determined κs text r s p q)

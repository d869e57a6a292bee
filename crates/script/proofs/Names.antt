-- The names are texts, and a word that names something is one of them. Assumes nothing.
use Rattle.std.proofs.Common.{ℕ, ◌≡◌, Bool, true, false, cond, ◌&&◌, List, [], ◌∷◌, Some, None, refl, sym, subst, inl, inr}
use mathlib.Core.Logic.{◌⊎◌}
use lib.Dec.{ltb}
use borrow.Author.Tests.{ltb-true}
use Rattle.std.specs.List.{AllPass, list_all}
use Rattle.std.specs.Str.{IsUtf8}
use Rattle.std.proofs.lemmas.List.Sums.{AllPass-from_list_all}
use Rattle.std.proofs.lemmas.Str.{IsUtf8-from_ascii}
use Rattle.std.proofs.lemmas.Str.Ascii.{IsAscii-from_all}
use Rattle.std.proofs.lemmas.Slice.Eq.{bytes_eq-Decides}
use Rattle.script.specs.Text.{characters, says}
use Rattle.script.specs.Verbs.{Entry, verbs, among, verb_of}
use Rattle.script.specs.declared.Named.{Named}

-- What is typed is the text that it says.
said : (e : Entry) (w : List ℕ) → says e.text w ≡ true → w ≡ characters e.text
said e w s = (bytes_eq-Decides w (characters e.text)).0 s

-- Bytes that are no text are none of the names, which are ASCII.
abbrev Plain : List ℕ → Bool
Plain cs = list_all (λ c. ltb c 128) cs

abbrev Names : List Entry → Bool
Names es = list_all (λ e. Plain (characters e.text)) es

is_text : (cs : List ℕ) → Plain cs ≡ true → IsUtf8 cs
is_text cs plain =
    let each : AllPass (λ c. ltb c 128) cs = AllPass-from_list_all (λ c. ltb c 128) cs plain in
    IsUtf8-from_ascii cs (IsAscii-from_all cs (λ k d l. ltb-true _ 128 (each k d l)))

none_among : (es : List Entry) (w : List ℕ) → Names es ≡ true → ¬ (IsUtf8 w) → among es w ≡ None
none_among [] w all bad = refl
none_among (e ∷ es) w all bad = go (says e.text w) (Plain (characters e.text)) refl refl all (λ others. none_among es w others bad)
  where
    go : (b p : Bool) → says e.text w ≡ b → Plain (characters e.text) ≡ p → (p && Names es) ≡ true → (Names es ≡ true → among es w ≡ None)
        → cond b (Some e.stands) (among es w) ≡ None
    go false true s t all later = later all
    go true true s t all later = absurd (bad (subst IsUtf8 (sym (said e w s)) (is_text (characters e.text) t)))
    go false false s t all later = cc
    go true false s t all later = cc

ascii : Names verbs ≡ true
unfolding verbs
ascii = refl

pub no_text : (w : List ℕ) → ¬ (IsUtf8 w) → None ≡ verb_of w
unfolding verb_of
no_text w bad = sym (none_among verbs w ascii bad)

-- One of the entries has this text and stands for this.
abbrev pub Stands : List Entry → List ℕ → Named → Type 0
Stands [] w n = ⊥
Stands (e ∷ es) w n = ((w ≡ characters e.text) × (e.stands ≡ n)) ⊎ Stands es w n

stands : (es : List Entry) (w : List ℕ) (n : Named) → among es w ≡ Some n → Stands es w n
stands [] w n h = cc
stands (e ∷ es) w n h = go (says e.text w) refl h (stands es w n)
  where
    go : (b : Bool) → says e.text w ≡ b → cond b (Some e.stands) (among es w) ≡ Some n → (among es w ≡ Some n → Stands es w n) → Stands (e ∷ es) w n
    go true s h later = inl (said e w s, cc)
    go false s h later = inr (later h)

-- No word but the names themselves names anything.
pub named_alone : (w : List ℕ) (n : Named) → verb_of w ≡ Some n → Stands verbs w n
unfolding verb_of
named_alone w n h = stands verbs w n h

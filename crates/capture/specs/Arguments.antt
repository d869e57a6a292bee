-- What the arguments ask for, in any order: four hex digits for the RESET in front, and `words` for the bare words.
use Rattle.std.specs.Prelude.{ℕ, Bool, cond, List, None, Some, Ok, Err}
use Rattle.std.specs.Option.{unwrap_or}
use Rattle.std.specs.Str.{bytes_eq}
use Rattle.std.specs.declared.option.Option.{Option}
use Rattle.std.specs.declared.result.Result.{Result}
use Rattle.event.specs.Words.{is_reset_word}
use Rattle.lines.specs.Text.{characters}
use Rattle.script.specs.Arguments.{word_of}
use Rattle.capture.specs.declared.rows.Form.{Form}
use Rattle.capture.specs.declared.rows.Form.TheVariants.{Lines, Words}
use Rattle.capture.specs.declared.arguments.Wish.{Wish}
use Rattle.capture.specs.declared.arguments.Wish.TheVariants as wish
use Rattle.capture.specs.declared.arguments.Fault.{Fault}
use Rattle.capture.specs.declared.arguments.Fault.TheVariants.{NoReset, Unclear}
use Rattle.capture.specs.declared.arguments.Setup.{Setup}

-- ---- one argument

unfoldable pub asks_words : List ℕ → Bool
asks_words t = bytes_eq t (characters "words")

-- A word that is no RESET's is told from what isn't understood.
abbrev pub wish_of_word : ℕ → Result Wish Fault
wish_of_word w = cond (is_reset_word w) (Ok (wish.Reset w)) (Err NoReset)

abbrev pub wish_of_number : Option ℕ → Result Wish Fault
wish_of_number (Some w) = wish_of_word w
wish_of_number None = Err Unclear

unfoldable pub wish_of : List ℕ → Result Wish Fault
wish_of t = cond (asks_words t) (Ok wish.Words) (wish_of_number (word_of t))

-- ---- all of them

-- None: lines, from a RESET with nothing in either bay.
unfoldable pub plain_setup : Setup
plain_setup = record { form = Lines; reset = None; fault = None }

abbrev pub front_of : Setup → ℕ
front_of s = unwrap_or s.reset 0xC0FF

abbrev pub faulty : Setup → Fault → Setup
faulty s f = record { form = s.form; reset = s.reset; fault = Some f }

-- Each may be asked for once.
abbrev pub asked_words : Setup → Form → Setup
asked_words s Lines = record { form = Words; reset = s.reset; fault = s.fault }
asked_words s Words = faulty s Unclear

abbrev pub asked_reset : Setup → ℕ → Option ℕ → Setup
asked_reset s w (Some v) = faulty s Unclear
asked_reset s w None = record { form = s.form; reset = Some w; fault = s.fault }

unfoldable pub asked : Setup → Result Wish Fault → Setup
asked s (Ok wish.Words) = asked_words s s.form
asked s (Ok (wish.Reset w)) = asked_reset s w s.reset
asked s (Err f) = faulty s f

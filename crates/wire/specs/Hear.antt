-- Samples and the words that they give (document 02, request 7).
use Rattle.std.specs.Prelude.{ℕ, Option, Some, None, List, [], ◌∷◌, ◌++◌}
use Rattle.event.specs.Words.{packed, pack_word}
use Rattle.event.specs.declared.Event.{Event}
use Rattle.wire.specs.Levels.{lines_after, shown_by}
use Rattle.wire.specs.Nine.{tells}
use Rattle.wire.specs.declared.Wire.{Wire}
use Rattle.wire.specs.declared.Heard.{Heard}

-- One sample: the lines move on, and what they show is told.
unfoldable pub hear_of : Wire → ℕ → Heard
hear_of w sample =
    record {
      wire = record { lines = lines_after w.lines sample; ear = (tells w.ear (shown_by w.lines sample)).ear };
      given = (tells w.ear (shown_by w.lines sample)).given;
    }

-- The held state after samples.
unfoldable pub after : Wire → List ℕ → Wire
after w [] = w
after w (s ∷ ss) = after (hear_of w s).wire ss

-- A sample gives at most one event; samples give theirs in order.
abbrev pub events_in : Option Event → List Event
events_in None = []
events_in (Some e) = e ∷ []

unfoldable pub events_of : Wire → List ℕ → List Event
events_of w [] = []
events_of w (s ∷ ss) = events_in (hear_of w s).given ++ events_of (hear_of w s).wire ss

-- The same as event words (document 01, "Event words").
abbrev pub spelled : Option Event → List ℕ
spelled None = []
spelled (Some e) = pack_word (packed e) ∷ []

unfoldable pub words_of : Wire → List ℕ → List ℕ
words_of w [] = []
words_of w (s ∷ ss) = spelled (hear_of w s).given ++ words_of (hear_of w s).wire ss

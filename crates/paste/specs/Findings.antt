-- What a text that a person pastes is: hex digits, two to each byte of an image, and that the image of a fit state; or the first
-- thing that is wrong with it.
use Rattle.std.specs.Prelude.{ℕ, ◌*◌, ◌/◌, ◌%◌, cond, List, eqb, length, replicate, Option, Some, None, option_map, Result, Ok, Err}
use Rattle.machine.specs.Record.{fits}
use Rattle.dock.specs.Record.{fresh_controller}
use Rattle.dock.specs.declared.Controller.{Controller}
use Rattle.image.specs.Layout.{BYTES}
use Rattle.image.specs.Load.{checked_of}
use Rattle.image.specs.declared.Flaw.{Flaw}
use Rattle.paste.specs.Digits.{leading_digits, bytes_of}
use Rattle.paste.specs.Ranges.{out_of}
use Rattle.paste.specs.declared.Finding.{Finding}
use Rattle.paste.specs.declared.Finding.TheVariants.{NoDigit, OddDigit, OtherLength, NoImage, Unfit}
use Rattle.paste.specs.declared.Pasted.{Pasted}
use Rattle.paste.specs.declared.Refused.{Refused}

-- What is wrong with the state of an image: its first number out of its range, where it isn't fit.
unfoldable pub finding_of : Controller → Option Finding
finding_of c = cond (fits c.machine) None (option_map Unfit (out_of c.machine))

-- As many bytes as an image has.
abbrev pub found : List ℕ → Controller → Option Finding → Result Pasted Refused
found bytes c None = Ok (record { bytes = bytes; controller = c })
found bytes c (Some f) = Err (record { finding = f; bytes = bytes; controller = c })

abbrev pub judged_by : List ℕ → Result Controller Flaw → Result Pasted Refused
judged_by bytes (Ok c) = found bytes c (finding_of c)
judged_by bytes (Err why) = Err (record { finding = NoImage why; bytes = bytes; controller = fresh_controller })

unfoldable pub judged : List ℕ → Result Pasted Refused
judged bytes = judged_by bytes (checked_of bytes)

-- A text that isn't as many bytes.
unfoldable pub unread : Finding → Refused
unread f = record { finding = f; bytes = replicate BYTES 0; controller = fresh_controller }

-- Digits alone, then.
abbrev pub digits_only : List ℕ → Result Pasted Refused
digits_only t =
    cond (eqb (length t % 2) 1) (Err (unread (OddDigit (length t))))
    (cond (eqb (length t) (2 * BYTES)) (judged (bytes_of t)) (Err (unread (OtherLength (length t / 2)))))

unfoldable pub pasted_of : List ℕ → Result Pasted Refused
pasted_of t = cond (eqb (leading_digits t) (length t)) (digits_only t) (Err (unread (NoDigit (leading_digits t))))

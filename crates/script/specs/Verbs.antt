-- The verbs by their names.
use Rattle.std.specs.Prelude.{ℕ, cond, List, [], ◌∷◌, Option, Some, None}
use Prim.Native.String.{String}
use Rattle.script.specs.Text.{says}
use Rattle.script.specs.declared.Verb.TheVariants.{Reset, Pins, Tick, Timeout, Start, Stop, Byte, Take, Word, W, R, At, Out, Regs, Help, Save, Load, Kind, Chassis, Dock}
use Rattle.script.specs.declared.Hand.TheVariants.{Insert, Remove, Press, Release, Secure, Unsecure}
use Rattle.script.specs.declared.Named.{Named}
use Rattle.script.specs.declared.Named.TheVariants.{This, AtBay}

pub record Entry : Type 0 where
  pub text : String
  pub stands : Named

abbrev entry : String → Named → Entry
entry t n = record { text = t; stands = n }

unfoldable pub verbs : List Entry
verbs =
    entry "reset" (This Reset)
    ∷ entry "pins" (This Pins)
    ∷ entry "tick" (This Tick)
    ∷ entry "timeout" (This Timeout)
    ∷ entry "start" (This Start)
    ∷ entry "stop" (This Stop)
    ∷ entry "byte" (This Byte)
    ∷ entry "take" (This Take)
    ∷ entry "word" (This Word)
    ∷ entry "w" (This W)
    ∷ entry "r" (This R)
    ∷ entry "at" (This At)
    ∷ entry "out" (This Out)
    ∷ entry "regs" (This Regs)
    ∷ entry "help" (This Help)
    ∷ entry "save" (This Save)
    ∷ entry "load" (This Load)
    ∷ entry "kind" (This Kind)
    ∷ entry "chassis" (This Chassis)
    ∷ entry "dock" (This Dock)
    ∷ entry "insert" (AtBay Insert)
    ∷ entry "remove" (AtBay Remove)
    ∷ entry "press" (AtBay Press)
    ∷ entry "release" (AtBay Release)
    ∷ entry "secure" (AtBay Secure)
    ∷ entry "unsecure" (AtBay Unsecure)
    ∷ []

abbrev pub among : List Entry → List ℕ → Option Named
among [] w = None
among (e ∷ es) w = cond (says e.text w) (Some e.stands) (among es w)

unfoldable pub verb_of : List ℕ → Option Named
verb_of w = among verbs w

-- Lines as a person types them, and what each means: one of each verb, of the hand's for both bays, then lines that are blank, unknown or misused.
use Rattle.std.specs.Prelude.{ℕ, true, false, List, [], ◌∷◌, Some, None, Ok, Err}
use Prim.Native.String.{String}
use Rattle.event.specs.declared.Event.TheVariants as event
use Rattle.script.specs.Lines.{Line}
use Rattle.script.specs.declared.Verb.{Verb}
use Rattle.script.specs.declared.Verb.TheVariants as verb
use Rattle.script.specs.declared.Hand.{Hand}
use Rattle.script.specs.declared.Hand.TheVariants as hand
use Rattle.script.specs.declared.Order.{Order}
use Rattle.script.specs.declared.Order.TheVariants as order
use Rattle.script.specs.declared.Mistake.TheVariants as mistake

abbrev Blank : Line
Blank = Ok None

abbrev Does : Order → Line
Does o = Ok (Some o)

abbrev Unknown : Line
Unknown = Err mistake.Unknown

abbrev Misused : Verb → Line
Misused v = Err (mistake.Misused v)

abbrev Mishandled : Hand → Line
Mishandled h = Err (mistake.Mishandled h)

pub record Example : Type 0 where
  pub typed : String
  pub means : Line

abbrev line : String → Line → Example
line t l = record { typed = t; means = l }

-- The word after a line's first.
pub record Argument : Type 0 where
  pub typed : String
  pub word : String

abbrev argument : String → String → Argument
argument t w = record { typed = t; word = w }

-- The values of a write after its first, by the word after `w`.
pub record Values : Type 0 where
  pub typed : String
  pub more : ℕ
  pub values : List ℕ

abbrev values : String → ℕ → List ℕ → Values
values t n vs = record { typed = t; more = n; values = vs }

unfoldable pub furthers : List Values
furthers =
    values "14=04" 0 []
    ∷ values "08=34,12,78" 2 (0x12 ∷ 0x78 ∷ [])
    ∷ values "FC=40,01,02,03,fF" 4 (0x01 ∷ 0x02 ∷ 0x03 ∷ 0xFF ∷ [])
    ∷ []

unfoldable pub arguments : List Argument
arguments =
    argument "load 01aF" "01aF"
    ∷ argument "\tload  01aF  # 02" "01aF"
    ∷ argument "load 01#aF" "01"
    ∷ argument "load" ""
    ∷ argument "load # 01aF" ""
    ∷ argument "" ""
    ∷ []

unfoldable pub examples : List Example
examples =
    line "reset C0BF" (Does (order.Event (event.Reset 0 0xBF false)))
    ∷ line "reset cdff" (Does (order.Event (event.Reset 13 0xFF false)))
    ∷ line "reset D1FF" (Does (order.Event (event.Reset 1 0xFF true)))
    ∷ line "reset DFFF" (Does (order.Event (event.Reset 15 0xFF true)))
    ∷ line "pins BF" (Does (order.Event (event.Pins 0xBF)))
    ∷ line "insert 0 1394" (Does (order.Pull 0x80))
    ∷ line "insert 0 usb" (Does (order.Pull 0x40))
    ∷ line "press 0" (Does (order.Pull 0x20))
    ∷ line "secure 0" (Does (order.Pull 0x10))
    ∷ line "insert 1 1394" (Does (order.Pull 0x08))
    ∷ line "insert 1 usb" (Does (order.Pull 0x04))
    ∷ line "press 1" (Does (order.Pull 0x02))
    ∷ line "secure 1" (Does (order.Pull 0x01))
    ∷ line "remove 0" (Does (order.Raise 0xC0))
    ∷ line "release 0" (Does (order.Raise 0x20))
    ∷ line "unsecure 0" (Does (order.Raise 0x10))
    ∷ line "remove 1" (Does (order.Raise 0x0C))
    ∷ line "release 1" (Does (order.Raise 0x02))
    ∷ line "unsecure 1" (Does (order.Raise 0x01))
    ∷ line "tick 10" (Does (order.Ticks 10))
    ∷ line "tick 65535" (Does (order.Ticks 65535))
    ∷ line "tick" (Does (order.Ticks 1))
    ∷ line "timeout" (Does (order.Event event.Timeout))
    ∷ line "start" (Does (order.Event event.Start))
    ∷ line "stop" (Does (order.Event event.Stop))
    ∷ line "byte 90" (Does (order.Event (event.Byte 0x90)))
    ∷ line "take ack" (Does (order.Event (event.Take true)))
    ∷ line "take nack" (Does (order.Event (event.Take false)))
    ∷ line "word 4090" (Does (order.Word 0x4090))
    ∷ line "w 14=04" (Does (order.Write 0x14 0x04 0))
    ∷ line "w 08=34,12,78" (Does (order.Write 0x08 0x34 2))
    ∷ line "w fc=40,01,02,03,04" (Does (order.Write 0xFC 0x40 4))
    ∷ line "r 10" (Does (order.Read 0x10 0))
    ∷ line "r 08-0B" (Does (order.Read 0x08 3))
    ∷ line "r ff-01" (Does (order.Read 0xFF 2))
    ∷ line "r 10-10" (Does (order.Read 0x10 0))
    ∷ line "r 10-0F" (Does (order.Read 0x10 255))
    ∷ line "at 96" (Does (order.Address 0x96))
    ∷ line "out" (Does order.Outputs)
    ∷ line "regs" (Does order.Registers)
    ∷ line "help" (Does order.Help)
    ∷ line "save" (Does order.Save)
    ∷ line "load 01" (Does order.Load)
    ∷ line "load zz  # told by the bench" (Does order.Load)
    ∷ line "kind 2" (Does (order.Name 2))
    ∷ line "kind 1" (Does (order.Name 1))
    ∷ line "kind 0" (Does (order.Name 0))
    ∷ line "kind 255" (Does (order.Name 255))
    ∷ line "kind 02  # the second" (Does (order.Name 2))
    ∷ line "chassis 1" (Does (order.Docks 1))
    ∷ line "chassis 4" (Does (order.Docks 4))
    ∷ line "chassis 02  # two" (Does (order.Docks 2))
    ∷ line "dock 0" (Does (order.Choose 0))
    ∷ line "dock 3" (Does (order.Choose 3))
    ∷ line "dock 255" (Does (order.Choose 255))
    ∷ line "  w\t1C=8c  # a comment" (Does (order.Write 0x1C 0x8C 0))
    ∷ line "stop\r" (Does (order.Event event.Stop))
    ∷ line "" Blank
    ∷ line "   # w 14=04" Blank
    ∷ line "W 14=04" Unknown
    ∷ line "regsregsregs" Unknown
    ∷ line "w 14=4" (Misused verb.W)
    ∷ line "w 14:04" (Misused verb.W)
    ∷ line "w 14 =04" (Misused verb.W)
    ∷ line "w" (Misused verb.W)
    ∷ line "w 14=04," (Misused verb.W)
    ∷ line "w 14=04,1" (Misused verb.W)
    ∷ line "w 14=04,12,3G" (Misused verb.W)
    ∷ line "w 14=04;12" (Misused verb.W)
    ∷ line "w 14=04, 12" (Misused verb.W)
    ∷ line "w 14=04,,12" (Misused verb.W)
    ∷ line "reset 80BF" (Misused verb.Reset)
    ∷ line "reset BFFF" (Misused verb.Reset)
    ∷ line "reset E000" (Misused verb.Reset)
    ∷ line "reset A000" (Misused verb.Reset)
    ∷ line "reset C0B" (Misused verb.Reset)
    ∷ line "pins BG" (Misused verb.Pins)
    ∷ line "tick 65536" (Misused verb.Tick)
    ∷ line "tick A" (Misused verb.Tick)
    ∷ line "take yes" (Misused verb.Take)
    ∷ line "r 10 10" (Misused verb.R)
    ∷ line "r 10-" (Misused verb.R)
    ∷ line "r 10-1" (Misused verb.R)
    ∷ line "r 10=11" (Misused verb.R)
    ∷ line "r 10-11-12" (Misused verb.R)
    ∷ line "insert 0" (Mishandled hand.Insert)
    ∷ line "insert usb 0" (Mishandled hand.Insert)
    ∷ line "insert 0 usb 1394" (Mishandled hand.Insert)
    ∷ line "remove 2" (Mishandled hand.Remove)
    ∷ line "press" (Mishandled hand.Press)
    ∷ line "press 0 1" (Mishandled hand.Press)
    ∷ line "out 1" (Misused verb.Out)
    ∷ line "save 01" (Misused verb.Save)
    ∷ line "load" (Misused verb.Load)
    ∷ line "load # 01" (Misused verb.Load)
    ∷ line "load 01 00" (Misused verb.Load)
    ∷ line "kind" (Misused verb.Kind)
    ∷ line "kind 256" (Misused verb.Kind)
    ∷ line "kind A" (Misused verb.Kind)
    ∷ line "kind 1 2" (Misused verb.Kind)
    ∷ line "chassis" (Misused verb.Chassis)
    ∷ line "chassis 0" (Misused verb.Chassis)
    ∷ line "chassis 5" (Misused verb.Chassis)
    ∷ line "chassis 260" (Misused verb.Chassis)
    ∷ line "chassis two" (Misused verb.Chassis)
    ∷ line "chassis 2 2" (Misused verb.Chassis)
    ∷ line "dock" (Misused verb.Dock)
    ∷ line "dock 256" (Misused verb.Dock)
    ∷ line "dock A" (Misused verb.Dock)
    ∷ line "dock 1 2" (Misused verb.Dock)
    ∷ []

-- Inside: plumbing, a representation, an invariant or a promise beside the claim (docs/TRUST.md).
-- What a command asks a session for: that the program goes on, or that something else is done. The others are refused in each session.
use Rattle.std.specs.Prelude.{◌≡◌, Some}
use Rattle.sc_words.specs.declared.command.Command.{Command}
use Rattle.sc_words.specs.declared.command.Command.TheVariants as command
use Rattle.sc_words.specs.declared.stop.Walk.{Walk}
use Rattle.sc_words.specs.declared.stop.Walk.TheVariants as walk
use Rattle.sc_session.specs.declared.asking.Asked.{Asked}
use Rattle.sc_session.specs.declared.asking.Asked.TheVariants as asked
use Rattle.sc_session.specs.declared.asking.Deed.{Deed}
use Rattle.sc_session.specs.declared.asking.Deed.TheVariants as deed
use Rattle.sc_session.specs.declared.asking.Go.{Go}
use Rattle.sc_session.specs.declared.asking.Go.TheVariants as go
use Rattle.sc_session.specs.Plain.{Plain}
use Rattle.sc_session.specs.States.{refusal_of}

abbrev pub walk_command : Walk → Command
walk_command walk.Step = command.Step
walk_command walk.Next = command.Next
walk_command walk.Cont = command.Cont

-- the commands that let the program go on
abbrev pub go_command : Go → Command
go_command (go.Run file) = command.Run file
go_command (go.Eval name line) = command.Eval name line
go_command (go.Walk how) = walk_command how
go_command go.One = command.StepOne

-- the commands that let none go on
abbrev pub deed_command : Deed → Command
deed_command deed.Nothing = command.Nothing
deed_command (deed.Load name) = command.Load name
deed_command (deed.Unload name) = command.Unload name
deed_command (deed.Swap name form) = command.Swap name form
deed_command (deed.SwapFast name) = command.SwapFast name
deed_command (deed.Edit name file) = command.Edit name file
deed_command (deed.Compile name) = command.Compile name
deed_command (deed.CompileFast name) = command.CompileFast name
deed_command (deed.Stop place) = command.Stop place
deed_command (deed.Delete k) = command.Delete k
deed_command deed.Frames = command.Frames
deed_command (deed.Print name) = command.Print name
deed_command deed.Machine = command.Machine
deed_command (deed.Disas home fun) = command.Disas home fun
deed_command (deed.Xref name) = command.Xref name
deed_command (deed.Whatis name) = command.Whatis name
deed_command deed.List = command.List
deed_command (deed.Report k) = command.Report k
deed_command (deed.Drop k) = command.Drop k
deed_command deed.Reset = command.Reset
deed_command deed.Quit = command.Quit

-- what a command asks for
abbrev pub AsksFor : Command → Asked → Type 0
AsksFor c (asked.Go g) = c ≡ go_command g
AsksFor c (asked.Do d) = c ≡ deed_command d
AsksFor c (asked.Refused denied) = (session : Plain) → refusal_of session c ≡ Some denied

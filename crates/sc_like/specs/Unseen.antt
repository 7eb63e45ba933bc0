-- Yardstick: to be compared with what it restates (docs/TRUST.md).
-- What the meaning does in a call of compiled code, and the code does not: it changes nothing that is seen.
use Rattle.std.specs.Prelude.{◌≡◌, Bool, true, false, not, List, map}
use Rattle.sc_base.specs.declared.memory.Form.{Form}
use Rattle.sc_meaning.specs.World.{World, Frame, Item, Work, Begin, End, GoesOut, ComesBack, Declares, Happens, OpenBlock, CloseBlock}
use Rattle.sc_like.specs.Alike.{is_shown, shows_lines, shown_of}

abbrev pub form_of : Frame → Form
form_of f = f.form

-- work, the beginning and the end of statements, that calls go out and come back; and in calls of compiled code lines, and what they declare,
-- and that a block is entered or left
abbrev pub is_unseen : List Form → Item → Bool
is_unseen fs (Work n) = true
is_unseen fs Begin = true
is_unseen fs End = true
is_unseen fs GoesOut = true
is_unseen fs ComesBack = true
is_unseen fs (Declares id) = not (shows_lines fs)
is_unseen fs (Happens e) = not (is_shown fs e)
is_unseen fs (OpenBlock b) = not (shows_lines fs)
is_unseen fs CloseBlock = not (shows_lines fs)
is_unseen fs _ = false

-- what happened tells the forms of the active calls
abbrev pub TellsForms : World → Type 0
TellsForms w = (shown_of w.trail).forms ≡ map form_of w.frames

-- Twin of the code in src/life.rt, for its proofs; `standing_of` uses `untouched` and `known` of it.
-- What each call answers about a binding, and what it makes of it, on a board that no other thread steps on.
use Rattle.std.specs.Prelude.{◌+◌, Bool, true, false, not, ◌&&◌, if◌then◌else◌}
use Rattle.std.specs.Bool.{beq}
use Rattle.pd_board.specs.declared.life.Life.{Life}
use Rattle.pd_board.specs.declared.answers.Known.{Known}
use Rattle.pd_board.specs.declared.answers.Known.TheVariants as knowns
use Rattle.pd_board.specs.declared.answers.Drawn.{Drawn}
use Rattle.pd_board.specs.declared.answers.Drawn.TheVariants as drawns
use Rattle.pd_board.specs.declared.answers.Attach.{Attach}
use Rattle.pd_board.specs.declared.answers.Attach.TheVariants as attaches
use Rattle.pd_board.specs.declared.answers.Dispose.{Dispose}
use Rattle.pd_board.specs.declared.answers.Dispose.TheVariants as disposes
use Rattle.pd_board.specs.declared.answers.Toggle.{Toggle}
use Rattle.pd_board.specs.declared.answers.Toggle.TheVariants as toggles
use Rattle.pd_board.specs.declared.answers.State.TheVariants as states
use Rattle.pd_board.specs.declared.answers.BindingTally.{BindingTally}

-- the life of a binding to which nothing was done
abbrev pub untouched : Life
untouched = record { attached = false; disposed = false; off = false; count = 0 }

-- what a board that is alone knows of the binding
abbrev pub known : Life → Known
known s = if s.disposed then knowns.Disposed else if s.attached then knowns.Attached else knowns.Fresh

-- whether draws take numbers: it is attached and not disposed
abbrev pub live : Life → Bool
live s = s.attached && not s.disposed

-- what a draw answers
abbrev pub drawn : Life → Drawn
drawn s = if live s then if s.off then drawns.Missed s.count else drawns.On s.count else drawns.Off

-- the life after a draw: a live binding has given one more number
abbrev pub after_draw : Life → Life
after_draw s = if live s then record s { count = s.count + 1 } else s

-- what an attach answers
abbrev pub attached : Life → Attach
attached s = if s.attached then attaches.Already else if s.disposed then attaches.Gone else attaches.Attached

-- the life after an attach
abbrev pub after_attach : Life → Life
after_attach s = record s { attached = true }

-- what a dispose answers
abbrev pub disposed : Life → Dispose
disposed s = if s.disposed then disposes.Already else disposes.Disposed s.count

-- the life after a dispose
abbrev pub after_dispose : Life → Life
after_dispose s = record s { disposed = true }

-- what a switch off (or on) answers
abbrev pub switched : Bool → Life → Toggle
switched off s = if s.disposed then toggles.Gone else if beq s.off off then toggles.Already else toggles.At s.count

-- the life after a switch off, or on; a disposed binding stays as it is
abbrev pub after_switch : Bool → Life → Life
after_switch off s = if s.disposed then s else record s { off = off }

-- how the binding ends up, and its count
abbrev pub tally_of : Life → BindingTally
tally_of s = record { state = if s.disposed then states.Disposed else if s.attached then states.Live else states.Unattached; count = s.count }

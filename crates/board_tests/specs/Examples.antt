-- For the tests: no other contract cites it.
-- The lists of two worked sequences of calls on one binding, whose row has node 3 of 8.
use Rattle.std.specs.Prelude.{List, [], ◌∷◌}
use Rattle.pd_board.specs.declared.answers.ActResult.{ActResult}
use Rattle.pd_board.specs.declared.answers.ActResult.TheVariants as acts
use Rattle.pd_board.specs.declared.answers.Attach.TheVariants as attaches
use Rattle.pd_board.specs.declared.answers.Dispose.TheVariants as disposes
use Rattle.pd_board.specs.declared.answers.Toggle.TheVariants as toggles
use Rattle.pd_board.specs.declared.answers.Drawn.TheVariants as drawns
use Rattle.pd_board.specs.declared.answers.Sight.{Sight}

-- attached, drawn at the events 0 and 4, disposed, and attached again
abbrev pub worked_sights : List Sight
worked_sights = record { event = 0; binding = 0; drawn = drawns.On 0 } ∷ record { event = 4; binding = 0; drawn = drawns.On 1 } ∷ []

-- the answers of acts beside these draws: attached, disposed after two numbers, attached once more in vain
abbrev pub worked_replies : List ActResult
worked_replies = acts.Attached 0 attaches.Attached ∷ acts.Disposed 0 (disposes.Disposed 2) ∷ acts.Attached 0 attaches.Already ∷ []

-- attached, drawn, switched off, drawn, switched off again, switched on, and drawn
abbrev pub toggled_sights : List Sight
toggled_sights = record { event = 0; binding = 0; drawn = drawns.On 0 } ∷ record { event = 1; binding = 0; drawn = drawns.Missed 1 } ∷ record { event = 2; binding = 0; drawn = drawns.On 2 } ∷ []

-- the answers of acts beside these draws: attached, off after one number, off in vain, on after two
abbrev pub toggled_replies : List ActResult
toggled_replies = acts.Attached 0 attaches.Attached ∷ acts.Disabled 0 (toggles.At 1) ∷ acts.Disabled 0 toggles.Already ∷ acts.Enabled 0 (toggles.At 2) ∷ []

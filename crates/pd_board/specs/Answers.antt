-- Definition, which public contracts cite.
-- What the answers of a board's calls say of one binding.
use Rattle.std.specs.Prelude.{ℕ, ◌<◌, ◌≤◌, ◌==◌, ◌&&◌, Bool, true, false, if◌then◌else◌, List, Option, Some, None}
use Rattle.std.specs.Option.{ForSome}
use Rattle.std.specs.List.{All, list_any}
use Rattle.pd_plan.specs.declared.plan.Act.{Act}
use Rattle.pd_plan.specs.declared.plan.Act.TheVariants as asked
use Rattle.pd_board.specs.declared.answers.Known.{Known}
use Rattle.pd_board.specs.declared.answers.Known.TheVariants as knowns
use Rattle.pd_board.specs.declared.answers.Drawn.{Drawn}
use Rattle.pd_board.specs.declared.answers.Drawn.TheVariants as drawns
use Rattle.pd_board.specs.declared.answers.Attach.{Attach}
use Rattle.pd_board.specs.declared.answers.Attach.TheVariants as attaches
use Rattle.pd_board.specs.declared.answers.Dispose.TheVariants as disposes
use Rattle.pd_board.specs.declared.answers.Toggle.TheVariants as toggles
use Rattle.pd_board.specs.declared.answers.ActResult.{ActResult}
use Rattle.pd_board.specs.declared.answers.ActResult.TheVariants as acts
use Rattle.pd_board.specs.declared.answers.Sight.{Sight}

-- ---- what is known

-- how far it has come, from fresh to attached to disposed
abbrev pub stage : Known → ℕ
stage knowns.Fresh = 0
stage knowns.Attached = 1
stage knowns.Disposed = 2

-- whether the binding is known as disposed
abbrev pub is_gone : Known → Bool
is_gone knowns.Disposed = true
is_gone _ = false

-- what a load of a node that may have the binding (`matching`) leaves: an attached one without its bit is disposed
abbrev pub known_after_load : Bool → Bool → Known → Known
known_after_load true false knowns.Attached = knowns.Disposed
known_after_load _ _ known = known

-- ---- numbers

-- the number that a draw took, as the place of an entry or as a missed one
abbrev pub number_of : Drawn → Option ℕ
number_of (drawns.On p) = Some p
number_of (drawns.Missed p) = Some p
number_of drawns.Off = None

-- the number that a sight took of this binding
abbrev pub number_in : ℕ → Sight → Option ℕ
number_in b s = if s.binding == b then number_of s.drawn else None

-- each number that the sights took of the binding is below n
abbrev pub NumbersBelow : ℕ → ℕ → List Sight → Type 0
NumbersBelow b n sights = All (λ s. ForSome (number_in b s) (λ p. p < n)) sights

-- ---- answers of acts

-- whether the answer is one of this act: of the same kind, and of its binding
abbrev pub is_result_of : Act → ActResult → Bool
is_result_of (asked.Attach b) (acts.Attached c r) = c == b
is_result_of (asked.Dispose b) (acts.Disposed c r) = c == b
is_result_of (asked.Enable b) (acts.Enabled c r) = c == b
is_result_of (asked.Disable b) (acts.Disabled c r) = c == b
is_result_of _ _ = false

-- whether the answer is one of an attach of b
abbrev pub is_attach : ℕ → ActResult → Bool
is_attach b (acts.Attached c _) = c == b
is_attach b _ = false

-- it says that the binding was attached by it
abbrev pub is_attached : Attach → Bool
is_attached attaches.Attached = true
is_attached _ = false

-- whether the answer is one of an attach of b that attached it
abbrev pub is_attachment : ℕ → ActResult → Bool
is_attachment b (acts.Attached c a) = c == b && is_attached a
is_attachment b _ = false

-- whether the answer is one of a dispose of b, also where b had been disposed before
abbrev pub is_dispose : ℕ → ActResult → Bool
is_dispose b (acts.Disposed c _) = c == b
is_dispose b _ = false

-- the count with which it says that the binding was disposed by it
abbrev pub disposal : ℕ → ActResult → Option ℕ
disposal b (acts.Disposed c (disposes.Disposed n)) = if c == b then Some n else None
disposal b _ = None

-- whether the answer is one of the dispose that disposed b
abbrev pub is_disposal : ℕ → ActResult → Bool
is_disposal b (acts.Disposed c (disposes.Disposed n)) = c == b
is_disposal b _ = false

-- the count with which it switched the binding on, or off
abbrev pub toggle_count : ℕ → ActResult → Option ℕ
toggle_count b (acts.Enabled c (toggles.At n)) = if c == b then Some n else None
toggle_count b (acts.Disabled c (toggles.At n)) = if c == b then Some n else None
toggle_count b _ = None

-- whether one of the answers is that of an attach of b
abbrev pub has_attach : ℕ → List ActResult → Bool
has_attach b replies = list_any (is_attach b) replies

-- whether one of the answers says that b was attached by its act
abbrev pub has_attachment : ℕ → List ActResult → Bool
has_attachment b replies = list_any (is_attachment b) replies

-- whether one of the answers is that of a dispose of b
abbrev pub has_dispose : ℕ → List ActResult → Bool
has_dispose b replies = list_any (is_dispose b) replies

-- whether one of the answers says that b was disposed by its act
abbrev pub has_disposal : ℕ → List ActResult → Bool
has_disposal b replies = list_any (is_disposal b) replies

-- each count with which the binding was switched on or off is at most n
abbrev pub TogglesUpTo : ℕ → ℕ → List ActResult → Type 0
TogglesUpTo b n replies = All (λ r. ForSome (toggle_count b r) (λ c. c ≤ n)) replies

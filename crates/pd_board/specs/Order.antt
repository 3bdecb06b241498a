-- Definition, which public contracts cite.
-- How the answers of acts go together: those of one board in order, and those of all boards that share the words.
use Rattle.std.specs.Prelude.{◌≡◌, ℕ, ◌==◌, ◌&&◌, nat_lt, nat_le, Bool, true, false, if◌then◌else◌, List, count_by}
use Rattle.std.specs.List.{Contains, list_any}
use Rattle.pd_board.specs.declared.answers.Attach.{Attach}
use Rattle.pd_board.specs.declared.answers.Attach.TheVariants as attaches
use Rattle.pd_board.specs.declared.answers.Dispose.{Dispose}
use Rattle.pd_board.specs.declared.answers.Dispose.TheVariants as disposes
use Rattle.pd_board.specs.declared.answers.Toggle.{Toggle}
use Rattle.pd_board.specs.declared.answers.Toggle.TheVariants as toggles
use Rattle.pd_board.specs.declared.answers.ActResult.{ActResult}
use Rattle.pd_board.specs.declared.answers.ActResult.TheVariants as acts
use Rattle.pd_board.specs.Answers.{has_attach}

-- ---- what one answer says

-- whether the answer says that b is disposed: by this act, or before it
abbrev pub says_gone : ℕ → ActResult → Bool
says_gone b (acts.Disposed c _) = c == b
says_gone b (acts.Attached c attaches.Gone) = c == b
says_gone b (acts.Enabled c toggles.Gone) = c == b
says_gone b (acts.Disabled c toggles.Gone) = c == b
says_gone b _ = false

-- whether one of the answers says that b is disposed
abbrev pub has_gone : ℕ → List ActResult → Bool
has_gone b replies = list_any (says_gone b) replies

-- an answer of an attach of the binding that no attach came before
abbrev pub is_first_answer : Attach → Bool
is_first_answer attaches.Already = false
is_first_answer _ = true

-- whether the answer is one of an attach of b before which none had been tried
abbrev pub is_first : ℕ → ActResult → Bool
is_first b (acts.Attached c a) = c == b && is_first_answer a
is_first b _ = false

-- whether the answer is one of a disable of b that changed it, with a count of at least n
abbrev pub disables_from : ℕ → ℕ → ActResult → Bool
disables_from b n (acts.Disabled c (toggles.At m)) = c == b && nat_le n m
disables_from b n _ = false

-- whether the answer is one of an enable of b that changed it, with a count of at least n
abbrev pub enables_from : ℕ → ℕ → ActResult → Bool
enables_from b n (acts.Enabled c (toggles.At m)) = c == b && nat_le n m
enables_from b n _ = false

-- ---- the answers of one board, in order

-- what the answer of an act on b says, by those of the same board before it
pub record IsInOrder (b : ℕ) (before : List ActResult) (r : ActResult) : Type 0 where
  -- after an attach, another one found it attached
  pub attached : has_attach b before ≡ true → (a : Attach) → r ≡ acts.Attached b a → a ≡ attaches.Already
  -- after an answer that says that it is disposed, an attach didn't attach it, a dispose found it disposed, and so did a toggle
  pub not_attached : has_gone b before ≡ true → r ≡ acts.Attached b attaches.Attached → ⊥
  pub disposed : has_gone b before ≡ true → (a : Dispose) → r ≡ acts.Disposed b a → a ≡ disposes.Already
  pub enabled : has_gone b before ≡ true → (t : Toggle) → r ≡ acts.Enabled b t → t ≡ toggles.Gone
  pub disabled : has_gone b before ≡ true → (t : Toggle) → r ≡ acts.Disabled b t → t ≡ toggles.Gone

-- ---- the answers of all boards

-- where the answer, which came after these of the same board, is that of a toggle of b that found nothing to change, the answers of all
-- boards have the toggle that made it so
pub record HasCause (b : ℕ) (replies before : List ActResult) (r : ActResult) : Type 0 where
  -- b was off: some disable changed it, and one that counted no less than an enable that this board had made
  pub disabled : r ≡ acts.Disabled b toggles.Already → list_any (disables_from b 0) replies ≡ true
  pub disabled_since : r ≡ acts.Disabled b toggles.Already → (n : ℕ) → Contains before (acts.Enabled b (toggles.At n)) → list_any (disables_from b n) replies ≡ true
  -- b was on: where this board had disabled it, some enable that counted no less changed it
  pub enabled_since : r ≡ acts.Enabled b toggles.Already → (n : ℕ) → Contains before (acts.Disabled b (toggles.At n)) → list_any (enables_from b n) replies ≡ true

-- ---- numbers

-- each number below n stands in the list once, and no other does
abbrev pub OnceBelow : ℕ → List ℕ → Type 0
OnceBelow n xs = (x : ℕ) → count_by (λ y. y == x) xs ≡ (if nat_lt x n then 1 else 0)

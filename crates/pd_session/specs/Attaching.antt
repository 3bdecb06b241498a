-- Definition, which public contracts cite.
-- What attaches one after another say.
use Rattle.std.specs.Prelude.{◌≡◌, ◌↔◌, ℕ, ◌==◌, true, false, List, [], ◌∷◌, ◌++◌}
use Rattle.pd_board.specs.declared.answers.ActResult.{ActResult}
use Rattle.pd_board.specs.declared.answers.ActResult.TheVariants as acts
use Rattle.pd_board.specs.declared.answers.Attach.{Attach}
use Rattle.pd_board.specs.declared.answers.Attach.TheVariants as attaches
use Rattle.pd_board.specs.declared.answers.Known.TheVariants as knowns
use Rattle.pd_board.specs.Answers.{has_attach, has_dispose, has_disposal}
use Rattle.pd_board.specs.Standing.{Standing}

-- a board that stood at `old`, with the answers of acts, what is known and the room as `new` has them
abbrev pub attached_to : Standing → Standing → Standing
attached_to new old = record old { replies = new.replies; known = new.known; spare = new.spare }

-- an attach of b that answers a
pub record IsAttach (b : ℕ) (a : Attach) (old new : Standing) : Type 0 where
  pub reply : new.replies ≡ old.replies ++ acts.Attached b a ∷ []
  pub alone : new.alone ≡ old.alone
  pub first_reply : (a ≡ attaches.Already → ⊥) → has_attach b old.replies ≡ false
  pub other : (c : ℕ) → (c == b) ≡ false → new.known c ≡ old.known c
  -- on a board that is alone: it is known as attached, where it wasn't disposed; and it was attached by this just where neither an
  -- attach nor a dispose came before
  pub alone_known : old.alone ≡ true → has_disposal b old.replies ≡ false → new.known b ≡ knowns.Attached
  pub alone_first : old.alone ≡ true → (a ≡ attaches.Attached) ↔ ((has_attach b old.replies ≡ false) × (has_dispose b old.replies ≡ false))

-- of what an attach tells nothing has changed
pub record IsAsBefore (old new : Standing) : Type 0 where
  pub replies : new.replies ≡ old.replies
  pub alone : new.alone ≡ old.alone
  pub known : (b : ℕ) → new.known b ≡ old.known b

-- these bindings were attached, one after another, with these answers
abbrev pub AreAttached : List ℕ → List ActResult → Standing → Standing → Type 0
AreAttached [] [] old new = IsAsBefore old new
AreAttached (b ∷ bs) (r ∷ rs) old new = (a : Attach) × (between : Standing) × (r ≡ acts.Attached b a) × IsAttach b a old between × AreAttached bs rs between new
AreAttached _ _ old new = ⊥

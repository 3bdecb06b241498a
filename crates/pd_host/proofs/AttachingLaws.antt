-- The lists of sessions are attached one after another.
use Rattle.std.proofs.Common.{◌≡◌, List, [], ◌∷◌, ◌++◌, refl, sym, ap, subst, arith, append_assoc}
use Rattle.std.proofs.lemmas.List.{append-nil}
use Rattle.pd_plan.specs.declared.plan.Script.{Script}
use Rattle.pd_board.specs.declared.answers.ActResult.{ActResult}
use Rattle.pd_board.specs.Standing.{Standing}
use Rattle.pd_session.specs.Attaching.{attached_to, IsAsBefore, AreAttached}
use Rattle.pd_session.specs.Before.{AreAllAttached}
use Rattle.pd_host.specs.Beginning.{HasRoom}

-- of a board that stood at `first`, sessions were attached with these answers, and it stands at `here`: whatever is attached from there on is
-- attached behind them
abbrev pub AreBehind : List Script → List (List ActResult) → Standing → Standing → Type 0
AreBehind sessions answers first here = (xs : List Script) (more : List (List ActResult)) (last : Standing) → AreAllAttached xs more here last → AreAllAttached (sessions ++ xs) (answers ++ more) first last

pub none_behind : (first : Standing) → AreBehind [] [] first first
none_behind first xs more last h = h

pub more_behind : (done : List Script) (s : Script) (answers : List (List ActResult)) (r : List ActResult) (first here next : Standing) → AreBehind done answers first here → AreAttached s.before r here next
    → AreBehind (done ++ s ∷ []) (answers ++ r ∷ []) first next
more_behind done s answers r first here next h a xs more last rest =
    subst (λ zs. AreAllAttached zs ((answers ++ r ∷ []) ++ more) first last) (sym (append_assoc done (s ∷ []) xs))
    (subst (λ ws. AreAllAttached (done ++ s ∷ xs) ws first last) (sym (append_assoc answers (r ∷ []) more))
    (h (s ∷ xs) (r ∷ more) last (next, a, rest)))

as_before : (s : Standing) → IsAsBefore s s
as_before s = record { replies = refl; alone = refl; known = λ b. refl }

pub all_behind : (sessions : List Script) (answers : List (List ActResult)) (first here : Standing) → AreBehind sessions answers first here → AreAllAttached sessions answers first here
all_behind sessions answers first here h =
    subst (λ zs. AreAllAttached zs answers first here) (append-nil sessions)
    (subst (λ ws. AreAllAttached (sessions ++ []) ws first here) (append-nil answers)
    (h [] [] here (as_before here)))

-- attaches take no shares
pub still_room : (old new : Standing) → new ≡ attached_to new old → HasRoom old → HasRoom new
still_room old new rest has = record {
  draws = omega (arith, ap (λ s. s.draw_share) rest, has.draws);
  answers = λ t h. let sessions : new.sessions ≡ old.sessions = ap (λ s. s.sessions) rest in omega (arith, ap (λ s. s.answer_share t) rest, has.answers t (omega (arith, sessions, h)));
}

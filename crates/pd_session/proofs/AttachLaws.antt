-- One binding more was attached.
use Rattle.std.proofs.Common.{◌≡◌, ℕ, ◌+◌, ◌<◌, List, [], ◌∷◌, ◌++◌, length, take, get_or, refl, sym, ap, subst, ◌∙◌, append_assoc}
use Rattle.std.proofs.lemmas.List.{take_more}
use Rattle.pd_board.specs.declared.answers.ActResult.{ActResult}
use Rattle.pd_board.specs.declared.answers.ActResult.TheVariants as acts
use Rattle.pd_board.specs.declared.answers.Attach.{Attach}
use Rattle.pd_board.specs.Answers.{has_attach, has_dispose, has_disposal}
use Rattle.pd_board.specs.Standing.{Standing}
use Rattle.pd_session.specs.Attaching.{IsAttach, IsAsBefore, AreAttached}

same : (s : Standing) → IsAsBefore s s
same s = record { replies = refl; alone = refl; known = λ b. refl }

-- an attach on a board that is as it was
from_before : (b : ℕ) (a : Attach) (old mid new : Standing) → IsAsBefore old mid → IsAttach b a mid new → IsAttach b a old new
from_before b a old mid new was h = record {
  reply = h.reply ∙ ap (λ rs. rs ++ acts.Attached b a ∷ []) was.replies;
  alone = h.alone ∙ was.alone;
  first_reply = λ n. ap (has_attach b) (sym was.replies) ∙ h.first_reply n;
  other = λ c n. h.other c n ∙ was.known c;
  alone_known = λ e n. h.alone_known (was.alone ∙ e) (ap (has_disposal b) was.replies ∙ n);
  alone_first = λ e.
      let both = h.alone_first (was.alone ∙ e) in
      (λ i. let x = both.0 i in (ap (has_attach b) (sym was.replies) ∙ x.0, ap (has_dispose b) (sym was.replies) ∙ x.1), λ x. both.1 (ap (has_attach b) was.replies ∙ x.0, ap (has_dispose b) was.replies ∙ x.1));
}

attached_more : (bs : List ℕ) (rs : List ActResult) (b : ℕ) (a : Attach) (old mid new : Standing) → AreAttached bs rs old mid → IsAttach b a mid new → AreAttached (bs ++ b ∷ []) (rs ++ acts.Attached b a ∷ []) old new
attached_more [] [] b a old mid new was h = (a, new, refl, from_before b a old mid new was h, same new)
attached_more [] (q ∷ rs) b a old mid new was h = absurd was
attached_more (x ∷ xs) [] b a old mid new was h = absurd was
attached_more (x ∷ xs) (q ∷ rs) b a old mid new was h = (was.0, was.1, was.2, was.3, attached_more xs rs b a was.1 mid new was.4 h)

pub attached_next : (bs : List ℕ) (i : ℕ) (rs now : List ActResult) (a : Attach) (old mid new : Standing) → i < length bs → AreAttached (take i bs) rs old mid → now ≡ rs ++ acts.Attached (get_or bs i 0) a ∷ []
    → IsAttach (get_or bs i 0) a mid new → AreAttached (take (i + 1) bs) now old new
attached_next bs i rs now a old mid new below was is h =
    subst (λ t. AreAttached t now old new) (sym (take_more bs i 0 below))
    (subst (λ t. AreAttached (take i bs ++ get_or bs i 0 ∷ []) t old new) (sym is) (attached_more (take i bs) rs (get_or bs i 0) a old mid new was h))

-- the answers have grown by that of the attach
pub replies_next : (b : ℕ) (a : Attach) (rs now : List ActResult) (old mid new : Standing) → mid.replies ≡ old.replies ++ rs → IsAttach b a mid new → now ≡ rs ++ acts.Attached b a ∷ [] → new.replies ≡ old.replies ++ now
replies_next b a rs now old mid new was h is =
    h.reply ∙ ap (λ xs. xs ++ acts.Attached b a ∷ []) was ∙ append_assoc old.replies rs (acts.Attached b a ∷ []) ∙ ap (λ xs. old.replies ++ xs) (sym is)

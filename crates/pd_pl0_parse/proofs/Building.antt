-- What the tree holds behind some of a source's nodes.
use Rattle.std.proofs.Common.{◌≡◌, ℕ, zero, suc, ◌+◌, ◌<◌, ◌≤◌, ◌^◌, List, [], ◌∷◌, ◌++◌, length, take, get_or, refl, sym, ap, subst, ◌∙◌, arith}
use Rattle.std.proofs.lemmas.List.{take_more, take_all}
use Rattle.pd_sections.specs.declared.Token.{Token}
use Rattle.pd_tree.specs.declared.addition.Addition.{Addition}
use Rattle.pd_tree.specs.Linked.{IsWhole, slots_up_to}
use Rattle.pd_turn.specs.declared.Node.{Node}
use Rattle.pd_turn.specs.Turned.{pre, pres}
use Rattle.pd_pl0_spell.specs.Names.{no_declarations}
use Rattle.pd_pl0_read.specs.declared.parts.Part.{Part}
use Rattle.pd_pl0_read.specs.Places.{tree, program_trees}
use Rattle.pd_pl0_read.specs.Tokens.{words_of}
use Rattle.pd_pl0_read.specs.Answers.{AreNodesOf}
use Rattle.pd_pl0_parse.specs.Additions.{IsAdded, AreAdditionsOf, IsTreeOf, meaning_in}
use Rattle.pd_pl0_parse.proofs.Whole.{whole, AllSmall, small_more, additions_more}
use Rattle.pd_pl0_parse.proofs.Slots.{AllSlots, few, program_ends}

pub record Built (bytes : List ℕ) (tokens : List Token) (source : ℕ) (nodes : List (Node Part)) (i : ℕ) (as' : List Addition) : Type 0 where
  pub additions : AreAdditionsOf bytes tokens source (take i nodes) as'
  pub small : AllSmall as'

pub built_none : (bytes : List ℕ) (tokens : List Token) (source : ℕ) (nodes : List (Node Part)) → Built bytes tokens source nodes 0 []
built_none bytes tokens source nodes = record { additions = tt; small = tt }

slots_at : (n : ℕ) (xs : List (Node Part)) (i : ℕ) (d : Node Part) → i < length xs → AllSlots n xs → slots_up_to (meaning_in (get_or xs i d).what.shape) ≤ n
slots_at n [] i d lt h = absurd (omega arith)
slots_at n (x ∷ xs) zero d lt h = h.0
slots_at n (x ∷ xs) (suc i) d lt h = slots_at n xs i d (omega arith) h.1

pub built_more : (bytes : List ℕ) (tokens : List Token) (source : ℕ) (nodes : List (Node Part)) (i : ℕ) (as' bs : List Addition) (d : Node Part) → i < length nodes → AllSlots (length tokens) nodes → length tokens < 2 ^ 32
    → Built bytes tokens source nodes i as' → IsAdded bytes tokens source (get_or nodes i d) as' bs → Built bytes tokens source nodes (i + 1) bs
built_more bytes tokens source nodes i as' bs d lt slots room b (a, added, is, names) =
    let x = get_or nodes i d in
    let more : take (i + 1) nodes ≡ take i nodes ++ x ∷ [] = take_more nodes i d lt in
    let few : slots_up_to a.meaning < 2 ^ 32 = omega (arith, ap slots_up_to is.meaning, slots_at (length tokens) nodes i d lt slots) in
    record {
      additions = subst (λ l. AreAdditionsOf bytes tokens source l bs) (sym more) (subst (AreAdditionsOf bytes tokens source (take i nodes ++ x ∷ [])) (sym added) (additions_more bytes tokens source (take i nodes) as' x a b.additions is));
      small = subst AllSmall (sym added) (small_more as' a b.small names few);
    }

length_words : (bytes : List ℕ) (tokens : List Token) → length (words_of bytes tokens) ≡ length tokens
length_words bytes [] = refl
length_words bytes (x ∷ xs) = ap (λ n. suc n) (length_words bytes xs)

nodes_none : (l : List (Node Part)) → l ++ [] ≡ l
nodes_none [] = refl
nodes_none (x ∷ xs) = ap (λ ys. x ∷ ys) (nodes_none xs)

pub nodes_slots : (room : ℕ) (bytes : List ℕ) (tokens : List Token) (nodes : List (Node Part)) → AreNodesOf room bytes tokens nodes → AllSlots (length tokens) nodes
nodes_slots room bytes tokens nodes (T, accepts, e) =
    subst (AllSlots (length tokens)) (sym (e ∙ nodes_none (pre (tree no_declarations 0 T))))
    (few (length tokens) no_declarations 0 T (omega arith, tt) (omega (arith, program_ends (words_of bytes tokens) T accepts.spelled, length_words bytes tokens)))

-- behind the last node
pub built_all : (room : ℕ) (bytes : List ℕ) (tokens : List Token) (source : ℕ) (nodes : List (Node Part)) (n : ℕ) (as' : List Addition) → AreNodesOf room bytes tokens nodes → length nodes ≤ n → Built bytes tokens source nodes n as' → IsWhole as' × IsTreeOf room bytes tokens source as'
built_all room bytes tokens source nodes n as' (T, accepts, e) le b =
    let all : AreAdditionsOf bytes tokens source (pres (program_trees T)) as' = subst (λ l. AreAdditionsOf bytes tokens source l as') (take_all n nodes le ∙ e) b.additions in
    (whole bytes tokens source (words_of bytes tokens) T as' accepts.spelled all b.small, (T, accepts, all))

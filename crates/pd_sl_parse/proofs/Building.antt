-- What the tree holds behind some of a source's nodes.
use Rattle.std.proofs.Common.{◌≡◌, ℕ, zero, suc, ◌+◌, ◌<◌, ◌≤◌, ◌^◌, List, [], ◌∷◌, ◌++◌, length, take, get_or, refl, sym, ap, subst, ◌∙◌, arith}
use Rattle.std.proofs.lemmas.List.{take_more, take_all}
use Rattle.pd_sections.specs.declared.Token.{Token}
use Rattle.pd_tree.specs.declared.addition.Addition.{Addition}
use Rattle.pd_tree.specs.Linked.{IsWhole, slots_up_to}
use Rattle.pd_turn.specs.declared.Node.{Node}
use Rattle.pd_turn.specs.Turned.{pres}
use Rattle.pd_sl_read.specs.declared.parts.Part.{Part}
use Rattle.pd_sl_read.specs.Places.{roses}
use Rattle.pd_sl_read.specs.Tokens.{words_of}
use Rattle.pd_sl_read.specs.Answers.{AreNodesOf}
use Rattle.pd_sl_read.proofs.Turns.{all_turned}
use Rattle.pd_sl_read.proofs.Counts.{all_counted}
use Rattle.pd_sl_parse.specs.Scopes.{Scoped, no_scope, entered, meaning_in}
use Rattle.pd_sl_parse.specs.Locals.{meaning_of}
use Rattle.pd_sl_parse.proofs.Following.{Stands, Follows, follows_none, follows, meaning_is}
use Rattle.pd_sl_parse.proofs.Standing.{past, AllStand, program_stands}
use Rattle.pd_sl_parse.specs.Additions.{IsAdded, IsAdditionOf, AreAdditionsOf, IsTreeOf}
use Rattle.pd_sl_parse.proofs.Slots.{SlotsFit, none_fits, entered_fits, meaning_fits}
use Rattle.pd_sl_parse.proofs.Whole.{whole, AllSmall, small_more, past_more, additions_more}
use Rattle.pd_sl_parse.proofs.Within.{IsShort, AllShort, trees_short, program_ends, trees_length}

pub record Built (bytes : List ℕ) (tokens : List Token) (source most : ℕ) (nodes : List (Node Part)) (i : ℕ) (s : Scoped) (as' : List Addition) : Type 0 where
  pub scope : Follows bytes tokens (past (take i nodes) []) s
  pub additions : AreAdditionsOf bytes tokens source [] (take i nodes) as'
  pub small : AllSmall as'
  pub slots : SlotsFit (most + i) s

pub built_none : (bytes : List ℕ) (tokens : List Token) (source most : ℕ) (nodes : List (Node Part)) → Built bytes tokens source most nodes 0 no_scope []
built_none bytes tokens source most nodes = record { scope = follows_none bytes tokens; additions = tt; small = tt; slots = none_fits most }

short_at : (n : ℕ) (xs : List (Node Part)) (i : ℕ) (d : Node Part) → i < length xs → AllShort n xs → IsShort n (get_or xs i d).what.shape
short_at n [] i d lt h = absurd (omega arith)
short_at n (x ∷ xs) zero d lt h = h.0
short_at n (x ∷ xs) (suc i) d lt h = short_at n xs i d (omega arith) h.1

stands_at : (qs : List Part) (xs : List (Node Part)) (i : ℕ) (d : Node Part) → i < length xs → AllStand qs xs → Stands (past (take i xs) qs) (get_or xs i d).what
stands_at qs [] i d lt h = absurd (omega arith)
stands_at qs (x ∷ xs) zero d lt h = h.0
stands_at qs (x ∷ xs) (suc i) d lt h = stands_at (x.what ∷ qs) xs i d (omega arith) h.1

pub built_more : (bytes : List ℕ) (tokens : List Token) (source most : ℕ) (nodes : List (Node Part)) (i : ℕ) (s s' : Scoped) (as' bs : List Addition) (d : Node Part) → i < length nodes → AllStand [] nodes → AllShort most nodes → (most + i) + 1 < 2 ^ 32
    → Built bytes tokens source most nodes i s as' → s' ≡ entered bytes tokens (get_or nodes i d).what s → IsAdded bytes tokens source s' (get_or nodes i d) as' bs → Built bytes tokens source most nodes (i + 1) s' bs
built_more bytes tokens source most nodes i s s' as' bs d lt stand short room b g (a, added, is, names) =
    let x = get_or nodes i d in
    let more : take (i + 1) nodes ≡ take i nodes ++ x ∷ [] = take_more nodes i d lt in
    let qs = past (take i nodes) [] in
    let stands : Stands qs x.what = stands_at [] nodes i d lt stand in
    let here : Follows bytes tokens (x.what ∷ qs) s' = subst (Follows bytes tokens (x.what ∷ qs)) (sym g) (follows bytes tokens qs x.what s stands b.scope) in
    let means : meaning_in x.what.shape bytes tokens x.what s' ≡ meaning_of bytes tokens x.what.shape x.what qs = ap (meaning_in x.what.shape bytes tokens x.what) g ∙ meaning_is bytes tokens qs x.what s stands b.scope in
    let fit : SlotsFit (most + (i + 1)) s' = subst (SlotsFit (most + (i + 1))) (sym g) (entered_fits bytes tokens most i x.what s (short_at most nodes i d lt short) b.slots) in
    let few : slots_up_to a.meaning < 2 ^ 32 = omega (arith, ap slots_up_to is.means, meaning_fits bytes tokens (most + (i + 1)) x.what s' fit) in
    record {
      scope = subst (λ l. Follows bytes tokens l s') (sym (ap (λ l. past l []) more ∙ past_more (take i nodes) x [])) here;
      additions = subst (λ l. AreAdditionsOf bytes tokens source [] l bs) (sym more) (subst (AreAdditionsOf bytes tokens source [] (take i nodes ++ x ∷ [])) (sym added) (additions_more bytes tokens source [] (take i nodes) as' x a b.additions (subst (λ m. IsAdditionOf bytes tokens source m x a) means is)));
      small = subst AllSmall (sym added) (small_more as' a b.small names few);
      slots = fit;
    }

length_words : (bytes : List ℕ) (tokens : List Token) → length (words_of bytes tokens) ≡ length tokens
length_words bytes [] = refl
length_words bytes (x ∷ xs) = ap (λ n. suc n) (length_words bytes xs)

pub nodes_few : (room : ℕ) (bytes : List ℕ) (tokens : List Token) (nodes : List (Node Part)) → AreNodesOf room bytes tokens nodes → length nodes ≤ room
nodes_few room bytes tokens nodes (T, accepts, e) = omega (arith, ap length e, trees_length (roses 0 T), ap length (all_turned 0 T), all_counted 0 T, accepts.fits)

pub nodes_stand : (room : ℕ) (bytes : List ℕ) (tokens : List Token) (nodes : List (Node Part)) → AreNodesOf room bytes tokens nodes → AllStand [] nodes
nodes_stand room bytes tokens nodes (T, accepts, e) = subst (AllStand []) (sym e) (program_stands accepts.spelled)

pub nodes_short : (room : ℕ) (bytes : List ℕ) (tokens : List Token) (nodes : List (Node Part)) → AreNodesOf room bytes tokens nodes → AllShort (length tokens) nodes
nodes_short room bytes tokens nodes (T, accepts, e) =
    subst (AllShort (length tokens)) (sym e) (trees_short (length tokens) 0 T (omega (arith, program_ends (words_of bytes tokens) T accepts.spelled, length_words bytes tokens)))

-- behind the last node
pub built_all : (room : ℕ) (bytes : List ℕ) (tokens : List Token) (source most : ℕ) (nodes : List (Node Part)) (n : ℕ) (s : Scoped) (as' : List Addition) → AreNodesOf room bytes tokens nodes → length nodes ≤ n → Built bytes tokens source most nodes n s as' → IsWhole as' × IsTreeOf room bytes tokens source as'
built_all room bytes tokens source most nodes n s as' (T, accepts, e) le b =
    let all : AreAdditionsOf bytes tokens source [] (pres (roses 0 T)) as' = subst (λ l. AreAdditionsOf bytes tokens source [] l as') (take_all n nodes le ∙ e) b.additions in
    (whole bytes tokens source (words_of bytes tokens) T as' accepts.spelled all b.small, (T, accepts, all))

-- each node finds a free slot
pub built_room : (bytes : List ℕ) (tokens : List Token) (source most : ℕ) (nodes : List (Node Part)) (i : ℕ) (s : Scoped) (as' : List Addition) → Built bytes tokens source most nodes i s as' → (most + i) + 1 < 2 ^ 32 → s.slots + 1 < 2 ^ 32
built_room bytes tokens source most nodes i s as' b lt = omega (arith, b.slots.0)

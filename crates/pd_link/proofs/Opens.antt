-- Nodes of which parts may still come, from the innermost outward.
use Rattle.std.proofs.Common.{◌≡◌, refl, sym, ◌∙◌, ap, subst, ℕ, zero, suc, ◌+◌, ◌-◌, ◌<◌, ◌≤◌, List, [], ◌∷◌, ◌++◌, length, map, take, drop, reverse, get_or, arith}
use Rattle.std.proofs.lemmas.List.{reverse-append, map-append, take-append-drop, drop_more, drop_all}
use Rattle.pd_tree.specs.declared.kind.Visible.{Visible}
use Rattle.pd_tree.specs.declared.addition.Addition.{Addition}
use Rattle.pd_tree.specs.declared.change.Change.{Change}
use Rattle.pd_tree.specs.Linked.{Open, Walk, closed, seen_behind, kind_at, no_addition}
use Rattle.pd_link.specs.declared.walk.Opened.{Opened}
use Rattle.pd_link.specs.Linking.{Grew, AllOpenedIn, open_in, opens_in}
use Rattle.pd_link.specs.Walks.{IsOpenAt, AllOpenAt}
use Rattle.pd_link.proofs.Variables.{list-grew, within-grew}

-- the innermost is the last
pub opens-push : (all : List Addition) (changes : List Change) (opened : List Opened) (x : Opened) → opens_in all changes (opened ++ x ∷ []) ≡ open_in all changes x ∷ opens_in all changes opened
opens-push all changes opened x =
    ap reverse (map-append (open_in all changes) opened (x ∷ [])) ∙ reverse-append (map (open_in all changes) opened) (open_in all changes x ∷ [])

last-of : (opened : List Opened) (x : Opened) → 0 < length opened → x ≡ get_or opened (length opened - 1) x → opened ≡ take (length opened - 1) opened ++ x ∷ []
last-of opened x h e =
    let k = length opened - 1 in
    sym (take-append-drop k opened)
    ∙ ap (λ l. take k opened ++ l) (drop_more opened k x (omega arith) ∙ ap (λ y. y ∷ drop (k + 1) opened) (sym e) ∙ ap (λ l. x ∷ l) (drop_all (k + 1) opened (omega arith)))

pub opens-last : (all : List Addition) (changes : List Change) (opened : List Opened) (x : Opened) → 0 < length opened → x ≡ get_or opened (length opened - 1) x → opens_in all changes opened ≡ open_in all changes x ∷ opens_in all changes (take (length opened - 1) opened)
opens-last all changes opened x h e = ap (opens_in all changes) (last-of opened x h e) ∙ opens-push all changes (take (length opened - 1) opened) x

pub opens-nodes : (k : ℕ) (all : List Addition) (changes : List Change) (opened rest : List Opened) (x : Opened) → opened ≡ rest ++ x ∷ [] → AllOpenAt k (opens_in all changes opened) → IsOpenAt k (open_in all changes x) × AllOpenAt k (opens_in all changes rest)
opens-nodes k all changes opened rest x e h = subst (AllOpenAt k) (ap (opens_in all changes) e ∙ opens-push all changes rest x) h

-- ---- when changes are added

pub opened-grow : (all : List Addition) (old new : List Change) (opened : List Opened) → Grew old new → AllOpenedIn old opened → map (open_in all new) opened ≡ map (open_in all old) opened
opened-grow all old new [] g h = refl
opened-grow all old new (x ∷ xs) g h =
    let first : open_in all new x ≡ open_in all old x =
    ap (λ l. let o : Open = record { node = x.node; left = x.left; first = x.first; root = x.root; level = x.level; outside = l } in o) (list-grew all old new x.outside g h.0) in
    ap (λ y. y ∷ map (open_in all new) xs) first ∙ ap (λ ys. open_in all old x ∷ ys) (opened-grow all old new xs g h.1)

pub opens-grow : (all : List Addition) (old new : List Change) (opened : List Opened) → Grew old new → AllOpenedIn old opened → opens_in all new opened ≡ opens_in all old opened
opens-grow all old new opened g h = ap reverse (opened-grow all old new opened g h)

pub opened_in-grow : (old new : List Change) (opened : List Opened) → Grew old new → AllOpenedIn old opened → AllOpenedIn new opened
opened_in-grow old new [] g h = tt
opened_in-grow old new (x ∷ xs) g h = (within-grew old new x.outside g h.0, opened_in-grow old new xs g h.1)

pub opened_in-push : (changes : List Change) (opened : List Opened) (x : Opened) → AllOpenedIn changes opened → x.outside ≤ length changes → AllOpenedIn changes (opened ++ x ∷ [])
opened_in-push changes [] x h e = (e, tt)
opened_in-push changes (y ∷ ys) x h e = (h.0, opened_in-push changes ys x h.1 e)

pub opened_in-front : (changes : List Change) (opened : List Opened) (x : Opened) → AllOpenedIn changes (opened ++ x ∷ []) → AllOpenedIn changes opened
opened_in-front changes [] x h = tt
opened_in-front changes (y ∷ ys) x h = (h.0, opened_in-front changes ys x h.1)

pub opened_in-last : (changes : List Change) (opened : List Opened) (x : Opened) → AllOpenedIn changes (opened ++ x ∷ []) → x.outside ≤ length changes
opened_in-last changes [] x h = h.0
opened_in-last changes (y ∷ ys) x h = opened_in-last changes ys x h.1

-- ---- nodes that end

pub closed-end : (all : List Addition) (x : Open) (xs : List Open) (seen : List Visible) → x.left ≡ 0 → closed all (x ∷ xs) seen ≡ closed all xs (seen_behind (kind_at all x.node) (get_or all x.node no_addition).meaning x.outside seen)
closed-end all x xs seen z =
    ap (λ k. let w : Walk = elim k [
      | zero ↦ closed all xs (seen_behind (kind_at all x.node) (get_or all x.node no_addition).meaning x.outside seen)
      | suc _ ↦ record { open_nodes = x ∷ xs; seen = seen }
    ] in w) z

pub closed-open : (all : List Addition) (x : Open) (xs : List Open) (seen : List Visible) → 0 < x.left → closed all (x ∷ xs) seen ≡ record { open_nodes = x ∷ xs; seen = seen }
closed-open all x xs seen h =
    let some : x.left ≡ suc (x.left - 1) = omega arith in
    ap (λ k. let w : Walk = elim k [
      | zero ↦ closed all xs (seen_behind (kind_at all x.node) (get_or all x.node no_addition).meaning x.outside seen)
      | suc _ ↦ record { open_nodes = x ∷ xs; seen = seen }
    ] in w) some

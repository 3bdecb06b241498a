-- The lists of variables that changes make.
use Rattle.std.proofs.Common.{◌≡◌, refl, sym, ◌∙◌, ap, ℕ, zero, suc, ◌+◌, ◌<◌, ◌≤◌, List, [], ◌∷◌, ◌++◌, length, take, drop, get_or, arith, add-zero, length-append}
use Rattle.std.proofs.lemmas.List.{append_assoc, take-append-drop, drop_more, get_or_append_left, get_or-append-add, length-take-le}
use Rattle.pd_tree.specs.declared.kind.Visible.{Visible}
use Rattle.pd_tree.specs.declared.addition.Addition.{Addition}
use Rattle.pd_tree.specs.declared.change.Change.{Change}
use Rattle.pd_tree.specs.Kept.{changed, lists_from, list_at, AllBefore}
use Rattle.pd_tree.specs.Seen.{applied}

-- ---- one change after others

lists-append : (all : List Addition) (lists : List (List Visible)) (cs ds : List Change) → lists_from all lists (cs ++ ds) ≡ lists_from all (lists_from all lists cs) ds
lists-append all lists [] ds = refl
lists-append all lists (c ∷ cs) ds = lists-append all (lists ++ changed all c (get_or lists c.before []) ∷ []) cs ds

length-lists : (all : List Addition) (lists : List (List Visible)) (cs : List Change) → length (lists_from all lists cs) ≡ length lists + length cs
length-lists all lists [] = sym (add-zero (length lists))
length-lists all lists (c ∷ cs) =
    let more = changed all c (get_or lists c.before []) ∷ [] in
    let e = length-lists all (lists ++ more) cs in
    omega (arith, e, length-append lists more)

lists-keep : (all : List Addition) (lists : List (List Visible)) (cs : List Change) (k : ℕ) → k < length lists → get_or (lists_from all lists cs) k [] ≡ get_or lists k []
lists-keep all lists [] k h = refl
lists-keep all lists (c ∷ cs) k h =
    let more = changed all c (get_or lists c.before []) ∷ [] in
    lists-keep all (lists ++ more) cs k (omega (arith, length-append lists more)) ∙ get_or_append_left lists more [] k h

-- a list stays as it is when changes are added
pub list-grow : (all : List Addition) (cs ds : List Change) (k : ℕ) → k ≤ length cs → list_at all (cs ++ ds) k ≡ list_at all cs k
list-grow all cs ds k h =
    ap (λ l. get_or l k []) (lists-append all ([] ∷ []) cs ds)
    ∙ lists-keep all (lists_from all ([] ∷ []) cs) ds k (omega (arith, length-lists all ([] ∷ []) cs))

-- a change that is added makes a list
pub list-push : (all : List Addition) (cs : List Change) (c : Change) → list_at all (cs ++ c ∷ []) (length cs + 1) ≡ changed all c (list_at all cs c.before)
list-push all cs c =
    let lists = lists_from all ([] ∷ []) cs in
    let made = changed all c (get_or lists c.before []) ∷ [] in
    let place : length cs + 1 ≡ length lists + 0 = omega (arith, length-lists all ([] ∷ []) cs) in
    ap (λ l. get_or l (length cs + 1) []) (lists-append all ([] ∷ []) cs (c ∷ []))
    ∙ ap (λ k. get_or (lists ++ made) k []) place
    ∙ get_or-append-add lists made 0 []

-- ---- earlier lists

before-push_from : (k : ℕ) (cs : List Change) (c : Change) → AllBefore k cs → c.before ≤ k + length cs → AllBefore k (cs ++ c ∷ [])
before-push_from k [] c h e = (omega arith, tt)
before-push_from k (x ∷ xs) c h e = (h.0, before-push_from (k + 1) xs c h.1 (omega arith))

pub before-push : (cs : List Change) (c : Change) → AllBefore 0 cs → c.before ≤ length cs → AllBefore 0 (cs ++ c ∷ [])
before-push cs c h e = before-push_from 0 cs c h (omega arith)

before-at_from : (k : ℕ) (cs : List Change) (i : ℕ) (d : Change) → AllBefore k cs → i < length cs → (get_or cs i d).before ≤ k + i
before-at_from k [] i d h lt = absurd (omega arith)
before-at_from k (x ∷ xs) zero d h lt = let first = h.0 in omega arith
before-at_from k (x ∷ xs) (suc i) d h lt = let rest = before-at_from (k + 1) xs i d h.1 (omega arith) in omega arith

pub before-at : (cs : List Change) (i : ℕ) (d : Change) → AllBefore 0 cs → i < length cs → (get_or cs i d).before ≤ i
before-at cs i d h lt = omega (arith, before-at_from 0 cs i d h lt)

-- what a change of the list makes
pub list-of : (all : List Addition) (cs : List Change) (i : ℕ) (d : Change) → AllBefore 0 cs → i < length cs → list_at all cs (i + 1) ≡ changed all (get_or cs i d) (list_at all cs (get_or cs i d).before)
list-of all cs i d h lt =
    let c = get_or cs i d in
    let front = take i cs in
    let rest = drop (i + 1) cs in
    let size : length front ≡ i = length-take-le i cs (omega arith) in
    let split : front ++ c ∷ rest ≡ cs = ap (λ l. front ++ l) (sym (drop_more cs i d lt)) ∙ take-append-drop i cs in
    let joined : (front ++ c ∷ []) ++ rest ≡ cs = append_assoc front (c ∷ []) rest ∙ split in
    let below = before-at cs i d h lt in
    ap (λ l. list_at all l (i + 1)) (sym joined)
    ∙ list-grow all (front ++ c ∷ []) rest (i + 1) (omega (arith, length-append front (c ∷ []), size))
    ∙ ap (λ k. list_at all (front ++ c ∷ []) (k + 1)) (sym size)
    ∙ list-push all front c
    ∙ ap (changed all c) (sym (list-grow all front (c ∷ rest) c.before (omega (arith, size))) ∙ ap (λ l. list_at all l c.before) split)

pub list-none : (all : List Addition) (cs : List Change) → list_at all cs 0 ≡ []
list-none all cs = lists-keep all ([] ∷ []) cs 0 (omega arith)

-- ---- chains of changes

pub applied-push : (all : List Addition) (cs : List Change) (c : Change) (seen : List Visible) → applied all (cs ++ c ∷ []) seen ≡ applied all cs (changed all c seen)
applied-push all [] c seen = refl
applied-push all (x ∷ xs) c seen = ap (changed all x) (applied-push all xs c seen)

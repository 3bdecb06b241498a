-- One entry more, at a place where no other stands.
use Rattle.std.proofs.Common.{◌≡◌, ◌++◌, ◌==◌, true, false, Bool, count_by, ℕ, ◌+◌, ◌≤◌, ◌<◌, List, [], ◌∷◌, refl, sym, ap, ◌∙◌, subst, cond, ⊎_elim, ◌≢◌, length, get_or, drop, take, ◌-◌, arith}
use Rattle.std.proofs.lemmas.Bool.Decides.{eqb_tells}
use Rattle.std.proofs.lemmas.List.Sums.{sum_by-cons, sum_by-append}
use Rattle.pd_log.specs.declared.Entry.{Entry}
use Rattle.std.proofs.Math.Seq.{take-length}
use Rattle.std.specs.Global.{Vec}
use Rattle.pd_log.specs.Merging.{entries_in, PlacesDiffer}

abbrev here : ℕ → List Entry → ℕ
here p xs = count_by (λ (e : Entry). e.place == p) xs

one_more : (p : ℕ) (e : Entry) (xs : List Entry) → here p (e ∷ xs) ≡ cond (e.place == p) 1 0 + here p xs
one_more p e xs = sum_by-cons (λ (x : Entry). cond (x.place == p) 1 0) e xs

both : (p : ℕ) (xs ys : List Entry) → here p (xs ++ ys) ≡ here p xs + here p ys
both p xs ys = sum_by-append (λ (x : Entry). cond (x.place == p) 1 0) xs ys

pub apart_more : (e : Entry) (rest others : List Entry)
    → count_by (λ (x : Entry). x.place == e.place) rest ≡ 0 → count_by (λ (x : Entry). x.place == e.place) others ≡ 0
    → PlacesDiffer (rest ++ others) → PlacesDiffer (e ∷ rest ++ others)
apart_more e rest others none free h p = ⊎_elim
    (λ (w : ((e.place == p) ≡ true) × (e.place ≡ p)).
    let away : here p rest ≡ 0 = subst (λ q. here q rest ≡ 0) w.1 none in
    let gone : here p others ≡ 0 = subst (λ q. here q others ≡ 0) w.1 free in
    let one = ap (λ (b : Bool). cond {A = ℕ} b 1 0) w.0 in
    omega (arith, one_more p e (rest ++ others), both p rest others, away, gone, one))
    (λ (w : ((e.place == p) ≡ false) × (e.place ≢ p)).
    let zero = ap (λ (b : Bool). cond {A = ℕ} b 1 0) w.0 in
    omega (arith, one_more p e (rest ++ others), h p, zero))
    (eqb_tells e.place p)

pub apart_behind : (log : List Entry) (e : Entry) (others : List Entry) → 1 ≤ length log → e ≡ get_or log 0 e
    → count_by (λ (x : Entry). x.place == e.place) (take (length log - 1) (drop 1 log)) ≡ 0 → count_by (λ (x : Entry). x.place == e.place) others ≡ 0
    → PlacesDiffer (take (length log - 1) (drop 1 log) ++ others) → PlacesDiffer (log ++ others)
apart_behind [] e others some is none free h = absurd (omega (arith, some))
apart_behind (x ∷ xs) e others some is none free h =
    let all : take (length (x ∷ xs) - 1) xs ≡ xs = subst (λ (n : ℕ). take n xs ≡ xs) (omega arith) (take-length xs) in
    subst (λ (y : Entry). PlacesDiffer (y ∷ xs ++ others)) is
    (apart_more e xs others (subst (λ (ys : List Entry). here e.place ys ≡ 0) all none) free (subst (λ (ys : List Entry). PlacesDiffer (ys ++ others)) all h))

pub apart_empty : (log : List Entry) (others : List Entry) → length log < 1 → PlacesDiffer others → PlacesDiffer (log ++ others)
apart_empty [] others short h = h
apart_empty (x ∷ xs) others short h = absurd (omega (arith, short))

pub apart_logs : (logs : List (Vec Entry)) (first : Vec Entry) (log : List Entry) → 1 ≤ length logs → first ≡ get_or logs 0 first → log ≡ first.items
    → PlacesDiffer (log ++ entries_in (take (length logs - 1) (drop 1 logs))) → PlacesDiffer (entries_in logs)
apart_logs [] first log some is same h = absurd (omega (arith, some))
apart_logs (x ∷ xs) first log some is same h =
    let all : take (length (x ∷ xs) - 1) xs ≡ xs = subst (λ (n : ℕ). take n xs ≡ xs) (omega arith) (take-length xs) in
    let head : log ≡ x.items = same ∙ ap (λ (y : Vec Entry). y.items) is in
    subst (λ (ys : List Entry). PlacesDiffer (ys ++ entries_in xs)) head (subst (λ (ys : List (Vec Entry)). PlacesDiffer (log ++ entries_in ys)) all h)

-- What the calls cost that serve one event.
use Rattle.std.proofs.Common.{◌≡◌, ◌≢◌, ℕ, ◌+◌, ◌<◌, ◌≤◌, ◌==◌, List, [], ◌∷◌, length, Bool, if◌then◌else◌, refl, ap, ◌∙◌, arith, eq-eqb, ne_eqb}
use Rattle.std.specs.Prelude.{count_by}
use Rattle.std.specs.List.{filter_map}
use Rattle.std.proofs.lemmas.List.Sums.{sum_by-cons}
use Rattle.pd_board.proofs.ChainLemmas.{by_eq}
use Rattle.pd_core.specs.declared.view.View.{View}
use Rattle.pd_core.specs.Layout.{Layout}
use Rattle.pd_core.specs.Kinds.{clear_bit, set_disposed}
use Rattle.pd_shared.specs.Costs.{EventCall, draws, sweeps, passes, disposes, DoesEndCall, InTurn, met_by, is_draw, is_sweep, is_disposal, bits_of, CallsCost, EnterCosts, EndCosts}
use Rattle.pd_shared.proofs.StepLemmas.{counts_one, counts_draw, counts_chain}

-- ---- a list that has each number at most as often as another is no longer

more : {A : Type 0} (test : A → Bool) (x : A) (xs : List A) → count_by test (x ∷ xs) ≡ (if test x then 1 else 0) + count_by test xs
more test x xs = sum_by-cons (λ y. if test y then 1 else 0) x xs

abbrev times : ℕ → List ℕ → ℕ
times b xs = count_by (λ c. c == b) xs

abbrev one : ℕ → ℕ → ℕ
one b x = if x == b then 1 else 0

cons : (b x : ℕ) (xs : List ℕ) → times b (x ∷ xs) ≡ one b x + times b xs
cons b x xs = more (λ c. c == b) x xs

here : (b x : ℕ) → x ≡ b → one b x ≡ 1
here b x e = ap (λ (t : Bool). if t then 1 else 0) (eq-eqb x b e)

elsewhere : (b x : ℕ) → x ≢ b → one b x ≡ 0
elsewhere b x ne = ap (λ (t : Bool). if t then 1 else 0) (ne_eqb x b ne)

-- the list without its first x
without : ℕ → List ℕ → List ℕ
without x [] = []
without x (y ∷ ys) = if y == x then ys else y ∷ without x ys

shorter : (x : ℕ) (ys : List ℕ) → 0 < times x ys → length (without x ys) + 1 ≡ length ys
unfolding without
shorter x [] some = absurd (omega arith)
shorter x (y ∷ ys) some = by_eq y x
    (λ (e : y ≡ x). ap (λ (t : Bool). length (if t then ys else y ∷ without x ys) + 1) (eq-eqb y x e) ∙ omega arith)
    (λ (ne : y ≢ x). ap (λ (t : Bool). length (if t then ys else y ∷ without x ys) + 1) (ne_eqb y x ne) ∙ (let behind = shorter x ys (let all = cons x y ys in let none = elsewhere x y ne in omega arith) in omega arith))

kept : (b x : ℕ) (ys : List ℕ) → 0 < times x ys → times b (without x ys) + one b x ≡ times b ys
unfolding without
kept b x [] some = absurd (omega arith)
kept b x (y ∷ ys) some = by_eq y x
    (λ (e : y ≡ x). ap (λ (t : Bool). times b (if t then ys else y ∷ without x ys) + one b x) (eq-eqb y x e) ∙ (let all = cons b y ys in let same : one b y ≡ one b x = ap (one b) e in omega arith))
    (λ (ne : y ≢ x). ap (λ (t : Bool). times b (if t then ys else y ∷ without x ys) + one b x) (ne_eqb y x ne) ∙ (let behind = kept b x ys (let all = cons x y ys in let none = elsewhere x y ne in omega arith) in let first = cons b y (without x ys) in let all = cons b y ys in omega arith))

fits : (xs ys : List ℕ) → ((b : ℕ) → times b xs ≤ times b ys) → length xs ≤ length ys
fits [] ys h = omega arith
fits (x ∷ xs) ys h =
    let some : 0 < times x ys = let first = cons x x xs in let is = here x x refl in let less = h x in omega arith in
    let rest = fits xs (without x ys) (λ b. let first = cons b x xs in let others = kept b x ys some in let less = h b in omega arith) in
    let fewer = shorter x ys some in
    omega arith

-- ---- the calls

drawn : (xs : List EventCall) (x : EventCall) → count_by is_draw (x ∷ xs) ≡ (if is_draw x then 1 else 0) + count_by is_draw xs
drawn xs x = more is_draw x xs

swept : (xs : List EventCall) (x : EventCall) → count_by is_sweep (x ∷ xs) ≡ (if is_sweep x then 1 else 0) + count_by is_sweep xs
swept xs x = more is_sweep x xs

disposed : (xs : List EventCall) (x : EventCall) → count_by is_disposal (x ∷ xs) ≡ (if is_disposal x then 1 else 0) + count_by is_disposal xs
disposed xs x = more is_disposal x xs

pub calls_cost : CallsCost
calls_cost p [] v next t = let e = ap (λ (y : View). y.steps) t in omega arith
calls_cost p (draws event b ∷ xs) v next t = let now = (counts_draw p event b v t.0 t.1.0 t.1.1 t.1.2).1 in let behind = calls_cost p xs t.0 next t.2 in omega (arith, drawn xs (draws event b), swept xs (draws event b), disposed xs (draws event b))
calls_cost p (sweeps n b ∷ xs) v next t = let now = counts_one p (clear_bit n b) v t.0 t.1 in let behind = calls_cost p xs t.0 next t.2 in omega (arith, drawn xs (sweeps n b), swept xs (sweeps n b), disposed xs (sweeps n b))
calls_cost p (passes b ∷ xs) v next t = let now = ap (λ (y : View). y.steps) t.1 in let behind = calls_cost p xs t.0 next t.2 in omega (arith, drawn xs (passes b), swept xs (passes b), disposed xs (passes b))
calls_cost p (disposes b ∷ xs) v next t = let now = counts_one p (set_disposed b) v t.0 t.1 in let behind = calls_cost p xs t.0 next t.2 in omega (arith, drawn xs (disposes b), swept xs (disposes b), disposed xs (disposes b))

met_all : (xs : List EventCall) → count_by is_draw xs + count_by is_sweep xs ≤ length (filter_map met_by xs)
met_all [] = omega arith
met_all (draws event b ∷ xs) = let behind = met_all xs in omega (arith, drawn xs (draws event b), swept xs (draws event b))
met_all (sweeps n b ∷ xs) = let behind = met_all xs in omega (arith, drawn xs (sweeps n b), swept xs (sweeps n b))
met_all (passes b ∷ xs) = let behind = met_all xs in omega (arith, drawn xs (passes b), swept xs (passes b))
met_all (disposes b ∷ xs) = let behind = met_all xs in omega (arith, drawn xs (disposes b), swept xs (disposes b))

pub enter_costs : EnterCosts
enter_costs p n rows xs v m next load calls only =
    let first = counts_chain p n rows v m load in
    let behind = calls_cost p xs m next calls in
    let met = met_all xs in
    let few = fits (filter_map met_by xs) (bits_of p m) only in
    omega arith

end_steps : (p : Layout) (xs : List EventCall) (v next : View) → InTurn (DoesEndCall p) xs v next → next.steps ≤ v.steps + length (filter_map met_by xs)
end_steps p [] v next t = let e = ap (λ (y : View). y.steps) t in omega arith
end_steps p (draws event b ∷ xs) v next t = let now = (counts_draw p event b v t.0 t.1.1.0 t.1.1.1 t.1.1.2).2 t.1.0 in let behind = end_steps p xs t.0 next t.2 in omega arith
end_steps p (sweeps n b ∷ xs) v next t = absurd t.1
end_steps p (passes b ∷ xs) v next t = let now = ap (λ (y : View). y.steps) t.1.1 in let behind = end_steps p xs t.0 next t.2 in omega arith
end_steps p (disposes b ∷ xs) v next t = absurd t.1

pub end_costs : EndCosts
end_costs p observers xs v next calls only = let few = fits (filter_map met_by xs) observers only in let steps = end_steps p xs v next calls in omega arith

-- The plans that are read are in range.
use Rattle.std.proofs.Common.{◌≡◌, ◌==◌, ℕ, suc, ℤ, pos, negsuc, ◌^◌, ◌≤◌, List, [], ◌∷◌, length, Ok, Err, Option, Some, None, Bool, true, false, not, option_map, unwrap_or, codes, refl, subst, sym, ap, arith, cond, bytes_eq, nat_lt}
use Rattle.std.specs.Prelude.{IfSome}
use Rattle.std.specs.List.{AllByRecursion}
use Rattle.std.proofs.lemmas.Bool.Decides.{nat_tests}
use Rattle.serde_json.specs.Data.{unsigned, negative, float, Data, null, boolean, number, string, array, object, Items, no_items, item}
use Rattle.serde_json.specs.Find.{get}
use Rattle.pd_plan.specs.declared.refusal.PlanRule.{PlanRule}
use Rattle.pd_plan.specs.declared.refusal.PlanRule.TheVariants.{WrongShape, OutOfRange}
use Rattle.pd_values.specs.declared.value.Value.TheVariants as values
use Rattle.pd_plan.specs.declared.plan.BindingSpec.TheVariants as bindings
use Rattle.pd_plan.specs.declared.plan.Action.{Action}
use Rattle.pd_plan.specs.declared.plan.Action.TheVariants as actions
use Rattle.pd_plan.specs.declared.plan.Resume.{Resume}
use Rattle.pd_plan.specs.declared.plan.Resume.TheVariants.{Continue, Into, Over, Out, Reenter, Return, Kill}
use Rattle.pd_plan.specs.Sound.{IsFrom, ListFits, Any, ContextFits, LinesFit, FilterFits, BindingFits, ActionFits, IsSigned64, ValueFits, ResumeFits, AnswerFits, SessionFits, PlanFits}
use Rattle.pd_plan_json.specs.declared.bindings.Kind.{Kind}
use Rattle.pd_plan_json.specs.declared.bindings.Kind.TheVariants as kinds
use Rattle.pd_plan_json.specs.Reading.{Read, ◌>>=◌, ◌>>◌, refuse, refuse_if, under, member_step, entry_step}
use Rattle.pd_plan_json.specs.Shapes.{present, an_object, no_other, table_of, one_of, or_else, optional_as, outside, signed, signed_in, truth, items, whole, or_missing, if_there, number_in, reference, required, optional, with_default, list_in, entries, count, meaning}
use Rattle.pd_plan_json.specs.Tables.{name, tag, pair, condition, kind, context, context_members, lines, filter, filter_members, observer, observer_members, breakpoint, breakpoint_members, pause, pause_members, binding, binding_of, first_act, act, wait, wait_members, first_action, action, given, frame_and_value, returning, steps, first_step, stepping, resume, answer, answer_members, session, session_members, source, export, plan, plan_members}

-- ---- what an answered chain has answered

pub bind_ok : {A B : Type 0} (r : Read A) (f : A → Read B) (y : B) → (r >>= f) ≡ Ok y → (x : A) × (r ≡ Ok x) × (f x ≡ Ok y)
bind_ok (Ok x) f y e = (x, refl, e)
bind_ok (Err e) f y h = absurd cc

pub then_ok : {A B : Type 0} (r : Read A) (s : Read B) (y : B) → (r >> s) ≡ Ok y → s ≡ Ok y
then_ok (Ok x) s y e = e
then_ok (Err e) s y h = absurd cc

pub tested_ok : {B : Type 0} (b : Bool) (rule : PlanRule) (s : Read B) (y : B) → (refuse_if b rule >> s) ≡ Ok y → (b ≡ false) × (s ≡ Ok y)
tested_ok true rule s y e = absurd cc
tested_ok false rule s y e = (refl, e)

pub under_ok : {A : Type 0} (step : List ℕ) (r : Read A) (x : A) → under step r ≡ Ok x → r ≡ Ok x
under_ok step (Ok x) y e = e
under_ok step (Err e) y h = absurd cc

ok_is : {A : Type 0} (P : A → Type 0) (x y : A) (r : Read A) → r ≡ Ok x → r ≡ Ok y → P x → P y
ok_is P x y r e f h = let same : x ≡ y = cc in subst P same h

in_range : (low high n : ℕ) → outside low high n ≡ false → IsFrom low high n
in_range low high n e = (grind (arith, nat_tests), grind (arith, nat_tests))

-- ---- what each word of the tables keeps

abbrev Keeps : {A : Type 0} → (Data → Read A) → (A → Type 0) → Type 0
Keeps {A} reader P = (d : Data) (x : A) → reader d ≡ Ok x → P x

anything : {A : Type 0} (reader : Data → Read A) → Keeps reader Any
anything reader d x e = tt

number_fits : (low high : ℕ) → Keeps (number_in low high) (IsFrom low high)
unfolding number_in
number_fits low high d x e =
    let a = bind_ok (whole d) _ x e in
    let b = tested_ok (outside low high a.0) OutOfRange (Ok a.0) x a.2 in
    ok_is (IsFrom low high) a.0 x (Ok a.0) refl b.1 (in_range low high a.0 b.0)

missing_or : {A : Type 0} (reader : Data → Read A) (P : A → Type 0) → Keeps reader P → (o : Option Data) (x : A) → or_missing reader o ≡ Ok x → P x
missing_or reader P k None x e = absurd cc
missing_or reader P k (Some v) x e = k v x e

required_keeps : {A : Type 0} (name : List ℕ) (reader : Data → Read A) (P : A → Type 0) → Keeps reader P → Keeps (required name reader) P
unfolding required
required_keeps name reader P k d x e = missing_or reader P k (get name d) x (under_ok (member_step name) (or_missing reader (get name d)) x e)

there_if : {A : Type 0} (reader : Data → Read A) (P : A → Type 0) → Keeps reader P → (o : Option Data) (x : Option A) → if_there reader o ≡ Ok x → IfSome x P
there_if reader P k None None e = tt
there_if reader P k None (Some x) e = absurd cc
there_if reader P k (Some v) None e = let b = bind_ok (reader v) (λ x. Ok (Some x)) None e in absurd cc
there_if reader P k (Some v) (Some x) e = let b = bind_ok (reader v) (λ x. Ok (Some x)) (Some x) e in let same : b.0 ≡ x = cc in subst P same (k v b.0 b.1)

optional_keeps : {A : Type 0} (name : List ℕ) (reader : Data → Read A) (P : A → Type 0) → Keeps reader P → Keeps (optional name reader) (λ o. IfSome o P)
unfolding optional
optional_keeps name reader P k d x e = there_if reader P k (get name d) x (under_ok (member_step name) (if_there reader (get name d)) x e)

default_or : {A : Type 0} (P : A → Type 0) (o : Option A) (x : A) → P x → IfSome o P → P (unwrap_or o x)
default_or P None x h k = h
default_or P (Some y) x h k = k

default_keeps : {A : Type 0} (name : List ℕ) (default : A) (reader : Data → Read A) (P : A → Type 0) → P default → Keeps reader P → Keeps (with_default name default reader) P
unfolding with_default
default_keeps name default reader P h k d x e =
    let b = bind_ok (optional name reader d) _ x e in
    ok_is P (unwrap_or b.0 default) x _ refl b.2 (default_or P b.0 default h (optional_keeps name reader P k d b.0 b.1))

entries_fit : {A : Type 0} (reader : Data → Read A) (P : A → Type 0) → Keeps reader P → (i : ℕ) (ds : Items) (xs : List A) → entries reader i ds ≡ Ok xs → (length xs ≡ count ds) × AllByRecursion P xs
entries_fit reader P k i no_items [] e = (refl, tt)
entries_fit reader P k i no_items (x ∷ xs) e = absurd cc
entries_fit reader P k i (item d ds) xs e =
    let a = bind_ok (under (entry_step i) (reader d)) _ xs e in
    let b = bind_ok (entries reader (suc i) ds) _ xs a.2 in
    let rest = entries_fit reader P k (suc i) ds b.0 b.1 in
    let first = k d a.0 (under_ok (entry_step i) (reader d) a.0 a.1) in
    ok_is (λ ys. (length ys ≡ count (item d ds)) × AllByRecursion P ys) (a.0 ∷ b.0) xs _ refl b.2 (ap suc rest.0, (first, rest.1))

list_fits : {A : Type 0} (low high : ℕ) (reader : Data → Read A) (P : A → Type 0) → Keeps reader P → Keeps (list_in low high reader) (ListFits low high P)
unfolding list_in
list_fits low high reader P k d x e =
    let a = bind_ok (items d) _ x e in
    let b = tested_ok (outside low high (count a.0)) OutOfRange _ x a.2 in
    let g = entries_fit reader P k 0 a.0 x b.1 in
    record { len = subst (IsFrom low high) (sym g.0) (in_range low high (count a.0) b.0); all = g.1 }

-- an empty list is in range from 0, and a list from low is one from 0
none_fit : {A : Type 0} (high : ℕ) (P : A → Type 0) → ListFits {A = A} 0 high P []
none_fit high P = record { len = (omega arith, omega arith); all = tt }

or_none : {A : Type 0} (low high : ℕ) (P : A → Type 0) (xs : List A) → ListFits low high P xs → ListFits 0 high P xs
or_none low high P xs h = record { len = (omega arith, h.len.1); all = h.all }

-- a list member with the default of no entries
listed : {A : Type 0} (name : List ℕ) (low high : ℕ) (reader : Data → Read A) (P : A → Type 0) → Keeps reader P → Keeps (with_default name [] (list_in low high reader)) (ListFits 0 high P)
listed name low high reader P k = default_keeps name [] (list_in low high reader) (ListFits 0 high P) (none_fit high P) (λ d x e. or_none low high P x (list_fits low high reader P k d x e))

chosen : {A : Type 0} (P : A → Type 0) (b : Bool) (r rest : Read A) (x : A) → cond b r rest ≡ Ok x → (r ≡ Ok x → P x) → (rest ≡ Ok x → P x) → P x
chosen P true r rest x e h k = h e
chosen P false r rest x e h k = k e

means : {A : Type 0} (P : A → Type 0) (ws : List (List ℕ × Read A)) → AllByRecursion (λ w. (x : A) → w.1 ≡ Ok x → P x) ws → (s : List ℕ) (x : A) → meaning ws s ≡ Ok x → P x
means P [] all s x e = absurd cc
means P (w ∷ ws) all s x e = chosen P (bytes_eq s w.0) w.1 (meaning ws s) x e (all.0 x) (means P ws all.1 s x)

one_fits : {A : Type 0} (names : List (List ℕ)) (reader : Data → Read A) (P : A → Type 0) → Keeps reader P → Keeps (one_of names reader) P
unfolding one_of
one_fits names reader P k d x e =
    let a = bind_ok (reader d) _ x (then_ok (refuse_if (not (present names d == 1)) WrongShape) _ x (then_ok (an_object d) _ x e)) in
    ok_is P a.0 x (Ok a.0) refl (then_ok (no_other names d) _ x a.2) (k d a.0 a.1)

table_keeps : {A : Type 0} (names : List (List ℕ)) (inner : Data → Read A) (P : A → Type 0) → Keeps inner P → Keeps (table_of names inner) P
unfolding table_of
table_keeps names inner P k d x e =
    let a = bind_ok (inner d) _ x (then_ok (an_object d) _ x e) in
    ok_is P a.0 x (Ok a.0) refl (then_ok (no_other names d) _ x a.2) (k d a.0 a.1)

or_else_fits : {A : Type 0} (P : A → Type 0) (r : Read (Option A)) (rest : Read A) → ((o : Option A) → r ≡ Ok o → IfSome o P) → ((x : A) → rest ≡ Ok x → P x) → (x : A) → or_else r rest ≡ Ok x → P x
or_else_fits P (Ok (Some y)) rest h k x e = ok_is P y x (Ok y) refl e (h (Some y) refl)
or_else_fits P (Ok None) rest h k x e = k x e
or_else_fits P (Err r) rest h k x e = absurd cc

mapped : {A B : Type 0} (f : A → B) (P : B → Type 0) (o : Option A) → IfSome o (λ a. P (f a)) → IfSome (option_map f o) P
mapped f P None h = tt
mapped f P (Some a) h = h

optional_as_fits : {A B : Type 0} (f : A → B) (name : List ℕ) (reader : Data → Read A) (P : B → Type 0) → Keeps reader (λ a. P (f a)) → (d : Data) (o : Option B) → optional_as f name reader d ≡ Ok o → IfSome o P
optional_as_fits f name reader P k d o e =
    let a = bind_ok (optional name reader d) _ o e in
    ok_is (λ o. IfSome o P) (option_map f a.0) o _ refl a.2 (mapped f P a.0 (optional_keeps name reader (λ a. P (f a)) k d a.0 a.1))

none_left : {A : Type 0} (P : A → Type 0) (x : A) → ◌≡◌ {A = Read A} (refuse WrongShape) (Ok x) → P x
none_left P x e = absurd cc

bind_under_ok : {B : Type 0} (step : List ℕ) (b : Bool) (s : Read B) (y : B) → (under step (refuse_if b OutOfRange) >> s) ≡ Ok y → (b ≡ false) × (s ≡ Ok y)
bind_under_ok step true s y e = absurd cc
bind_under_ok step false s y e = (refl, e)

not_below : (n m : ℕ) → nat_lt n m ≡ false → m ≤ n
not_below n m e = grind (arith, nat_tests)

fuel_fits : IsFrom 1 16777216 1000000
fuel_fits = (omega arith, omega arith)

zero_fits : IsFrom 0 1000000 0
zero_fits = (omega arith, omega arith)

million_fits : (name : List ℕ) → Keeps (required name (number_in 1 1000000)) (IsFrom 1 1000000)
million_fits name = required_keeps name (number_in 1 1000000) (IsFrom 1 1000000) (number_fits 1 1000000)

-- ---- the tables

context_members_fits : Keeps context_members ContextFits
unfolding context_members
context_members_fits d x e =
    let b = bind_ok (required (codes "source") reference d) _ x e in
    let c = bind_ok (with_default (codes "entry") (codes "main") name d) _ x b.2 in
    let f = bind_ok (with_default (codes "fuel") 1000000 (number_in 1 16777216) d) _ x c.2 in
    let fuel = default_keeps (codes "fuel") 1000000 (number_in 1 16777216) (IsFrom 1 16777216) fuel_fits (number_fits 1 16777216) d f.0 f.1 in
    ok_is ContextFits (record { source = b.0; entry = c.0; fuel = f.0 }) x _ refl f.2 (record { fuel = fuel })

context_fits : Keeps context ContextFits
context_fits = table_keeps _ context_members ContextFits context_members_fits

lines_fit : Keeps lines LinesFit
unfolding lines
lines_fit d x e =
    let a = bind_ok (items d) _ x e in
    let p = bind_ok (pair a.0) _ x a.2 in
    let order = tested_ok (nat_lt p.0.1 p.0.0) OutOfRange _ x p.2 in
    let from = bind_under_ok (entry_step 0) (outside 1 1048577 p.0.0) _ x order.1 in
    let to = bind_under_ok (entry_step 1) (outside 1 1048577 p.0.1) _ x from.1 in
    ok_is LinesFit (record { from = p.0.0; to = p.0.1 }) x _ refl to.1 (record { order = not_below p.0.1 p.0.0 order.0; from = in_range 1 1048577 p.0.0 from.0; to = in_range 1 1048577 p.0.1 to.0 })

filter_members_fits : Keeps filter_members FilterFits
unfolding filter_members
filter_members_fits d x e =
    let a = bind_ok (with_default (codes "tags") [] (list_in 1 64 tag) d) _ x e in
    let b = bind_ok (with_default (codes "not_tags") [] (list_in 1 64 tag) d) _ x a.2 in
    let c = bind_ok (with_default (codes "sources") [] (list_in 1 64 reference) d) _ x b.2 in
    let l = bind_ok (with_default (codes "lines") [] (list_in 1 64 lines) d) _ x c.2 in
    let r = bind_ok (with_default (codes "roots") [] (list_in 1 64 name) d) _ x l.2 in
    ok_is FilterFits (record { tags = a.0; not_tags = b.0; sources = c.0; lines = l.0; roots = r.0 }) x _ refl r.2 (record {
      tags = listed (codes "tags") 1 64 tag Any (anything tag) d a.0 a.1;
      not_tags = listed (codes "not_tags") 1 64 tag Any (anything tag) d b.0 b.1;
      sources = listed (codes "sources") 1 64 reference Any (anything reference) d c.0 c.1;
      lines = listed (codes "lines") 1 64 lines LinesFit lines_fit d l.0 l.1;
      roots = listed (codes "roots") 1 64 name Any (anything name) d r.0 r.1;
    })

filter_fits : Keeps filter FilterFits
filter_fits = table_keeps _ filter_members FilterFits filter_members_fits

observer_members_fits : Keeps observer_members BindingFits
unfolding observer_members
observer_members_fits d x e =
    let f = bind_ok (required (codes "filter") filter d) _ x e in
    ok_is BindingFits (bindings.Observe f.0) x _ refl f.2 (required_keeps (codes "filter") filter FilterFits filter_fits d f.0 f.1)

observer_fits : Keeps observer BindingFits
observer_fits = table_keeps _ observer_members BindingFits observer_members_fits

breakpoint_members_fits : Keeps breakpoint_members BindingFits
unfolding breakpoint_members
breakpoint_members_fits d x e =
    let s = bind_ok (required (codes "session") reference d) _ x e in
    let o = bind_ok (required (codes "source") reference d) _ x s.2 in
    let l = bind_ok (required (codes "line") (number_in 1 1048577) d) _ x o.2 in
    let c = bind_ok (optional (codes "condition") condition d) _ x l.2 in
    let i = bind_ok (with_default (codes "ignore") 0 (number_in 0 1000000) d) _ x c.2 in
    let t = bind_ok (with_default (codes "one_shot") false truth d) _ x i.2 in
    let line = required_keeps (codes "line") (number_in 1 1048577) (IsFrom 1 1048577) (number_fits 1 1048577) d l.0 l.1 in
    let ignore = default_keeps (codes "ignore") 0 (number_in 0 1000000) (IsFrom 0 1000000) zero_fits (number_fits 0 1000000) d i.0 i.1 in
    ok_is BindingFits (bindings.Break (record { session = s.0; source = o.0; line = l.0; condition = c.0; ignore = i.0; one_shot = t.0 })) x _ refl t.2 (record { line = line; ignore = ignore })

breakpoint_fits : Keeps breakpoint BindingFits
breakpoint_fits = table_keeps _ breakpoint_members BindingFits breakpoint_members_fits

pause_members_fits : Keeps pause_members BindingFits
unfolding pause_members
pause_members_fits d x e =
    let s = bind_ok (required (codes "session") reference d) _ x e in
    ok_is BindingFits (bindings.Pause s.0) x _ refl s.2 tt

pause_fits : Keeps pause BindingFits
pause_fits = table_keeps _ pause_members BindingFits pause_members_fits

binding_of_fits : (k : Kind) → Keeps (binding_of k) BindingFits
binding_of_fits kinds.Observe = observer_fits
binding_of_fits kinds.Break = breakpoint_fits
binding_of_fits kinds.Pause = pause_fits

binding_fits : Keeps binding BindingFits
unfolding binding
binding_fits d x e =
    let k = bind_ok (required (codes "kind") kind d) _ x (then_ok _ _ x e) in
    binding_of_fits k.0 d x k.2

wait_members_fits : Keeps wait_members ActionFits
unfolding wait_members
wait_members_fits d x e =
    let n = bind_ok (required (codes "count") (number_in 1 1000000) d) _ x e in
    let t = bind_ok (required (codes "turns") (number_in 1 1000000) d) _ x n.2 in
    ok_is ActionFits (actions.Await n.0 t.0) x _ refl t.2 (million_fits (codes "count") d n.0 n.1, million_fits (codes "turns") d t.0 t.1)

wait_fits : Keeps wait ActionFits
wait_fits = table_keeps _ wait_members ActionFits wait_members_fits

first_action_fits : Keeps first_action ActionFits
unfolding first_action
first_action_fits d = or_else_fits ActionFits (optional (codes "await") wait d) _ (optional_keeps (codes "await") wait ActionFits wait_fits d) act_fits
  where
    act_fits : (x : Action) → (first_act d >>= λ a. Ok (actions.Act a)) ≡ Ok x → ActionFits x
    act_fits x e = let a = bind_ok (first_act d) _ x e in ok_is ActionFits (actions.Act a.0) x _ refl a.2 tt

either : {A : Type 0} (b : Bool) (r s : Data → Read A) (P : A → Type 0) → Keeps r P → Keeps s P → Keeps (cond b r s) P
either true r s P k l = k
either false r s P k l = l

action_fits : (version : ℕ) → Keeps (action version) ActionFits
unfolding action
action_fits version = either (version == 1) _ _ ActionFits (one_fits _ first_action ActionFits first_action_fits) (one_fits _ first_action ActionFits first_action_fits)

signed_in_fits : (z y : ℤ) → signed_in z ≡ Ok y → IsSigned64 y
signed_in_fits (pos n) y e = from_test (nat_lt n (2 ^ 63)) refl e
  where
    from_test : (b : Bool) → nat_lt n (2 ^ 63) ≡ b → cond b (Ok (pos n)) (refuse OutOfRange) ≡ Ok y → IsSigned64 y
    from_test true is h = ok_is IsSigned64 (pos n) y (Ok (pos n)) refl h (grind (arith, nat_tests))
    from_test false is h = absurd cc
signed_in_fits (negsuc n) y e = from_test (nat_lt n (2 ^ 63)) refl e
  where
    from_test : (b : Bool) → nat_lt n (2 ^ 63) ≡ b → cond b (Ok (negsuc n)) (refuse OutOfRange) ≡ Ok y → IsSigned64 y
    from_test true is h = ok_is IsSigned64 (negsuc n) y (Ok (negsuc n)) refl h (grind (arith, nat_tests))
    from_test false is h = absurd cc

signed_fits : Keeps signed IsSigned64
signed_fits null x e = absurd cc
signed_fits (boolean b) x e = absurd cc
signed_fits (string s) x e = absurd cc
signed_fits (array ds) x e = absurd cc
signed_fits (object ms) x e = absurd cc
signed_fits (number (unsigned n)) x e = signed_in_fits (pos n) x e
signed_fits (number (negative z)) x e = signed_in_fits z x e
signed_fits (number (float f)) x e = absurd cc

given_fits : Keeps given ValueFits
unfolding given
given_fits null x e = ok_is ValueFits values.Null x (Ok values.Null) refl e tt
given_fits (boolean b) x e = ok_is ValueFits (values.Bool b) x (Ok (values.Bool b)) refl e tt
given_fits (number n) x e =
    let z = bind_ok (signed (number n)) _ x e in
    ok_is ValueFits (values.Number z.0) x _ refl z.2 (signed_fits (number n) z.0 z.1)
given_fits (string s) x e =
    let t = bind_ok (name (string s)) _ x e in
    ok_is ValueFits (values.Text t.0) x _ refl t.2 tt
given_fits (array ds) x e = absurd cc
given_fits (object ms) x e = absurd cc

frame_fits : (ds : Items) (x : Resume) → frame_and_value ds ≡ Ok x → ResumeFits x
frame_fits no_items x e = absurd cc
frame_fits (item d no_items) x e = absurd cc
frame_fits (item d (item f no_items)) x e =
    let k = bind_ok (under (entry_step 0) (number_in 0 2000 d)) _ x e in
    let v = bind_ok (under (entry_step 1) (given f)) _ x k.2 in
    ok_is ResumeFits (Return k.0 v.0) x _ refl v.2 (number_fits 0 2000 d k.0 (under_ok (entry_step 0) (number_in 0 2000 d) k.0 k.1), given_fits f v.0 (under_ok (entry_step 1) (given f) v.0 v.1))
frame_fits (item d (item f (item g ds))) x e = absurd cc

returning_fits : Keeps returning ResumeFits
unfolding returning
returning_fits d x e =
    let a = bind_ok (items d) _ x e in
    frame_fits a.0 x a.2

first_step_fits : Keeps first_step ResumeFits
unfolding first_step
first_step_fits d =
    or_else_fits ResumeFits (optional_as Into (codes "into") steps d) _ (optional_as_fits Into (codes "into") steps ResumeFits (number_fits 1 1000000) d)
    (or_else_fits ResumeFits (optional_as Over (codes "over") steps d) _ (optional_as_fits Over (codes "over") steps ResumeFits (number_fits 1 1000000) d)
    (or_else_fits ResumeFits (optional_as Out (codes "out") steps d) _ (optional_as_fits Out (codes "out") steps ResumeFits (number_fits 1 1000000) d)
    (or_else_fits ResumeFits (optional_as Reenter (codes "reenter") (number_in 0 2000) d) _ (optional_as_fits Reenter (codes "reenter") (number_in 0 2000) ResumeFits (number_fits 0 2000) d)
    (or_else_fits ResumeFits (optional (codes "return") returning d) _ (optional_keeps (codes "return") returning ResumeFits returning_fits d)
    (none_left ResumeFits)))))

stepping_fits : (version : ℕ) → Keeps (stepping version) ResumeFits
unfolding stepping
stepping_fits version = either (version == 1) _ _ ResumeFits (one_fits _ first_step ResumeFits first_step_fits) (one_fits _ first_step ResumeFits first_step_fits)

continues : (x : Resume) → ◌≡◌ {A = Read Resume} (Ok Continue) (Ok x) → ResumeFits x
continues x e = ok_is ResumeFits Continue x (Ok Continue) refl e tt

kills : (x : Resume) → ◌≡◌ {A = Read Resume} (Ok Kill) (Ok x) → ResumeFits x
kills x e = ok_is ResumeFits Kill x (Ok Kill) refl e tt

resume_fits : (version : ℕ) → Keeps (resume version) ResumeFits
unfolding resume
resume_fits version (string s) x e = means ResumeFits ((codes "continue", Ok Continue) ∷ (codes "kill", Ok Kill) ∷ []) (continues, (kills, tt)) s x e
resume_fits version null x e = stepping_fits version null x e
resume_fits version (boolean b) x e = stepping_fits version (boolean b) x e
resume_fits version (number n) x e = stepping_fits version (number n) x e
resume_fits version (array ds) x e = stepping_fits version (array ds) x e
resume_fits version (object ms) x e = stepping_fits version (object ms) x e

answer_members_fits : (version : ℕ) → Keeps (answer_members version) AnswerFits
unfolding answer_members
answer_members_fits version d x e =
    let f = bind_ok (with_default (codes "first") [] (list_in 0 64 (act version)) d) _ x e in
    let n = bind_ok (required (codes "then") (resume version) d) _ x f.2 in
    ok_is AnswerFits (record { first = f.0; resume = n.0 }) x _ refl n.2 (record {
      first = listed (codes "first") 0 64 (act version) Any (anything (act version)) d f.0 f.1;
      resume = required_keeps (codes "then") (resume version) ResumeFits (resume_fits version) d n.0 n.1;
    })

answer_fits : (version : ℕ) → Keeps (answer version) AnswerFits
answer_fits version = table_keeps _ (answer_members version) AnswerFits (answer_members_fits version)

session_members_fits : (version : ℕ) → Keeps (session_members version) SessionFits
unfolding session_members
session_members_fits version d x e =
    let b = bind_ok (with_default (codes "before") [] (list_in 0 4096 reference) d) _ x e in
    let a = bind_ok (with_default (codes "actions") [] (list_in 0 1000 (action version)) d) _ x b.2 in
    let w = bind_ok (with_default (codes "answers") [] (list_in 0 10000 (answer version)) d) _ x a.2 in
    ok_is SessionFits (record { before = b.0; actions = a.0; answers = w.0 }) x _ refl w.2 (record {
      before = listed (codes "before") 0 4096 reference Any (anything reference) d b.0 b.1;
      actions = listed (codes "actions") 0 1000 (action version) ActionFits (action_fits version) d a.0 a.1;
      answers = listed (codes "answers") 0 10000 (answer version) AnswerFits (answer_fits version) d w.0 w.1;
    })

session_fits : (version : ℕ) → Keeps (session version) SessionFits
session_fits version = table_keeps _ (session_members version) SessionFits (session_members_fits version)

plan_members_fits : Keeps plan_members PlanFits
unfolding plan_members
plan_members_fits d x e =
    let v = bind_ok (required (codes "version") (number_in 1 2) d) _ x e in
    let s = bind_ok (required (codes "sources") (list_in 1 16 source) d) _ x v.2 in
    let m = bind_ok (with_default (codes "exports") [] (list_in 0 256 export) d) _ x s.2 in
    let c = bind_ok (required (codes "contexts") (list_in 1 16 context) d) _ x m.2 in
    let b = bind_ok (with_default (codes "bindings") [] (list_in 0 4096 binding) d) _ x c.2 in
    let t = bind_ok (with_default (codes "sessions") [] (list_in 0 16 (session v.0)) d) _ x b.2 in
    ok_is PlanFits (record { sources = s.0; exports = m.0; contexts = c.0; bindings = b.0; sessions = t.0 }) x _ refl t.2 (record {
      sources = required_keeps (codes "sources") (list_in 1 16 source) (ListFits 1 16 Any) (list_fits 1 16 source Any (anything source)) d s.0 s.1;
      exports = listed (codes "exports") 0 256 export Any (anything export) d m.0 m.1;
      contexts = required_keeps (codes "contexts") (list_in 1 16 context) (ListFits 1 16 ContextFits) (list_fits 1 16 context ContextFits context_fits) d c.0 c.1;
      bindings = listed (codes "bindings") 0 4096 binding BindingFits binding_fits d b.0 b.1;
      sessions = listed (codes "sessions") 0 16 (session v.0) SessionFits (session_fits v.0) d t.0 t.1;
    })

pub plan_fits : Keeps plan PlanFits
unfolding plan
plan_fits = table_keeps _ plan_members PlanFits plan_members_fits

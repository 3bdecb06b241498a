-- Values of numbered lists with one more, and that a report has no float.
use Rattle.std.proofs.Common.{◌≡◌, ◌<◌, ◌∙◌, ℕ, suc, ◌+◌, Bool, true, false, List, [], ◌∷◌, ◌++◌, map, flat_map, length, take, slice_index_or, refl, sym, ap, add-zero, arith}
use Rattle.std.specs.Prelude.{◌||◌, Vec}
use Rattle.std.specs.declared.alloc.Global.{Global}
use Rattle.std.proofs.lemmas.List.{take_more, length-take}
use Rattle.serde_json.specs.Data.{Data, array}
use Rattle.serde_json.specs.declared.value.Value.{Value}
use Rattle.serde_json.specs.declared.value.Value.TheVariants.{Array}
use Rattle.serde_json.specs.View.{view, items_of}
use Rattle.serde_json.specs.Written.{has_float, items_have_float}
use Rattle.serde_json.proofs.Views.{view-Array}
use Rattle.pd_plan.specs.declared.plan.Plan.{Plan}
use Rattle.pd_plan.specs.declared.plan.BindingSpec.{BindingSpec}
use Rattle.pd_plan.specs.declared.plan.BindingSpec.TheVariants.{Observe, Break, Pause}
use Rattle.pd_machine.specs.declared.event.EventKind.{EventKind}
use Rattle.pd_machine.specs.declared.event.EventKind.TheVariants.{Enter, Return as Gave, Leave}
use Rattle.pd_tree.specs.Program.{Program, item_names}
use Rattle.pd_break.specs.declared.resolving.Resolved.{Resolved}
use Rattle.pd_break.specs.declared.resolving.Resolved.TheVariants.{Line, Unresolved}
use Rattle.pd_break.specs.Resolving.{resolved}
use Rattle.pd_log.specs.declared.Entry.{Entry}
use Rattle.pd_board.specs.declared.answers.ActResult.{ActResult}
use Rattle.pd_board.specs.declared.answers.ActResult.TheVariants as acts
use Rattle.pd_suspend.specs.declared.suspension.FrameView.{FrameView}
use Rattle.pd_suspend.specs.declared.suspension.Suspension.{Suspension}
use Rattle.pd_suspend.specs.declared.context.ContextRecord.{ContextRecord}
use Rattle.pd_session.specs.declared.record.SessionRecord.{SessionRecord}
use Rattle.pd_run.specs.declared.report.Report.{Report}
use Rattle.pd_report.specs.Logs.{log_of}
use Rattle.pd_report.specs.Json.{list_json, numbered_json, detail_json, entry_json, line_in, line_json, binding_json, act_json, reason_json, variable_json, frame_json, stop_json, context_json, before_json, action_json, session_json, report_json}

-- the value behind these has the next number
numbered-append : {A : Type 0} (value : ℕ → A → Data) (n : ℕ) (xs : List A) (x : A) → numbered_json value n (xs ++ x ∷ []) ≡ numbered_json value n xs ++ value (n + length xs) x ∷ []
numbered-append value n [] x = ap (λ m. value m x ∷ []) (sym (add-zero n))
numbered-append value n (y ∷ ys) x =
    ap (λ t. value n y ∷ t) (numbered-append value (suc n) ys x ∙ ap (λ m. numbered_json value (suc n) ys ++ value m x ∷ []) (omega arith))

-- the first of these, and then the next one
pub numbered_more : {A : Type 0} (value : ℕ → A → Data) (xs : List A) (k : ℕ) (x : A) (now next : List Data) (d : Data)
    → k < length xs → x ≡ slice_index_or xs k x → now ≡ numbered_json value 0 (take k xs) → next ≡ now ++ d ∷ [] → d ≡ value k x
    → next ≡ numbered_json value 0 (take (k + 1) xs)
numbered_more value xs k x now next d below is before added made =
    let count : 0 + length (take k xs) ≡ k = grind (arith, below, length-take k xs) in
    let step : numbered_json value 0 (take (k + 1) xs) ≡ numbered_json value 0 (take k xs) ++ value k x ∷ [] =
    ap (numbered_json value 0) (take_more xs k x below ∙ ap (λ y. take k xs ++ y ∷ []) (sym is))
    ∙ numbered-append value 0 (take k xs) x
    ∙ ap (λ n. numbered_json value 0 (take k xs) ++ value n x ∷ []) count in
    added ∙ ap (λ t. t ++ d ∷ []) before ∙ ap (λ e. numbered_json value 0 (take k xs) ++ e ∷ []) made ∙ sym step

-- all of them
pub numbered_all : {A : Type 0} (value : ℕ → A → Data) (xs ys : List A) (vs : Vec Value Global) → ys ≡ xs → map view vs.items ≡ numbered_json value 0 ys
    → view (Array vs) ≡ list_json (numbered_json value 0 xs)
numbered_all value xs ys vs same h = view-Array vs ∙ ap (λ ds. array (items_of ds)) (h ∙ ap (numbered_json value 0) same)

-- ---- no floats

abbrev HasNone : List Data → Type 0
HasNone ds = items_have_float (items_of ds) ≡ false

or_false : (a b : Bool) → a ≡ false → b ≡ false → (a || b) ≡ false
or_false false b h g = g
or_false true b h g = h

left : (a b : Bool) → (a || b) ≡ false → a ≡ false
left false b h = refl
left true b h = h

right : (a b : Bool) → (a || b) ≡ false → b ≡ false
right false b h = h
right true b h = absurd (cc)

none_both : (ds es : List Data) → HasNone ds → HasNone es → HasNone (ds ++ es)
none_both [] es h g = g
none_both (d ∷ ds) es h g = or_false (has_float d) _ (left (has_float d) _ h) (none_both ds es (right (has_float d) _ h) g)

none_numbered : {A : Type 0} (value : ℕ → A → Data) → ((n : ℕ) (x : A) → has_float (value n x) ≡ false) → (n : ℕ) (xs : List A) → HasNone (numbered_json value n xs)
none_numbered value none n [] = refl
none_numbered value none n (x ∷ xs) = or_false (has_float (value n x)) _ (none n x) (none_numbered value none (suc n) xs)

detail_none : (names : List (List ℕ)) (kind : EventKind) → has_float (detail_json names kind) ≡ false
detail_none names Enter = refl
detail_none names (Gave v) = refl
detail_none names (Leave c) = refl

entry_none : (names : List (List ℕ)) (e : Entry) → has_float (entry_json names e) ≡ false
entry_none names e = or_false (has_float (detail_json names e.kind)) false (detail_none names e.kind) refl

none_map : {A : Type 0} (value : A → Data) → ((x : A) → has_float (value x) ≡ false) → (xs : List A) → HasNone (map value xs)
none_map value none [] = refl
none_map value none (x ∷ xs) = or_false (has_float (value x)) _ (none x) (none_map value none xs)

line_in_none : (line : Resolved) → has_float (line_in line) ≡ false
line_in_none Unresolved = refl
line_in_none (Line n) = refl

line_none : (p : Program) (spec : BindingSpec) → has_float (line_json p spec) ≡ false
line_none p (Observe f) = refl
line_none p (Break spec) = line_in_none (resolved p spec.source spec.line)
line_none p (Pause s) = refl

binding_none : (p : Program) (r : Report) (merged : Bool) (n : ℕ) (spec : BindingSpec) → has_float (binding_json p r merged n spec) ≡ false
binding_none p r merged n spec =
    or_false (has_float (line_json p spec)) _ (line_none p spec)
    (or_false (has_float (list_json (map (entry_json (item_names p)) (log_of merged n r.contexts)))) _ (none_map (entry_json (item_names p)) (entry_none (item_names p)) (log_of merged n r.contexts)) refl)

frame_none : (p : Program) (f : FrameView) → has_float (frame_json p f) ≡ false
frame_none p f = or_false (has_float (list_json (map (variable_json (item_names p)) f.variables))) _ (none_map (variable_json (item_names p)) (λ v. refl) f.variables) refl

stop_none : (p : Program) (x : Suspension) → has_float (stop_json p x) ≡ false
stop_none p x =
    or_false (has_float (list_json (map act_json x.acts))) _ (none_map act_json (λ a. refl) x.acts)
    (or_false (has_float (list_json (map (frame_json p) x.frames))) _ (none_map (frame_json p) (frame_none p) x.frames)
    (or_false (has_float (list_json (map reason_json x.reasons))) _ (none_map reason_json (λ a. refl) x.reasons) refl))

context_none : (plan : Plan) (p : Program) (n : ℕ) (c : ContextRecord) → has_float (context_json plan p n c) ≡ false
context_none plan p n c = or_false (has_float (list_json (map (stop_json p) c.stops))) _ (none_map (stop_json p) (stop_none p) c.stops) refl

before_none : (results : List ActResult) → HasNone (flat_map before_json results)
before_none [] = refl
before_none (r ∷ rs) = none_both (before_json r) (flat_map before_json rs) (one r) (before_none rs)
  where
    one : (r : ActResult) → HasNone (before_json r)
    one (acts.Attached b a) = refl
    one _ = refl

session_none : (answers : List ℕ) (n : ℕ) (s : SessionRecord) → has_float (session_json answers n s) ≡ false
session_none answers n s =
    or_false (has_float (list_json (map action_json s.actions))) _ (none_map action_json (λ a. refl) s.actions)
    (or_false (has_float (list_json (flat_map before_json s.before))) false (before_none s.before) refl)

pub report_none : (plan : Plan) (p : Program) (r : Report) (merged : Bool) → has_float (report_json plan p r merged) ≡ false
report_none plan p r merged =
    or_false (has_float (list_json (numbered_json (binding_json p r merged) 0 plan.bindings))) _ (none_numbered (binding_json p r merged) (binding_none p r merged) 0 plan.bindings)
    (or_false (has_float (list_json (numbered_json (context_json plan p) 0 r.contexts))) _ (none_numbered (context_json plan p) (context_none plan p) 0 r.contexts)
    (or_false (has_float (list_json (numbered_json (session_json r.tally.answers) 0 r.sessions))) false (none_numbered (session_json r.tally.answers) (session_none r.tally.answers) 0 r.sessions) refl))

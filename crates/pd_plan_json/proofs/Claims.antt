-- What the tables say of some values, as worked cases.
use Rattle.std.proofs.Common.{◌≡◌, ℕ, pos, negsuc, List, [], ◌∷◌, ◌++◌, Ok, Err, None, true, false, Float, codes, refl}
use Rattle.serde_json.specs.Data.{unsigned, negative, float, Data, null, boolean, number, string, array, object, no_items, item, no_members, member}
use Rattle.pd_values.specs.declared.value.Value.TheVariants as values
use Rattle.pd_plan.specs.declared.refusal.PlanRule.{PlanRule}
use Rattle.pd_plan.specs.declared.refusal.PlanRule.TheVariants.{Missing, WrongShape, OutOfRange, UnknownWord, UnknownMember, NoSuch, NotAnObserver, BadCondition}
use Rattle.pd_plan.specs.declared.plan.BindingSpec.TheVariants as bindings
use Rattle.pd_plan.specs.declared.plan.Act.TheVariants.{Attach, Dispose, Enable}
use Rattle.pd_plan.specs.declared.plan.Action.TheVariants as actions
use Rattle.pd_plan.specs.declared.plan.Resume.TheVariants.{Continue, Into, Reenter, Return, Kill}
use Rattle.pd_plan.specs.declared.condition.Op.TheVariants.{Less}
use Rattle.pd_plan.specs.declared.condition.Condition.TheVariants.{Name, Number}
use Rattle.pd_condition.specs.Grammar.{between}
use Rattle.pd_plan.specs.declared.plan.Plan.{Plan}
use Rattle.pd_plan_json.specs.Reading.{Read, entry_step}
use Rattle.pd_plan_json.specs.Shapes.{number_in, reference, text_in, list_in, required, optional, with_default, no_other, table_of, one_of}
use Rattle.pd_plan_json.specs.Tables.{export, export_members, breakpoint, breakpoint_members, pause, pause_members, condition, first_act, act, wait_members, first_action, action, given, returning, first_step, stepping, resume, answer, answer_members}
use Rattle.pd_plan_json.specs.References.{each, act_refers, observed, action_refers, session_refers, refers, binding_refers}

-- ---- how the cases are written

abbrev refused : {A : Type 0} → PlanRule → List ℕ → Read A
refused rule path = Err (record { rule = rule; path = path })

abbrev whole : ℕ → Data
whole n = number (unsigned n)

abbrev text : List ℕ → Data
text s = string s

abbrev two : Data → Data → Data
two d e = array (item d (item e no_items))

-- objects; the names come in order
abbrev with_1 : List ℕ → Data → Data
with_1 k d = object (member k d no_members)

abbrev with_2 : List ℕ → Data → List ℕ → Data → Data
with_2 k d l e = object (member k d (member l e no_members))

abbrev with_3 : List ℕ → Data → List ℕ → Data → List ℕ → Data → Data
with_3 k d l e m f = object (member k d (member l e (member m f no_members)))

-- ---- early returns

return_number : returning (two (whole 0) (whole 9)) ≡ Ok (Return 0 (values.Number (pos 9)))
unfolding returning number_in given
return_number = refl

return_least : returning (two (whole 2000) (number (negative (negsuc 9223372036854775807)))) ≡ Ok (Return 2000 (values.Number (negsuc 9223372036854775807)))
unfolding returning number_in given
return_least = refl

return_largest : returning (two (whole 0) (whole 9223372036854775807)) ≡ Ok (Return 0 (values.Number (pos 9223372036854775807)))
unfolding returning number_in given
return_largest = refl

return_too_large : returning (two (whole 0) (whole 9223372036854775808)) ≡ refused OutOfRange (entry_step 1 ++ [])
unfolding returning number_in given
return_too_large = refl

return_fraction : (x : Float) → returning (two (whole 0) (number (float x))) ≡ refused WrongShape (entry_step 1 ++ [])
unfolding returning number_in given
return_fraction x = refl

return_text : returning (two (whole 0) (text (codes "x"))) ≡ Ok (Return 0 (values.Text (codes "x")))
unfolding returning number_in given text_in
return_text = refl

return_no_text : returning (two (whole 0) (text [])) ≡ refused OutOfRange (entry_step 1 ++ [])
unfolding returning number_in given text_in
return_no_text = refl

return_truth : returning (two (whole 0) (boolean true)) ≡ Ok (Return 0 (values.Bool true))
unfolding returning number_in given
return_truth = refl

return_null : returning (two (whole 0) null) ≡ Ok (Return 0 values.Null)
unfolding returning number_in given
return_null = refl

return_list : returning (two (whole 0) (array no_items)) ≡ refused WrongShape (entry_step 1 ++ [])
unfolding returning number_in given
return_list = refl

return_far : returning (two (whole 2001) (array no_items)) ≡ refused OutOfRange (entry_step 0 ++ [])
unfolding returning number_in
return_far = refl

return_no_number : returning (two null null) ≡ refused WrongShape (entry_step 0 ++ [])
unfolding returning number_in
return_no_number = refl

return_one : returning (array (item (whole 0) no_items)) ≡ refused WrongShape []
unfolding returning
return_one = refl

-- ---- how a context goes on

steps_into : stepping 1 (with_1 (codes "into") (whole 1)) ≡ Ok (Into 1)
unfolding stepping first_step one_of optional no_other number_in
steps_into = refl

no_step : stepping 1 (with_1 (codes "over") (whole 0)) ≡ refused OutOfRange (codes "/over")
unfolding stepping first_step one_of optional no_other number_in
no_step = refl

two_steps : stepping 1 (with_2 (codes "into") (whole 1) (codes "out") (whole 1)) ≡ refused WrongShape []
unfolding stepping one_of
two_steps = refl

step_and_more : stepping 1 (with_2 (codes "into") (whole 1) (codes "x") null) ≡ refused UnknownMember []
unfolding stepping first_step one_of optional no_other number_in
step_and_more = refl

reenters : stepping 1 (with_1 (codes "reenter") (whole 2000)) ≡ Ok (Reenter 2000)
unfolding stepping first_step one_of optional no_other number_in
reenters = refl

reenters_too_far : stepping 1 (with_1 (codes "reenter") (whole 2001)) ≡ refused OutOfRange (codes "/reenter")
unfolding stepping first_step one_of optional no_other number_in
reenters_too_far = refl

no_return_in_1 : stepping 1 (with_1 (codes "return") null) ≡ refused WrongShape []
unfolding stepping one_of
no_return_in_1 = refl

return_in_2 : stepping 2 (with_1 (codes "return") null) ≡ refused WrongShape (codes "/return")
unfolding stepping first_step one_of optional returning
return_in_2 = refl

words : (resume 1 (text (codes "continue")) ≡ Ok Continue) × (resume 2 (text (codes "kill")) ≡ Ok Kill) × (resume 1 (text (codes "go")) ≡ refused UnknownWord [])
unfolding resume
words = (refl, refl, refl)

no_then : answer 1 (with_1 (codes "first") (array no_items)) ≡ refused Missing (codes "/then")
unfolding answer_members table_of with_default optional required list_in
no_then = refl

-- ---- acts and actions

attaches : act 1 (with_1 (codes "attach") (whole 3)) ≡ Ok (Attach 3)
unfolding act first_act one_of optional no_other reference
attaches = refl

no_enable_in_1 : act 1 (with_1 (codes "enable") (whole 0)) ≡ refused WrongShape []
unfolding act one_of
no_enable_in_1 = refl

more_in_1 : act 1 (with_2 (codes "attach") (whole 0) (codes "enable") (whole 0)) ≡ refused UnknownMember []
unfolding act first_act one_of optional no_other reference
more_in_1 = refl

enable_in_2 : act 2 (with_1 (codes "enable") (whole 0)) ≡ Ok (Enable 0)
unfolding act first_act one_of optional no_other reference
enable_in_2 = refl

two_in_2 : act 2 (with_2 (codes "attach") (whole 0) (codes "enable") (whole 0)) ≡ refused WrongShape []
unfolding act one_of
two_in_2 = refl

dispose_in_2 : action 2 (with_1 (codes "dispose") (whole 5)) ≡ Ok (actions.Act (Dispose 5))
unfolding action first_action first_act one_of optional no_other reference
dispose_in_2 = refl

waits : action 1 (with_1 (codes "await") (with_2 (codes "count") (whole 1) (codes "turns") (whole 1000000))) ≡ Ok (actions.Await 1 1000000)
unfolding action first_action wait_members table_of one_of required optional no_other number_in
waits = refl

waits_long : action 1 (with_1 (codes "await") (with_2 (codes "count") (whole 1) (codes "turns") (whole 1000001))) ≡ refused OutOfRange (codes "/await/turns")
unfolding action first_action wait_members table_of one_of required optional number_in
waits_long = refl

-- ---- breakpoints, pauses and exports

plain_break : breakpoint (with_3 (codes "line") (whole 9) (codes "session") (whole 1) (codes "source") (whole 0)) ≡ Ok (bindings.Break (record { session = 1; source = 0; line = 9; condition = None; ignore = 0; one_shot = false }))
unfolding breakpoint_members table_of required optional with_default no_other number_in reference
plain_break = refl

break_line : breakpoint (with_3 (codes "line") (whole 1048578) (codes "session") (whole 1) (codes "source") (whole 0)) ≡ refused OutOfRange (codes "/line")
unfolding breakpoint_members table_of required number_in reference
break_line = refl

no_condition : condition (text []) ≡ refused OutOfRange []
unfolding condition
no_condition = refl

a_condition : condition (text (codes "a < 1")) ≡ Ok (between Less (Name (codes "a")) (Number (pos 1)))
unfolding condition
a_condition = refl

no_right_side : condition (text (codes "a <")) ≡ refused BadCondition []
unfolding condition
no_right_side = refl

a_pause : pause (with_1 (codes "session") (whole 2)) ≡ Ok (bindings.Pause 2)
unfolding pause_members table_of required no_other reference
a_pause = refl

no_item : export (with_2 (codes "name") (text (codes "f")) (codes "source") (whole 0)) ≡ refused Missing (codes "/item")
unfolding export_members table_of required text_in reference
no_item = refl

-- ---- references

abbrev a_plan : Plan
a_plan = record { sources = []; exports = []; contexts = []; bindings = bindings.Pause 0 ∷ []; sessions = record { before = []; actions = actions.Act (Enable 0) ∷ []; answers = [] } ∷ [] }

no_observer : refers a_plan ≡ refused NotAnObserver (codes "/sessions" ++ (entry_step 0 ++ (codes "/actions" ++ (entry_step 0 ++ codes "/enable"))))
unfolding refers each binding_refers session_refers action_refers act_refers observed
no_observer = refl

no_binding : act_refers a_plan (Enable 1) ≡ refused NoSuch (codes "/enable")
unfolding act_refers observed
no_binding = refl

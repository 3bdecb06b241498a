-- Definition: what a list of words asks for: the first one names the command, whose own words are read as `clap` reads them.
use Rattle.std.specs.Prelude.{◌≡◌, ◌≤◌, ℕ, ◌&&◌, ◌^◌, Bool, true, false, nat_le, nat_lt, if◌then◌else◌, pos, List, [], ◌∷◌, Option, None, Some, IfSome, Result, Ok, Err, codes, map, option_map, unwrap_or, String, string_bytes}
use Rattle.std.specs.Option.{option_map_or}
use Rattle.std.specs.Str.{bytes_eq}
use Rattle.std.specs.Str.Parse.{digits_value, without_leading_plus}
use Rattle.std.specs.declared.alloc.Global.{Global}
use Rattle.clap.specs.Words.{App, Row, Rule, new_app, new_rule, with_rule, matches_of, first_of, fault_of}
use Rattle.clap.specs.Walk.{is_empty}
use Rattle.clap.specs.Simple.{on_top}
use Rattle.clap.specs.ValueTests.{is_numeral}
use Rattle.clap.specs.declared.builder.action.ArgAction.TheVariants.{Set, SetTrue}
use Rattle.clap.specs.declared.builder.value_parser.ValueParser.TheVariants.{Signed}
use Rattle.pd_values.specs.declared.stop.Stop.{Stop}
use Rattle.pd_values.specs.declared.stop.Stop.TheVariants as stops
use Rattle.pd_words.specs.declared.asked.WordFault.{WordFault}
use Rattle.pd_words.specs.declared.asked.WordFault.TheVariants.{NoCommand, UnknownCommand, Refused}
use Rattle.pd_words.specs.declared.asked.RunWords.{RunWords}
use Rattle.pd_words.specs.declared.asked.BindingWords.{BindingWords}
use Rattle.pd_words.specs.declared.asked.Command.{Command}
use Rattle.pd_words.specs.declared.asked.Command.TheVariants.{Trace, Run, Check, Gen, Coverage, CallTree}

-- the bytes of each word
abbrev pub texts : List (String Global) → List (List ℕ)
texts words = map string_bytes words

-- ---- the commands of `clap`

-- a command of this name without a help option
abbrev pub command : List ℕ → App
command name = on_top (λ s. record s { disable_help_flag = true }) (new_app name)

-- the one file of a command
abbrev pub file_rule : Rule
file_rule = record (new_rule (codes "file")) { required = true; action = Some Set }

-- an option without a value
abbrev pub flag_rule : List ℕ → Rule
flag_rule name = record (new_rule name) { long = Some name; action = Some SetTrue }

-- the fuel, as an option
abbrev pub fuel_rule : Rule
fuel_rule = record (new_rule (codes "fuel")) { long = Some (codes "fuel"); action = Some Set; parser = Some (Signed (pos 1) (pos 16777216)) }

-- a number from 0 on that the command must have
abbrev pub number_rule : List ℕ → ℕ → Rule
number_rule name most = record (new_rule name) { required = true; action = Some Set; parser = Some (Signed (pos 0) (pos most)) }

-- a command of this name that takes one file and no option
abbrev pub file_app : List ℕ → App
file_app name = with_rule (command name) file_rule

-- `run` with its options
abbrev pub run_app : App
run_app = with_rule (with_rule (with_rule (with_rule (command (codes "run")) file_rule) (flag_rule (codes "merged"))) (flag_rule (codes "json"))) fuel_rule

-- `gen` with its number
abbrev pub gen_app : App
gen_app = with_rule (command (codes "gen")) (number_rule (codes "number") 999999)

-- a command of this name on one binding of a plan
abbrev pub binding_app : List ℕ → App
binding_app name = with_rule (with_rule (with_rule (command name) file_rule) (number_rule (codes "binding") 4095)) fuel_rule

-- ---- what they find

-- what a command finds in the words, of which the first is its name, where it takes them
abbrev pub matched : App → List (List ℕ) → Option (List Row)
matched app words = if is_empty (fault_of app words) then Some (matches_of app words) else None

-- the text of an argument
abbrev pub text_in : List ℕ → List Row → List ℕ
text_in id rows = unwrap_or (first_of id rows) []

-- whether an option without a value was given
abbrev pub is_given : List ℕ → List Row → Bool
is_given id rows = option_map_or (λ text. bytes_eq text (codes "true")) (first_of id rows) false

-- the number that a text is, if it is one of 32 bits
abbrev pub number_in : List ℕ → Option ℕ
number_in text =
    let digits = without_leading_plus text in
    if is_numeral digits && nat_lt (digits_value 10 digits) (2 ^ 32) then Some (digits_value 10 digits) else None

-- the number, if it is one from `least` to `most`
abbrev pub within : ℕ → ℕ → ℕ → Option ℕ
within least most number = if nat_le least number && nat_le number most then Some number else None

-- the number of an argument, where it has one from `least` to `most`
abbrev pub number_of : ℕ → ℕ → Option (List ℕ) → Option ℕ
number_of least most None = None
number_of least most (Some text) = option_map_or (within least most) (number_in text) None

-- the number up to `most` of an argument that must be there
abbrev pub number_up_to : ℕ → List ℕ → List Row → ℕ
number_up_to most id rows = unwrap_or (number_of 0 most (first_of id rows)) 0

-- the file of a command that takes just that
abbrev pub file_of : List ℕ → List (List ℕ) → Option (List ℕ)
file_of name words = option_map (text_in (codes "file")) (matched (file_app name) words)

-- the plan and the options of `run`
abbrev pub run_in : List Row → RunWords
run_in rows = record {
  plan = text_in (codes "file") rows;
  merged = is_given (codes "merged") rows;
  json = is_given (codes "json") rows;
  fuel = number_of 1 16777216 (first_of (codes "fuel") rows);
}

abbrev pub run_of : List (List ℕ) → Option RunWords
run_of words = option_map run_in (matched run_app words)

-- the number of `gen`
abbrev pub gen_of : List (List ℕ) → Option ℕ
gen_of words = option_map (number_up_to 999999 (codes "number")) (matched gen_app words)

-- the plan, the binding and the fuel of a command on one binding
abbrev pub binding_in : List Row → BindingWords
binding_in rows = record {
  plan = text_in (codes "file") rows;
  binding = number_up_to 4095 (codes "binding") rows;
  fuel = number_of 1 16777216 (first_of (codes "fuel") rows);
}

abbrev pub binding_of : List ℕ → List (List ℕ) → Option BindingWords
binding_of name words = option_map binding_in (matched (binding_app name) words)

-- ---- the command

-- what is asked, if the command takes its words
abbrev pub asked : {A : Type 0} → (A → Command) → Option A → Result Command WordFault
asked make (Some words) = Ok (make words)
asked make None = Err Refused

-- the command of this name; the words begin with it
abbrev pub command_named : List ℕ → List (List ℕ) → Result Command WordFault
command_named name words =
    if bytes_eq name (codes "trace") then asked Trace (file_of (codes "trace") words)
    else (if bytes_eq name (codes "run") then asked Run (run_of words)
    else (if bytes_eq name (codes "check") then asked Check (file_of (codes "check") words)
    else (if bytes_eq name (codes "gen") then asked Gen (gen_of words)
    else (if bytes_eq name (codes "coverage") then asked Coverage (binding_of (codes "coverage") words)
    else (if bytes_eq name (codes "calltree") then asked CallTree (binding_of (codes "calltree") words)
    else Err UnknownCommand)))))

-- what these words ask for, or why they are no command
abbrev pub command_of : List (List ℕ) → Result Command WordFault
command_of [] = Err NoCommand
command_of (name ∷ words) = command_named name (name ∷ words)

-- a context may have this fuel
abbrev pub IsFuel : ℕ → Type 0
IsFuel fuel = (1 ≤ fuel) × (fuel ≤ 16777216)

-- the numbers of a command are in their ranges: a fuel is one that a context may have, a binding's number is below the most
-- bindings of a plan, and that of `gen` is below a million
abbrev pub HasNumbersInRange : Command → Type 0
HasNumbersInRange (Run words) = IfSome words.fuel IsFuel
HasNumbersInRange (Gen number) = number ≤ 999999
HasNumbersInRange (Coverage words) = (words.binding ≤ 4095) × IfSome words.fuel IsFuel
HasNumbersInRange (CallTree words) = (words.binding ≤ 4095) × IfSome words.fuel IsFuel
HasNumbersInRange command = Unit {0}

-- ---- why words aren't read; memory may run out at any of them

-- the command of `clap` refuses them
abbrev pub StopsBy : {A : Type 0} → Option A → Stop WordFault → Type 0
StopsBy asked (stops.Refused fault) = (asked ≡ None) × (fault ≡ Refused)
StopsBy asked stops.Memory = Unit {0}

-- they are no command, where they ask for this
abbrev pub StopsCommand : Result Command WordFault → Stop WordFault → Type 0
StopsCommand asked (stops.Refused fault) = asked ≡ Err fault
StopsCommand asked stops.Memory = Unit {0}

abbrev pub StopsWords : List (List ℕ) → Stop WordFault → Type 0
StopsWords words stop = StopsCommand (command_of words) stop

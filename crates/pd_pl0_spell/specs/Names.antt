-- Definition: the declarations that are visible at a place, and the rules on names.
use Rattle.std.specs.Prelude.{ℕ, Bool, true, false, if◌then◌else◌, List, [], ◌∷◌, Option, Some, None, bytes_eq}

-- the rules by which a source is refused
pub data Rule : Type 0 where
  Unexpected : Rule
  LiteralTooLarge : Rule
  Doubled : Rule
  Undeclared : Rule
  NotAssignable : Rule
  NotAProcedure : Rule
  NotAValue : Rule
  TooDeep : Rule
  TooManyNodes : Rule

-- what a name is declared as: a constant with its value, a variable, a procedure
pub data Kind : Type 0 where
  AConstant : ℕ → Kind
  AVariable : Kind
  AProcedure : Kind

-- a name that a block declares, and as what
pub record Declaration : Type 0 where
  pub name : List ℕ
  pub kind : Kind

-- the declarations so far of the block itself, the latest first, and of the blocks around it, the innermost first
pub record Scope : Type 0 where
  pub own : List Declaration
  pub around : List (List Declaration)

-- before the main block's first declaration
abbrev pub no_declarations : Scope
no_declarations = record { own = []; around = [] }

-- the innermost block declares one more name
abbrev pub declare : List ℕ → Kind → Scope → Scope
declare x k s = record { own = record { name = x; kind = k } ∷ s.own; around = s.around }

-- the scope at the beginning of a block inside this one
abbrev pub entered : Scope → Scope
entered s = record { own = []; around = s.own ∷ s.around }

-- what the name is in these declarations, the latest first
abbrev pub found : List ℕ → List Declaration → Option Kind
found x [] = None
found x (d ∷ ds) = if bytes_eq x d.name then Some d.kind else found x ds

-- an inner declaration hides an outer one
abbrev pub or_outer : Option Kind → Option Kind → Option Kind
or_outer None outer = outer
or_outer (Some k) outer = Some k

-- what the name is in these blocks, the innermost first
abbrev pub found_around : List ℕ → List (List Declaration) → Option Kind
found_around x [] = None
found_around x (ds ∷ blocks) = or_outer (found x ds) (found_around x blocks)

-- what a visible name is declared as
abbrev pub visible : List ℕ → Scope → Option Kind
visible x s = or_outer (found x s.own) (found_around x s.around)

-- what a name is used for: its declaration, the target of an assignment, after `call`, a factor
pub data Role : Type 0 where
  Declaring : Role
  Assigning : Role
  Calling : Role
  Reading : Role

-- the rule that a declaration breaks, where its block has the name already
abbrev pub broken_declaring : Option Kind → Option Rule
broken_declaring None = None
broken_declaring (Some k) = Some Doubled

-- the rule that a name at the start of a statement breaks, by what it is
abbrev pub broken_assigning : Option Kind → Option Rule
broken_assigning None = Some Undeclared
broken_assigning (Some (AConstant v)) = Some NotAssignable
broken_assigning (Some AVariable) = None
broken_assigning (Some AProcedure) = Some NotAssignable

-- `call` of a name that isn't declared breaks no rule
abbrev pub broken_calling : Option Kind → Option Rule
broken_calling None = None
broken_calling (Some (AConstant v)) = Some NotAProcedure
broken_calling (Some AVariable) = Some NotAProcedure
broken_calling (Some AProcedure) = None

-- the rule that a name in a factor breaks, by what it is
abbrev pub broken_reading : Option Kind → Option Rule
broken_reading None = Some Undeclared
broken_reading (Some (AConstant v)) = None
broken_reading (Some AVariable) = None
broken_reading (Some AProcedure) = Some NotAValue

-- the rule that this name breaks in this role where this scope is visible
abbrev pub broken_by : Role → Scope → List ℕ → Option Rule
broken_by Declaring s x = broken_declaring (found x s.own)
broken_by Assigning s x = broken_assigning (visible x s)
broken_by Calling s x = broken_calling (visible x s)
broken_by Reading s x = broken_reading (visible x s)

-- Some of the rules on names: those for which this is true.
abbrev pub Rules : Type 0
Rules = Rule → Bool

-- none of the rules on names is kept
abbrev pub no_rule : Rules
no_rule rule = false

-- all rules on names are kept
abbrev pub every_rule : Rules
every_rule rule = true

-- whether two rules on names are the same
abbrev pub same : Rule → Rule → Bool
same Doubled Doubled = true
same Undeclared Undeclared = true
same NotAssignable NotAssignable = true
same NotAProcedure NotAProcedure = true
same NotAValue NotAValue = true
same _ _ = false

-- this rule alone
abbrev pub only : Rule → Rules
only rule other = same rule other

-- the rule isn't one of these
abbrev pub IsLetBe : Bool → Type 0
IsLetBe true = ⊥
IsLetBe false = Unit {0}

-- none of these rules is broken
abbrev pub Keeps : Rules → Option Rule → Type 0
Keeps rules None = Unit {0}
Keeps rules (Some rule) = IsLetBe (rules rule)

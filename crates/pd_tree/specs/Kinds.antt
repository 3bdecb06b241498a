-- Definition, which public contracts cite.
-- The tables of kinds: how many parts a node of each kind has, and which tags.
use Rattle.std.specs.Prelude.{◌≡◌, ℕ, ◌≤◌, ◌⊎◌, Bool, true, false, if◌then◌else◌, List, [], ◌∷◌, ◌++◌}
use Rattle.pd_values.specs.declared.value.Tag.{Tag}
use Rattle.pd_values.specs.declared.value.Tag.TheVariants.{Statement, Call, Root, RootBody, Expression, ReadVariable, WriteVariable, AlwaysHalt}
use Rattle.pd_tree.specs.declared.kind.Operator.{Operator}
use Rattle.pd_tree.specs.declared.kind.Operator.TheVariants.{Add, Sub, Mul, Div}
use Rattle.pd_tree.specs.declared.kind.Kind.{Kind}
use Rattle.pd_tree.specs.declared.kind.Kind.TheVariants.{SlFunction, SlBody, SlBlock, SlIf, SlWhile, SlReturn, SlBreak, SlContinue, SlDebugger, SlOr, SlAnd, SlBinary, SlCall, SlAssign, SlName, SlNumber, SlText, PlProcedure, PlBody, PlEmpty, PlBegin, PlIf, PlWhile, PlAssign, PlCall, PlWrite, PlOdd, PlBinary, PlPlus, PlMinus, PlName, PlNumber}
use Rattle.pd_tree.specs.declared.kind.Meaning.{Meaning}
use Rattle.pd_tree.specs.declared.kind.Meaning.TheVariants.{Local}

-- a function or a procedure; a main block is a procedure
abbrev pub is_root : Kind → Bool
is_root (SlFunction _ _) = true
is_root (PlProcedure _ _) = true
is_root _ = false

-- the name of a function or a procedure; no other node has one
abbrev pub root_name_of : Kind → List ℕ
root_name_of (SlFunction name _) = name
root_name_of (PlProcedure name _) = name
root_name_of _ = []

-- whether a kind has so many parts by its grammar: an `if` has a condition and one or two blocks, a call its callee and the
-- arguments, a procedure its inner procedures and its body
abbrev pub HasParts : Kind → ℕ → Type 0
HasParts (SlFunction _ _) c = c ≡ 1
HasParts SlBody c = Unit {0}
HasParts SlBlock c = Unit {0}
HasParts SlIf c = (c ≡ 2) ⊎ (c ≡ 3)
HasParts SlWhile c = c ≡ 2
HasParts SlReturn c = c ≤ 1
HasParts SlBreak c = c ≡ 0
HasParts SlContinue c = c ≡ 0
HasParts SlDebugger c = c ≡ 0
HasParts SlOr c = c ≡ 2
HasParts SlAnd c = c ≡ 2
HasParts (SlBinary _) c = c ≡ 2
HasParts SlCall c = 1 ≤ c
HasParts (SlAssign _) c = c ≡ 1
HasParts (SlName _) c = c ≡ 0
HasParts (SlNumber _) c = c ≡ 0
HasParts (SlText _) c = c ≡ 0
HasParts (PlProcedure _ _) c = 1 ≤ c
HasParts PlBody c = c ≡ 1
HasParts PlEmpty c = c ≡ 0
HasParts PlBegin c = 1 ≤ c
HasParts PlIf c = c ≡ 2
HasParts PlWhile c = c ≡ 2
HasParts (PlAssign _) c = c ≡ 1
HasParts (PlCall _) c = c ≡ 0
HasParts PlWrite c = c ≡ 1
HasParts PlOdd c = c ≡ 1
HasParts (PlBinary _) c = c ≡ 2
HasParts PlPlus c = c ≡ 1
HasParts PlMinus c = c ≡ 1
HasParts (PlName _) c = c ≡ 0
HasParts (PlNumber _) c = c ≡ 0

-- whether the parts of a node of this kind stand as statements, or as the condition of `if` and `while`, which is the first part
abbrev pub holds_statements : Kind → Bool → Bool
holds_statements SlBody _ = true
holds_statements SlBlock _ = true
holds_statements SlIf first = first
holds_statements SlWhile first = first
holds_statements _ _ = false

-- an SL expression's tags, where it stands as a statement or a condition and where it doesn't
abbrev pub expression : Bool → List Tag → List Tag
expression standing tags = if standing then Expression ∷ (tags ++ Statement ∷ []) else Expression ∷ tags

-- PL/0's comparisons stand only as conditions
abbrev pub pl_operator : Operator → List Tag
pl_operator Add = Expression ∷ []
pl_operator Sub = Expression ∷ []
pl_operator Mul = Expression ∷ []
pl_operator Div = Expression ∷ []
pl_operator _ = Expression ∷ Statement ∷ []

-- the tags of a name of SL, by what it means
abbrev pub sl_name : Meaning → Bool → List Tag
sl_name (Local _ _) standing = expression standing (ReadVariable ∷ [])
sl_name _ standing = expression standing []

-- the tags of a node, by its kind, by what its name means, and by whether it stands as a statement or a condition
abbrev pub tags_of : Kind → Meaning → Bool → List Tag
tags_of (SlFunction _ _) meaning standing = Root ∷ []
tags_of SlBody meaning standing = RootBody ∷ []
tags_of SlReturn meaning standing = Statement ∷ []
tags_of SlBreak meaning standing = Statement ∷ []
tags_of SlContinue meaning standing = Statement ∷ []
tags_of SlDebugger meaning standing = Statement ∷ AlwaysHalt ∷ []
tags_of SlOr meaning standing = expression standing []
tags_of SlAnd meaning standing = expression standing []
tags_of (SlBinary _) meaning standing = expression standing []
tags_of SlCall meaning standing = expression standing (Call ∷ [])
tags_of (SlAssign _) meaning standing = expression standing (WriteVariable ∷ [])
tags_of (SlName _) meaning standing = sl_name meaning standing
tags_of (SlNumber _) meaning standing = expression standing []
tags_of (SlText _) meaning standing = expression standing []
tags_of (PlProcedure _ _) meaning standing = Root ∷ []
tags_of PlBody meaning standing = RootBody ∷ []
tags_of (PlAssign _) meaning standing = Statement ∷ WriteVariable ∷ []
tags_of (PlCall _) meaning standing = Statement ∷ Call ∷ []
tags_of PlWrite meaning standing = Statement ∷ []
tags_of PlOdd meaning standing = Expression ∷ Statement ∷ []
tags_of (PlBinary op) meaning standing = pl_operator op
tags_of PlPlus meaning standing = Expression ∷ []
tags_of PlMinus meaning standing = Expression ∷ []
tags_of (PlName _) meaning standing = Expression ∷ ReadVariable ∷ []
tags_of (PlNumber _) meaning standing = Expression ∷ []
-- blocks, `if`, `while`, `begin` and the empty statement
tags_of _ meaning standing = []

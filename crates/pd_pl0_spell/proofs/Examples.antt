-- Computed answers.
use Rattle.std.proofs.Common.{◌≡◌, ℕ, zero, suc, List, [], ◌∷◌, ◌++◌, Result, Ok, Err, refl}
use Rattle.std.specs.Prelude.{replicate}
use Rattle.pd_pl0_spell.specs.Words.{Equal, NotEqual, Less, Plus, Minus, Times, Word, Name, Number, Compares, Adds, Multiplies, Becomes, Writes, Open, Close, Comma, Semicolon, Period, ConstKey, VarKey, ProcedureKey, CallKey, BeginKey, EndKey, IfKey, ThenKey, WhileKey, DoKey, OddKey, Tree, name, number, parens, signed, sum, product, odd, compared, empty, assign, call, write, sequence, conditional, while, block, procedure, none, also}
use Rattle.pd_pl0_spell.specs.Names.{Rule, Unexpected, LiteralTooLarge, Doubled, Undeclared, NotAssignable, NotAProcedure, NotAValue, TooDeep, TooManyNodes}
use Rattle.pd_pl0_spell.specs.Refusals.{nodes}
use Rattle.pd_pl0_spell.specs.Reading.{read}

n : List ℕ
n = 110 ∷ []

x : List ℕ
x = 120 ∷ []

y : List ℕ
y = 121 ∷ []

p : List ℕ
p = 112 ∷ []

q : List ℕ
q = 113 ∷ []

r : List ℕ
r = 114 ∷ []

g : List ℕ
g = 103 ∷ []

set : List ℕ
set = 115 ∷ 101 ∷ 116 ∷ []

v : List ℕ
v = 118 ∷ []

log : List ℕ
log = 108 ∷ 111 ∷ 103 ∷ []

get : List ℕ
get = 103 ∷ 101 ∷ 116 ∷ []

-- the sign belongs to the first term, and operators group to the left
-- ! - 1 + 2 * 3 - 4 .
grouped : read 65536 (Writes ∷ Adds Minus ∷ Number 1 ∷ Adds Plus ∷ Number 2 ∷ Multiplies Times ∷ Number 3 ∷ Adds Minus ∷ Number 4 ∷ Period ∷ [])
    ≡ Ok (block [] [] none (write (sum Minus (sum Plus (signed Minus (number 1)) (product Times (number 2) (number 3))) (number 4))))
grouped = refl

-- ! 2 * ( - 3 ) .
in_parentheses : read 65536 (Writes ∷ Number 2 ∷ Multiplies Times ∷ Open ∷ Adds Minus ∷ Number 3 ∷ Close ∷ Period ∷ [])
    ≡ Ok (block [] [] none (write (product Times (number 2) (parens (signed Minus (number 3))))))
in_parentheses = refl

-- an empty statement
-- .
nothing_but_a_period : read 65536 (Period ∷ [])
    ≡ Ok (block [] [] none empty)
nothing_but_a_period = refl

-- begin ; end .
empty_statements : read 65536 (BeginKey ∷ Semicolon ∷ EndKey ∷ Period ∷ [])
    ≡ Ok (block [] [] none (sequence (also empty (also empty none))))
empty_statements = refl

-- a name behind `call` may be undeclared
-- call n .
called : read 65536 (CallKey ∷ Name n ∷ Period ∷ [])
    ≡ Ok (block [] [] none (call n))
unfolding n
called = refl

-- const x = 1 , y = 2 ; var n ; if odd x then while n # y do n := x .
declared : read 65536 (ConstKey ∷ Name x ∷ Compares Equal ∷ Number 1 ∷ Comma ∷ Name y ∷ Compares Equal ∷ Number 2 ∷ Semicolon ∷ VarKey ∷ Name n ∷ Semicolon ∷ IfKey ∷ OddKey ∷ Name x ∷ ThenKey ∷ WhileKey ∷ Name n ∷ Compares NotEqual ∷ Name y ∷ DoKey ∷ Name n ∷ Becomes ∷ Name x ∷ Period ∷ [])
    ≡ Ok (block (record { name = x; value = 1 } ∷ record { name = y; value = 2 } ∷ []) (n ∷ []) none (conditional (odd (name x)) (while (compared NotEqual (name n) (name y)) (assign n (name x)))))
unfolding x y n
declared = refl

-- procedures inside a procedure, and a variable that hides an outer one
-- var x, n;
-- procedure p;
--   var y;
--   procedure q; begin y := y + 10; x := x + y end;
--   procedure r; var y; begin y := 100; call q end;
--   begin n := n + 1; y := n; if n < 3 then call p; call r end;
-- begin call p; ! x; ! n end.
nested : read 65536 (VarKey ∷ Name x ∷ Comma ∷ Name n ∷ Semicolon ∷ ProcedureKey ∷ Name p ∷ Semicolon ∷ VarKey ∷ Name y ∷ Semicolon ∷ ProcedureKey ∷ Name q ∷ Semicolon ∷ BeginKey ∷ Name y ∷ Becomes ∷ Name y ∷ Adds Plus ∷ Number 10 ∷ Semicolon ∷ Name x ∷ Becomes ∷ Name x ∷ Adds Plus ∷ Name y ∷ EndKey ∷ Semicolon ∷ ProcedureKey ∷ Name r ∷ Semicolon ∷ VarKey ∷ Name y ∷ Semicolon ∷ BeginKey ∷ Name y ∷ Becomes ∷ Number 100 ∷ Semicolon ∷ CallKey ∷ Name q ∷ EndKey ∷ Semicolon ∷ BeginKey ∷ Name n ∷ Becomes ∷ Name n ∷ Adds Plus ∷ Number 1 ∷ Semicolon ∷ Name y ∷ Becomes ∷ Name n ∷ Semicolon ∷ IfKey ∷ Name n ∷ Compares Less ∷ Number 3 ∷ ThenKey ∷ CallKey ∷ Name p ∷ Semicolon ∷ CallKey ∷ Name r ∷ EndKey ∷ Semicolon ∷ BeginKey ∷ CallKey ∷ Name p ∷ Semicolon ∷ Writes ∷ Name x ∷ Semicolon ∷ Writes ∷ Name n ∷ EndKey ∷ Period ∷ [])
    ≡ Ok (block [] (x ∷ n ∷ [])
    (also (procedure p (block [] (y ∷ [])
    (also (procedure q (block [] [] none (sequence (also (assign y (sum Plus (name y) (number 10))) (also (assign x (sum Plus (name x) (name y))) none)))))
    (also (procedure r (block [] (y ∷ []) none (sequence (also (assign y (number 100)) (also (call q) none))))) none))
    (sequence (also (assign n (sum Plus (name n) (number 1))) (also (assign y (name n)) (also (conditional (compared Less (name n) (number 3)) (call p)) (also (call r) none))))))) none)
    (sequence (also (call p) (also (write (name x)) (also (write (name n)) none)))))
unfolding x n p y q r
nested = refl

-- var g;
-- procedure set; var v; begin g := g + v; call log end;
-- procedure get; var r; r := g;
-- .
exported : read 65536 (VarKey ∷ Name g ∷ Semicolon ∷ ProcedureKey ∷ Name set ∷ Semicolon ∷ VarKey ∷ Name v ∷ Semicolon ∷ BeginKey ∷ Name g ∷ Becomes ∷ Name g ∷ Adds Plus ∷ Name v ∷ Semicolon ∷ CallKey ∷ Name log ∷ EndKey ∷ Semicolon ∷ ProcedureKey ∷ Name get ∷ Semicolon ∷ VarKey ∷ Name r ∷ Semicolon ∷ Name r ∷ Becomes ∷ Name g ∷ Semicolon ∷ Period ∷ [])
    ≡ Ok (block [] (g ∷ [])
    (also (procedure set (block [] (v ∷ []) none (sequence (also (assign g (sum Plus (name g) (name v))) (also (call log) none)))))
    (also (procedure get (block [] (r ∷ []) none (assign r (name g)))) none)) empty)
unfolding g set v log get r
exported = refl

-- an inner procedure hides an outer variable; outside it is the variable again
-- var x; procedure p; procedure x; ; call x; x := 1 .
hidden : read 65536 (VarKey ∷ Name x ∷ Semicolon ∷ ProcedureKey ∷ Name p ∷ Semicolon ∷ ProcedureKey ∷ Name x ∷ Semicolon ∷ Semicolon ∷ CallKey ∷ Name x ∷ Semicolon ∷ Name x ∷ Becomes ∷ Number 1 ∷ Period ∷ [])
    ≡ Ok (block [] (x ∷ []) (also (procedure p (block [] [] (also (procedure x (block [] [] none empty)) none) (call x))) none) (assign x (number 1)))
unfolding x p
hidden = refl

-- the end of the input
-- begin
at_the_end : read 65536 (BeginKey ∷ []) ≡ Err (Unexpected, 1)
at_the_end = refl

-- . ;
behind_the_period : read 65536 (Period ∷ Semicolon ∷ []) ≡ Err (Unexpected, 1)
behind_the_period = refl

-- var x ; const y = 1 ; .
variables_first : read 65536 (VarKey ∷ Name x ∷ Semicolon ∷ ConstKey ∷ Name y ∷ Compares Equal ∷ Number 1 ∷ Semicolon ∷ Period ∷ []) ≡ Err (Unexpected, 3)
unfolding x y
variables_first = refl

-- if 1 < 2 < 3 then .
twice_compared : read 65536 (IfKey ∷ Number 1 ∷ Compares Less ∷ Number 2 ∷ Compares Less ∷ Number 3 ∷ ThenKey ∷ Period ∷ []) ≡ Err (Unexpected, 4)
twice_compared = refl

-- ! - - 1 .
signed_twice : read 65536 (Writes ∷ Adds Minus ∷ Adds Minus ∷ Number 1 ∷ Period ∷ []) ≡ Err (Unexpected, 2)
signed_twice = refl

-- while 1 do .
bare_condition : read 65536 (WhileKey ∷ Number 1 ∷ DoKey ∷ Period ∷ []) ≡ Err (Unexpected, 2)
bare_condition = refl

-- ! 9223372036854775808 .
large : read 65536 (Writes ∷ Number 9223372036854775808 ∷ Period ∷ []) ≡ Err (LiteralTooLarge, 1)
large = refl

-- const x = 9223372036854775808 ; .
large_constant : read 65536 (ConstKey ∷ Name x ∷ Compares Equal ∷ Number 9223372036854775808 ∷ Semicolon ∷ Period ∷ []) ≡ Err (LiteralTooLarge, 3)
unfolding x
large_constant = refl

-- var x , y , x ; .
doubled : read 65536 (VarKey ∷ Name x ∷ Comma ∷ Name y ∷ Comma ∷ Name x ∷ Semicolon ∷ Period ∷ []) ≡ Err (Doubled, 5)
unfolding x y
doubled = refl

-- const x = 1 ; procedure x ; ; .
doubled_procedure : read 65536 (ConstKey ∷ Name x ∷ Compares Equal ∷ Number 1 ∷ Semicolon ∷ ProcedureKey ∷ Name x ∷ Semicolon ∷ Semicolon ∷ Period ∷ []) ≡ Err (Doubled, 6)
unfolding x
doubled_procedure = refl

-- x := 1 .
undeclared : read 65536 (Name x ∷ Becomes ∷ Number 1 ∷ Period ∷ []) ≡ Err (Undeclared, 0)
unfolding x
undeclared = refl

-- var x ; x := y .
undeclared_factor : read 65536 (VarKey ∷ Name x ∷ Semicolon ∷ Name x ∷ Becomes ∷ Name y ∷ Period ∷ []) ≡ Err (Undeclared, 5)
unfolding x y
undeclared_factor = refl

-- procedure p ; call q ; procedure q ; ; ! q .
before_its_declaration : read 65536 (ProcedureKey ∷ Name p ∷ Semicolon ∷ CallKey ∷ Name q ∷ Semicolon ∷ ProcedureKey ∷ Name q ∷ Semicolon ∷ Semicolon ∷ Writes ∷ Name q ∷ Period ∷ []) ≡ Err (NotAValue, 11)
unfolding p q
before_its_declaration = refl

-- procedure p ; var x ; ; x := 1 .
behind_its_block : read 65536 (ProcedureKey ∷ Name p ∷ Semicolon ∷ VarKey ∷ Name x ∷ Semicolon ∷ Semicolon ∷ Name x ∷ Becomes ∷ Number 1 ∷ Period ∷ []) ≡ Err (Undeclared, 7)
unfolding p x
behind_its_block = refl

-- const x = 1 ; x := 2 .
constant_assigned : read 65536 (ConstKey ∷ Name x ∷ Compares Equal ∷ Number 1 ∷ Semicolon ∷ Name x ∷ Becomes ∷ Number 2 ∷ Period ∷ []) ≡ Err (NotAssignable, 5)
unfolding x
constant_assigned = refl

-- a procedure in its own block
-- procedure p ; p := 1 ; .
procedure_assigned : read 65536 (ProcedureKey ∷ Name p ∷ Semicolon ∷ Name p ∷ Becomes ∷ Number 1 ∷ Semicolon ∷ Period ∷ []) ≡ Err (NotAssignable, 3)
unfolding p
procedure_assigned = refl

-- var x ; call x .
variable_called : read 65536 (VarKey ∷ Name x ∷ Semicolon ∷ CallKey ∷ Name x ∷ Period ∷ []) ≡ Err (NotAProcedure, 4)
unfolding x
variable_called = refl

-- const x = 1 ; call x .
constant_called : read 65536 (ConstKey ∷ Name x ∷ Compares Equal ∷ Number 1 ∷ Semicolon ∷ CallKey ∷ Name x ∷ Period ∷ []) ≡ Err (NotAProcedure, 6)
unfolding x
constant_called = refl

-- procedure p ; ; procedure q ; var p ; call p ; .
hidden_called : read 65536 (ProcedureKey ∷ Name p ∷ Semicolon ∷ Semicolon ∷ ProcedureKey ∷ Name q ∷ Semicolon ∷ VarKey ∷ Name p ∷ Semicolon ∷ CallKey ∷ Name p ∷ Semicolon ∷ Period ∷ []) ≡ Err (NotAProcedure, 11)
unfolding p q
hidden_called = refl

-- procedure p ; ! p ; .
procedure_read : read 65536 (ProcedureKey ∷ Name p ∷ Semicolon ∷ Writes ∷ Name p ∷ Semicolon ∷ Period ∷ []) ≡ Err (NotAValue, 4)
unfolding p
procedure_read = refl

-- 4 nodes: procedure, body, `!`, number
many : read 3 (Writes ∷ Number 9223372036854775807 ∷ Period ∷ []) ≡ Err (TooManyNodes, 3)
many = refl

-- 200 `(` are let be, and one more is too deep
deep : ℕ → List Word
deep n = Writes ∷ replicate n Open ++ Number 1 ∷ replicate n Close ++ Period ∷ []

too_deep : read 65536 (deep 201) ≡ Err (TooDeep, 201)
unfolding deep
too_deep = refl

nodes_of : Result Tree (Rule × ℕ) → Result ℕ (Rule × ℕ)
nodes_of (Ok T) = Ok (nodes T)
nodes_of (Err e) = Err e

just_deep : nodes_of (read 65536 (deep 200)) ≡ Ok 4
unfolding nodes_of deep
just_deep = refl

-- the same for blocks inside blocks, and for `if` after `if`
repeated : ℕ → List Word → List Word → List Word
repeated zero ws rest = rest
repeated (suc n) ws rest = ws ++ repeated n ws rest

blocks : ℕ → List Word
unfolding p
blocks n = repeated n (ProcedureKey ∷ Name p ∷ Semicolon ∷ []) (repeated n (Semicolon ∷ []) (Period ∷ []))

blocks_too_deep : read 65536 (blocks 201) ≡ Err (TooDeep, 600)
unfolding blocks repeated p
blocks_too_deep = refl

blocks_just_deep : nodes_of (read 65536 (blocks 200)) ≡ Ok 603
unfolding nodes_of blocks repeated p
blocks_just_deep = refl

conditionals : ℕ → List Word
conditionals n = repeated n (IfKey ∷ OddKey ∷ Number 1 ∷ ThenKey ∷ []) (Period ∷ [])

conditionals_too_deep : read 65536 (conditionals 201) ≡ Err (TooDeep, 800)
unfolding conditionals repeated
conditionals_too_deep = refl

-- an `if` is finished behind its statement
one_after_another : ℕ → List Word
one_after_another n = BeginKey ∷ repeated n (IfKey ∷ OddKey ∷ Number 1 ∷ ThenKey ∷ Semicolon ∷ []) (EndKey ∷ Period ∷ [])

conditionals_finish : nodes_of (read 65536 (one_after_another 300)) ≡ Ok 1204
unfolding nodes_of one_after_another repeated
conditionals_finish = refl

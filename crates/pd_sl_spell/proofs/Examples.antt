-- Computed answers.
use Rattle.std.proofs.Common.{◌≡◌, ℕ, List, [], ◌∷◌, ◌++◌, Result, Ok, Err, refl}
use Rattle.std.specs.Prelude.{replicate}
use Rattle.pd_sl_spell.specs.Words.{Plus, Times, Less, Word, Name, Number, Compares, Adds, Multiplies, Becomes, Open, Close, OpenBlock, CloseBlock, Semicolon, FunctionKey, WhileKey, IfKey, ElseKey, ReturnKey, BreakKey, name, number, call, assign, sum, product, compared, while, break, block, function, conditional_else, return_nothing, Trees, none, also, expression_statement}
use Rattle.pd_sl_spell.specs.Refusals.{Rule, Unexpected, LiteralTooLarge, TooDeep, TooManyNodes}
use Rattle.pd_sl_spell.specs.Reading.{read}

x : List ℕ
x = 120 ∷ []

y : List ℕ
y = 121 ∷ []

m : List ℕ
m = 109 ∷ []

-- function m() { .. }
within : List Word → List Word
within ws = FunctionKey ∷ Name m ∷ Open ∷ Close ∷ OpenBlock ∷ ws ++ CloseBlock ∷ []

program : Trees → Trees
program ss = also (function m [] (block ss)) none

-- x(1 + 2 * 3);
grouped : read 65536 (within (Name x ∷ Open ∷ Number 1 ∷ Adds Plus ∷ Number 2 ∷ Multiplies Times ∷ Number 3 ∷ Close ∷ Semicolon ∷ [])) ≡ Ok (program (also (expression_statement (call (name x) (also (sum Plus (number 1) (product Times (number 2) (number 3))) none))) none))
unfolding within program x m
grouped = refl

-- 1 + 2 + 3; groups to the left
to_the_left : read 65536 (within (Number 1 ∷ Adds Plus ∷ Number 2 ∷ Adds Plus ∷ Number 3 ∷ Semicolon ∷ [])) ≡ Ok (program (also (expression_statement (sum Plus (sum Plus (number 1) (number 2)) (number 3))) none))
unfolding within program m
to_the_left = refl

-- x = y = 1 + 2; and x(y)(1);
assigned : read 65536 (within (Name x ∷ Becomes ∷ Name y ∷ Becomes ∷ Number 1 ∷ Adds Plus ∷ Number 2 ∷ Semicolon ∷ Name x ∷ Open ∷ Name y ∷ Close ∷ Open ∷ Number 1 ∷ Close ∷ Semicolon ∷ []))
    ≡ Ok (program (also (expression_statement (assign x (assign y (sum Plus (number 1) (number 2))))) (also (expression_statement (call (call (name x) (also (name y) none)) (also (number 1) none))) none)))
unfolding within program x y m
assigned = refl

-- while (x < 1) { break; } if (x) { } else { return; }
looped : read 65536 (within (WhileKey ∷ Open ∷ Name x ∷ Compares Less ∷ Number 1 ∷ Close ∷ OpenBlock ∷ BreakKey ∷ Semicolon ∷ CloseBlock ∷ IfKey ∷ Open ∷ Name x ∷ Close ∷ OpenBlock ∷ CloseBlock ∷ ElseKey ∷ OpenBlock ∷ ReturnKey ∷ Semicolon ∷ CloseBlock ∷ []))
    ≡ Ok (program (also (while (compared Less (name x) (number 1)) (block (also break none))) (also (conditional_else (name x) (block none) (block (also return_nothing none))) none)))
unfolding within program x m
looped = refl

-- break; outside a loop is refused at `break`
outside : read 65536 (within (BreakKey ∷ Semicolon ∷ [])) ≡ Err (Unexpected, 5)
unfolding within m
outside = refl

-- 1 < 2 < 3 is refused at the second comparison
twice : read 65536 (within (Number 1 ∷ Compares Less ∷ Number 2 ∷ Compares Less ∷ Number 3 ∷ Semicolon ∷ [])) ≡ Err (Unexpected, 8)
unfolding within m
twice = refl

-- no words, an open end, a literal that is too large, too many nodes
nothing_there : read 65536 [] ≡ Err (Unexpected, 0)
nothing_there = refl

open_end : read 65536 (FunctionKey ∷ Name m ∷ Open ∷ []) ≡ Err (Unexpected, 3)
unfolding m
open_end = refl

large : read 65536 (within (Number 9223372036854775808 ∷ Semicolon ∷ [])) ≡ Err (LiteralTooLarge, 5)
unfolding within m
large = refl

many : read 2 (within (Number 9223372036854775807 ∷ Semicolon ∷ [])) ≡ Err (TooManyNodes, 8)
unfolding within m
many = refl

-- behind `return`, 200 `(` are too deep at the last of them, and 199 aren't
deep : ℕ → List Word
deep n = within (ReturnKey ∷ replicate n Open ++ Number 1 ∷ replicate n Close ++ Semicolon ∷ [])

too_deep : read 65536 (deep 200) ≡ Err (TooDeep, 205)
unfolding deep within m
too_deep = refl

nodes_of : Result Trees (Rule × ℕ) → Result ℕ (Rule × ℕ)
nodes_of (Ok T) = Ok (Rattle.pd_sl_spell.specs.Refusals.all_nodes T)
nodes_of (Err e) = Err e

just_deep : nodes_of (read 65536 (deep 199)) ≡ Ok 4
unfolding nodes_of deep within m
just_deep = refl

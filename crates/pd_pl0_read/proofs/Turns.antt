-- The nodes behind their parts are those of the tree of nodes.
use Rattle.std.proofs.Common.{◌≡◌, ℕ, suc, ◌+◌, [], ◌∷◌, ◌++◌, refl, sym, ap, ◌∙◌, append_assoc, arith}
use Rattle.pd_turn.specs.Turned
use Rattle.pd_turn.specs.Turned.{Rose, rose, Roses}
use Rattle.pd_pl0_spell.specs.Words.{Tree, name, number, parens, signed, sum, product, odd, compared, empty, assign, call, write, sequence, conditional, while, block, procedure, Trees, none, also}
use Rattle.pd_pl0_spell.specs.Names.{AProcedure, Scope, no_declarations, declare, entered}
use Rattle.pd_pl0_read.specs.declared.parts.Part.{Part}
use Rattle.pd_pl0_read.specs.Resolving.{constants_declared, variables_declared, procedures_declared, declared_by}
use Rattle.pd_pl0_read.specs.Places.{node, declarations_end, end_of, procedures_end, count, post, statement_posts, procedure_posts, one, two, tree, procedure_trees, statement_trees, program_posts, program_trees}
use Rattle.pd_pl0_read.specs.Held.{Nodes}
use Rattle.pd_pl0_read.proofs.Follows.{append_none}

one_more : (n : ℕ) → suc n ≡ n + 1
one_more n = omega arith

statements_count : (s : Scope) (i : ℕ) (ts : Trees) → Turned.count (statement_trees s i ts) ≡ count ts
statements_count s i none = refl
statements_count s i (also t ts) = ap (λ n. suc n) (statements_count s (end_of (i + 1) t) ts) ∙ one_more (count ts)

procedures_count : (s : Scope) (i : ℕ) (ts : Trees) (b : Rose Part) → Turned.count (procedure_trees s i ts b) ≡ count ts + 1
procedures_count s i none b = refl
procedures_count s i (also t ts) b = ap (λ n. suc n) (procedures_count (declared_by t s) (end_of i t + 1) ts b) ∙ one_more (count ts + 1)

one_part : (p : Part) (a : Rose Part) (as' : Nodes) → Turned.post a ≡ as' → Turned.post (rose p (one a)) ≡ as' ++ node p.shape p.first p.end 1 ∷ []
one_part p a as' h = ap (λ ns. ns ++ node p.shape p.first p.end 1 ∷ []) (append_none (Turned.post a) ∙ h)

two_parts : (p : Part) (a b : Rose Part) (as' bs : Nodes) → Turned.post a ≡ as' → Turned.post b ≡ bs → Turned.post (rose p (two a b)) ≡ (as' ++ bs) ++ node p.shape p.first p.end 2 ∷ []
two_parts p a b as' bs h g =
    ap (λ ns. ns ++ node p.shape p.first p.end 2 ∷ []) (ap (λ ns. Turned.post a ++ ns) (append_none (Turned.post b) ∙ g) ∙ ap (λ ns. ns ++ bs) h)

some_parts : (p : Part) (ts : Roses Part) (as' : Nodes) (n : ℕ) → Turned.posts ts ≡ as' → Turned.count ts ≡ n → Turned.post (rose p ts) ≡ as' ++ node p.shape p.first p.end n ∷ []
some_parts p ts as' n h k = ap (λ ns. ns ++ node p.shape p.first p.end (Turned.count ts) ∷ []) h ∙ ap (λ m. as' ++ node p.shape p.first p.end m ∷ []) k

both_same : (as' bs cs ds : Nodes) → as' ≡ cs → bs ≡ ds → as' ++ bs ≡ cs ++ ds
both_same as' bs cs ds h g = ap (λ ns. ns ++ bs) h ∙ ap (λ ns. cs ++ ns) g

mutual
  pub turned : (s : Scope) (i : ℕ) (t : Tree) → Turned.post (tree s i t) ≡ post s i t
  turned s i (name x) = refl
  turned s i (number n) = refl
  turned s i (parens e) = turned s (i + 1) e
  turned s i (signed o e) = one_part _ (tree s (i + 1) e) _ (turned s (i + 1) e)
  turned s i (sum o a b) = two_parts _ (tree s i a) (tree s (end_of i a + 1) b) _ _ (turned s i a) (turned s (end_of i a + 1) b)
  turned s i (product o a b) = two_parts _ (tree s i a) (tree s (end_of i a + 1) b) _ _ (turned s i a) (turned s (end_of i a + 1) b)
  turned s i (odd e) = one_part _ (tree s (i + 1) e) _ (turned s (i + 1) e)
  turned s i (compared o a b) = two_parts _ (tree s i a) (tree s (end_of i a + 1) b) _ _ (turned s i a) (turned s (end_of i a + 1) b)
  turned s i empty = refl
  turned s i (assign x e) = one_part _ (tree s ((i + 1) + 1) e) _ (turned s ((i + 1) + 1) e)
  turned s i (call x) = refl
  turned s i (write e) = one_part _ (tree s (i + 1) e) _ (turned s (i + 1) e)
  turned s i (sequence none) = refl
  turned s i (sequence (also t ts)) =
      some_parts _ (statement_trees s i (also t ts)) _ _ (both_same (Turned.post (tree s (i + 1) t)) (Turned.posts (statement_trees s (end_of (i + 1) t) ts)) _ _ (turned s (i + 1) t) (statements_turned s (end_of (i + 1) t) ts)) (statements_count s i (also t ts))
  turned s i (conditional c a) = two_parts _ (tree s (i + 1) c) (tree s (end_of (i + 1) c + 1) a) _ _ (turned s (i + 1) c) (turned s (end_of (i + 1) c + 1) a)
  turned s i (while c a) = two_parts _ (tree s (i + 1) c) (tree s (end_of (i + 1) c + 1) a) _ _ (turned s (i + 1) c) (turned s (end_of (i + 1) c + 1) a)
  turned s i (block cs vs ps a) =
      let inside = variables_declared vs (constants_declared cs s) in
      let first = declarations_end i cs vs in
      let body = procedures_end first ps in
      some_parts _ _ _ _ (procedures_turned inside first ps _ _ (one_part _ (tree (procedures_declared ps inside) body a) _ (turned (procedures_declared ps inside) body a)) ∙ sym (append_assoc (procedure_posts inside first ps) (post (procedures_declared ps inside) body a) _)) (procedures_count inside first ps _)
  turned s i (procedure x (block cs vs ps a)) =
      let inside = variables_declared vs (constants_declared cs (entered (declare x AProcedure s))) in
      let first = declarations_end (((i + 1) + 1) + 1) cs vs in
      let body = procedures_end first ps in
      some_parts _ _ _ _ (procedures_turned inside first ps _ _ (one_part _ (tree (procedures_declared ps inside) body a) _ (turned (procedures_declared ps inside) body a)) ∙ sym (append_assoc (procedure_posts inside first ps) (post (procedures_declared ps inside) body a) _)) (procedures_count inside first ps _)
  turned s i (procedure x b) = turned s (((i + 1) + 1) + 1) b

  statements_turned : (s : Scope) (i : ℕ) (ts : Trees) → Turned.posts (statement_trees s i ts) ≡ statement_posts s i ts
  statements_turned s i none = refl
  statements_turned s i (also t ts) = both_same (Turned.post (tree s (i + 1) t)) (Turned.posts (statement_trees s (end_of (i + 1) t) ts)) _ _ (turned s (i + 1) t) (statements_turned s (end_of (i + 1) t) ts)

  procedures_turned : (s : Scope) (i : ℕ) (ts : Trees) (b : Rose Part) (bs : Nodes) → Turned.post b ≡ bs → Turned.posts (procedure_trees s i ts b) ≡ procedure_posts s i ts ++ bs
  procedures_turned s i none b bs h = append_none (Turned.post b) ∙ h
  procedures_turned s i (also t ts) b bs h =
      both_same (Turned.post (tree s i t)) (Turned.posts (procedure_trees (declared_by t s) (end_of i t + 1) ts b)) _ _ (turned s i t) (procedures_turned (declared_by t s) (end_of i t + 1) ts b bs h)
      ∙ sym (append_assoc (post s i t) (procedure_posts (declared_by t s) (end_of i t + 1) ts) bs)

pub program_turned : (T : Tree) → Turned.posts (program_trees T) ≡ program_posts T
program_turned T = append_none (Turned.post (tree no_declarations 0 T)) ∙ turned no_declarations 0 T

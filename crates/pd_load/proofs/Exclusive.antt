-- Sources that are spelled aren't misspelled, and a plan that is loaded isn't refused.
use Rattle.std.proofs.Common.{◌≡◌, ℕ, ◌+◌, ◌-◌, List, [], ◌∷◌, length, Option, Result, Ok, Err, inl, inr, refl, sym, ap, ◌∙◌, subst, arith}
use Rattle.std.specs.List.{AllByRecursion}
use Rattle.std.specs.Str.{IsUtf8}
use Rattle.pd_sections.specs.declared.Refusal.{Refusal}
use Rattle.pd_sections.specs.Written.{Written}
use Rattle.pd_plan.specs.declared.plan.Language.{Language}
use Rattle.pd_plan.specs.declared.plan.Language.TheVariants.{Sl, Pl0}
use Rattle.pd_plan.specs.declared.plan.SourceSpec.{SourceSpec}
use Rattle.pd_plan.specs.declared.plan.Plan.{Plan}
use Rattle.pd_tree.specs.declared.addition.Addition.{Addition}
use Rattle.pd_tree.specs.Program.{Program}
use Rattle.pd_tree.specs.Linked.{program_of}
use Rattle.pd_turn.specs.Turned.{pres}
use Rattle.pd_sl_spell.specs.Words.{Word, Trees}
use Rattle.pd_sl_spell.specs.Refusals as spelling
use Rattle.pd_sl_spell.specs.Refusals.{Accepts, Refuses, at_word, at_end, too_many, all_nodes}
use Rattle.pd_sl_read.specs.Places.{roses}
use Rattle.pd_sl_read.specs.Tokens.{words_of}
use Rattle.pd_sl_read.specs.Answers as reading
use Rattle.pd_sl_parse.specs.Additions.{IsTreeOf}
use Rattle.pd_sl_parse.proofs.Spelling.{all_spelled}
use Rattle.pd_sl_parse.proofs.Once as once
use Rattle.pd_pl0_spell.specs.Words as pl0_words
use Rattle.pd_pl0_spell.specs.Names.{Rule, no_rule}
use Rattle.pd_pl0_spell.specs.Refusals as pl0_spelling
use Rattle.pd_pl0_spell.proofs.Walks.{loosened_program}
use Rattle.pd_pl0_read.specs.Places.{program_trees}
use Rattle.pd_pl0_read.specs.Tokens as pl0
use Rattle.pd_pl0_read.specs.Answers as pl0_reading
use Rattle.pd_pl0_parse.specs.Additions as pl0_parse
use Rattle.pd_pl0_parse.proofs.Spelling as pl0_names
use Rattle.pd_pl0_parse.proofs.Once as pl0_once
use Rattle.pd_load.specs.declared.refusal.LoadRefusal.{LoadRefusal}
use Rattle.pd_load.specs.Names.{Symbol}
use Rattle.pd_load.specs.Linked.{interfaces, all_found, and_then, exports_from, entries_from, linked}
use Rattle.pd_load.specs.Tables.{IsText}
use Rattle.pd_load.specs.Loading.{most_nodes, IsTree, IsMisspelled, AreTrees, IsFirstMisspelled, AreTreesOf, IsRefused}
use Rattle.pd_load.proofs.Spelling.{additions_counted, pl0_counted}

accepted_not_refused : (room : ℕ) (ws : List Word) (T : Trees) → Accepts room ws T → (rule : spelling.Rule) (place : ℕ) → Refuses room ws rule place → ⊥
accepted_not_refused room ws T a rule place (at_word f) = a.clean f.before f.after f.word f.whole rule f.breach
accepted_not_refused room ws T a rule place (at_end clean none r p) = none T a.spelled
accepted_not_refused room ws T a rule place (too_many U clean q big r p) = omega (arith, ap all_nodes (a.only U q), a.fits)

pl0_not_refused : (room : ℕ) (ws : List pl0_words.Word) (T : pl0_words.Tree) → pl0_spelling.Accepts room ws T → (rule : Rule) (place : ℕ) → pl0_spelling.Refuses room ws rule place → ⊥
pl0_not_refused room ws T a rule place (pl0_spelling.at_word f) = a.clean f.before f.after f.word f.whole rule f.breach
pl0_not_refused room ws T a rule place (pl0_spelling.at_end clean none r p) = none T (loosened_program no_rule ws T a.spelled)
pl0_not_refused room ws T a rule place (pl0_spelling.too_many U clean q big r p) = omega (arith, ap pl0_spelling.nodes (a.only_one U (loosened_program no_rule ws U q)), a.fits)

tree_not_misspelled : (language : Language) (room number : ℕ) (bytes : List ℕ) (tree : List Addition) (breach : Refusal) → IsTree language room number bytes tree → IsMisspelled language room bytes breach → ⊥
tree_not_misspelled Pl0 room number bytes tree breach h (inl g) = g.splits_not h.0 h.1.lexes
tree_not_misspelled Pl0 room number bytes tree breach h (inr g) =
    let same : g.0 ≡ h.0 = h.1.only g.0 g.1.lexes in
    let r = subst (λ tokens. pl0_reading.IsRefused room bytes tokens breach) same g.2 in
    pl0_not_refused room (pl0.words_of bytes h.0) h.2.0 h.2.1 r.rule r.at r.refuses
tree_not_misspelled Sl room number bytes tree breach h (inl g) = g.splits_not h.0 h.1.lexes
tree_not_misspelled Sl room number bytes tree breach h (inr g) =
    let same : g.0 ≡ h.0 = h.1.only g.0 g.1.lexes in
    let r = subst (λ tokens. reading.IsRefused room bytes tokens breach) same g.2 in
    accepted_not_refused room (words_of bytes h.0) h.2.0 h.2.1 r.rule r.at r.refuses

-- a source has trees of one length
same_length : (language : Language) (room number : ℕ) (bytes : List ℕ) (t u : List Addition) → IsTree language room number bytes t → IsTree language room number bytes u → length t ≡ length u
same_length Pl0 room number bytes t u h g =
    let same : g.0 ≡ h.0 = h.1.only g.0 g.1.lexes in
    let k = subst (λ tokens. pl0_parse.IsTreeOf room bytes tokens number u) same g.2 in
    let one : k.0 ≡ h.2.0 = h.2.1.only_one k.0 (loosened_program no_rule (pl0.words_of bytes h.0) k.0 k.1.spelled) in
    pl0_counted bytes h.0 number (pres (program_trees h.2.0)) t h.2.2 ∙ ap (λ T. length (pres (program_trees T))) (sym one)
    ∙ sym (pl0_counted bytes h.0 number (pres (program_trees k.0)) u k.2)
same_length Sl room number bytes t u h g =
    let same : g.0 ≡ h.0 = h.1.only g.0 g.1.lexes in
    let k = subst (λ tokens. IsTreeOf room bytes tokens number u) same g.2 in
    let one : k.0 ≡ h.2.0 = h.2.1.only k.0 k.1.spelled in
    additions_counted bytes h.0 number [] (pres (roses 0 h.2.0)) t h.2.2 ∙ ap (λ T. length (pres (roses 0 T))) (sym one)
    ∙ sym (additions_counted bytes h.0 number [] (pres (roses 0 k.0)) u k.2)

pub trees_not_misspelled : (number room : ℕ) (specs : List SourceSpec) (sources : List Written) (trees : List (List Addition)) → AreTrees number room specs sources trees
    → (r : LoadRefusal) → IsFirstMisspelled number room specs sources r → ⊥
trees_not_misspelled number room [] sources trees h r g = absurd g
trees_not_misspelled number room (s ∷ specs) [] trees h r g = absurd g
trees_not_misspelled number room (s ∷ specs) (w ∷ sources) [] h r g = absurd h
trees_not_misspelled number room (s ∷ specs) (w ∷ sources) (t ∷ trees) h r (inl g) = tree_not_misspelled s.language room number w.bytes t g.0 h.0 g.1
trees_not_misspelled number room (s ∷ specs) (w ∷ sources) (t ∷ trees) h r (inr g) =
    trees_not_misspelled (number + 1) (room - length t) specs sources trees h.1 r
    (subst (λ n. IsFirstMisspelled (number + 1) (room - n) specs sources r) (sym (same_length s.language room number w.bytes t g.0 h.0 g.1)) g.2)

-- a source that is UTF-8 has one tree
tree_once : (language : Language) (room number : ℕ) (bytes : List ℕ) (t u : List Addition) → IsUtf8 bytes → IsTree language room number bytes t → IsTree language room number bytes u → u ≡ t
tree_once Pl0 room number bytes t u text h g =
    let same : g.0 ≡ h.0 = h.1.only g.0 g.1.lexes in
    pl0_once.tree_once room bytes h.0 number u t (pl0_names.all_spelled bytes h.0 h.1.lexes) (subst (λ tokens. pl0_parse.IsTreeOf room bytes tokens number u) same g.2) h.2
tree_once Sl room number bytes t u text h g =
    let same : g.0 ≡ h.0 = h.1.only g.0 g.1.lexes in
    once.tree_once room bytes h.0 number u t (all_spelled bytes h.0 text h.1.lexes) (subst (λ tokens. IsTreeOf room bytes tokens number u) same g.2) h.2

trees_once : (number room : ℕ) (specs : List SourceSpec) (sources : List Written) (trees others : List (List Addition)) → AllByRecursion IsText sources → AreTrees number room specs sources trees
    → AreTrees number room specs sources others → others ≡ trees
trees_once number room [] [] [] [] texts h g = refl
trees_once number room [] [] [] (u ∷ others) texts h g = absurd g
trees_once number room [] [] (t ∷ trees) others texts h g = absurd h
trees_once number room [] (w ∷ sources) trees others texts h g = absurd h
trees_once number room (s ∷ specs) [] trees others texts h g = absurd h
trees_once number room (s ∷ specs) (w ∷ sources) [] others texts h g = absurd h
trees_once number room (s ∷ specs) (w ∷ sources) (t ∷ trees) [] texts h g = absurd g
trees_once number room (s ∷ specs) (w ∷ sources) (t ∷ trees) (u ∷ others) texts h g =
    let one : u ≡ t = tree_once s.language room number w.bytes t u texts.0 h.0 g.0 in
    let rest : AreTrees (number + 1) (room - length t) specs sources others = subst (λ x. AreTrees (number + 1) (room - length x) specs sources others) one g.1 in
    let more : others ≡ trees = trees_once (number + 1) (room - length t) specs sources trees others texts.1 h.1 rest in
    ap (λ x. x ∷ others) one ∙ ap (λ xs. t ∷ xs) more

never_both : (program : Program) (r : LoadRefusal) → ◌≡◌ {A = Result Program LoadRefusal} (Err r) (Ok program) → ⊥
never_both program r h = cc

pub linked_all : (plan : Plan) (trees : List (List Addition)) (exports : List Symbol) (entries : List ℕ) (found : List (Option ℕ)) (program : Program)
    → exports_from (interfaces 1 plan.sources trees) 0 [] plan.exports ≡ Ok exports → entries_from (interfaces 1 plan.sources trees) 0 [] plan.contexts ≡ Ok entries
    → found ≡ all_found exports 1 plan.sources trees → program ≡ program_of trees found entries → linked plan trees ≡ Ok program
linked_all plan trees exports entries found program h g f p =
    ap (λ r. and_then r (λ symbols. and_then (entries_from (interfaces 1 plan.sources trees) 0 [] plan.contexts) (λ items. Ok (program_of trees (all_found symbols 1 plan.sources trees) items)))) h
    ∙ ap (λ r. and_then r (λ items. Ok (program_of trees (all_found exports 1 plan.sources trees) items))) g
    ∙ ap Ok (ap (λ items. program_of trees items entries) (sym f) ∙ sym p)

pub loaded_not_refused : (plan : Plan) (sources : List Written) (trees : List (List Addition)) (program : Program) → AllByRecursion IsText sources → AreTreesOf plan sources trees
    → linked plan trees ≡ Ok program → (r : LoadRefusal) → IsRefused plan sources r → ⊥
loaded_not_refused plan sources trees program texts h l r (inl g) = trees_not_misspelled 0 most_nodes plan.sources sources trees h r g
loaded_not_refused plan sources trees program texts h l r (inr g) =
    let one : g.0 ≡ trees = trees_once 0 most_nodes plan.sources sources trees g.0 texts h g.1 in
    let refused : linked plan trees ≡ Err r = subst (λ ts. linked plan ts ≡ Err r) one g.2 in
    never_both program r (sym refused ∙ l)

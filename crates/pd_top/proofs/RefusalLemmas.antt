-- Sources that are UTF-8 are refused for one reason.
use Rattle.std.proofs.Common.{◌≡◌, ◌+◌, ◌-◌, ◌∙◌, ℕ, List, [], ◌∷◌, length, refl, ap, sym, subst, inl, inr, Err, Result}
use Rattle.std.specs.List.{AllByRecursion}
use Rattle.std.specs.Str.{IsUtf8}
use Rattle.pd_sections.specs.declared.Refusal.{Refusal}
use Rattle.pd_sections.specs.Written.{Written}
use Rattle.pd_plan.specs.declared.plan.Language.{Language}
use Rattle.pd_plan.specs.declared.plan.Language.TheVariants.{Sl, Pl0}
use Rattle.pd_plan.specs.declared.plan.SourceSpec.{SourceSpec}
use Rattle.pd_plan.specs.declared.plan.Plan.{Plan}
use Rattle.pd_tree.specs.declared.addition.Addition.{Addition}
use Rattle.pd_tree.specs.Program.{Program}
use Rattle.pd_sl_spell.specs.Words.{Word}
use Rattle.pd_sl_spell.specs.Refusals as sl
use Rattle.pd_sl_spell.proofs.Only as sl_only
use Rattle.pd_sl_read.specs.Tokens as sl_tokens
use Rattle.pd_sl_read.specs.Answers as sl_reading
use Rattle.pd_sl_parse.specs.Additions as sl_trees
use Rattle.pd_sl_parse.proofs.Spelling as sl_names
use Rattle.pd_sl_parse.proofs.Once as sl_once
use Rattle.pd_pl0_spell.specs.Words as pl0_words
use Rattle.pd_pl0_spell.specs.Names as pl0_rules
use Rattle.pd_pl0_spell.specs.Refusals as pl0
use Rattle.pd_pl0_spell.proofs.Only as pl0_only
use Rattle.pd_pl0_spell.proofs.Walks.{loosened_program}
use Rattle.pd_pl0_read.specs.Tokens as pl0_tokens
use Rattle.pd_pl0_read.specs.Answers as pl0_reading
use Rattle.pd_pl0_parse.specs.Additions as pl0_trees
use Rattle.pd_pl0_parse.proofs.Spelling as pl0_names
use Rattle.pd_pl0_parse.proofs.Once as pl0_once
use Rattle.pd_load.specs.declared.refusal.LoadRefusal.{LoadRefusal}
use Rattle.pd_load.specs.declared.refusal.LoadCause.TheVariants.{Spelling}
use Rattle.pd_load.specs.Tables.{IsText}
use Rattle.pd_load.specs.Linked.{linked}
use Rattle.pd_load.specs.Loading.{most_nodes, IsTree, IsMisspelled, AreTrees, IsFirstMisspelled, IsRefused}
use Rattle.pd_load.proofs.Exclusive.{trees_not_misspelled}

-- ---- words are refused for one rule at one place

-- a clean list of words has no first breach
sl_unclean : (ws : List Word) (rule : sl.Rule) (at : ℕ) → sl.IsClean ws → sl.FirstBreach ws rule at → ⊥
sl_unclean ws rule at clean f = clean f.before f.after f.word f.whole rule f.breach

sl_one : (room : ℕ) (ws : List Word) (r s : sl.Rule) (m n : ℕ) → sl.Refuses room ws r m → sl.Refuses room ws s n → (r ≡ s) × (m ≡ n)
sl_one room ws r s m n (sl.at_word f) (sl.at_word g) = sl_only.same_breach ws r s m n f g
sl_one room ws r s m n (sl.at_word f) (sl.at_end clean none q p) = absurd (sl_unclean ws r m clean f)
sl_one room ws r s m n (sl.at_word f) (sl.too_many T clean spelled big q p) = absurd (sl_unclean ws r m clean f)
sl_one room ws r s m n (sl.at_end clean none q p) (sl.at_word g) = absurd (sl_unclean ws s n clean g)
sl_one room ws r s m n (sl.at_end clean none q p) (sl.at_end also nor u v) = (q ∙ sym u, p ∙ sym v)
sl_one room ws r s m n (sl.at_end clean none q p) (sl.too_many T also spelled big u v) = absurd (none T spelled)
sl_one room ws r s m n (sl.too_many T clean spelled big q p) (sl.at_word g) = absurd (sl_unclean ws s n clean g)
sl_one room ws r s m n (sl.too_many T clean spelled big q p) (sl.at_end also none u v) = absurd (none T spelled)
sl_one room ws r s m n (sl.too_many T clean spelled big q p) (sl.too_many U also spells large u v) = (q ∙ sym u, p ∙ sym v)

pl0_unclean : (ws : List pl0_words.Word) (rule : pl0_rules.Rule) (at : ℕ) → pl0.IsClean ws → pl0.FirstBreach ws rule at → ⊥
pl0_unclean ws rule at clean f = clean f.before f.after f.word f.whole rule f.breach

pl0_one : (room : ℕ) (ws : List pl0_words.Word) (r s : pl0_rules.Rule) (m n : ℕ) → pl0.Refuses room ws r m → pl0.Refuses room ws s n → (r ≡ s) × (m ≡ n)
pl0_one room ws r s m n (pl0.at_word f) (pl0.at_word g) = pl0_only.same_breach ws r s m n f g
pl0_one room ws r s m n (pl0.at_word f) (pl0.at_end clean none q p) = absurd (pl0_unclean ws r m clean f)
pl0_one room ws r s m n (pl0.at_word f) (pl0.too_many T clean spelled big q p) = absurd (pl0_unclean ws r m clean f)
pl0_one room ws r s m n (pl0.at_end clean none q p) (pl0.at_word g) = absurd (pl0_unclean ws s n clean g)
pl0_one room ws r s m n (pl0.at_end clean none q p) (pl0.at_end also nor u v) = (q ∙ sym u, p ∙ sym v)
pl0_one room ws r s m n (pl0.at_end clean none q p) (pl0.too_many T also spelled big u v) = absurd (none T (loosened_program pl0_rules.no_rule ws T spelled))
pl0_one room ws r s m n (pl0.too_many T clean spelled big q p) (pl0.at_word g) = absurd (pl0_unclean ws s n clean g)
pl0_one room ws r s m n (pl0.too_many T clean spelled big q p) (pl0.at_end also none u v) = absurd (none T (loosened_program pl0_rules.no_rule ws T spelled))
pl0_one room ws r s m n (pl0.too_many T clean spelled big q p) (pl0.too_many U also spells large u v) = (q ∙ sym u, p ∙ sym v)

-- ---- a source is misspelled in one way

one_refusal_of : (a b : Refusal) → a.rule ≡ b.rule → a.at ≡ b.at → a ≡ b
one_refusal_of a b rules places = ap (λ r. record { rule = r; at = a.at }) rules ∙ ap (λ n. record { rule = b.rule; at = n }) places

one_breach : (language : Language) (room : ℕ) (bytes : List ℕ) (a b : Refusal) → IsMisspelled language room bytes a → IsMisspelled language room bytes b → a ≡ b
one_breach Sl room bytes a b (inl x) (inl y) = y.only a x.offends
one_breach Sl room bytes a b (inl x) (inr y) = absurd (x.splits_not y.0 y.1.lexes)
one_breach Sl room bytes a b (inr x) (inl y) = absurd (y.splits_not x.0 x.1.lexes)
one_breach Sl room bytes a b (inr x) (inr y) =
    let same : x.0 ≡ y.0 = y.1.only x.0 x.1.lexes in
    let first = subst (λ tokens. sl_reading.IsRefused room bytes tokens a) same x.2 in
    let both = sl_one room (sl_tokens.words_of bytes y.0) first.rule y.2.rule first.at y.2.at first.refuses y.2.refuses in
    one_refusal_of a b (first.rule_is ∙ ap sl_reading.rule_of both.0 ∙ sym y.2.rule_is)
    (first.place_is ∙ ap (sl_tokens.place_of bytes y.0) both.1 ∙ sym y.2.place_is)
one_breach Pl0 room bytes a b (inl x) (inl y) = y.only a x.offends
one_breach Pl0 room bytes a b (inl x) (inr y) = absurd (x.splits_not y.0 y.1.lexes)
one_breach Pl0 room bytes a b (inr x) (inl y) = absurd (y.splits_not x.0 x.1.lexes)
one_breach Pl0 room bytes a b (inr x) (inr y) =
    let same : x.0 ≡ y.0 = y.1.only x.0 x.1.lexes in
    let first = subst (λ tokens. pl0_reading.IsRefused room bytes tokens a) same x.2 in
    let both = pl0_one room (pl0_tokens.words_of bytes y.0) first.rule y.2.rule first.at y.2.at first.refuses y.2.refuses in
    one_refusal_of a b (first.rule_is ∙ ap pl0_reading.rule_of both.0 ∙ sym y.2.rule_is)
    (first.place_is ∙ ap (pl0_tokens.place_of bytes y.0) both.1 ∙ sym y.2.place_is)

-- a source that is UTF-8 has one tree
one_tree : (language : Language) (room number : ℕ) (bytes : List ℕ) (t u : List Addition) → IsUtf8 bytes → IsTree language room number bytes t → IsTree language room number bytes u → t ≡ u
one_tree Pl0 room number bytes t u text x y =
    let same : x.0 ≡ y.0 = y.1.only x.0 x.1.lexes in
    pl0_once.tree_once room bytes y.0 number t u (pl0_names.all_spelled bytes y.0 y.1.lexes) (subst (λ tokens. pl0_trees.IsTreeOf room bytes tokens number t) same x.2) y.2
one_tree Sl room number bytes t u text x y =
    let same : x.0 ≡ y.0 = y.1.only x.0 x.1.lexes in
    sl_once.tree_once room bytes y.0 number t u (sl_names.all_spelled bytes y.0 text y.1.lexes) (subst (λ tokens. sl_trees.IsTreeOf room bytes tokens number t) same x.2) y.2

one_list : (number room : ℕ) (specs : List SourceSpec) (ws : List Written) (ts us : List (List Addition)) → AllByRecursion IsText ws → AreTrees number room specs ws ts
    → AreTrees number room specs ws us → ts ≡ us
one_list number room [] [] [] [] texts x y = refl
one_list number room [] [] [] (u ∷ us) texts x y = absurd y
one_list number room [] [] (t ∷ ts) us texts x y = absurd x
one_list number room [] (w ∷ ws) ts us texts x y = absurd x
one_list number room (s ∷ specs) [] ts us texts x y = absurd x
one_list number room (s ∷ specs) (w ∷ ws) [] us texts x y = absurd x
one_list number room (s ∷ specs) (w ∷ ws) (t ∷ ts) [] texts x y = absurd y
one_list number room (s ∷ specs) (w ∷ ws) (t ∷ ts) (u ∷ us) texts x y =
    let one : t ≡ u = one_tree s.language room number w.bytes t u texts.0 x.0 y.0 in
    let rest : ts ≡ us = one_list (number + 1) (room - length u) specs ws ts us texts.1 (subst (λ a. AreTrees (number + 1) (room - length a) specs ws ts) one x.1) y.1 in
    ap (λ a. a ∷ ts) one ∙ ap (λ rest_trees. u ∷ rest_trees) rest

-- a source with a tree isn't misspelled
spelled_or_not : (number room : ℕ) (s : SourceSpec) (w : Written) (t : List Addition) (r : Refusal) → IsTree s.language room number w.bytes t
    → IsMisspelled s.language room w.bytes r → ⊥
spelled_or_not number room s w t r tree not =
    trees_not_misspelled number room (s ∷ []) (w ∷ []) (t ∷ []) (tree, tt) (record { source = number; cause = Spelling r }) (inl (r, not, refl))

one_first : (number room : ℕ) (specs : List SourceSpec) (ws : List Written) (a b : LoadRefusal) → AllByRecursion IsText ws → IsFirstMisspelled number room specs ws a
    → IsFirstMisspelled number room specs ws b → a ≡ b
one_first number room [] ws a b texts x y = absurd x
one_first number room (s ∷ specs) [] a b texts x y = absurd x
one_first number room (s ∷ specs) (w ∷ ws) a b texts (inl x) (inl y) =
    x.2 ∙ ap (λ r. record { source = number; cause = Spelling r }) (one_breach s.language room w.bytes x.0 y.0 x.1 y.1) ∙ sym y.2
one_first number room (s ∷ specs) (w ∷ ws) a b texts (inl x) (inr y) = absurd (spelled_or_not number room s w y.0 x.0 y.1 x.1)
one_first number room (s ∷ specs) (w ∷ ws) a b texts (inr x) (inl y) = absurd (spelled_or_not number room s w x.0 y.0 x.1 y.1)
one_first number room (s ∷ specs) (w ∷ ws) a b texts (inr x) (inr y) =
    let one : x.0 ≡ y.0 = one_tree s.language room number w.bytes x.0 y.0 texts.0 x.1 y.1 in
    one_first (number + 1) (room - length y.0) specs ws a b texts.1 (subst (λ t. IsFirstMisspelled (number + 1) (room - length t) specs ws a) one x.2) y.2

-- ---- a plan is refused for one reason

pub one_refusal : (plan : Plan) (ws : List Written) (a b : LoadRefusal) → AllByRecursion IsText ws → IsRefused plan ws a → IsRefused plan ws b → a ≡ b
one_refusal plan ws a b texts (inl x) (inl y) = one_first 0 most_nodes plan.sources ws a b texts x y
one_refusal plan ws a b texts (inl x) (inr y) = absurd (trees_not_misspelled 0 most_nodes plan.sources ws y.0 y.1 a x)
one_refusal plan ws a b texts (inr x) (inl y) = absurd (trees_not_misspelled 0 most_nodes plan.sources ws x.0 x.1 b y)
one_refusal plan ws a b texts (inr x) (inr y) =
    let one : x.0 ≡ y.0 = one_list 0 most_nodes plan.sources ws x.0 y.0 texts x.1 y.1 in
    let both : ◌≡◌ {A = Result Program LoadRefusal} (Err a) (Err b) = sym x.2 ∙ ap (linked plan) one ∙ y.2 in cc

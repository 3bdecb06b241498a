-- The trees of the sources, one behind the other, and the room that they leave.
use Rattle.std.proofs.Common.{◌≡◌, ℕ, suc, ◌+◌, ◌-◌, ◌<◌, ◌≤◌, List, [], ◌∷◌, ◌++◌, length, get_or, drop, inl, inr, refl, sym, ap, subst, arith, length-append, append_assoc, append-nil}
use Rattle.std.specs.List.{AllByRecursion}
use Rattle.std.proofs.lemmas.List.{drop_all}
use Rattle.pd_sections.specs.declared.Token.{Token}
use Rattle.pd_sections.specs.declared.Refusal.{Refusal}
use Rattle.pd_sections.specs.declared.Stop.{Stop}
use Rattle.pd_sections.specs.declared.Stop.TheVariants.{Refused, Memory}
use Rattle.pd_sections.specs.Written.{Written}
use Rattle.pd_plan.specs.declared.plan.Language.{Language}
use Rattle.pd_plan.specs.declared.plan.Language.TheVariants.{Sl, Pl0}
use Rattle.pd_plan.specs.declared.plan.SourceSpec.{SourceSpec}
use Rattle.pd_tree.specs.declared.addition.Addition.{Addition}
use Rattle.pd_tree.specs.Linked.{joined}
use Rattle.pd_turn.specs.declared.Node.{Node}
use Rattle.pd_turn.specs.Turned.{pres}
use Rattle.pd_sl_read.specs.declared.parts.Part.{Part}
use Rattle.pd_sl_read.specs.Places.{roses}
use Rattle.pd_sl_read.proofs.Counts.{all_counted}
use Rattle.pd_sl_read.proofs.Turns.{all_turned}
use Rattle.pd_sl_parse.specs.Additions.{AreAdditionsOf}
use Rattle.pd_sl_parse.proofs.Within.{trees_length}
use Rattle.pd_pl0_spell.specs.Names.{no_declarations}
use Rattle.pd_pl0_read.specs.declared.parts.Part as pl0
use Rattle.pd_pl0_read.specs.Places.{program_trees}
use Rattle.pd_pl0_read.proofs.Counts.{counted}
use Rattle.pd_pl0_read.proofs.Turns.{program_turned}
use Rattle.pd_pl0_parse.specs.Additions as pl0_parse
use Rattle.pd_load.specs.declared.refusal.LoadRefusal.{LoadRefusal}
use Rattle.pd_load.specs.declared.refusal.LoadCause.TheVariants.{Spelling}
use Rattle.pd_load.specs.Tables.{IsText, StopsReading, StopsSpelling, at_source}
use Rattle.pd_load.specs.Loading.{most_nodes, IsTree, IsMisspelled, AreTrees, IsFirstMisspelled}
use Rattle.pd_load.proofs.Lists.{drop_item, joined_push}

-- ---- a tree fits the room

pub additions_counted : (bytes : List ℕ) (tokens : List Token) (source : ℕ) (earlier : List Part) (nodes : List (Node Part)) (tree : List Addition) → AreAdditionsOf bytes tokens source earlier nodes tree
    → length tree ≡ length nodes
additions_counted bytes tokens source earlier [] [] h = refl
additions_counted bytes tokens source earlier [] (a ∷ tree) h = absurd h
additions_counted bytes tokens source earlier (x ∷ nodes) [] h = absurd h
additions_counted bytes tokens source earlier (x ∷ nodes) (a ∷ tree) h = ap suc (additions_counted bytes tokens source (x.what ∷ earlier) nodes tree h.1)

sl_tree_fits : (room number : ℕ) (bytes : List ℕ) (tree : List Addition) → IsTree Sl room number bytes tree → length tree ≤ room
sl_tree_fits room number bytes tree h =
    let T = h.2.0 in
    omega (arith, additions_counted bytes h.0 number [] (pres (roses 0 T)) tree h.2.2, trees_length (roses 0 T), ap length (all_turned 0 T), all_counted 0 T, h.2.1.fits)

pub pl0_counted : (bytes : List ℕ) (tokens : List Token) (source : ℕ) (nodes : List (Node pl0.Part)) (tree : List Addition) → pl0_parse.AreAdditionsOf bytes tokens source nodes tree
    → length tree ≡ length nodes
pl0_counted bytes tokens source [] [] h = refl
pl0_counted bytes tokens source [] (a ∷ tree) h = absurd h
pl0_counted bytes tokens source (x ∷ nodes) [] h = absurd h
pl0_counted bytes tokens source (x ∷ nodes) (a ∷ tree) h = ap suc (pl0_counted bytes tokens source nodes tree h.1)

pl0_tree_fits : (room number : ℕ) (bytes : List ℕ) (tree : List Addition) → IsTree Pl0 room number bytes tree → length tree ≤ room
pl0_tree_fits room number bytes tree h =
    let T = h.2.0 in
    omega (
      arith,
      pl0_counted bytes h.0 number (pres (program_trees T)) tree h.2.2,
      trees_length (program_trees T),
      ap length (program_turned T),
      counted no_declarations 0 T,
      h.2.1.fits,
    )

pub tree_fits : (language : Language) (room number : ℕ) (bytes : List ℕ) (tree : List Addition) → IsTree language room number bytes tree → length tree ≤ room
tree_fits Sl room number bytes tree h = sl_tree_fits room number bytes tree h
tree_fits Pl0 room number bytes tree h = pl0_tree_fits room number bytes tree h

-- ---- the sources up to number k are spelled

pub record TreesTo (specs : List SourceSpec) (sources : List Written) (k room : ℕ) (trees : List (List Addition)) : Type 0 where
  pub rest : (more : List (List Addition)) → AreTrees k room (drop k specs) (drop k sources) more → AreTrees 0 most_nodes specs sources (trees ++ more)
  pub refused : (r : LoadRefusal) → IsFirstMisspelled k room (drop k specs) (drop k sources) r → IsFirstMisspelled 0 most_nodes specs sources r
  pub texts : AllByRecursion IsText (drop k sources) → AllByRecursion IsText sources
  pub left : room + length (joined trees) ≡ 65536
  pub counted : length trees ≡ k

module _ (specs : List SourceSpec) (sources : List Written) where
  pub trees_none : TreesTo specs sources 0 65536 []
  trees_none = record { rest = λ more are. are; refused = λ r h. h; texts = λ h. h; left = refl; counted = refl }

  module _ (k room : ℕ) (trees : List (List Addition)) (s : SourceSpec) (w : Written) (lt : k < length specs) (is : s ≡ get_or specs k s) (source_lt : k < length sources) (source_is : w ≡ get_or sources k w)
      (seen : TreesTo specs sources k room trees) where
    pub trees_more : (tree : List Addition) → IsTree s.language room k w.bytes tree → length tree ≤ room → IsText w → TreesTo specs sources (k + 1) (room - length tree) (trees ++ tree ∷ [])
    trees_more tree h fits text =
        let e = drop_item specs k s lt is in
        let f = drop_item sources k w source_lt source_is in
        record {
          rest = λ more are.
              subst (AreTrees 0 most_nodes specs sources) (sym (append_assoc trees (tree ∷ []) more))
              (seen.rest (tree ∷ more)
              (subst (λ l. AreTrees k room l (drop k sources) (tree ∷ more)) (sym e) (subst (λ l. AreTrees k room (s ∷ drop (k + 1) specs) l (tree ∷ more)) (sym f) (h, are))));
          refused = λ r g.
              seen.refused r
              (subst (λ l. IsFirstMisspelled k room l (drop k sources) r) (sym e) (subst (λ l. IsFirstMisspelled k room (s ∷ drop (k + 1) specs) l r) (sym f) (inr (tree, h, g))));
          texts = λ more. seen.texts (subst (AllByRecursion IsText) (sym f) (text, more));
          left = omega (arith, joined_push trees tree, seen.left);
          counted = omega (arith, length-append trees (tree ∷ []), seen.counted);
        }

    trees_refused : (breach : Refusal) → IsMisspelled s.language room w.bytes breach → IsFirstMisspelled 0 most_nodes specs sources (record { source = k; cause = Spelling breach })
    trees_refused breach h =
        let r : LoadRefusal = record { source = k; cause = Spelling breach } in
        let e = drop_item specs k s lt is in
        let f = drop_item sources k w source_lt source_is in
        seen.refused r
        (subst (λ l. IsFirstMisspelled k room l (drop k sources) r) (sym e) (subst (λ l. IsFirstMisspelled k room (s ∷ drop (k + 1) specs) l r) (sym f) (inl (breach, h, refl))))

    pub trees_stopped : (stop : Stop Refusal) → StopsReading s.language room w.bytes stop → StopsSpelling specs sources (at_source k stop)
    trees_stopped (Refused breach) h = trees_refused breach h
    trees_stopped Memory h = tt

  pub trees_all : (k room : ℕ) (trees : List (List Addition)) → length specs ≤ k → length sources ≤ k → TreesTo specs sources k room trees → AreTrees 0 most_nodes specs sources trees
  trees_all k room trees le source_le seen =
      subst (AreTrees 0 most_nodes specs sources) (append-nil trees)
      (seen.rest [] (subst (λ l. AreTrees k room l (drop k sources) []) (sym (drop_all k specs le)) (subst (λ l. AreTrees k room [] l []) (sym (drop_all k sources source_le)) tt)))

  pub all_texts : (k room : ℕ) (trees : List (List Addition)) → length sources ≤ k → TreesTo specs sources k room trees → AllByRecursion IsText sources
  all_texts k room trees le seen = seen.texts (subst (AllByRecursion IsText) (sym (drop_all k sources le)) tt)

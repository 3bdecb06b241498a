-- Definition: what loading answers: the linked program of the trees that the sources spell, or the first refusal. First
-- come the tokens and the tree of each source in order, then the exports, then the entries.
use Rattle.std.specs.Prelude.{◌≡◌, ℕ, ◌+◌, ◌-◌, ◌⊎◌, List, [], ◌∷◌, length, Ok, Err}
use Rattle.pd_sections.specs.declared.Token.{Token}
use Rattle.pd_sections.specs.declared.Refusal.{Refusal}
use Rattle.pd_sections.specs.declared.Stop.{Stop}
use Rattle.pd_sections.specs.declared.Stop.TheVariants.{Refused, Memory}
use Rattle.pd_sections.specs.Written.{Written}
use Rattle.pd_sections.specs.Lexing as lexing
use Rattle.pd_sections.specs.Lexing.{Splits}
use Rattle.pd_sections.specs.SlPieces.{sl_piece}
use Rattle.pd_sections.specs.Pl0Pieces.{pl0_piece}
use Rattle.pd_plan.specs.declared.plan.Language.{Language}
use Rattle.pd_plan.specs.declared.plan.Language.TheVariants.{Sl, Pl0}
use Rattle.pd_plan.specs.declared.plan.SourceSpec.{SourceSpec}
use Rattle.pd_plan.specs.declared.plan.Plan.{Plan}
use Rattle.pd_tree.specs.declared.addition.Addition.{Addition}
use Rattle.pd_tree.specs.Program.{Program}
use Rattle.pd_sl_read.specs.Answers as reading
use Rattle.pd_sl_parse.specs.Additions.{IsTreeOf}
use Rattle.pd_pl0_read.specs.Answers as pl0_reading
use Rattle.pd_pl0_parse.specs.Additions as pl0
use Rattle.pd_load.specs.declared.refusal.LoadRefusal.{LoadRefusal}
use Rattle.pd_load.specs.declared.refusal.LoadCause.TheVariants.{Spelling}
use Rattle.pd_load.specs.Linked.{linked}

-- how many nodes all sources together may have
abbrev pub most_nodes : ℕ
most_nodes = 65536

-- ---- one source, by its language; `room` is the number of nodes that may still be made.

-- the source is spelled, and this is its tree
abbrev pub IsTree : Language → ℕ → ℕ → List ℕ → List Addition → Type 0
IsTree Sl room number bytes tree = (tokens : List Token) × Splits sl_piece bytes tokens × IsTreeOf room bytes tokens number tree
IsTree Pl0 room number bytes tree = (tokens : List Token) × Splits pl0_piece bytes tokens × pl0.IsTreeOf room bytes tokens number tree

-- the source has a first offending place, or its tokens have a first breach
abbrev pub IsMisspelled : Language → ℕ → List ℕ → Refusal → Type 0
IsMisspelled Sl room bytes refusal =
    lexing.IsRefused sl_piece bytes refusal ⊎ ((tokens : List Token) × Splits sl_piece bytes tokens × reading.IsRefused room bytes tokens refusal)
IsMisspelled Pl0 room bytes refusal =
    lexing.IsRefused pl0_piece bytes refusal ⊎ ((tokens : List Token) × Splits pl0_piece bytes tokens × pl0_reading.IsRefused room bytes tokens refusal)

-- ---- the sources from a number on

-- the trees are those of the sources, one for each; `room` nodes may be made by all together
abbrev pub AreTrees : ℕ → ℕ → List SourceSpec → List Written → List (List Addition) → Type 0
AreTrees number room [] [] [] = Unit {0}
AreTrees number room (s ∷ ss) (w ∷ ws) (t ∷ ts) = IsTree s.language room number w.bytes t × AreTrees (number + 1) (room - length t) ss ws ts
AreTrees number room _ _ _ = ⊥

-- the first source that isn't spelled, after sources that are
abbrev pub IsFirstMisspelled : ℕ → ℕ → List SourceSpec → List Written → LoadRefusal → Type 0
IsFirstMisspelled number room (s ∷ ss) (w ∷ ws) refusal =
    ((breach : Refusal) × IsMisspelled s.language room w.bytes breach × (refusal ≡ record { source = number; cause = Spelling breach }))
    ⊎ ((tree : List Addition) × IsTree s.language room number w.bytes tree × IsFirstMisspelled (number + 1) (room - length tree) ss ws refusal)
IsFirstMisspelled number room _ _ refusal = ⊥

-- ---- a plan

-- the trees are those of the plan's sources, with at most `most_nodes` nodes together
abbrev pub AreTreesOf : Plan → List Written → List (List Addition) → Type 0
AreTreesOf plan sources trees = AreTrees 0 most_nodes plan.sources sources trees

-- each source spells a tree, and the program is the linked one of these trees
abbrev pub IsLoaded : Plan → List Written → Program → Type 0
IsLoaded plan sources program = (trees : List (List Addition)) × AreTreesOf plan sources trees × (linked plan trees ≡ Ok program)

-- the refusal is the first one: of a source that spells no tree, or else of an export or an entry
abbrev pub IsRefused : Plan → List Written → LoadRefusal → Type 0
IsRefused plan sources refusal =
    IsFirstMisspelled 0 most_nodes plan.sources sources refusal
    ⊎ ((trees : List (List Addition)) × AreTreesOf plan sources trees × (linked plan trees ≡ Err refusal))

-- loading is given up for the first refusal, or where memory runs out
abbrev pub StopsFor : Plan → List Written → Stop LoadRefusal → Type 0
StopsFor plan sources (Refused refusal) = IsRefused plan sources refusal
StopsFor plan sources Memory = Unit {0}

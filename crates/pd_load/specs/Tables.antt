-- Definition: `IsText`; the rest is for proofs.
-- Tables of names, as the code keeps them.
use Rattle.std.specs.Prelude.{◌≡◌, ℕ, List, [], ◌∷◌, Result, Err, String}
use Rattle.std.specs.Option.{option_or}
use Rattle.std.specs.Str.{IsUtf8}
use Rattle.std.specs.BTreeMap.{get_by_text, BTreeMap}
use Rattle.pd_sections.specs.declared.Refusal.{Refusal}
use Rattle.pd_sections.specs.declared.Stop.{Stop}
use Rattle.pd_sections.specs.declared.Stop.TheVariants.{Refused, Memory}
use Rattle.pd_plan.specs.declared.plan.Language.{Language}
use Rattle.pd_plan.specs.declared.plan.SourceSpec.{SourceSpec}
use Rattle.pd_sections.specs.Written.{Written}
use Rattle.pd_load.specs.declared.names.Callables.{Callables}
use Rattle.pd_load.specs.declared.refusal.LoadRefusal.{LoadRefusal}
use Rattle.pd_load.specs.declared.refusal.LoadCause.TheVariants.{Spelling}
use Rattle.pd_load.specs.Loading.{IsMisspelled, IsFirstMisspelled, most_nodes}
use Rattle.pd_load.specs.Names.{Symbol, lookup, Interface}

module _ {Y : Type 0} where
  -- a name finds in the table the item of the last symbol of that name
  pub record IsTable (table : BTreeMap (String Y) ℕ) (symbols : List Symbol) : Type 0 where
    pub finds : (x : List ℕ) → get_by_text table x ≡ lookup x symbols

  -- the new table finds these symbols, and else what the old one does
  pub record Gains (old new : BTreeMap (String Y) ℕ) (symbols : List Symbol) : Type 0 where
    pub finds : (x : List ℕ) → get_by_text new x ≡ option_or (lookup x symbols) (get_by_text old x)

-- the main block and the symbols
pub record IsInterface (callables : Callables) (i : Interface) : Type 0 where
  pub main : callables.main ≡ i.main
  pub symbols : IsTable callables.symbols i.symbols

-- the tables of the sources have these interfaces, one for each
abbrev pub AreTables : List Callables → List Interface → Type 0
AreTables [] [] = Unit {0}
AreTables (c ∷ cs) (i ∷ is) = IsInterface c i × AreTables cs is
AreTables _ _ = ⊥

-- the source's bytes are UTF-8
abbrev pub IsText : Written → Type 0
IsText w = IsUtf8 w.bytes

-- ---- what stops the steps of loading; memory may run out in each

-- a call stops with the refusal of the definition's answer, or for memory
abbrev pub StopsWith : {T : Type 0} → Result T LoadRefusal → Stop LoadRefusal → Type 0
StopsWith answer (Refused refusal) = answer ≡ Err refusal
StopsWith answer Memory = Unit {0}

-- the reading of one source stops with its refusal, or for memory
abbrev pub StopsReading : Language → ℕ → List ℕ → Stop Refusal → Type 0
StopsReading language room bytes (Refused refusal) = IsMisspelled language room bytes refusal
StopsReading language room bytes Memory = Unit {0}

-- the reading of the sources stops with the first refusal, or for memory
abbrev pub StopsSpelling : List SourceSpec → List Written → Stop LoadRefusal → Type 0
StopsSpelling specs sources (Refused refusal) = IsFirstMisspelled 0 most_nodes specs sources refusal
StopsSpelling specs sources Memory = Unit {0}

-- what refuses a source of this number
abbrev pub at_source : ℕ → Stop Refusal → Stop LoadRefusal
at_source number (Refused breach) = Refused (record { source = number; cause = Spelling breach })
at_source number Memory = Memory

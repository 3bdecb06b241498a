-- The whole run is entered again until the fuel is spent.
use Rattle.std.specs.Prelude.{◌≡◌, refl, List, [], ◌∷◌, None, Some, codes}
use Rattle.std.specs.Fmt.{digits}
use Rattle.pd_values.specs.declared.value.End.TheVariants.{Exhausted}
use Rattle.pd_machine.specs.declared.event.Verdict.TheVariants.{Reenter}
use Rattle.pd_meaning.specs.Meaning.{meaning_of, evaluated}
use Rattle.pd_meaning.proofs.Brief.{brief}
use Rattle.pd_tree.specs.declared.kind.Kind.TheVariants.{SlBody, SlDebugger, SlFunction}
use Rattle.pd_values.specs.declared.value.Tag.TheVariants.{Statement, Root, RootBody, AlwaysHalt}
use Rattle.pd_tree.specs.declared.kind.Meaning.TheVariants.{Nothing}
use Rattle.pd_tree.specs.Program.{Program, Node, Item}

abbrev nodes : List Node
nodes =
    -- 0
    record { kind = (SlFunction (codes "main") []); children = 1 ∷ []; tags = Root ∷ []; meaning = Nothing; root = 0; level = 0; slots = 0; sees = []; source = 0; start = 0; len = 29; line = 1; column = 1 } ∷
    -- 1
    record { kind = SlBody; children = 2 ∷ []; tags = RootBody ∷ []; meaning = Nothing; root = 0; level = 0; slots = 0; sees = []; source = 0; start = 16; len = 13; line = 1; column = 17 } ∷
    -- 2
    record { kind = SlDebugger; children = []; tags = Statement ∷ AlwaysHalt ∷ []; meaning = Nothing; root = 0; level = 0; slots = 0; sees = []; source = 0; start = 18; len = 8; line = 1; column = 19 } ∷
    []

abbrev items : List Item
items =
    record { name = codes "println"; root = None } ∷
    record { name = codes "main"; root = Some 0 } ∷
    []

abbrev pub program : Program
program = record { nodes = nodes; items = items; mains = None ∷ []; entries = 1 ∷ [] }

pub until_the_fuel_is_spent : brief (meaning_of program 1 200 ((2, Reenter 99) ∷ (8, Reenter 99) ∷ (14, Reenter 99) ∷ (20, Reenter 99) ∷ (26, Reenter 99) ∷ (32, Reenter 99) ∷ (38, Reenter 99) ∷ (44, Reenter 99) ∷ (50, Reenter 99) ∷ (56, Reenter 99) ∷ (62, Reenter 99) ∷ (68, Reenter 99) ∷ (74, Reenter 99) ∷ (80, Reenter 99) ∷ (86, Reenter 99) ∷ (92, Reenter 99) ∷ (98, Reenter 99) ∷ (104, Reenter 99) ∷ (110, Reenter 99) ∷ (116, Reenter 99) ∷ (122, Reenter 99) ∷ (128, Reenter 99) ∷ (134, Reenter 99) ∷ (140, Reenter 99) ∷ (146, Reenter 99) ∷ (152, Reenter 99) ∷ (158, Reenter 99) ∷ (164, Reenter 99) ∷ (170, Reenter 99) ∷ (176, Reenter 99) ∷ (182, Reenter 99) ∷ (188, Reenter 99) ∷ (194, Reenter 99) ∷ (200, Reenter 99) ∷ (206, Reenter 99) ∷ (212, Reenter 99) ∷ (218, Reenter 99) ∷ (224, Reenter 99) ∷ (230, Reenter 99) ∷ (236, Reenter 99) ∷ (242, Reenter 99) ∷ (248, Reenter 99) ∷ (254, Reenter 99) ∷ (260, Reenter 99) ∷ (266, Reenter 99) ∷ (272, Reenter 99) ∷ (278, Reenter 99) ∷ (284, Reenter 99) ∷ (290, Reenter 99) ∷ (296, Reenter 99) ∷ (302, Reenter 99) ∷ (308, Reenter 99) ∷ (314, Reenter 99) ∷ (320, Reenter 99) ∷ (326, Reenter 99) ∷ (332, Reenter 99) ∷ (338, Reenter 99) ∷ (344, Reenter 99) ∷ (350, Reenter 99) ∷ (356, Reenter 99) ∷ (362, Reenter 99) ∷ (368, Reenter 99) ∷ (374, Reenter 99) ∷ (380, Reenter 99) ∷ (386, Reenter 99) ∷ (392, Reenter 99) ∷ [])) ≡ ([], Exhausted, 200, 398)
unfolding meaning_of evaluated digits
until_the_fuel_is_spent = refl

-- Definition, which public contracts cite.
-- The text of a context's call tree.
use Rattle.std.specs.Prelude.{ℕ, List, [], ◌∷◌, ◌++◌, flat_map, codes}
use Rattle.std.specs.Fmt.{decimal}
use Rattle.pd_tree.specs.Program.{Program, node_at}
use Rattle.pd_tree.specs.Kinds.{root_name_of}
use Rattle.pd_paths.specs.declared.PathCount.{PathCount}

-- the name of a function or a procedure
abbrev pub name_of : Program → ℕ → List ℕ
name_of p n = root_name_of (node_at p n).kind

-- a name behind others
abbrev pub next_name : Program → ℕ → List ℕ
next_name p n = codes "/" ++ name_of p n

-- the names of a path, with `/` between them
abbrev pub names_text : Program → List ℕ → List ℕ
names_text p [] = []
names_text p (n ∷ ns) = name_of p n ++ flat_map (next_name p) ns

-- the line of a path
abbrev pub path_text : Program → PathCount → List ℕ
path_text p x = codes "  " ++ decimal x.count ++ codes " " ++ decimal x.own ++ codes " " ++ names_text p x.path ++ codes "\n"

-- the lines of context c, which has so many events
abbrev pub tree_text : Program → ℕ → ℕ → List PathCount → List ℕ
tree_text p c events tree = codes "calltree " ++ decimal c ++ codes " events " ++ decimal events ++ codes "\n" ++ flat_map (path_text p) tree

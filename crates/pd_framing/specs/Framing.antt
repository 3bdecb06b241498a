-- Definition: the frames at each event of every run, as facts that a contract can promise: whose they are, and where the blocks stand that
-- they see. Both follow from the functions and procedures that run: static nesting goes outward from the caller.
use Rattle.std.specs.Prelude.{◌≡◌, ℕ, suc, ◌-◌, nat_lt, if◌then◌else◌, Bool, true, false, not, List, [], ◌∷◌, ◌++◌, map, length, slice_index_or}
use Rattle.std.specs.List.{All, list_all}
use Rattle.pd_tree.specs.declared.kind.Kind.{Kind}
use Rattle.pd_tree.specs.declared.kind.Kind.TheVariants.{SlFunction, SlAssign, PlProcedure, PlAssign}
use Rattle.pd_tree.specs.Program.{Program, Node, node_at}
use Rattle.pd_machine.specs.declared.run.Home.{Home}
use Rattle.pd_machine.specs.declared.run.Home.TheVariants.{InFrame, InMain}
use Rattle.pd_machine.specs.Events.{Told}
use Rattle.pd_meaning.specs.Meaning.{Verdicts, around, is_main_block, meaning_of}
use Rattle.pd_running.specs.Running.{is_root_node, path_at, moments}
use Rattle.pd_nesting.specs.Nesting.{AreRooted}

-- ---- the blocks that frames see

-- the blocks that frame i sees, where 0 is the innermost; none where there is no frame
abbrev pub blocks_seen : List (List Home) → ℕ → List Home
blocks_seen frames i = if nat_lt i (length frames) then slice_index_or frames (length frames - suc i) [] else []

-- where the blocks stand that a function or procedure sees which is called while frames see these: its own and those around it. The
-- variables of the entry's main block are the context's
abbrev pub blocks_for : Node → List (List Home) → List Home
blocks_for node [] = if is_main_block node.kind node.level then InMain node.source ∷ [] else InFrame 0 ∷ around node.level node.source []
blocks_for node (b ∷ bs) = InFrame (length (b ∷ bs)) ∷ around node.level node.source (blocks_seen (b ∷ bs) 0)

-- frame by frame, the outermost first, those of a path of functions and procedures, where `before` are those of the frames around it
abbrev pub blocks_from : Program → List (List Home) → List ℕ → List (List Home)
blocks_from p before [] = before
blocks_from p before (n ∷ ns) = blocks_from p (before ++ blocks_for (node_at p n) before ∷ []) ns

abbrev pub blocks_along : Program → List ℕ → List (List Home)
blocks_along p path = blocks_from p [] path

-- ---- events

-- the frames of event t, which comes after these events, are those of the functions and procedures that run at it
pub record IsFramed (p : Program) (past : List Told) (t : Told) : Type 0 where
  pub roots : map (λ f. f.root) t.scene.frames ≡ path_at p past t
  pub blocks : map (λ f. f.blocks) t.scene.frames ≡ blocks_along p (path_at p past t)
  pub depth : t.event.depth ≡ length t.scene.frames

-- ---- programs

-- whether a node assigns to a variable
abbrev pub is_assignment : Kind → Bool
is_assignment (SlAssign x) = true
is_assignment (PlAssign x) = true
is_assignment _ = false

-- whether none of these nodes is a function or a procedure
abbrev pub are_parts : Program → List ℕ → Bool
are_parts p ms = list_all (λ m. not (is_root_node p m)) ms

-- whether the last of them, if there is one, is none
abbrev pub last_is_part : Program → List ℕ → Bool
last_is_part p [] = true
last_is_part p (m ∷ []) = not (is_root_node p m)
last_is_part p (m ∷ k ∷ ms) = last_is_part p (k ∷ ms)

-- whether no part that is run is one: of a function or a procedure the last part alone is run
abbrev pub runs_parts : Program → Kind → List ℕ → Bool
runs_parts p (SlFunction name parameters) ms = last_is_part p ms
runs_parts p (PlProcedure name variables) ms = last_is_part p ms
runs_parts p _ ms = are_parts p ms

-- no node of the program runs a part that is a function or a procedure
abbrev pub RunsParts : Program → Type 0
RunsParts p = (n : ℕ) → runs_parts p (node_at p n).kind (node_at p n).children ≡ true

-- so, where the root of each item has its tag, each event of a run has the frames of what runs at it
abbrev pub EventsAreFramed : Type 0
EventsAreFramed = (p : Program) (v : Verdicts) (fuel entry : ℕ) → AreRooted p → RunsParts p → All (λ (m : List Told × Told). IsFramed p m.0 m.1) (moments (meaning_of p entry fuel v).events)

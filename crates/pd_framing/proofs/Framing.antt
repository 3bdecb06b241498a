-- Where each item's root has its tag and no part that is run is a function or a procedure, the frames of an event are those of what runs at
-- it, and see the blocks that static nesting puts there.
use Rattle.pd_machine.specs.declared.run.Frame.{Frame}
use Rattle.std.proofs.Common.{◌≡◌, ℕ, false, List, [], ◌∷◌, ◌++◌, length, map, Option, Some, None, refl, sym, ap, subst, ◌∙◌, ⊎_elim}
use Rattle.std.specs.Prelude.{◌-◌, slice_get, slice_set}
use Rattle.pd_values.specs.declared.value.Value.{Value}
use Rattle.pd_tree.specs.declared.kind.Meaning.{Meaning}
use Rattle.pd_tree.specs.declared.kind.Meaning.TheVariants.{Local, Item as Means, Nothing}
use Rattle.pd_machine.specs.declared.run.Home.{Home}
use Rattle.pd_machine.specs.declared.run.Home.TheVariants.{InFrame, InMain}
use Rattle.pd_machine.specs.declared.event.EventKind.{EventKind}
use Rattle.pd_machine.specs.declared.event.EventKind.TheVariants.{Enter, Return as Gave, Leave}
use Rattle.pd_tree.specs.Program.{Program, node_at}
use Rattle.pd_machine.specs.Events.{Scene, State, Told, set_home, frame_of, blocks_of, push_frame, standing, tell}
use Rattle.pd_meaning.specs.Meaning.{Verdicts, assigned, popped, meaning_of}
use Rattle.pd_running.specs.Running.{is_enter}
use Rattle.pd_running.specs.Laws.{but_last, opened_by, next_open, run_by, run_at}
use Rattle.pd_running.proofs.Stack.{but_last-push}
use Rattle.pd_nesting.specs.Nesting.{AreRooted}
use Rattle.pd_framing.specs.Framing.{blocks_for, blocks_along, is_assignment, RunsParts}
use Rattle.pd_framing.proofs.Lists.{change_map, change_length, map_push, map_pop, path_of, blocks_push}
use Rattle.pd_framing.proofs.Keeping.{enter_of, IsFrameOf, IsChanged, IsGiven, Rules, IsReached, meaning_keeps}

-- ---- the open activations after events

abbrev pub open_from : List Told → List Told → List Told
open_from live [] = live
open_from live (t ∷ ts) = open_from (next_open live t) ts

pub open_push : (live ts : List Told) (t : Told) → open_from live (ts ++ t ∷ []) ≡ next_open (open_from live ts) t
open_push live [] t = refl
open_push live (x ∷ ts) t = open_push (next_open live x) ts t

-- ---- the frames of a scene

abbrev pub roots_of : Scene → List ℕ
roots_of c = map (λ f. f.root) c.frames

abbrev pub seen_of : Scene → List (List Home)
seen_of c = map (λ f. f.blocks) c.frames

-- the frames of an event at which these activations run
pub record IsFramedAt (p : Program) (runs : List Told) (t : Told) : Type 0 where
  pub roots : roots_of t.scene ≡ path_of p runs
  pub blocks : seen_of t.scene ≡ blocks_along p (path_of p runs)
  pub depth : t.event.depth ≡ length t.scene.frames

-- so at each of these events
abbrev pub AreFramed : Program → List Told → List Told → Type 0
AreFramed p live [] = Unit {0}
AreFramed p live (t ∷ ts) = IsFramedAt p (run_at live t) t × AreFramed p (next_open live t) ts

framed_push : (p : Program) (live ts : List Told) (t : Told) → AreFramed p live ts → IsFramedAt p (run_at (open_from live ts) t) t → AreFramed p live (ts ++ t ∷ [])
framed_push p live [] t h i = (i, tt)
framed_push p live (x ∷ ts) t h i = (h.0, framed_push p (next_open live x) ts t h.1 i)

-- ---- what is kept

pub record Stands (p : Program) (xs : List Told) (path : List ℕ) (s : State) : Type 0 where
  pub opened : open_from [] s.events ≡ xs
  pub framed : AreFramed p [] s.events
  pub roots : roots_of s.scene ≡ path
  pub blocks : seen_of s.scene ≡ blocks_along p path

standing_roots : (n : ℕ) (c : Scene) → roots_of (standing n c) ≡ roots_of c
standing_roots n c = change_map (λ (f : Frame). f.root) c.frames (length c.frames - 1) (λ f. record f { at = n }) (λ f. refl)

pub standing_blocks : (n : ℕ) (c : Scene) → seen_of (standing n c) ≡ seen_of c
standing_blocks n c = change_map (λ (f : Frame). f.blocks) c.frames (length c.frames - 1) (λ f. record f { at = n }) (λ f. refl)

standing_length : (n : ℕ) (c : Scene) → length c.frames ≡ length (standing n c).frames
standing_length n c = sym (change_length c.frames (length c.frames - 1) (λ f. record f { at = n }))

home_roots : (c : Scene) (h : Option Home) (slot : ℕ) (a : Value) → roots_of (set_home c h slot a) ≡ roots_of c
home_roots c None slot a = refl
home_roots c (Some (InFrame k)) slot a = change_map (λ (f : Frame). f.root) c.frames k (λ f. record f { variables = slice_set f.variables slot a }) (λ f. refl)
home_roots c (Some (InMain m)) slot a = refl

home_blocks : (c : Scene) (h : Option Home) (slot : ℕ) (a : Value) → seen_of (set_home c h slot a) ≡ seen_of c
home_blocks c None slot a = refl
home_blocks c (Some (InFrame k)) slot a = change_map (λ (f : Frame). f.blocks) c.frames k (λ f. record f { variables = slice_set f.variables slot a }) (λ f. refl)
home_blocks c (Some (InMain m)) slot a = refl

module _ (p : Program) where
  enters_stands : (xs : List Told) (path : List ℕ) (n : ℕ) (s : State) → path ≡ path_of p (xs ++ enter_of n s ∷ []) → Stands p xs path s → Stands p (xs ++ enter_of n s ∷ []) path (tell n (length s.events) Enter s)
  enters_stands xs path n s q g = record {
    opened = open_push [] s.events (enter_of n s) ∙ ap (λ l. l ++ enter_of n s ∷ []) g.opened;
    framed = framed_push p [] s.events (enter_of n s) g.framed (record {
      roots = standing_roots n s.scene ∙ g.roots ∙ q ∙ ap (λ l. path_of p (l ++ enter_of n s ∷ [])) (sym g.opened);
      blocks = standing_blocks n s.scene ∙ g.blocks ∙ ap (blocks_along p) (q ∙ ap (λ l. path_of p (l ++ enter_of n s ∷ [])) (sym g.opened));
      depth = standing_length n s.scene;
    });
    roots = g.roots;
    blocks = g.blocks;
  }

  -- the innermost activation ends
  pub ends_stands : (xs : List Told) (path : List ℕ) (n opened : ℕ) (kind : EventKind) (s : State) (enter : Told) → is_enter kind ≡ false → path ≡ path_of p (xs ++ enter ∷ []) → Stands p (xs ++ enter ∷ []) path s → Stands p xs path (tell n opened kind s)
  ends_stands xs path n opened kind s enter e q g =
      let t : Told = record { event = record { number = length s.events; kind = kind; node = n; opened = opened; depth = length s.scene.frames }; scene = standing n s.scene } in
      let runs : run_at (open_from [] s.events) t ≡ xs ++ enter ∷ [] = ap (λ b. run_by b (open_from [] s.events) t) e ∙ g.opened in
      record {
        opened = open_push [] s.events t ∙ ap (λ b. opened_by b (open_from [] s.events) t) e ∙ ap but_last g.opened ∙ but_last-push xs enter;
        framed = framed_push p [] s.events t g.framed (record {
          roots = standing_roots n s.scene ∙ g.roots ∙ q ∙ ap (path_of p) (sym runs);
          blocks = standing_blocks n s.scene ∙ g.blocks ∙ ap (blocks_along p) (q ∙ ap (path_of p) (sym runs));
          depth = standing_length n s.scene;
        });
        roots = g.roots;
        blocks = g.blocks;
      }

  -- an assignment changes neither roots nor blocks
  pub assigned_stands : (xs : List Told) (path : List ℕ) (x : Meaning) (a : Value) (s : State) → Stands p xs path s → Stands p xs path (assigned x a s)
  assigned_stands xs path (Local up slot) a s g = record {
    opened = g.opened;
    framed = g.framed;
    roots = home_roots s.scene (slice_get (blocks_of (frame_of s.scene.frames 0)) up) slot a ∙ g.roots;
    blocks = home_blocks s.scene (slice_get (blocks_of (frame_of s.scene.frames 0)) up) slot a ∙ g.blocks;
  }
  assigned_stands xs path (Means i) a s g = g
  assigned_stands xs path Nothing a s g = g

  given_stands : (xs : List Told) (path : List ℕ) (n : ℕ) (s : State) → IsGiven p (Stands p) n xs path s → Stands p xs path s
  given_stands xs path n s h = ⊎_elim
      (λ (o : (is_assignment (node_at p n).kind ≡ false) × Stands p xs path s). o.1)
      (λ (c : IsChanged p (Stands p) n xs path s). subst (λ t. Stands p xs path t) (sym c.now) (assigned_stands xs path (node_at p n).meaning c.value c.before c.fits))
      h

  pushes_stands : (xs : List Told) (path : List ℕ) (f : Frame) (s : State) → path ≡ path_of p xs → IsFrameOf p path f → Stands p xs path s → Stands p xs (path ++ f.root ∷ []) (record s { scene = push_frame f s.scene })
  pushes_stands xs path f s q i g = record {
    opened = g.opened;
    framed = g.framed;
    roots = map_push (λ (f : Frame). f.root) s.scene.frames f ∙ ap (λ l. l ++ f.root ∷ []) g.roots;
    blocks = map_push (λ (f : Frame). f.blocks) s.scene.frames f ∙ ap (λ l. l ++ f.blocks ∷ []) g.blocks ∙ ap (λ b. blocks_along p path ++ b ∷ []) i ∙ sym (blocks_push p [] path f.root);
  }

  pops_stands : (xs : List Told) (path : List ℕ) (root : ℕ) (s : State) → path ≡ path_of p xs → Stands p xs (path ++ root ∷ []) s → Stands p xs path (popped s)
  pops_stands xs path root s q g = record {
    opened = g.opened;
    framed = g.framed;
    roots = map_pop (λ (f : Frame). f.root) s.scene.frames path root g.roots;
    blocks = map_pop (λ (f : Frame). f.blocks) s.scene.frames (blocks_along p path) (blocks_for (node_at p root) (blocks_along p path)) (g.blocks ∙ blocks_push p [] path root);
  }

  pub standing_rules : Rules p (Stands p)
  standing_rules = record {
    fuel = λ xs path less s g. record { opened = g.opened; framed = g.framed; roots = g.roots; blocks = g.blocks };
    output = λ xs path bytes s g. record { opened = g.opened; framed = g.framed; roots = g.roots; blocks = g.blocks };
    stands = λ xs path n s g. record { opened = g.opened; framed = g.framed; roots = standing_roots n s.scene ∙ g.roots; blocks = standing_blocks n s.scene ∙ g.blocks };
    enters = enters_stands;
    gives = λ xs path n opened a s enter i j q g. ends_stands xs path n opened (Gave a) s enter refl q (given_stands (xs ++ enter ∷ []) path n s g);
    leaves = λ xs path n opened cause s enter i j q g. ends_stands xs path n opened (Leave cause) s enter refl q g;
    silent = λ xs path n s e g. given_stands xs path n s g;
    pushes = pushes_stands;
    pops = pops_stands;
    blocks = λ xs path s g. g.blocks;
  }

  pub meaning_framed : (v : Verdicts) (fuel entry : ℕ) → AreRooted p → RunsParts p → AreFramed p [] (meaning_of p entry fuel v).events
  meaning_framed v fuel entry rooted parts =
      let r : IsReached (Stands p) (meaning_of p entry fuel v).events = meaning_keeps p (Stands p) standing_rules rooted parts v fuel entry (record { opened = refl; framed = tt; roots = refl; blocks = refl }) in
      subst (λ ts. AreFramed p [] ts) r.events_are r.fits.framed

-- What is read from the ledger is what the definition says.
use Rattle.std.proofs.Common.{◌≡◌, ℕ, zero, suc, Bool, true, false, cond, ◌&&◌, List, [], ◌∷◌, ◌++◌, length, map, take, Option, Some, None, refl, sym, ap, subst, ◌∙◌, ⊎_elim, append_assoc}
use Rattle.std.specs.Prelude.{◌+◌, ◌==◌, slice_get}
use Rattle.std.specs.List.{All, AllByRecursion, range_with_len}
use Rattle.std.proofs.lemmas.Bool.{cases_Bool, and_right}
use Rattle.std.proofs.lemmas.Option.{same_Some}
use Rattle.std.proofs.lemmas.List.Elements.{recursion_from_All}
use Rattle.pd_values.specs.declared.value.Tag.TheVariants.{WriteVariable}
use Rattle.pd_tree.specs.declared.kind.Meaning.{Meaning}
use Rattle.pd_tree.specs.declared.kind.Meaning.TheVariants.{Local, Item as Means, Nothing}
use Rattle.pd_tree.specs.declared.kind.Visible.{Visible}
use Rattle.pd_tree.specs.Program.{Program, node_at, has_tag}
use Rattle.pd_machine.specs.declared.run.Home.{Home}
use Rattle.pd_machine.specs.declared.run.Home.TheVariants.{InFrame, InMain}
use Rattle.pd_machine.specs.Events.{Told, frame_of, blocks_of}
use Rattle.pd_running.specs.Running.{is_enter, roots_in, running_at, moments_after, moments, marks_where}
use Rattle.pd_running.specs.Nested.{Opening, IsNested}
use Rattle.pd_running.specs.Laws.{next_open, run_by, run_at, stacked_by, running_with}
use Rattle.pd_running.proofs.Stack.{append_none, stack_runs, none_stacked}
use Rattle.pd_framing.specs.Framing.{IsFramed, blocks_seen}
use Rattle.pd_framing.proofs.Lists.{blocks_frame}
use Rattle.pd_framing.proofs.Framing.{open_from}
use Rattle.pd_origins.specs.declared.Origin.TheVariants.{Start, Initial}
use Rattle.pd_origins.specs.Origins.{Owner, of_activation, of_main, of_none, owner_among, owner_by, place_by, place_seen, same_owner, is_return, assigns_to, writes_to, or_else, last_among, origin_by, origin_of, shown, frame_origins, origins_at}
use Rattle.pd_origins.specs.declared.ledger.Live.{Live}
use Rattle.pd_origins.specs.Ledger.{Ledger, no_ledger, seen_by, ledger_at, by_or, origin_in, origin_there, origins_read, frames_read}
use Rattle.pd_origins.specs.Laws.{is_noted, shown_at}
use Rattle.pd_origins.proofs.Kept.{IsKept, none_kept, wider_kept, owner_live, owner_gone}
use Rattle.pd_origins.proofs.Walked.{IsSeenAt, AreSeen, begun_kept, walked, counted, walk_kept, nested_from, from_parts, shown_by, ledger_told}

-- ---- one variable

module _ (p : Program) where
  -- nothing writes to what isn't there
  no_place : (y : Owner) → same_owner y of_none ≡ false
  no_place (of_activation a) = refl
  no_place (of_main m) = refl
  no_place of_none = refl

  none_written : (slot : ℕ) (m : List Told × Told) → writes_to p (record { owner = of_none; slot = slot }) m ≡ false
  none_written slot m = and_right (is_return m.1.event.kind) _ (and_right (has_tag (node_at p m.1.event.node).tags WriteVariable) _ (by (node_at p m.1.event.node).meaning))
    where
      by : (x : Meaning) → assigns_to p m.0 m.1 (record { owner = of_none; slot = slot }) x ≡ false
      by (Local up s) = ap (λ b. b && (s == slot)) (no_place (place_by p m.0 m.1 0 up s).owner)
      by (Means i) = refl
      by Nothing = refl

  none_last : (slot : ℕ) (done : List (List Told × Told)) → last_among p (record { owner = of_none; slot = slot }) done ≡ None
  none_last slot [] = refl
  none_last slot (m ∷ done) = ap (λ o. or_else o (cond (writes_to p (record { owner = of_none; slot = slot }) m) (Some m.1.event.number) None)) (none_last slot done) ∙ ap (λ b. cond b (Some m.1.event.number) None) (none_written slot m)

  by_start : (a : ℕ) (o : Option ℕ) → by_or (Start a) o ≡ origin_by (of_activation a) o
  by_start a None = refl
  by_start a (Some e) = refl

  by_initial : (m : ℕ) (o : Option ℕ) → by_or Initial o ≡ origin_by (of_main m) o
  by_initial m None = refl
  by_initial m (Some e) = refl

  module _ (runs : List Told) (done : List (List Told × Told)) (n : ℕ) (l : Ledger) (g : IsKept p (roots_in p runs) done n l) where
    there_none : (slot : ℕ) (o : Owner) → o ≡ of_none → Initial ≡ origin_by o (last_among p (record { owner = o; slot = slot }) done)
    there_none slot o e = subst (λ o. Initial ≡ origin_by o (last_among p (record { owner = o; slot = slot }) done)) (sym e) (ap (origin_by of_none) (sym (none_last slot done)))

    pub there_read : (home : Option Home) (slot : ℕ) → origin_there l home slot ≡ origin_by (owner_by p runs home) (last_among p (record { owner = owner_by p runs home; slot = slot }) done)
    there_read None slot = there_none slot of_none refl
    there_read (Some (InFrame k)) slot = by (slice_get l.live k) refl
      where
        by : (o : Option Live) → slice_get l.live k ≡ o → origin_in (slice_get l.live k) slot ≡ origin_by (owner_among (slice_get (roots_in p runs) k)) (last_among p (record { owner = owner_among (slice_get (roots_in p runs) k); slot = slot }) done)
        by None e = ap (λ o. origin_in o slot) e ∙ there_none slot _ (owner_gone p (roots_in p runs) done n l g k e)
        by (Some x) e =
            ap (λ o. origin_in o slot) e
            ∙ ap (by_or (Start x.start)) (g.writes k x e slot)
            ∙ by_start x.start (last_among p (record { owner = of_activation x.start; slot = slot }) done)
            ∙ ap (λ o. origin_by o (last_among p (record { owner = o; slot = slot }) done)) (sym (owner_live p (roots_in p runs) done n l g k x e))
    there_read (Some (InMain m)) slot = ap (by_or Initial) (g.mains m slot) ∙ by_initial m (last_among p (record { owner = of_main m; slot = slot }) done)

-- ---- lists

map_same : {A B : Type 0} (f g : A → B) → ((x : A) → f x ≡ g x) → (xs : List A) → map f xs ≡ map g xs
map_same f g h [] = refl
map_same f g h (x ∷ xs) = cc (h x, map_same f g h xs)

frames_range : (l : Ledger) (f : ℕ → List Visible) (i n : ℕ) → frames_read l i (map f (range_with_len i n)) ≡ map (λ j. origins_read l j (f j)) (range_with_len i n)
frames_range l f i zero = refl
frames_range l f i (suc n) = ap (λ os. origins_read l i (f i) ∷ os) (frames_range l f (i + 1) n)

push_same : {A : Type 0} (xs ys : List A) (x y : A) → xs ++ x ∷ [] ≡ ys ++ y ∷ [] → (xs ≡ ys) × (x ≡ y)
push_same [] [] x y e = (refl, cc)
push_same [] (b ∷ []) x y e = absurd (cc)
push_same [] (b ∷ c ∷ ys) x y e = absurd (cc)
push_same (a ∷ []) [] x y e = absurd (cc)
push_same (a ∷ b ∷ xs) [] x y e = absurd (cc)
push_same (a ∷ xs) (b ∷ ys) x y e =
    let head : a ≡ b = cc in
    let tail : xs ++ x ∷ [] ≡ ys ++ y ∷ [] = cc in
    let r = push_same xs ys x y tail in
    (cc (head, r.0), r.1)

-- the events before one
pub record IsSplit (events : List Told) (e : ℕ) (t : Told) : Type 0 where
  pub past : List Told
  pub rest : List Told
  pub events_are : events ≡ past ++ t ∷ rest
  pub taken : take e events ≡ past
  pub number : length past ≡ e

pub split_at : (events : List Told) (e : ℕ) (t : Told) → slice_get events e ≡ Some t → IsSplit events e t
split_at [] e t h = absurd (cc)
split_at (x ∷ xs) zero t h = record { past = []; rest = xs; events_are = ap (λ y. y ∷ xs) (same_Some x t h); taken = refl; number = refl }
split_at (x ∷ xs) (suc e) t h =
    let r = split_at xs e t h in
    record { past = x ∷ r.past; rest = r.rest; events_are = ap (λ ys. x ∷ ys) r.events_are; taken = ap (λ ys. x ∷ ys) r.taken; number = ap suc r.number }

-- ---- what runs at an event

moments_push : (q past : List Told) (t : Told) → moments_after q (past ++ t ∷ []) ≡ moments_after q past ++ (q ++ past, t) ∷ []
moments_push q [] t = ap (λ l. (l, t) ∷ []) (sym (append_none q))
moments_push q (x ∷ past) t =
    ap (λ ms. (q, x) ∷ ms) (moments_push (q ++ x ∷ []) past t ∙ ap (λ l. moments_after (q ++ x ∷ []) past ++ (l, t) ∷ []) (append_assoc q (x ∷ []) past))

pub stacked_push : (live past : List Told) (t : Told) → stacked_by live (past ++ t ∷ []) ≡ stacked_by live past ++ (run_at (open_from live past) t, t) ∷ []
stacked_push live [] t = refl
stacked_push live (x ∷ past) t = ap (λ rs. (run_at live x, x) ∷ rs) (stacked_push (next_open live x) past t)

map_push : {A B : Type 0} (f : A → B) (xs : List A) (x : A) → map f (xs ++ x ∷ []) ≡ map f xs ++ f x ∷ []
map_push f [] x = refl
map_push f (y ∷ xs) x = ap (λ ys. f y ∷ ys) (map_push f xs x)

-- the first ones of nested events are nested
pub nested_first : (ts rest live : List Told) (n : ℕ) → IsNested live n (ts ++ rest) → IsNested live n ts
nested_first [] rest live n h = tt
nested_first (t ∷ ts) rest live n h = (h.0, by (is_enter t.event.kind) (λ o k. nested_first ts rest o (suc n) k) h.1)
  where
    by : (b : Bool) → ((o : List Told) → IsNested o (suc n) (ts ++ rest) → IsNested o (suc n) ts) → Opening b live t (λ o. IsNested o (suc n) (ts ++ rest)) → Opening b live t (λ o. IsNested o (suc n) ts)
    by true go k = go (live ++ t ∷ []) k
    by false go k = (k.0, go k.0.rest k.1)

-- before the last one, and at it
pub record IsStacked (past : List Told) (t : Told) : Type 0 where
  pub before : map running_with (moments past) ≡ stacked_by [] past
  pub here : running_at past t ≡ run_at (open_from [] past) t

pub stacked_at : (past : List Told) (t : Told) → IsNested [] 0 (past ++ t ∷ []) → IsStacked past t
stacked_at past t h =
    let whole : map running_with (moments past) ++ (running_at past t, t) ∷ [] ≡ stacked_by [] past ++ (run_at (open_from [] past) t, t) ∷ [] =
    sym (ap (map running_with) (moments_push [] past t) ∙ map_push running_with (moments past) (past, t)) ∙ stack_runs (past ++ t ∷ []) [] [] 0 none_stacked h ∙ stacked_push [] past t in
    let r = push_same (map running_with (moments past)) (stacked_by [] past) (running_at past t, t) (run_at (open_from [] past) t, t) whole in
    record { before = r.0; here = ap (λ (m : List Told × Told). m.0) r.1 }

-- the ledger when an event of a run is shown
pub record IsShown (p : Program) (past : List Told) (t : Told) : Type 0 where
  pub stacked : IsStacked past t
  pub number : ℕ
  pub kept : IsKept p (roots_in p (run_at (open_from [] past) t)) (stacked_by [] past) number (shown_by p (is_enter t.event.kind) (walked p no_ledger past) t)
  pub seen : IsSeenAt p (run_at (open_from [] past) t) t

-- ---- the frames of events

module _ (p : Program) where
  seen_moments : (ms : List (List Told × Told)) → AllByRecursion (λ (m : List Told × Told). IsFramed p m.0 m.1) ms → AllByRecursion (λ (r : List Told × Told). IsSeenAt p r.0 r.1) (map running_with ms)
  seen_moments [] h = tt
  seen_moments (m ∷ ms) h = (h.0.blocks, seen_moments ms h.1)

  seen_stacked : (live ts : List Told) → AllByRecursion (λ (r : List Told × Told). IsSeenAt p r.0 r.1) (stacked_by live ts) → AreSeen p live ts
  seen_stacked live [] h = tt
  seen_stacked live (t ∷ ts) h = (h.0, seen_stacked (next_open live t) ts h.1)

  pub framed_seen : (events : List Told) → IsNested [] 0 events → All (λ (m : List Told × Told). IsFramed p m.0 m.1) (moments events) → AreSeen p [] events
  framed_seen events nested framed =
      seen_stacked [] events
      (subst (λ rs. AllByRecursion (λ (r : List Told × Told). IsSeenAt p r.0 r.1) rs) (stack_runs events [] [] 0 none_stacked nested)
      (seen_moments (moments events) (recursion_from_All (λ (m : List Told × Told). IsFramed p m.0 m.1) (moments events) framed)))

  seen_parts : (past rest live : List Told) → AreSeen p live (past ++ rest) → AreSeen p live past × AreSeen p (open_from live past) rest
  seen_parts [] rest live h = (tt, h)
  seen_parts (t ∷ past) rest live h = let r = seen_parts past rest (next_open live t) h.1 in ((h.0, r.0), r.1)

  -- ---- an event

  -- the ledger when it is shown, with what runs at it
  shown_kept : (live : List Told) (done : List (List Told × Told)) (n : ℕ) (l : Ledger) (t : Told) → t.event.number ≡ n → IsKept p (roots_in p live) done n l → IsKept p (roots_in p (run_at live t)) done (suc n) (shown_by p (is_enter t.event.kind) l t)
  shown_kept live done n l t number g =
      ⊎_elim
      (λ (e : is_enter t.event.kind ≡ true). subst (λ b. IsKept p (roots_in p (run_by b live t)) done (suc n) (shown_by p b l t)) (sym e) (begun_kept p live done n l t e number g))
      (λ (e : is_enter t.event.kind ≡ false). subst (λ b. IsKept p (roots_in p (run_by b live t)) done (suc n) (shown_by p b l t)) (sym e) (wider_kept p (roots_in p live) done n l g))
      (cases_Bool (is_enter t.event.kind))

  -- what is read of a variable that frame i sees
  pub one_told : (past : List Told) (t : Told) (n : ℕ) (l : Ledger) → IsStacked past t → IsKept p (roots_in p (run_at (open_from [] past) t)) (stacked_by [] past) n l → IsSeenAt p (run_at (open_from [] past) t) t
      → (i up slot : ℕ) → origin_there l (slice_get (blocks_of (frame_of t.scene.frames i)) up) slot ≡ origin_of p past (place_seen p past t i up slot)
  one_told past t n l s g seen i up slot =
      there_read p (run_at (open_from [] past) t) (stacked_by [] past) n l g (slice_get (blocks_of (frame_of t.scene.frames i)) up) slot
      ∙ ap (λ rs. origin_by (owner_by p rs (slice_get (blocks_of (frame_of t.scene.frames i)) up)) (last_among p (record { owner = owner_by p rs (slice_get (blocks_of (frame_of t.scene.frames i)) up); slot = slot }) (stacked_by [] past))) (sym s.here)
      ∙ ap (λ d. origin_by (place_seen p past t i up slot).owner (last_among p (place_seen p past t i up slot) d)) (sym s.before)

  -- what each frame shows
  frames_told : (past : List Told) (t : Told) (n : ℕ) (l : Ledger) → IsStacked past t → IsKept p (roots_in p (run_at (open_from [] past) t)) (stacked_by [] past) n l → IsSeenAt p (run_at (open_from [] past) t) t
      → frames_read l 0 (shown_at p t) ≡ origins_at p past t
  frames_told past t n l s g seen =
      frames_range l (λ i. shown p (frame_of t.scene.frames i)) 0 (length t.scene.frames)
      ∙ map_same (λ i. origins_read l i (shown p (frame_of t.scene.frames i))) (frame_origins p past t) (λ i. map_same (λ x. origin_there l (slice_get (blocks_seen (seen_by l) i) x.up) x.slot) (λ x. origin_of p past (place_seen p past t i x.up x.slot)) (one i) (shown p (frame_of t.scene.frames i))) (range_with_len 0 (length t.scene.frames))
    where
      one : (i : ℕ) (x : Visible) → origin_there l (slice_get (blocks_seen (seen_by l) i) x.up) x.slot ≡ origin_of p past (place_seen p past t i x.up x.slot)
      one i x =
          ap (λ bs. origin_there l (slice_get bs x.up) x.slot) (sym (blocks_frame t.scene.frames i ∙ ap (λ bs. blocks_seen bs i) (seen ∙ sym g.blocks)))
          ∙ one_told past t n l s g seen i x.up x.slot

  pub shown_in : (past rest : List Told) (t : Told) → IsNested [] 0 (past ++ t ∷ rest) → AreSeen p [] (past ++ t ∷ rest) → IsShown p past t
  shown_in past rest t nested seen =
      let parts = seen_parts past (t ∷ rest) [] seen in
      let one : IsNested [] 0 (past ++ t ∷ []) = nested_first (past ++ t ∷ []) rest [] 0 (subst (λ l. IsNested [] 0 l) (sym (append_assoc past (t ∷ []) rest)) nested) in
      let kept : IsKept p (roots_in p (open_from [] past)) (stacked_by [] past) (counted p 0 past) (walked p no_ledger past) = walk_kept p past [] [] 0 no_ledger (none_kept p) (nested_first past (t ∷ rest) [] 0 nested) parts.0 in
      record {
        stacked = stacked_at past t one;
        number = suc (counted p 0 past);
        kept = shown_kept (open_from [] past) (stacked_by [] past) (counted p 0 past) (walked p no_ledger past) t (from_parts p past (t ∷ rest) 0 (nested_from p (past ++ t ∷ rest) [] 0 nested)).1.0 kept;
        seen = parts.1.0;
      }

  told_at : (past rest : List Told) (t : Told) (e : ℕ) → IsNested [] 0 (past ++ t ∷ rest) → AreSeen p [] (past ++ t ∷ rest) → length past ≡ e
      → frames_read (ledger_at p e no_ledger (marks_where (is_noted p) (past ++ t ∷ rest))) 0 (shown_at p t) ≡ origins_at p past t
  told_at past rest t e nested seen number =
      let x : IsShown p past t = shown_in past rest t nested seen in
      ap (λ l. frames_read l 0 (shown_at p t)) (ledger_told p past rest t e no_ledger (nested_from p (past ++ t ∷ rest) [] 0 nested) number)
      ∙ frames_told past t x.number (shown_by p (is_enter t.event.kind) (walked p no_ledger past) t) x.stacked x.kept x.seen

pub ledgers_tell : (p : Program) (events : List Told) → IsNested [] 0 events → All (λ (m : List Told × Told). IsFramed p m.0 m.1) (moments events)
    → (e : ℕ) (t : Told) → slice_get events e ≡ Some t
    → frames_read (ledger_at p e no_ledger (marks_where (is_noted p) events)) 0 (shown_at p t) ≡ origins_at p (take e events) t
ledgers_tell p events nested framed e t at =
    let s : IsSplit events e t = split_at events e t at in
    subst (λ l. frames_read (ledger_at p e no_ledger (marks_where (is_noted p) l)) 0 (shown_at p t) ≡ origins_at p (take e events) t) (sym s.events_are)
    (told_at p s.past s.rest t e (subst (λ l. IsNested [] 0 l) s.events_are nested) (subst (λ l. AreSeen p [] l) s.events_are (framed_seen p events nested framed)) s.number
    ∙ ap (λ l. origins_at p l t) (sym s.taken))

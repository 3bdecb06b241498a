-- What the ledger keeps while events happen: the functions and procedures that run, the blocks that they see, and for each variable its
-- last write.
use Rattle.std.proofs.Common.{◌≡◌, ℕ, suc, Bool, true, false, cond, ◌&&◌, List, [], ◌∷◌, ◌++◌, length, map, Option, Some, None, refl, sym, ap, subst, ◌∙◌, ⊎_elim, arith}
use Rattle.std.specs.Prelude.{◌==◌, ◌<◌, ◌≤◌, slice_get}
use Rattle.std.specs.Option.{option_map}
use Rattle.std.proofs.lemmas.Bool.{cases_Bool, eqb-true}
use Rattle.std.proofs.lemmas.Option.{same_Some, slice_get-map}
use Rattle.pd_values.specs.declared.value.Tag.TheVariants.{WriteVariable}
use Rattle.pd_tree.specs.declared.kind.Meaning.{Meaning}
use Rattle.pd_tree.specs.declared.kind.Meaning.TheVariants.{Local, Item as Means, Nothing}
use Rattle.pd_tree.specs.Program.{Program, node_at, has_tag}
use Rattle.pd_machine.specs.declared.run.Home.{Home}
use Rattle.pd_machine.specs.declared.run.Home.TheVariants.{InFrame, InMain}
use Rattle.pd_machine.specs.Events.{Told, change_at, frame_of, blocks_of}
use Rattle.pd_running.specs.Running.{roots_in, nodes_in, mark_of}
use Rattle.pd_running.specs.Laws.{but_last}
use Rattle.pd_running.proofs.Stack.{but_last-push}
use Rattle.pd_framing.specs.Framing.{blocks_seen, blocks_for, blocks_along}
use Rattle.pd_framing.proofs.Lists.{change_map, map_push, blocks_push}
use Rattle.pd_origins.specs.Origins.{Owner, of_activation, of_main, of_none, owner_among, owner_by, Place, same_owner, same_place, is_return, assigns_to, writes_to, or_else, last_among}
use Rattle.pd_origins.specs.declared.ledger.Live.{Live}
use Rattle.pd_origins.specs.Ledger.{Ledger, no_ledger, seen_by, latest, put, latest_in, entered, left, noted, assigned, written}
use Rattle.pd_origins.proofs.Puts.{latest_put, latest_put_in, self_same}
use Rattle.pd_origins.proofs.Gets.{get_push, get_but_last, map_but_last, IsHere, get_change}

-- ---- the last write among events with one more

or_none : (a : Option ℕ) → or_else a None ≡ a
or_none None = refl
or_none (Some e) = refl

or_again : (a b c : Option ℕ) → or_else (or_else a b) c ≡ or_else a (or_else b c)
or_again None b c = refl
or_again (Some e) b c = refl

abbrev written_at : Program → Place → List Told × Told → Option ℕ
written_at p x m = cond (writes_to p x m) (Some m.1.event.number) None

last_push : (p : Program) (x : Place) (done : List (List Told × Told)) (m : List Told × Told) → last_among p x (done ++ m ∷ []) ≡ or_else (written_at p x m) (last_among p x done)
last_push p x [] m = sym (or_none (written_at p x m))
last_push p x (y ∷ done) m = ap (λ o. or_else o (written_at p x y)) (last_push p x done m) ∙ or_again (written_at p x m) (last_among p x done) (written_at p x y)

-- where the event is no write of it
last_same : (p : Program) (x : Place) (done : List (List Told × Told)) (m : List Told × Told) → writes_to p x m ≡ false → last_among p x (done ++ m ∷ []) ≡ last_among p x done
last_same p x done m e = last_push p x done m ∙ ap (λ b. or_else (cond b (Some m.1.event.number) None) (last_among p x done)) e

-- ---- owners

not_same : (a b : ℕ) → (a ≡ b → ⊥) → (a == b) ≡ false
not_same a b h = ⊎_elim (λ (t : (a == b) ≡ true). absurd (h (eqb-true a b t))) (λ (f : (a == b) ≡ false). f) (cases_Bool (a == b))

owner_from : (o : Option Told) (a : ℕ) → option_map (λ (t : Told). t.event.number) o ≡ Some a → owner_among o ≡ of_activation a
owner_from None a e = absurd (cc)
owner_from (Some t) a e = ap of_activation (same_Some t.event.number a e)

owner_past : (o : Option Told) → option_map (λ (t : Told). t.event.number) o ≡ None → owner_among o ≡ of_none
owner_past None e = refl
owner_past (Some t) e = absurd (cc)

none_owner : (o : Owner) → same_owner of_none o ≡ false
none_owner (of_activation a) = refl
none_owner (of_main m) = refl
none_owner of_none = refl

activation_no_main : (o : Option Told) (m : ℕ) → same_owner (owner_among o) (of_main m) ≡ false
activation_no_main None m = refl
activation_no_main (Some t) m = refl

-- ---- what is kept

-- the ledger after these events, each with what runs at it, where these functions and procedures are open, and the next event has number n
pub record IsKept (p : Program) (roots : List Told) (done : List (List Told × Told)) (n : ℕ) (l : Ledger) : Type 0 where
  pub starts : map (λ (x : Live). x.start) l.live ≡ map (λ (t : Told). t.event.number) roots
  pub blocks : seen_by l ≡ blocks_along p (nodes_in roots)
  pub below : (k : ℕ) (x : Live) → slice_get l.live k ≡ Some x → x.start < n
  pub once : (j k : ℕ) (x y : Live) → slice_get l.live j ≡ Some x → slice_get l.live k ≡ Some y → x.start ≡ y.start → j ≡ k
  pub writes : (k : ℕ) (x : Live) → slice_get l.live k ≡ Some x → (slot : ℕ) → latest slot x.last ≡ last_among p (record { owner = of_activation x.start; slot = slot }) done
  pub mains : (source slot : ℕ) → latest_in source slot l.mains ≡ last_among p (record { owner = of_main source; slot = slot }) done
  pub fresh : (a slot : ℕ) → n ≤ a → last_among p (record { owner = of_activation a; slot = slot }) done ≡ None

pub none_kept : (p : Program) → IsKept p [] [] 0 no_ledger
none_kept p = record {
  starts = refl;
  blocks = refl;
  below = λ k x h. absurd (cc h);
  once = λ j k x y h i e. absurd (cc h);
  writes = λ k x h slot. absurd (cc h);
  mains = λ source slot. refl;
  fresh = λ a slot h. refl;
}

pub wider_kept : (p : Program) (roots : List Told) (done : List (List Told × Told)) (n : ℕ) (l : Ledger) → IsKept p roots done n l → IsKept p roots done (suc n) l
wider_kept p roots done n l g = record {
  starts = g.starts;
  blocks = g.blocks;
  below = λ k x h. (let b = g.below k x h in omega (arith, b));
  once = g.once;
  writes = g.writes;
  mains = g.mains;
  fresh = λ a slot h. g.fresh a slot (omega (arith, h));
}

pub quiet_kept : (p : Program) (roots : List Told) (done : List (List Told × Told)) (n : ℕ) (l : Ledger) (m : List Told × Told) → ((x : Place) → writes_to p x m ≡ false) → IsKept p roots done n l → IsKept p roots (done ++ m ∷ []) n l
quiet_kept p roots done n l m q g = record {
  starts = g.starts;
  blocks = g.blocks;
  below = g.below;
  once = g.once;
  writes = λ k x h slot. g.writes k x h slot ∙ sym (last_same p _ done m (q _));
  mains = λ source slot. g.mains source slot ∙ sym (last_same p _ done m (q _));
  fresh = λ a slot h. last_same p _ done m (q _) ∙ g.fresh a slot h;
}

-- the owner of what stands in a frame
owner_of : (p : Program) (roots : List Told) (done : List (List Told × Told)) (n : ℕ) (l : Ledger) → IsKept p roots done n l → (k : ℕ) (o : Option Live) → slice_get l.live k ≡ o → option_map (λ (t : Told). t.event.number) (slice_get roots k) ≡ option_map (λ (x : Live). x.start) o
owner_of p roots done n l g k o e =
    sym (slice_get-map (λ (t : Told). t.event.number) roots k) ∙ ap (λ ks. slice_get ks k) (sym g.starts) ∙ slice_get-map (λ (x : Live). x.start) l.live k ∙ ap (option_map (λ (x : Live). x.start)) e

pub owner_live : (p : Program) (roots : List Told) (done : List (List Told × Told)) (n : ℕ) (l : Ledger) → IsKept p roots done n l → (k : ℕ) (x : Live) → slice_get l.live k ≡ Some x → owner_among (slice_get roots k) ≡ of_activation x.start
owner_live p roots done n l g k x e = owner_from (slice_get roots k) x.start (owner_of p roots done n l g k (Some x) e)

pub owner_gone : (p : Program) (roots : List Told) (done : List (List Told × Told)) (n : ℕ) (l : Ledger) → IsKept p roots done n l → (k : ℕ) → slice_get l.live k ≡ None → owner_among (slice_get roots k) ≡ of_none
owner_gone p roots done n l g k e = owner_past (slice_get roots k) (owner_of p roots done n l g k None e)

-- ---- an activation begins

abbrev begun : Program → Ledger → Told → Live
begun p l t = record { start = t.event.number; blocks = blocks_for (node_at p t.event.node) (seen_by l); last = [] }

pub entered_kept : (p : Program) (roots : List Told) (done : List (List Told × Told)) (n : ℕ) (l : Ledger) (t : Told) → t.event.number ≡ n → IsKept p roots done n l → IsKept p (roots ++ t ∷ []) done (suc n) (entered p l (mark_of t))
entered_kept p roots done n l t number g = record {
  starts = map_push (λ (x : Live). x.start) l.live (begun p l t) ∙ ap (λ ks. ks ++ t.event.number ∷ []) g.starts ∙ sym (map_push (λ (t : Told). t.event.number) roots t);
  blocks = map_push (λ (x : Live). x.blocks) l.live (begun p l t)
      ∙ ap (λ bs. bs ++ blocks_for (node_at p t.event.node) bs ∷ []) g.blocks
      ∙ sym (blocks_push p [] (nodes_in roots) t.event.node)
      ∙ ap (blocks_along p) (sym (map_push (λ (t : Told). t.event.node) roots t));
  below = λ k x h. ⊎_elim
      (λ (a : slice_get l.live k ≡ Some x). let b = g.below k x a in wide x.start b)
      (λ (b : (k ≡ length l.live) × ((begun p l t) ≡ x)). subst (λ y. y.start < suc n) b.1 (newest t.event.number number))
      (get_push l.live (begun p l t) x k h);
  once = λ j k x y h i e. ⊎_elim
      (λ (a : slice_get l.live j ≡ Some x). ⊎_elim
      (λ (b : slice_get l.live k ≡ Some y). g.once j k x y a b e)
      (λ (b : (k ≡ length l.live) × ((begun p l t) ≡ y)). absurd (apart x.start y.start (g.below j x a) e (sym (ap (λ z. z.start) b.1) ∙ number)))
      (get_push l.live (begun p l t) y k i))
      (λ (a : (j ≡ length l.live) × ((begun p l t) ≡ x)). ⊎_elim
      (λ (b : slice_get l.live k ≡ Some y). absurd (apart y.start x.start (g.below k y b) (sym e) (sym (ap (λ z. z.start) a.1) ∙ number)))
      (λ (b : (k ≡ length l.live) × ((begun p l t) ≡ y)). a.0 ∙ sym b.0)
      (get_push l.live (begun p l t) y k i))
      (get_push l.live (begun p l t) x j h);
  writes = λ k x h slot. ⊎_elim
      (λ (a : slice_get l.live k ≡ Some x). g.writes k x a slot)
      (λ (b : (k ≡ length l.live) × ((begun p l t) ≡ x)). subst (λ y. latest slot y.last ≡ last_among p (record { owner = of_activation y.start; slot = slot }) done) b.1 (sym (g.fresh t.event.number slot (reached t.event.number number))))
      (get_push l.live (begun p l t) x k h);
  mains = g.mains;
  fresh = λ a slot h. g.fresh a slot (omega (arith, h));
}
  where
    wide : (k : ℕ) → k < n → k < suc n
    wide k h = omega (arith, h)

    newest : (k : ℕ) → k ≡ n → k < suc n
    newest k e = omega (arith, e)

    reached : (k : ℕ) → k ≡ n → n ≤ k
    reached k e = omega (arith, e)

    apart : (a b : ℕ) → a < n → a ≡ b → b ≡ n → ⊥
    apart a b h e f = omega (arith, h, e, f)

-- ---- one ends

pub closed_kept : (p : Program) (roots : List Told) (inner : Told) (done : List (List Told × Told)) (n : ℕ) (l : Ledger) → IsKept p (roots ++ inner ∷ []) done n l → IsKept p roots done n (left l)
closed_kept p roots inner done n l g = record {
  starts = map_but_last (λ (x : Live). x.start) l.live ∙ ap but_last (g.starts ∙ map_push (λ (t : Told). t.event.number) roots inner) ∙ but_last-push (map (λ (t : Told). t.event.number) roots) inner.event.number;
  blocks = map_but_last (λ (x : Live). x.blocks) l.live
      ∙ ap but_last (g.blocks ∙ ap (blocks_along p) (map_push (λ (t : Told). t.event.node) roots inner) ∙ blocks_push p [] (nodes_in roots) inner.event.node)
      ∙ but_last-push (blocks_along p (nodes_in roots)) (blocks_for (node_at p inner.event.node) (blocks_along p (nodes_in roots)));
  below = λ k x h. g.below k x (get_but_last l.live x k h);
  once = λ j k x y h i e. g.once j k x y (get_but_last l.live x j h) (get_but_last l.live y k i) e;
  writes = λ k x h slot. g.writes k x (get_but_last l.live x k h) slot;
  mains = g.mains;
  fresh = g.fresh;
}

-- ---- a write

-- where an end writes: to no variable, or to one in this slot of the block that stands there
pub record Target (p : Program) (runs : List Told) (t : Told) (l : Ledger) : Type 0 where
  pub home : Option Home
  pub slot : ℕ
  pub writes : written p l (mark_of t) ≡ noted l home slot t.event.number
  pub hits : (x : Place) → writes_to p x (runs, t) ≡ same_place (record { owner = owner_by p runs home; slot = slot }) x

none_place : (x : Place) → same_place (record { owner = of_none; slot = 0 }) x ≡ false
none_place x = ap (λ b. b && (0 == x.slot)) (none_owner x.owner)

abbrev TargetBy : Program → List Told → Told → Ledger → Bool → Bool → Meaning → Type 0
TargetBy p runs t l r g m = (home : Option Home) × (slot : ℕ) × (cond (r && g) (assigned l m t.event.number) l ≡ noted l home slot t.event.number)
    × ((x : Place) → (r && (g && assigns_to p runs t x m)) ≡ same_place (record { owner = owner_by p runs home; slot = slot }) x)

pub target_of : (p : Program) (runs : List Told) (t : Told) (l : Ledger) → blocks_of (frame_of t.scene.frames 0) ≡ blocks_seen (seen_by l) 0 → Target p runs t l
target_of p runs t l e =
    let r = by (is_return t.event.kind) (has_tag (node_at p t.event.node).tags WriteVariable) (node_at p t.event.node).meaning in
    record { home = r.0; slot = r.1; writes = r.2; hits = r.3 }
  where
    by : (r g : Bool) (m : Meaning) → TargetBy p runs t l r g m
    by false g m = (None, 0, refl, λ x. sym (none_place x))
    by true false m = (None, 0, refl, λ x. sym (none_place x))
    by true true (Local up slot) = (slice_get (blocks_seen (seen_by l) 0) up, slot, refl, λ x. ap (λ bs. same_place (record { owner = owner_by p runs (slice_get bs up); slot = slot }) x) e)
    by true true (Means i) = (None, 0, refl, λ x. sym (none_place x))
    by true true Nothing = (None, 0, refl, λ x. sym (none_place x))

-- the later one of a slot, where the slots are the same, and else the earlier one
picked : (q : Bool) (e : ℕ) (a b : Option ℕ) → a ≡ b → cond q (Some e) a ≡ or_else (cond q (Some e) None) b
picked true e a b h = refl
picked false e a b h = h

module _ (p : Program) (roots : List Told) (done : List (List Told × Told)) (n : ℕ) (l : Ledger) (g : IsKept p roots done n l) (m : List Told × Told) (number : m.1.event.number ≡ n) where
  -- in a frame
  module _ (j slot : ℕ) (hits : (x : Place) → writes_to p x m ≡ same_place (record { owner = owner_among (slice_get roots j); slot = slot }) x) where
    abbrev change : Live → Live
    change x = record x { last = put slot m.1.event.number x.last }

    -- an activation as it was
    old_at : (k : ℕ) (x : Live) → slice_get (change_at l.live j change) k ≡ Some x → (y : Live) × (slice_get l.live k ≡ Some y) × (y.start ≡ x.start)
    old_at k x h = ⊎_elim
        (λ (a : IsHere l.live change j k x). (a.old, a.at, sym (ap (λ z. z.start) a.new)))
        (λ (b : (k ≡ j → ⊥) × (slice_get l.live k ≡ Some x)). (x, b.1, refl))
        (get_change l.live change j k x h)

    -- the owner isn't an activation with another Enter
    other_owner : (a : ℕ) → ((y : Live) → slice_get l.live j ≡ Some y → y.start ≡ a → ⊥) → same_owner (owner_among (slice_get roots j)) (of_activation a) ≡ false
    other_owner a h = by (slice_get l.live j) refl
      where
        by : (o : Option Live) → slice_get l.live j ≡ o → same_owner (owner_among (slice_get roots j)) (of_activation a) ≡ false
        by None e = ap (λ o. same_owner o (of_activation a)) (owner_gone p roots done n l g j e)
        by (Some y) e = ap (λ o. same_owner o (of_activation a)) (owner_live p roots done n l g j y e) ∙ not_same y.start a (h y e)

    no_hit : (o : Owner) (s : ℕ) → same_owner (owner_among (slice_get roots j)) o ≡ false → writes_to p (record { owner = o; slot = s }) m ≡ false
    no_hit o s e = hits (record { owner = o; slot = s }) ∙ ap (λ b. b && (slot == s)) e

    -- the one in which it is written
    here_writes : (k : ℕ) (x : Live) → IsHere l.live change j k x → (s : ℕ) → latest s x.last ≡ last_among p (record { owner = of_activation x.start; slot = s }) (done ++ m ∷ [])
    here_writes k x a s =
        subst (λ y. latest s y.last ≡ last_among p (record { owner = of_activation y.start; slot = s }) (done ++ m ∷ [])) (sym a.new)
        (latest_put slot s m.1.event.number a.old.last
        ∙ picked (slot == s) m.1.event.number _ _ (g.writes k a.old a.at s)
        ∙ sym (last_push p (record { owner = of_activation a.old.start; slot = s }) done m
        ∙ ap (λ b. or_else (cond b (Some m.1.event.number) None) (last_among p (record { owner = of_activation a.old.start; slot = s }) done))
        (hits (record { owner = of_activation a.old.start; slot = s })
        ∙ ap (λ o. same_owner o (of_activation a.old.start) && (slot == s)) (ap (λ i. owner_among (slice_get roots i)) (sym a.same) ∙ owner_live p roots done n l g k a.old a.at)
        ∙ ap (λ b. b && (slot == s)) (self_same a.old.start))))

    there_writes : (k : ℕ) (x : Live) → (k ≡ j → ⊥) → slice_get l.live k ≡ Some x → (s : ℕ) → latest s x.last ≡ last_among p (record { owner = of_activation x.start; slot = s }) (done ++ m ∷ [])
    there_writes k x ne at s =
        g.writes k x at s
        ∙ sym (last_same p (record { owner = of_activation x.start; slot = s }) done m (no_hit (of_activation x.start) s (other_owner x.start (λ y e f. ne (sym (g.once j k y x e at f))))))

    frame_kept : IsKept p roots (done ++ m ∷ []) (suc n) (noted l (Some (InFrame j)) slot m.1.event.number)
    frame_kept = record {
      starts = change_map (λ (x : Live). x.start) l.live j change (λ x. refl) ∙ g.starts;
      blocks = change_map (λ (x : Live). x.blocks) l.live j change (λ x. refl) ∙ g.blocks;
      below = λ k x h. (let o = old_at k x h in below_more o.0.start x.start (g.below k o.0 o.1) o.2);
      once = λ i k x y h q e. (let o = old_at i x h in let u = old_at k y q in g.once i k o.0 u.0 o.1 u.1 (o.2 ∙ e ∙ sym u.2));
      writes = λ k x h s. ⊎_elim
          (λ (a : IsHere l.live change j k x). here_writes k x a s)
          (λ (b : (k ≡ j → ⊥) × (slice_get l.live k ≡ Some x)). there_writes k x b.0 b.1 s)
          (get_change l.live change j k x h);
      mains = λ source s. g.mains source s ∙ sym (last_same p _ done m (no_hit (of_main source) s (activation_no_main (slice_get roots j) source)));
      fresh = λ a s h. last_same p _ done m (no_hit (of_activation a) s (other_owner a (λ y e f. above y.start a (g.below j y e) f h))) ∙ g.fresh a s (omega (arith, h));
    }
      where
        below_more : (a b : ℕ) → a < n → a ≡ b → b < suc n
        below_more a b h e = omega (arith, h, e)

        above : (a b : ℕ) → a < n → a ≡ b → suc n ≤ b → ⊥
        above a b h e f = omega (arith, h, e, f)

  -- in a main block
  main_kept : (source slot : ℕ) → ((x : Place) → writes_to p x m ≡ same_place (record { owner = of_main source; slot = slot }) x) → IsKept p roots (done ++ m ∷ []) (suc n) (noted l (Some (InMain source)) slot m.1.event.number)
  main_kept source slot hits = record {
    starts = g.starts;
    blocks = g.blocks;
    below = λ k x h. (let b = g.below k x h in omega (arith, b));
    once = g.once;
    writes = λ k x h s. g.writes k x h s ∙ sym (last_same p _ done m (hits _));
    mains = λ from s.
        latest_put_in source slot from s m.1.event.number l.mains
        ∙ picked ((source == from) && (slot == s)) m.1.event.number _ _ (g.mains from s)
        ∙ sym (last_push p (record { owner = of_main from; slot = s }) done m
        ∙ ap (λ b. or_else (cond b (Some m.1.event.number) None) (last_among p (record { owner = of_main from; slot = s }) done)) (hits (record { owner = of_main from; slot = s })));
    fresh = λ a s h. last_same p _ done m (hits _) ∙ g.fresh a s (omega (arith, h));
  }

  pub noted_kept : (home : Option Home) (slot : ℕ) → ((x : Place) → writes_to p x m ≡ same_place (record { owner = owner_by p m.0 home; slot = slot }) x) → roots_in p m.0 ≡ roots → IsKept p roots (done ++ m ∷ []) (suc n) (noted l home slot m.1.event.number)
  noted_kept None slot hits e = quiet_kept p roots done (suc n) l m (λ x. hits x ∙ ap (λ b. b && (slot == x.slot)) (none_owner x.owner)) (wider_kept p roots done n l g)
  noted_kept (Some (InFrame k)) slot hits e = frame_kept k slot (λ x. hits x ∙ ap (λ rs. same_place (record { owner = owner_among (slice_get rs k); slot = slot }) x) e)
  noted_kept (Some (InMain source)) slot hits e = main_kept source slot hits

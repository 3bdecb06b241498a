-- The values that are shown at the events of a run: an instance of what every run keeps.
use Rattle.std.proofs.Common.{◌≡◌, ℕ, suc, ◌-◌, ◌<◌, ◌≤◌, Bool, true, false, cond, List, [], ◌∷◌, ◌++◌, length, take, Option, Some, None, refl, sym, ap, subst, ◌∙◌, ⊎_elim, arith}
use Rattle.std.specs.Prelude.{◌⊎◌, slice_get}
use Rattle.std.proofs.lemmas.Option.{slice_get_within}
use Rattle.std.proofs.lemmas.List.{take-append-le}
use Rattle.std.proofs.Math.Seq.{take-append_seam}
use Rattle.pd_values.specs.declared.value.Value.{Value}
use Rattle.pd_values.specs.declared.value.Tag.TheVariants.{WriteVariable}
use Rattle.pd_tree.specs.declared.kind.Meaning.{Meaning}
use Rattle.pd_tree.specs.declared.kind.Meaning.TheVariants.{Local, Item as Means, Nothing}
use Rattle.pd_tree.specs.Program.{Program, node_at, has_tag}
use Rattle.pd_machine.specs.declared.run.Frame.{Frame}
use Rattle.pd_machine.specs.declared.run.Home.{Home}
use Rattle.pd_machine.specs.declared.run.Home.TheVariants.{InFrame, InMain}
use Rattle.pd_machine.specs.declared.event.EventKind.{EventKind}
use Rattle.pd_machine.specs.declared.event.EventKind.TheVariants.{Enter, Return as Gave, Leave}
use Rattle.pd_machine.specs.declared.event.Cause.{Cause}
use Rattle.pd_machine.specs.Events.{Scene, State, Told, frame_of, blocks_of, variables_at, push_frame, standing, tell, scene_value}
use Rattle.pd_meaning.specs.Meaning.{Verdicts, assigned, opening, meaning_of}
use Rattle.pd_running.specs.Running.{is_enter, is_root_node, roots_in, mark_of}
use Rattle.pd_running.specs.Nested.{Closing, IsNested}
use Rattle.pd_running.specs.Laws.{next_open, run_by, run_at, stacked_by}
use Rattle.pd_nesting.specs.Nesting.{AreRooted}
use Rattle.pd_framing.specs.Framing.{blocks_seen, blocks_along, is_assignment, RunsParts}
use Rattle.pd_framing.proofs.Lists.{map_length, path_of, blocks_frame}
use Rattle.pd_framing.proofs.Keeping.{enter_of, IsFrameOf, LastGave, IsChanged, IsGiven, Rules, IsReached, meaning_keeps}
use Rattle.pd_framing.proofs.Framing.{open_from, AreFramed, Stands, standing_blocks, ends_stands, assigned_stands, standing_rules, meaning_framed}
use Rattle.pd_origins.specs.declared.ledger.Live.{Live}
use Rattle.pd_origins.specs.declared.Origin.TheVariants.{By, Start, Initial}
use Rattle.pd_origins.specs.Origins.{place_seen, origin_of}
use Rattle.pd_origins.specs.Ledger.{Ledger, no_ledger, seen_by, latest, latest_in, entered, left, noted, written, stepped_by, stepped, by_or, origin_in, origin_there}
use Rattle.pd_origins.specs.Ledger as twin
use Rattle.pd_origins.specs.Laws.{IsTold, is_write, IsGivenBefore}
use Rattle.pd_origins.proofs.Gets.{get_push}
use Rattle.pd_origins.proofs.Kept.{IsKept, none_kept, quiet_kept}
use Rattle.pd_origins.proofs.Walked.{AreSeen, enter_quiet, begun_kept, ended_kept, walked, shown_by}
use Rattle.pd_origins.proofs.Read.{IsSplit, split_at, stacked_push, IsShown, shown_in, one_told}
use Rattle.pd_origins.proofs.Values.{get_more, IsAgreed, given_more, agreed_more, agreed_standing, agreed_pop, agreed_push, agreed_left, agreed_begun, agreed_set}

length_push : {A : Type 0} (xs : List A) (x : A) → length (xs ++ x ∷ []) ≡ suc (length xs)
length_push [] x = refl
length_push (y ∷ xs) x = ap suc (length_push xs x)

get_last : {A : Type 0} (xs : List A) (x : A) → slice_get (xs ++ x ∷ []) (length xs) ≡ Some x
get_last [] x = refl
get_last (y ∷ xs) x = get_last xs x

assigned_events : (x : Meaning) (a : Value) (s : State) → (assigned x a s).events ≡ s.events
assigned_events (Local up slot) a s = refl
assigned_events (Means i) a s = refl
assigned_events Nothing a s = refl

module _ (p : Program) where
  walked_push : (l : Ledger) (ts : List Told) (t : Told) → walked p l (ts ++ t ∷ []) ≡ stepped p (walked p l ts) (mark_of t)
  walked_push l [] t = refl
  walked_push l (x ∷ ts) t = walked_push (stepped p l (mark_of x)) ts t

  -- at each of these events but the Returns of assignments, what is shown agrees with the ledger
  abbrev pub AreAgreed : List Told → Type 0
  AreAgreed ts = (e : ℕ) (t : Told) → slice_get ts e ≡ Some t → is_write p t ≡ false → IsAgreed p (take e ts) (shown_by p (is_enter t.event.kind) (walked p no_ledger (take e ts)) t) t.scene

  agreed_all : (ts : List Told) (u : Told) → AreAgreed ts → (is_write p u ≡ false → IsAgreed p ts (shown_by p (is_enter u.event.kind) (walked p no_ledger ts) u) u.scene) → AreAgreed (ts ++ u ∷ [])
  agreed_all ts u g h e t at w = ⊎_elim
      (λ (o : slice_get ts e ≡ Some t).
      subst (λ past. IsAgreed p past (shown_by p (is_enter t.event.kind) (walked p no_ledger past) t) t.scene) (sym (take-append-le e ts (u ∷ []) (within (slice_get_within ts e t o)))) (g e t o w))
      (λ (n : (e ≡ length ts) × (u ≡ t)).
      subst (λ x. IsAgreed p (take e (ts ++ u ∷ [])) (shown_by p (is_enter x.event.kind) (walked p no_ledger (take e (ts ++ u ∷ []))) x) x.scene) n.1
      (subst (λ past. IsAgreed p past (shown_by p (is_enter u.event.kind) (walked p no_ledger past) u) u.scene) (sym (ap (λ k. take k (ts ++ u ∷ [])) n.0 ∙ take-append_seam ts (u ∷ [])))
      (h (ap (is_write p) n.1 ∙ w))))
      (get_push ts u t e at)
    where
      within : {k n : ℕ} → k < n → k ≤ n
      within h = omega (arith, h)

-- what is kept
pub record Tells (p : Program) (xs : List Told) (path : List ℕ) (s : State) : Type 0 where
  pub stands : Stands p xs path s
  pub kept : IsKept p (roots_in p xs) (stacked_by [] s.events) (length s.events) (walked p no_ledger s.events)
  pub agreed : IsAgreed p s.events (walked p no_ledger s.events) s.scene
  pub all : AreAgreed p s.events

module _ (p : Program) (told : (n : ℕ) → IsTold p n) where
  -- the ledger after one more event
  kept_more : (roots : List Told) (ts : List Told) (u : Told) (runs : List Told) (l : Ledger) → run_at (open_from [] ts) u ≡ runs → walked p no_ledger ts ≡ l
      → IsKept p roots (stacked_by [] ts ++ (runs, u) ∷ []) (suc (length ts)) (stepped p l (mark_of u)) → IsKept p roots (stacked_by [] (ts ++ u ∷ [])) (length (ts ++ u ∷ [])) (walked p no_ledger (ts ++ u ∷ []))
  kept_more roots ts u runs l r w g =
      subst (λ d. IsKept p roots d (length (ts ++ u ∷ [])) (walked p no_ledger (ts ++ u ∷ []))) (sym (stacked_push [] ts u ∙ ap (λ rs. stacked_by [] ts ++ (rs, u) ∷ []) r))
      (subst (λ n. IsKept p roots (stacked_by [] ts ++ (runs, u) ∷ []) n (walked p no_ledger (ts ++ u ∷ []))) (sym (length_push ts u))
      (subst (λ k. IsKept p roots (stacked_by [] ts ++ (runs, u) ∷ []) (suc (length ts)) k) (sym (walked_push p no_ledger ts u ∙ ap (λ k. stepped p k (mark_of u)) w)) g))

  begun_agreed : (ts : List Told) (l : Ledger) (u : Told) (c : Scene) → is_enter u.event.kind ≡ true → IsAgreed p ts l c → IsAgreed p ts (stepped p l (mark_of u)) c
  begun_agreed ts l u c e g = subst (λ b. IsAgreed p ts (stepped_by b (is_root_node p u.event.node) p l (mark_of u)) c) (sym e) (by (is_root_node p u.event.node))
    where
      by : (r : Bool) → IsAgreed p ts (stepped_by true r p l (mark_of u)) c
      by true = agreed_begun p ts l _ c refl g
      by false = g

  enters_tells : (xs : List Told) (path : List ℕ) (n : ℕ) (s : State) → path ≡ path_of p (xs ++ enter_of n s ∷ []) → Tells p xs path s → Tells p (xs ++ enter_of n s ∷ []) path (tell n (length s.events) Enter s)
  enters_tells xs path n s q g =
      let u : Told = enter_of n s in
      let l : Ledger = walked p no_ledger s.events in
      let rules : Rules p (Stands p) = standing_rules p in
      let more : IsAgreed p s.events (stepped p l (mark_of u)) s.scene = begun_agreed s.events l u s.scene refl g.agreed in
      record {
        stands = rules.enters xs path n s q g.stands;
        kept = kept_more (roots_in p (xs ++ u ∷ [])) s.events u (xs ++ u ∷ []) l (ap (λ o. o ++ u ∷ []) g.stands.opened) refl
            (quiet_kept p (roots_in p (xs ++ u ∷ [])) (stacked_by [] s.events) (suc (length s.events)) (stepped p l (mark_of u)) (xs ++ u ∷ [], u) (enter_quiet p (xs ++ u ∷ []) u refl)
            (begun_kept p xs (stacked_by [] s.events) (length s.events) l u refl refl g.kept));
        agreed = subst (λ k. IsAgreed p (s.events ++ u ∷ []) k s.scene) (sym (walked_push p no_ledger s.events u)) (agreed_more p s.events u (stepped p l (mark_of u)) s.scene more);
        all = agreed_all p s.events u g.all (λ w. agreed_standing p s.events (stepped p l (mark_of u)) n s.scene more);
      }

  abbrev end_of : ℕ → ℕ → EventKind → State → Told
  end_of n opened kind s = record { event = record { number = length s.events; kind = kind; node = n; opened = opened; depth = length s.scene.frames }; scene = standing n s.scene }

  -- the innermost activation ends, where its end keeps what agrees
  ends_tells : (xs : List Told) (path : List ℕ) (n opened : ℕ) (kind : EventKind) (s : State) (enter : Told) → is_enter kind ≡ false → enter.event.number ≡ opened → enter.event.node ≡ n → path ≡ path_of p (xs ++ enter ∷ [])
      → Stands p (xs ++ enter ∷ []) path s → IsKept p (roots_in p (xs ++ enter ∷ [])) (stacked_by [] s.events) (length s.events) (walked p no_ledger s.events)
      → IsAgreed p (s.events ++ end_of n opened kind s ∷ []) (written p (walked p no_ledger s.events) (mark_of (end_of n opened kind s))) s.scene
      → AreAgreed p s.events → (is_write p (end_of n opened kind s) ≡ false → IsAgreed p s.events (walked p no_ledger s.events) s.scene)
      → Tells p xs path (tell n opened kind s)
  ends_tells xs path n opened kind s enter e i j q st kept agreed all here =
      let u : Told = end_of n opened kind s in
      let l : Ledger = walked p no_ledger s.events in
      let c : Closing (xs ++ enter ∷ []) u = record { rest = xs; inner = enter; open_is = refl; opened = i; node = j } in
      record {
        stands = ends_stands p xs path n opened kind s enter e q st;
        kept = kept_more (roots_in p xs) s.events u (xs ++ enter ∷ []) l (ap (λ b. run_by b (open_from [] s.events) u) e ∙ st.opened) refl
            (ended_kept p (xs ++ enter ∷ []) (stacked_by [] s.events) (length s.events) l u c e refl (standing_blocks n s.scene ∙ st.blocks ∙ ap (blocks_along p) q) kept);
        agreed = subst (λ k. IsAgreed p (s.events ++ u ∷ []) k s.scene) (sym (walked_push p no_ledger s.events u))
            (subst (λ b. IsAgreed p (s.events ++ u ∷ []) (stepped_by b (is_root_node p n) p l (mark_of u)) s.scene) (sym e) (by (is_root_node p n)));
        all = agreed_all p s.events u all (λ w. subst (λ b. IsAgreed p s.events (shown_by p b l u) (standing n s.scene)) (sym e) (agreed_standing p s.events l n s.scene (here w)));
      }
    where
      by : (r : Bool) → IsAgreed p (s.events ++ end_of n opened kind s ∷ []) (stepped_by false r p (walked p no_ledger s.events) (mark_of (end_of n opened kind s))) s.scene
      by true = agreed_left p (s.events ++ end_of n opened kind s ∷ []) (written p (walked p no_ledger s.events) (mark_of (end_of n opened kind s))) s.scene agreed
      by false = agreed

  leaves_tells : (xs : List Told) (path : List ℕ) (n opened : ℕ) (cause : Cause) (s : State) (enter : Told) → enter.event.number ≡ opened → enter.event.node ≡ n → path ≡ path_of p (xs ++ enter ∷ [])
      → Tells p (xs ++ enter ∷ []) path s → Tells p xs path (tell n opened (Leave cause) s)
  leaves_tells xs path n opened cause s enter i j q g =
      ends_tells xs path n opened (Leave cause) s enter refl i j q g.stands g.kept (agreed_more p s.events (end_of n opened (Leave cause) s) (walked p no_ledger s.events) s.scene g.agreed) g.all (λ w. g.agreed)

  -- a node that is no assignment gave a value
  other_tells : (xs : List Told) (path : List ℕ) (n opened : ℕ) (a : Value) (s : State) (enter : Told) → enter.event.number ≡ opened → enter.event.node ≡ n → path ≡ path_of p (xs ++ enter ∷ [])
      → is_assignment (node_at p n).kind ≡ false → Tells p (xs ++ enter ∷ []) path s → Tells p xs path (tell n opened (Gave a) s)
  other_tells xs path n opened a s enter i j q k g =
      let u : Told = end_of n opened (Gave a) s in
      let l : Ledger = walked p no_ledger s.events in
      let same : written p l (mark_of u) ≡ l = ap (λ b. cond b (twin.assigned l (node_at p n).meaning (length s.events)) l) ((told n).tag ∙ k) in
      ends_tells xs path n opened (Gave a) s enter refl i j q g.stands g.kept (subst (λ m. IsAgreed p (s.events ++ u ∷ []) m s.scene) (sym same) (agreed_more p s.events u l s.scene g.agreed)) g.all (λ w. g.agreed)

  -- an assignment changed its variable
  set_agreed : (x : Meaning) (v : Value) (b : State) (ts : List Told) (u : Told) (l : Ledger) (w : ℕ) → blocks_of (frame_of b.scene.frames 0) ≡ blocks_seen (seen_by l) 0 → IsAgreed p ts l b.scene → IsGivenBefore p (ts ++ u ∷ []) w v
      → IsAgreed p (ts ++ u ∷ []) (twin.assigned l x w) (assigned x v b).scene
  set_agreed (Local up slot) v b ts u l w e g now =
      subst (λ bs. IsAgreed p (ts ++ u ∷ []) (twin.noted l (slice_get bs up) slot w) (assigned (Local up slot) v b).scene) e
      (agreed_set p ts (ts ++ u ∷ []) l b.scene slot w v (given_more p ts u) now g (slice_get (blocks_of (frame_of b.scene.frames 0)) up))
  set_agreed (Means i) v b ts u l w e g now = agreed_more p ts u l b.scene g
  set_agreed Nothing v b ts u l w e g now = agreed_more p ts u l b.scene g

  given_now : (right : ℕ) (v : Value) (ts : List Told) (u : Told) → (node_at p u.event.node).children ≡ right ∷ [] → LastGave right v ts → IsGivenBefore p (ts ++ u ∷ []) (length ts) v
  given_now right v ts u c g = record {
    before = length g.before;
    next = ap length g.events ∙ length_push g.before g.last;
    right = g.last;
    at = get_more ts (u ∷ []) (length g.before) g.last (ap (λ l. slice_get l (length g.before)) g.events ∙ get_last g.before g.last);
    gave = g.gave;
    write = u;
    write_at = get_last ts u;
    side = c ∙ ap (λ m. m ∷ []) (sym g.node);
  }

  last_gave : (n : ℕ) (right : ℕ) (v : Value) (ts : List Told) → is_assignment (node_at p n).kind ≡ true → (node_at p n).children ≡ right ∷ [] → ((node_at p right).tags ≡ []) ⊎ LastGave right v ts → LastGave right v ts
  last_gave n right v ts k c h = ⊎_elim (λ (e : (node_at p right).tags ≡ []). absurd ((told n).right k right c e)) (λ (g : LastGave right v ts). g) h

  changed_tells : (xs : List Told) (path : List ℕ) (n opened : ℕ) (a : Value) (s : State) (enter : Told) → enter.event.number ≡ opened → enter.event.node ≡ n → path ≡ path_of p (xs ++ enter ∷ [])
      → IsChanged p (Tells p) n (xs ++ enter ∷ []) path s → Tells p xs path (tell n opened (Gave a) s)
  changed_tells xs path n opened a s enter i j q c =
      let t : State = c.before in
      let m : Meaning = (node_at p n).meaning in
      let now : State = assigned m c.value t in
      let u : Told = end_of n opened (Gave a) now in
      let same : now.events ≡ t.events = assigned_events m c.value t in
      let blocks : blocks_of (frame_of t.scene.frames 0) ≡ blocks_seen (seen_by (walked p no_ledger t.events)) 0 = blocks_frame t.scene.frames 0 ∙ ap (λ bs. blocks_seen bs 0) (c.fits.stands.blocks ∙ ap (blocks_along p) q ∙ sym c.fits.kept.blocks) in
      let given : IsGivenBefore p (t.events ++ u ∷ []) (length t.events) c.value = given_now c.right c.value t.events u c.children (last_gave n c.right c.value t.events c.kind c.children c.given) in
      let there : IsAgreed p (now.events ++ u ∷ []) (twin.assigned (walked p no_ledger now.events) m (length now.events)) now.scene =
      subst (λ es. IsAgreed p (es ++ u ∷ []) (twin.assigned (walked p no_ledger es) m (length es)) now.scene) (sym same) (set_agreed m c.value t t.events u (walked p no_ledger t.events) (length t.events) blocks c.fits.agreed given) in
      let wrote : written p (walked p no_ledger now.events) (mark_of u) ≡ twin.assigned (walked p no_ledger now.events) m (length now.events) =
      ap (λ b. cond b (twin.assigned (walked p no_ledger now.events) m (length now.events)) (walked p no_ledger now.events)) ((told n).tag ∙ c.kind) in
      subst (λ z. Tells p xs path (tell n opened (Gave a) z)) (sym c.now)
      (ends_tells xs path n opened (Gave a) now enter refl i j q
      (assigned_stands p (xs ++ enter ∷ []) path m c.value t c.fits.stands)
      (subst (λ es. IsKept p (roots_in p (xs ++ enter ∷ [])) (stacked_by [] es) (length es) (walked p no_ledger es)) (sym same) c.fits.kept)
      (subst (λ k. IsAgreed p (now.events ++ u ∷ []) k now.scene) (sym wrote) there)
      (subst (AreAgreed p) (sym same) c.fits.all)
      (λ w. absurd (cc (sym w ∙ (told n).tag ∙ c.kind))))

  gives_tells : (xs : List Told) (path : List ℕ) (n opened : ℕ) (a : Value) (s : State) (enter : Told) → enter.event.number ≡ opened → enter.event.node ≡ n → path ≡ path_of p (xs ++ enter ∷ [])
      → IsGiven p (Tells p) n (xs ++ enter ∷ []) path s → Tells p xs path (tell n opened (Gave a) s)
  gives_tells xs path n opened a s enter i j q g = ⊎_elim
      (λ (o : (is_assignment (node_at p n).kind ≡ false) × Tells p (xs ++ enter ∷ []) path s). other_tells xs path n opened a s enter i j q o.0 o.1)
      (λ (c : IsChanged p (Tells p) n (xs ++ enter ∷ []) path s). changed_tells xs path n opened a s enter i j q c)
      g

  silent_tells : (xs : List Told) (path : List ℕ) (n : ℕ) (s : State) → (node_at p n).tags ≡ [] → IsGiven p (Tells p) n xs path s → Tells p xs path s
  silent_tells xs path n s e g = ⊎_elim
      (λ (o : (is_assignment (node_at p n).kind ≡ false) × Tells p xs path s). o.1)
      (λ (c : IsChanged p (Tells p) n xs path s). absurd (cc (ap (λ ts. has_tag ts WriteVariable) (sym e) ∙ (told n).tag ∙ c.kind)))
      g

  pushes_tells : (xs : List Told) (path : List ℕ) (f : Frame) (s : State) → path ≡ path_of p xs → IsFrameOf p path f → Tells p xs path s → Tells p xs (path ++ f.root ∷ []) (record s { scene = push_frame f s.scene })
  pushes_tells xs path f s q i g =
      let rules : Rules p (Stands p) = standing_rules p in
      let l : Ledger = walked p no_ledger s.events in
      let count : length l.live ≡ length s.scene.frames =
      sym (map_length (λ (x : Live). x.start) l.live) ∙ ap length g.kept.starts ∙ map_length (λ (t : Told). t.event.number) (roots_in p xs) ∙ sym (map_length (λ (t : Told). t.event.node) (roots_in p xs))
      ∙ ap length (sym q ∙ sym g.stands.roots) ∙ map_length (λ (f : Frame). f.root) s.scene.frames in
      record {
        stands = rules.pushes xs path f s q i g.stands;
        kept = g.kept;
        agreed = agreed_push p s.events l f s.scene (few count) g.agreed;
        all = g.all;
      }
    where
      few : {m n : ℕ} → m ≡ n → m ≤ n
      few e = omega (arith, e)

  tells_rules : Rules p (Tells p)
  tells_rules =
      let rules : Rules p (Stands p) = standing_rules p in
      record {
        fuel = λ xs path less s g. record { stands = rules.fuel xs path less s g.stands; kept = g.kept; agreed = g.agreed; all = g.all };
        output = λ xs path bytes s g. record { stands = rules.output xs path bytes s g.stands; kept = g.kept; agreed = g.agreed; all = g.all };
        stands = λ xs path n s g. record { stands = rules.stands xs path n s g.stands; kept = g.kept; agreed = agreed_standing p s.events (walked p no_ledger s.events) n s.scene g.agreed; all = g.all };
        enters = enters_tells;
        gives = gives_tells;
        leaves = leaves_tells;
        silent = silent_tells;
        pushes = pushes_tells;
        pops = λ xs path root s q g. record { stands = rules.pops xs path root s q g.stands; kept = g.kept; agreed = agreed_pop p s.events (walked p no_ledger s.events) (length s.scene.frames - 1) s.scene g.agreed; all = g.all };
        blocks = λ xs path s g. g.stands.blocks;
      }

  first_tells : (fuel : ℕ) → Tells p [] [] (opening p fuel)
  first_tells fuel = record {
    stands = record { opened = refl; framed = tt; roots = refl; blocks = refl };
    kept = none_kept p;
    agreed = record {
      frames = λ k x h slot w e a va. absurd (cc h);
      mains = λ source slot w e a va. absurd (cc e);
    };
    all = λ e t at w. absurd (cc at);
  }

  pub run_agreed : (v : Verdicts) (fuel entry : ℕ) → AreRooted p → RunsParts p → AreAgreed p (meaning_of p entry fuel v).events
  run_agreed v fuel entry rooted parts =
      let r : IsReached (Tells p) (meaning_of p entry fuel v).events = meaning_keeps p (Tells p) tells_rules rooted parts v fuel entry (first_tells fuel) in
      subst (AreAgreed p) r.events_are r.fits.all

-- ---- what is read

module _ (p : Program) where
  by_start : (b n : ℕ) (o : Option ℕ) → by_or (Start b) o ≡ By n → o ≡ Some n
  by_start b n None h = absurd (cc)
  by_start b n (Some m) h = cc

  by_initial : (n : ℕ) (o : Option ℕ) → by_or Initial o ≡ By n → o ≡ Some n
  by_initial n None h = absurd (cc)
  by_initial n (Some m) h = cc

  read_given : (ts : List Told) (l : Ledger) (c : Scene) → IsAgreed p ts l c → (home : Option Home) (slot n : ℕ) → origin_there l home slot ≡ By n → (a : Value) → slice_get (variables_at c home) slot ≡ Some a → IsGivenBefore p ts n a
  read_given ts l c g None slot n o a va = absurd (cc)
  read_given ts l c g (Some (InFrame k)) slot n o a va = by (slice_get l.live k) refl
    where
      by : (x : Option Live) → slice_get l.live k ≡ x → IsGivenBefore p ts n a
      by None e = absurd (cc (ap (λ x. origin_in x slot) (sym e) ∙ o))
      by (Some x) e = g.frames k x e slot n (by_start x.start n (latest slot x.last) (ap (λ x. origin_in x slot) (sym e) ∙ o)) a va
  read_given ts l c g (Some (InMain m)) slot n o a va = g.mains m slot n (by_initial n (latest_in m slot l.mains) o) a va

  given_after : (ts rest : List Told) (w : ℕ) (a : Value) → IsGivenBefore p ts w a → IsGivenBefore p (ts ++ rest) w a
  given_after ts rest w a g = record {
    before = g.before;
    next = g.next;
    right = g.right;
    at = get_more ts rest g.before g.right g.at;
    gave = g.gave;
    write = g.write;
    write_at = get_more ts rest w g.write g.write_at;
    side = g.side;
  }

  seen_framed : (live ts : List Told) → AreFramed p live ts → AreSeen p live ts
  seen_framed live [] h = tt
  seen_framed live (t ∷ ts) h = (h.0.blocks, seen_framed (next_open live t) ts h.1)

pub writes_shown : (p : Program) (v : Verdicts) (fuel entry : ℕ) → AreRooted p → RunsParts p → ((n : ℕ) → IsTold p n) → IsNested [] 0 (meaning_of p entry fuel v).events
    → (e : ℕ) (t : Told) → slice_get (meaning_of p entry fuel v).events e ≡ Some t → is_write p t ≡ false
    → (i up slot w : ℕ) → origin_of p (take e (meaning_of p entry fuel v).events) (place_seen p (take e (meaning_of p entry fuel v).events) t i up slot) ≡ By w
    → (a : Value) → scene_value t.scene i up slot ≡ Some a → IsGivenBefore p (meaning_of p entry fuel v).events w a
writes_shown p v fuel entry rooted parts told nested e t at quiet i up slot w o a va =
    let events : List Told = (meaning_of p entry fuel v).events in
    let s : IsSplit events e t = split_at events e t at in
    let seen : AreSeen p [] events = seen_framed p [] events (meaning_framed p v fuel entry rooted parts) in
    let x : IsShown p s.past t = shown_in p s.past s.rest t (subst (λ l. IsNested [] 0 l) s.events_are nested) (subst (λ l. AreSeen p [] l) s.events_are seen) in
    let l : Ledger = shown_by p (is_enter t.event.kind) (walked p no_ledger s.past) t in
    let agreed : IsAgreed p s.past l t.scene = subst (λ past. IsAgreed p past (shown_by p (is_enter t.event.kind) (walked p no_ledger past) t) t.scene) s.taken (run_agreed p told v fuel entry rooted parts e t at quiet) in
    let read : origin_there l (slice_get (blocks_of (frame_of t.scene.frames i)) up) slot ≡ By w = one_told p s.past t x.number l x.stacked x.kept x.seen i up slot ∙ ap (λ past. origin_of p past (place_seen p past t i up slot)) (sym s.taken) ∙ o in
    subst (λ ts. IsGivenBefore p ts w a) (sym s.events_are) (given_after p s.past (t ∷ s.rest) w a (read_given p s.past l t.scene agreed (slice_get (blocks_of (frame_of t.scene.frames i)) up) slot w read a va))

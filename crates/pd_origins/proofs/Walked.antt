-- The ledger event by event, and over the log.
use Rattle.std.proofs.Common.{◌≡◌, ℕ, suc, Bool, true, false, cond, ◌&&◌, ◌||◌, List, [], ◌∷◌, ◌++◌, length, map, refl, sym, ap, subst, ◌∙◌, ⊎_elim, append_assoc, arith}
use Rattle.std.specs.Prelude.{◌+◌, ◌==◌, ◌<◌, ◌≤◌, nat_lt, filter}
use Rattle.std.proofs.lemmas.Bool.{cases_Bool, or_parts, and_right}
use Rattle.std.proofs.lemmas.Bool.Decides.{nat_tests}
use Rattle.std.proofs.lemmas.List.Elements.{filter-append}
use Rattle.pd_values.specs.declared.value.Tag.TheVariants.{WriteVariable}
use Rattle.pd_tree.specs.Program.{Program, node_at, has_tag}
use Rattle.pd_machine.specs.declared.event.EventKind.{EventKind}
use Rattle.pd_machine.specs.declared.event.EventKind.TheVariants.{Enter, Return as Gave, Leave}
use Rattle.pd_machine.specs.Events.{Told}
use Rattle.pd_running.specs.Running.{is_enter, is_root_node, of_root, roots_in, mark_of, marks_where}
use Rattle.pd_running.specs.Nested.{Closing, Opening, IsNested}
use Rattle.pd_running.specs.Laws.{opened_by, next_open, run_by, run_at, stacked_by}
use Rattle.pd_running.proofs.Stack.{append_none, closing_next}
use Rattle.pd_framing.specs.Framing.{blocks_seen, blocks_along}
use Rattle.pd_framing.proofs.Lists.{path_of, blocks_frame}
use Rattle.pd_framing.proofs.Framing.{open_from}
use Rattle.pd_origins.specs.Origins.{Place, is_return, assigns_to, writes_to}
use Rattle.pd_origins.specs.Ledger.{Ledger, entered, assigned, written, stepped_by, stepped, ledger_at}
use Rattle.pd_origins.specs.Laws.{is_noted}
use Rattle.pd_origins.proofs.Kept.{IsKept, wider_kept, quiet_kept, entered_kept, closed_kept, Target, target_of, noted_kept}

module _ (p : Program) where
  -- ---- an event

  -- the frames of an event see the blocks of what runs at it
  abbrev pub IsSeenAt : List Told → Told → Type 0
  IsSeenAt runs t = map (λ f. f.blocks) t.scene.frames ≡ blocks_along p (path_of p runs)

  -- so at each of these events
  abbrev pub AreSeen : List Told → List Told → Type 0
  AreSeen live [] = Unit {0}
  AreSeen live (t ∷ ts) = IsSeenAt (run_at live t) t × AreSeen (next_open live t) ts

  roots_push : (live : List Told) (t : Told) → of_root p t ≡ true → roots_in p (live ++ t ∷ []) ≡ roots_in p live ++ t ∷ []
  roots_push live t h = filter-append (of_root p) live (t ∷ []) ∙ ap (λ b. roots_in p live ++ cond b (t ∷ []) []) h

  roots_same : (live : List Told) (t : Told) → of_root p t ≡ false → roots_in p (live ++ t ∷ []) ≡ roots_in p live
  roots_same live t h = filter-append (of_root p) live (t ∷ []) ∙ ap (λ b. roots_in p live ++ cond b (t ∷ []) []) h ∙ append_none (roots_in p live)

  no_return : (k : EventKind) → is_enter k ≡ true → is_return k ≡ false
  no_return Enter h = refl
  no_return (Gave a) h = absurd (cc)
  no_return (Leave c) h = refl

  -- an Enter writes nothing
  pub enter_quiet : (runs : List Told) (t : Told) → is_enter t.event.kind ≡ true → (x : Place) → writes_to p x (runs, t) ≡ false
  enter_quiet runs t e x = ap (λ b. b && (has_tag (node_at p t.event.node).tags WriteVariable && assigns_to p runs t x (node_at p t.event.node).meaning)) (no_return t.event.kind e)

  -- an activation begins
  pub begun_kept : (live : List Told) (done : List (List Told × Told)) (n : ℕ) (l : Ledger) (t : Told) → is_enter t.event.kind ≡ true → t.event.number ≡ n → IsKept p (roots_in p live) done n l
      → IsKept p (roots_in p (live ++ t ∷ [])) done (suc n) (stepped p l (mark_of t))
  begun_kept live done n l t e number g =
      subst (λ k. IsKept p (roots_in p (live ++ t ∷ [])) done (suc n) k) (sym (ap (λ b. stepped_by b (is_root_node p t.event.node) p l (mark_of t)) e))
      (⊎_elim
      (λ (r : is_root_node p t.event.node ≡ true).
      subst (λ b. IsKept p (roots_in p (live ++ t ∷ [])) done (suc n) (stepped_by true b p l (mark_of t))) (sym r)
      (subst (λ rs. IsKept p rs done (suc n) (entered p l (mark_of t))) (sym (roots_push live t r)) (entered_kept p (roots_in p live) done n l t number g)))
      (λ (r : is_root_node p t.event.node ≡ false).
      subst (λ b. IsKept p (roots_in p (live ++ t ∷ [])) done (suc n) (stepped_by true b p l (mark_of t))) (sym r)
      (subst (λ rs. IsKept p rs done (suc n) l) (sym (roots_same live t r)) (wider_kept p (roots_in p live) done n l g)))
      (cases_Bool (is_root_node p t.event.node)))

  -- the innermost one ends
  pub ended_kept : (live : List Told) (done : List (List Told × Told)) (n : ℕ) (l : Ledger) (t : Told) (c : Closing live t) → is_enter t.event.kind ≡ false → t.event.number ≡ n → IsSeenAt live t → IsKept p (roots_in p live) done n l
      → IsKept p (roots_in p c.rest) (done ++ (live, t) ∷ []) (suc n) (stepped p l (mark_of t))
  ended_kept live done n l t c e number seen g =
      let x : Target p live t l = target_of p live t l (blocks_frame t.scene.frames 0 ∙ ap (λ bs. blocks_seen bs 0) (seen ∙ sym g.blocks)) in
      let w : IsKept p (roots_in p live) (done ++ (live, t) ∷ []) (suc n) (written p l (mark_of t)) =
      subst (λ k. IsKept p (roots_in p live) (done ++ (live, t) ∷ []) (suc n) k) (sym x.writes) (noted_kept p (roots_in p live) done n l g (live, t) number x.home x.slot x.hits refl) in
      subst (λ k. IsKept p (roots_in p c.rest) (done ++ (live, t) ∷ []) (suc n) k) (sym (ap (λ b. stepped_by b (is_root_node p t.event.node) p l (mark_of t)) e))
      (⊎_elim
      (λ (r : is_root_node p t.event.node ≡ true).
      subst (λ b. IsKept p (roots_in p c.rest) (done ++ (live, t) ∷ []) (suc n) (stepped_by false b p l (mark_of t))) (sym r)
      (closed_kept p (roots_in p c.rest) c.inner (done ++ (live, t) ∷ []) (suc n) (written p l (mark_of t))
      (subst (λ rs. IsKept p rs (done ++ (live, t) ∷ []) (suc n) (written p l (mark_of t))) (ap (roots_in p) c.open_is ∙ roots_push c.rest c.inner (ap (is_root_node p) c.node ∙ r)) w)))
      (λ (r : is_root_node p t.event.node ≡ false).
      subst (λ b. IsKept p (roots_in p c.rest) (done ++ (live, t) ∷ []) (suc n) (stepped_by false b p l (mark_of t))) (sym r)
      (subst (λ rs. IsKept p rs (done ++ (live, t) ∷ []) (suc n) (written p l (mark_of t))) (ap (roots_in p) c.open_is ∙ roots_same c.rest c.inner (ap (is_root_node p) c.node ∙ r)) w))
      (cases_Bool (is_root_node p t.event.node)))

  -- ---- events

  abbrev pub walked : Ledger → List Told → Ledger
  walked l [] = l
  walked l (t ∷ ts) = walked (stepped p l (mark_of t)) ts

  -- the number of the event after these
  abbrev pub counted : ℕ → List Told → ℕ
  counted n [] = n
  counted n (t ∷ ts) = counted (suc n) ts

  abbrev WalkKeeps : ℕ → List (List Told × Told) → Ledger → Told → List Told → Bool → List Told → Type 0
  WalkKeeps n done l t ts b live =
      IsKept p (roots_in p (open_from (opened_by b live t) ts)) (done ++ (run_by b live t, t) ∷ stacked_by (opened_by b live t) ts) (counted (suc n) ts) (walked (stepped p l (mark_of t)) ts)

  pub walk_kept : (ts live : List Told) (done : List (List Told × Told)) (n : ℕ) (l : Ledger) → IsKept p (roots_in p live) done n l → IsNested live n ts → AreSeen live ts
      → IsKept p (roots_in p (open_from live ts)) (done ++ stacked_by live ts) (counted n ts) (walked l ts)
  walk_kept [] live done n l g h s = subst (λ d. IsKept p (roots_in p live) d n l) (sym (append_none done)) g
  walk_kept (t ∷ ts) live done n l g h s = ⊎_elim
      (λ (e : is_enter t.event.kind ≡ true).
      let nested : IsNested (live ++ t ∷ []) (suc n) ts = subst (λ b. Opening b live t (λ o. IsNested o (suc n) ts)) e h.1 in
      let here : IsKept p (roots_in p (live ++ t ∷ [])) (done ++ (live ++ t ∷ [], t) ∷ []) (suc n) (stepped p l (mark_of t)) =
      quiet_kept p (roots_in p (live ++ t ∷ [])) done (suc n) (stepped p l (mark_of t)) (live ++ t ∷ [], t) (enter_quiet (live ++ t ∷ []) t e) (begun_kept live done n l t e h.0 g) in
      let rest = walk_kept ts (live ++ t ∷ []) (done ++ (live ++ t ∷ [], t) ∷ []) (suc n) (stepped p l (mark_of t)) here nested (subst (λ b. AreSeen (opened_by b live t) ts) e s.1) in
      subst (λ b. WalkKeeps n done l t ts b live) (sym e)
      (subst (λ d. IsKept p (roots_in p (open_from (live ++ t ∷ []) ts)) d (counted (suc n) ts) (walked (stepped p l (mark_of t)) ts)) (append_assoc done ((live ++ t ∷ [], t) ∷ []) (stacked_by (live ++ t ∷ []) ts)) rest))
      (λ (e : is_enter t.event.kind ≡ false).
      let c : (c : Closing live t) × IsNested c.rest (suc n) ts = subst (λ b. Opening b live t (λ o. IsNested o (suc n) ts)) e h.1 in
      let next : opened_by false live t ≡ c.0.rest = ap (λ b. opened_by b live t) (sym e) ∙ closing_next live t c.0 e in
      let here : IsKept p (roots_in p c.0.rest) (done ++ (live, t) ∷ []) (suc n) (stepped p l (mark_of t)) =
      ended_kept live done n l t c.0 e h.0 (subst (λ b. IsSeenAt (run_by b live t) t) e s.0) g in
      let rest = walk_kept ts c.0.rest (done ++ (live, t) ∷ []) (suc n) (stepped p l (mark_of t)) here c.1 (subst (λ o. AreSeen o ts) next (subst (λ b. AreSeen (opened_by b live t) ts) e s.1)) in
      subst (λ b. WalkKeeps n done l t ts b live) (sym e)
      (subst (λ o. IsKept p (roots_in p (open_from o ts)) (done ++ (live, t) ∷ stacked_by o ts) (counted (suc n) ts) (walked (stepped p l (mark_of t)) ts)) (sym next)
      (subst (λ d. IsKept p (roots_in p (open_from c.0.rest ts)) d (counted (suc n) ts) (walked (stepped p l (mark_of t)) ts)) (append_assoc done ((live, t) ∷ []) (stacked_by c.0.rest ts)) rest)))
      (cases_Bool (is_enter t.event.kind))

  -- ---- entries

  -- an event of another node changes nothing
  unnoted : (l : Ledger) (t : Told) → is_noted p t.event.node ≡ false → stepped p l (mark_of t) ≡ l
  unnoted l t h =
      let no = or_parts (is_root_node p t.event.node) (has_tag (node_at p t.event.node).tags WriteVariable) h in
      ap (λ b. stepped_by (is_enter t.event.kind) b p l (mark_of t)) no.0 ∙ by (is_enter t.event.kind) no.1
    where
      by : (b : Bool) → has_tag (node_at p t.event.node).tags WriteVariable ≡ false → stepped_by b false p l (mark_of t) ≡ l
      by true e = refl
      by false e = ap (λ b. cond b (assigned l (node_at p t.event.node).meaning t.event.number) l) (and_right (is_return t.event.kind) (has_tag (node_at p t.event.node).tags WriteVariable) e)

  -- numbered one by one
  abbrev pub AreFrom : ℕ → List Told → Type 0
  AreFrom n [] = Unit {0}
  AreFrom n (t ∷ ts) = (t.event.number ≡ n) × AreFrom (suc n) ts

  pub nested_from : (ts live : List Told) (n : ℕ) → IsNested live n ts → AreFrom n ts
  nested_from [] live n h = tt
  nested_from (t ∷ ts) live n h = (h.0, by (is_enter t.event.kind) (λ o k. nested_from ts o (suc n) k) h.1)
    where
      by : (b : Bool) → ((o : List Told) → IsNested o (suc n) ts → AreFrom (suc n) ts) → Opening b live t (λ o. IsNested o (suc n) ts) → AreFrom (suc n) ts
      by true go k = go (live ++ t ∷ []) k
      by false go k = go k.0.rest k.1

  pub from_parts : (past rest : List Told) (n : ℕ) → AreFrom n (past ++ rest) → AreFrom n past × AreFrom (counted n past) rest
  from_parts [] rest n h = (tt, h)
  from_parts (t ∷ past) rest n h = let r = from_parts past rest (suc n) h.1 in ((h.0, r.0), r.1)

  counted_more : (ts : List Told) (n : ℕ) → n ≤ counted n ts
  counted_more [] n = omega arith
  counted_more (t ∷ ts) n = let h = counted_more ts (suc n) in omega (arith, h)

  counted_length : (ts : List Told) (n : ℕ) → counted n ts ≡ n + length ts
  counted_length [] n = omega arith
  counted_length (t ∷ ts) n = let h = counted_length ts (suc n) in omega (arith, h)

  counted_all : (ts : List Told) → counted 0 ts ≡ length ts
  counted_all ts = let h = counted_length ts 0 in omega (arith, h)

  -- the entries of earlier events are taken
  earlier : (past rest : List Told) (n e : ℕ) (l : Ledger) → AreFrom n past → e ≡ counted n past → ledger_at p e l (marks_where (is_noted p) (past ++ rest)) ≡ ledger_at p e (walked l past) (marks_where (is_noted p) rest)
  earlier [] rest n e l h c = refl
  earlier (t ∷ past) rest n e l h c =
      ⊎_elim
      (λ (y : is_noted p t.event.node ≡ true).
      ap (λ b. ledger_at p e l (map mark_of (cond b (t ∷ filter (λ x. is_noted p x.event.node) (past ++ rest)) (filter (λ x. is_noted p x.event.node) (past ++ rest))))) y
      ∙ ap (λ b. cond b (ledger_at p e (stepped p l (mark_of t)) (marks_where (is_noted p) (past ++ rest))) l) (before t.event.number h.0)
      ∙ earlier past rest (suc n) e (stepped p l (mark_of t)) h.1 c)
      (λ (y : is_noted p t.event.node ≡ false).
      ap (λ b. ledger_at p e l (map mark_of (cond b (t ∷ filter (λ x. is_noted p x.event.node) (past ++ rest)) (filter (λ x. is_noted p x.event.node) (past ++ rest))))) y
      ∙ ap (λ k. ledger_at p e k (marks_where (is_noted p) (past ++ rest))) (sym (unnoted l t y))
      ∙ earlier past rest (suc n) e (stepped p l (mark_of t)) h.1 c)
      (cases_Bool (is_noted p t.event.node))
    where
      before : (k : ℕ) → k ≡ n → (nat_lt k e || ((k == e) && is_enter t.event.kind)) ≡ true
      before k i =
          let m = counted_more past (suc n) in
          ap (λ b. b || ((k == e) && is_enter t.event.kind)) (less k i (subst (λ x. suc n ≤ x) (sym c) m))
        where
          less : (k : ℕ) → k ≡ n → suc n ≤ e → nat_lt k e ≡ true
          less k i m = grind (arith, nat_tests, i, m)

  -- those of later ones aren't
  later : (ts : List Told) (n e : ℕ) (l : Ledger) → AreFrom n ts → e < n → ledger_at p e l (marks_where (is_noted p) ts) ≡ l
  later [] n e l h c = refl
  later (t ∷ ts) n e l h c =
      ⊎_elim
      (λ (y : is_noted p t.event.node ≡ true).
      ap (λ b. ledger_at p e l (map mark_of (cond b (t ∷ filter (λ x. is_noted p x.event.node) ts) (filter (λ x. is_noted p x.event.node) ts)))) y
      ∙ ap (λ b. cond b (ledger_at p e (stepped p l (mark_of t)) (marks_where (is_noted p) ts)) l) (behind t.event.number h.0))
      (λ (y : is_noted p t.event.node ≡ false).
      ap (λ b. ledger_at p e l (map mark_of (cond b (t ∷ filter (λ x. is_noted p x.event.node) ts) (filter (λ x. is_noted p x.event.node) ts)))) y
      ∙ later ts (suc n) e l h.1 (more c))
      (cases_Bool (is_noted p t.event.node))
    where
      more : e < n → e < suc n
      more c = omega (arith, c)

      behind : (k : ℕ) → k ≡ n → (nat_lt k e || ((k == e) && is_enter t.event.kind)) ≡ false
      behind k i = ap (λ b. b || ((k == e) && is_enter t.event.kind)) (not_less k i c) ∙ ap (λ b. b && is_enter t.event.kind) (not_this k i c)
        where
          not_less : (k : ℕ) → k ≡ n → e < n → nat_lt k e ≡ false
          not_less k i c = grind (arith, nat_tests, i, c)

          not_this : (k : ℕ) → k ≡ n → e < n → (k == e) ≡ false
          not_this k i c = grind (arith, nat_tests, i, c)

  -- the ledger when an event is shown: with its own Enter
  abbrev pub shown_by : Bool → Ledger → Told → Ledger
  shown_by true l t = stepped p l (mark_of t)
  shown_by false l t = l

  this : (t : Told) (rest : List Told) (e : ℕ) (l : Ledger) → t.event.number ≡ e → AreFrom (suc e) rest → ledger_at p e l (marks_where (is_noted p) (t ∷ rest)) ≡ shown_by (is_enter t.event.kind) l t
  this t rest e l number h =
      ⊎_elim
      (λ (y : is_noted p t.event.node ≡ true).
      ap (λ b. ledger_at p e l (map mark_of (cond b (t ∷ filter (λ x. is_noted p x.event.node) rest) (filter (λ x. is_noted p x.event.node) rest)))) y
      ∙ ap (λ b. cond b (ledger_at p e (stepped p l (mark_of t)) (marks_where (is_noted p) rest)) l) (now t.event.number number)
      ∙ taken (is_enter t.event.kind))
      (λ (y : is_noted p t.event.node ≡ false).
      ap (λ b. ledger_at p e l (map mark_of (cond b (t ∷ filter (λ x. is_noted p x.event.node) rest) (filter (λ x. is_noted p x.event.node) rest)))) y
      ∙ later rest (suc e) e l h after
      ∙ quiet (is_enter t.event.kind) y)
      (cases_Bool (is_noted p t.event.node))
    where
      after : e < suc e
      after = omega arith

      now : (k : ℕ) → k ≡ e → (nat_lt k e || ((k == e) && is_enter t.event.kind)) ≡ is_enter t.event.kind
      now k i = ap (λ b. b || ((k == e) && is_enter t.event.kind)) (not_less k i) ∙ ap (λ b. b && is_enter t.event.kind) (same k i)
        where
          not_less : (k : ℕ) → k ≡ e → nat_lt k e ≡ false
          not_less k i = grind (arith, nat_tests, i)

          same : (k : ℕ) → k ≡ e → (k == e) ≡ true
          same k i = grind (arith, nat_tests, i)

      taken : (b : Bool) → cond b (ledger_at p e (stepped p l (mark_of t)) (marks_where (is_noted p) rest)) l ≡ shown_by b l t
      taken true = later rest (suc e) e (stepped p l (mark_of t)) h after
      taken false = refl

      quiet : (b : Bool) → is_noted p t.event.node ≡ false → l ≡ shown_by b l t
      quiet true y = sym (unnoted l t y)
      quiet false y = refl

  pub ledger_told : (past rest : List Told) (t : Told) (e : ℕ) (l : Ledger) → AreFrom 0 (past ++ t ∷ rest) → length past ≡ e
      → ledger_at p e l (marks_where (is_noted p) (past ++ t ∷ rest)) ≡ shown_by (is_enter t.event.kind) (walked l past) t
  ledger_told past rest t e l h c =
      let parts = from_parts past (t ∷ rest) 0 h in
      let here : e ≡ counted 0 past = sym (counted_all past ∙ c) in
      earlier past (t ∷ rest) 0 e l parts.0 here
      ∙ this t rest e (walked l past) (parts.1.0 ∙ sym here) (subst (λ n. AreFrom (suc n) rest) (sym here) parts.1.1)

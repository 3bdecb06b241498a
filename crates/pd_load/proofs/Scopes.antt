-- The kept scope follows that of the definition.
use Rattle.std.proofs.Common.{◌≡◌, ℕ, zero, suc, ◌+◌, ◌-◌, ◌<◌, ◌≤◌, List, [], ◌∷◌, ◌++◌, length, take, drop, get_or, Option, Some, None, true, false, refl, sym, ap, ◌∙◌, subst, arith, length-append}
use Rattle.std.proofs.lemmas.List.{take_all, drop_all}
use Rattle.pd_tree.specs.declared.kind.Kind.{Kind}
use Rattle.pd_tree.specs.declared.kind.Kind.TheVariants.{PlProcedure}
use Rattle.pd_load.specs.declared.scope.Procedure.{Procedure}
use Rattle.pd_load.specs.declared.scope.Unfinished as kept
use Rattle.pd_load.specs.declared.scope.Scope as kept_scope
use Rattle.pd_load.specs.Names.{Symbol, lookup, Unfinished, Scope, no_scope, declared, part_came, ended, procedure_symbol}
use Rattle.pd_load.proofs.Lists.{drop_item, or_assoc, or_none}
use Rattle.std.specs.Prelude.{if◌then◌else◌, bytes_eq}
use Rattle.std.specs.Option.{option_or}
use Rattle.pd_load.specs.Scopes.{symbols_of, IsStack, IsScope}

-- ---- lists

snoc_same : {X : Type 0} (xs ys : List X) (x y : X) → xs ++ x ∷ [] ≡ ys ++ y ∷ [] → (xs ≡ ys) × (x ≡ y)
snoc_same [] [] x y h = (refl, cc)
snoc_same [] (b ∷ ys) x y h = absurd (omega (arith, ap length h, length-append ys (y ∷ [])))
snoc_same (a ∷ xs) [] x y h = absurd (omega (arith, ap length h, length-append xs (x ∷ [])))
snoc_same (a ∷ xs) (b ∷ ys) x y h =
    let head : a ≡ b = cc in
    let tail : xs ++ x ∷ [] ≡ ys ++ y ∷ [] = cc in
    let same = snoc_same xs ys x y tail in
    (ap (λ l. a ∷ l) same.0 ∙ ap (λ c. c ∷ ys) head, same.1)

snoc_some : {X : Type 0} (xs : List X) (x : X) → xs ++ x ∷ [] ≡ [] → ⊥
snoc_some xs x h = omega (arith, ap length h, length-append xs (x ∷ []))

pub no_items : {X : Type 0} (xs : List X) → length xs ≡ 0 → xs ≡ []
no_items [] h = refl
no_items (x ∷ xs) h = absurd (omega (arith, h))

take_front : {X : Type 0} (n : ℕ) (xs ys : List X) → n ≤ length xs → take n (xs ++ ys) ≡ take n xs
take_front zero xs ys le = refl
take_front (suc n) [] ys le = absurd (omega arith)
take_front (suc n) (x ∷ xs) ys le = ap (λ l. x ∷ l) (take_front n xs ys (omega arith))

pub symbols_length : (ps : List Procedure) → length (symbols_of ps) ≡ length ps
symbols_length [] = refl
symbols_length (p ∷ ps) = ap suc (symbols_length ps)

pub symbols_push : (ps : List Procedure) (p : Procedure) → symbols_of (ps ++ p ∷ []) ≡ symbols_of ps ++ record { name = p.name; item = p.item } ∷ []
symbols_push [] p = refl
symbols_push (q ∷ ps) p = ap (λ l. record { name = q.name; item = q.item } ∷ l) (symbols_push ps p)

pub symbols_take : (n : ℕ) (ps : List Procedure) → symbols_of (take n ps) ≡ take n (symbols_of ps)
symbols_take zero ps = refl
symbols_take (suc n) [] = refl
symbols_take (suc n) (p ∷ ps) = ap (λ l. record { name = p.name; item = p.item } ∷ l) (symbols_take n ps)

-- ---- stacks

pub stack_depth : (visible : List Symbol) (us : List Unfinished) (xs : List kept.Unfinished) → IsStack visible us xs → length xs ≡ length us
stack_depth visible [] xs h = ap length h
stack_depth visible (u ∷ us) xs (outer, x, e, left, seen, le, more) =
    omega (arith, ap length e, length-append outer (x ∷ []), stack_depth u.visible us outer more)

stack_grow : (visible : List Symbol) (s : Symbol) (us : List Unfinished) (xs : List kept.Unfinished) → IsStack visible us xs → IsStack (visible ++ s ∷ []) us xs
stack_grow visible s [] xs h = h
stack_grow visible s (u ∷ us) xs (outer, x, e, left, seen, le, more) =
    (outer, x, e, left, take_front x.visible visible (s ∷ []) le ∙ seen, omega (arith, le, length-append visible (s ∷ [])), more)

stack_part : (visible : List Symbol) (us : List Unfinished) (xs rest : List kept.Unfinished) (x y : kept.Unfinished) → xs ≡ rest ++ x ∷ [] → y.left ≡ x.left - 1 → y.visible ≡ x.visible
    → IsStack visible us xs → IsStack visible (part_came us) (rest ++ y ∷ [])
stack_part visible [] xs rest x y e left same h = absurd (snoc_some rest x (sym e ∙ h))
stack_part visible (u ∷ us) xs rest x y e left same (outer, z, f, counted, seen, le, more) =
    let both = snoc_same rest outer x z (sym e ∙ f) in
    let lefts : x.left ≡ z.left = ap (λ a. a.left) both.1 in
    let places : y.visible ≡ z.visible = same ∙ ap (λ a. a.visible) both.1 in
    (outer, y, ap (λ l. l ++ y ∷ []) both.0, left ∙ ap (λ n. n - 1) (lefts ∙ counted), ap (λ n. take n visible) places ∙ seen, omega (arith, places, le), more)

stack_empty : (visible : List Symbol) (us : List Unfinished) (xs : List kept.Unfinished) → xs ≡ [] → IsStack visible us xs → us ≡ []
stack_empty visible [] xs e h = refl
stack_empty visible (u ∷ us) xs e (outer, x, f, left, seen, le, more) = absurd (snoc_some outer x (sym f ∙ e))

-- ---- scopes

pub scope_none : (k : kept_scope.Scope) → k.visible.items ≡ [] → k.unfinished.items ≡ [] → IsScope k no_scope
scope_none k none empty = record { visible = ap symbols_of none; stack = empty }

module _ (old new : kept_scope.Scope) (s : Scope) (h : IsScope old s) where
  pub part_some : (rest : List kept.Unfinished) (x y : kept.Unfinished) → old.unfinished.items ≡ rest ++ x ∷ [] → y.left ≡ x.left - 1 → y.visible ≡ x.visible
      → new.visible.items ≡ old.visible.items → new.unfinished.items ≡ rest ++ y ∷ [] → IsScope new (record { unfinished = part_came s.unfinished; visible = s.visible })
  part_some rest x y e left same visible pushed = record {
    visible = ap symbols_of visible ∙ h.visible;
    stack = subst (IsStack s.visible (part_came s.unfinished)) (sym pushed) (stack_part s.visible s.unfinished old.unfinished.items rest x y e left same h.stack);
  }

  pub part_none : old.unfinished.items ≡ [] → new.visible.items ≡ old.visible.items → new.unfinished.items ≡ [] → IsScope new (record { unfinished = part_came s.unfinished; visible = s.visible })
  part_none e visible f = record {
    visible = ap symbols_of visible ∙ h.visible;
    stack = subst (λ us. IsStack s.visible (part_came us) new.unfinished.items) (sym (stack_empty s.visible s.unfinished old.unfinished.items e h.stack)) f;
  }

  pub opened : (left n : ℕ) → n ≡ length old.visible.items → new.visible.items ≡ old.visible.items → new.unfinished.items ≡ old.unfinished.items ++ record { left = left; visible = n } ∷ []
      → IsScope new (record { unfinished = record { left = left; visible = s.visible } ∷ s.unfinished; visible = s.visible })
  opened left n is visible pushed =
      let long : length s.visible ≡ n = ap length (sym h.visible) ∙ symbols_length old.visible.items ∙ sym is in
      record {
        visible = ap symbols_of visible ∙ h.visible;
        stack = (old.unfinished.items, record { left = left; visible = n }, pushed, refl, take_all n s.visible (omega (arith, long)), omega (arith, long), h.stack);
      }

  pub declared_more : (kind : Kind) (name : List ℕ) (variables : List (List ℕ)) → kind ≡ PlProcedure name variables → (item : ℕ) (p : Procedure) → (old.unfinished.items ≡ [] → ⊥) → p.name ≡ name → p.item ≡ item
      → new.visible.items ≡ old.visible.items ++ p ∷ [] → new.unfinished.items ≡ old.unfinished.items
      → IsScope new (record { unfinished = s.unfinished; visible = declared kind item s.unfinished s.visible })
  declared_more kind name variables is item p some named numbered pushed same =
      subst (λ k. IsScope new (record { unfinished = s.unfinished; visible = declared k item s.unfinished s.visible })) (sym is) (go s.unfinished h.stack)
    where
      shown : symbols_of new.visible.items ≡ s.visible ++ record { name = name; item = item } ∷ []
      shown =
          ap symbols_of pushed ∙ symbols_push old.visible.items p ∙ ap (λ l. l ++ record { name = p.name; item = p.item } ∷ []) h.visible
          ∙ ap (λ x. s.visible ++ record { name = x; item = p.item } ∷ []) named ∙ ap (λ i. s.visible ++ record { name = name; item = i } ∷ []) numbered

      go : (us : List Unfinished) → IsStack s.visible us old.unfinished.items → IsScope new (record { unfinished = us; visible = declared (PlProcedure name variables) item us s.visible })
      go [] k = absurd (some k)
      go (u ∷ us) k = record {
        visible = shown;
        stack = subst (IsStack (s.visible ++ record { name = name; item = item } ∷ []) (u ∷ us)) (sym same) (stack_grow s.visible (record { name = name; item = item }) (u ∷ us) old.unfinished.items k);
      }

  pub declared_main : (kind : Kind) (item : ℕ) → old.unfinished.items ≡ [] → new.visible.items ≡ old.visible.items → new.unfinished.items ≡ old.unfinished.items
      → IsScope new (record { unfinished = s.unfinished; visible = declared kind item s.unfinished s.visible })
  declared_main kind item e visible same =
      subst (λ us. IsScope new (record { unfinished = us; visible = declared kind item us s.visible })) (sym (stack_empty s.visible s.unfinished old.unfinished.items e h.stack))
      (go kind)
    where
      go : (k : Kind) → IsScope new (record { unfinished = []; visible = declared k item [] s.visible })
      go (PlProcedure name variables) = record { visible = ap symbols_of visible ∙ h.visible; stack = same ∙ e }
      go _ = record { visible = ap symbols_of visible ∙ h.visible; stack = same ∙ e }

-- ---- the end of nodes

pub record EndsTo (initial now : kept_scope.Scope) : Type 0 where
  pub upto : (s : Scope) → IsScope initial s → (t : Scope) × IsScope now t × (ended t.unfinished t.visible ≡ ended s.unfinished s.visible)

pub ends_none : (k : kept_scope.Scope) → EndsTo k k
ends_none k = record { upto = λ s h. (s, h, refl) }

choice : ℕ → Scope → Scope → Scope
choice n a b = elim n [
  | zero ↦ a
  | suc _ ↦ b
]

end_zero : (u : Unfinished) (us : List Unfinished) (visible : List Symbol) → u.left ≡ 0 → ended (u ∷ us) visible ≡ ended us u.visible
unfolding choice
end_zero u us visible h = ap (λ n. choice n (ended us u.visible) (record { unfinished = u ∷ us; visible = visible })) h

end_some : (u : Unfinished) (us : List Unfinished) (visible : List Symbol) (n : ℕ) → u.left ≡ suc n → ended (u ∷ us) visible ≡ record { unfinished = u ∷ us; visible = visible }
unfolding choice
end_some u us visible n h = ap (λ m. choice m (ended us u.visible) (record { unfinished = u ∷ us; visible = visible })) h

module _ (old new : kept_scope.Scope) (rest : List kept.Unfinished) (x : kept.Unfinished) (e : old.unfinished.items ≡ rest ++ x ∷ []) where
  step : (us : List Unfinished) (visible : List Symbol) → symbols_of old.visible.items ≡ visible → IsStack visible us old.unfinished.items → x.left ≡ 0
      → new.visible.items ≡ take x.visible old.visible.items → new.unfinished.items ≡ rest → (t : Scope) × IsScope new t × (ended t.unfinished t.visible ≡ ended us visible)
  step [] visible shown h none cut popped = absurd (snoc_some rest x (sym e ∙ h))
  step (u ∷ us) visible shown (outer, z, f, left, seen, le, more) none cut popped =
      let both = snoc_same rest outer x z (sym e ∙ f) in
      let places : x.visible ≡ z.visible = ap (λ a. a.visible) both.1 in
      let zero_left : u.left ≡ 0 = sym left ∙ ap (λ a. a.left) (sym both.1) ∙ none in
      let t : Scope = record { unfinished = us; visible = u.visible } in
      let is : IsScope new t = record {
        visible = ap symbols_of cut ∙ symbols_take x.visible old.visible.items ∙ ap (take x.visible) shown ∙ ap (λ n. take n visible) places ∙ seen;
        stack = subst (IsStack u.visible us) (sym (popped ∙ both.0)) more;
      } in
      (t, is, sym (end_zero u us visible zero_left))

  pub ends_more : (initial : kept_scope.Scope) → x.left ≡ 0 → new.visible.items ≡ take x.visible old.visible.items → new.unfinished.items ≡ rest
      → EndsTo initial old → EndsTo initial new
  ends_more initial none cut popped seen = record {
    upto = λ s h.
        let k = seen.upto s h in
        let n = step k.0.unfinished k.0.visible k.1.visible k.1.stack none cut popped in
        (n.0, n.1, n.2 ∙ k.2);
  }

  stop : (us : List Unfinished) (visible : List Symbol) → symbols_of old.visible.items ≡ visible → IsStack visible us old.unfinished.items → 0 < x.left
      → new.visible.items ≡ old.visible.items → new.unfinished.items ≡ old.unfinished.items → IsScope new (ended us visible)
  stop [] visible shown h some same pushed = absurd (snoc_some rest x (sym e ∙ h))
  stop (u ∷ us) visible shown (outer, z, f, left, seen, le, more) some same pushed =
      let both = snoc_same rest outer x z (sym e ∙ f) in
      let lefts : u.left ≡ x.left = sym left ∙ ap (λ a. a.left) (sym both.1) in
      subst (IsScope new) (sym (end_some u us visible (u.left - 1) (omega (arith, lefts, some))))
      (record { visible = ap symbols_of same ∙ shown; stack = subst (IsStack visible (u ∷ us)) (sym pushed) (outer, z, f, left, seen, le, more) })

  pub ends_stop : (initial : kept_scope.Scope) → 0 < x.left → new.visible.items ≡ old.visible.items → new.unfinished.items ≡ rest ++ x ∷ []
      → EndsTo initial old → (s : Scope) → IsScope initial s → IsScope new (ended s.unfinished s.visible)
  ends_stop initial some same pushed seen s h =
      let k = seen.upto s h in
      subst (IsScope new) k.2 (stop k.0.unfinished k.0.visible k.1.visible k.1.stack some same (pushed ∙ sym e))

pub ends_all : (initial old new : kept_scope.Scope) → old.unfinished.items ≡ [] → new.visible.items ≡ old.visible.items → new.unfinished.items ≡ []
    → EndsTo initial old → (s : Scope) → IsScope initial s → IsScope new (ended s.unfinished s.visible)
ends_all initial old new e same f seen s h =
    let k = seen.upto s h in
    let empty = stack_empty k.0.visible k.0.unfinished old.unfinished.items e k.1.stack in
    let is : IsScope new (record { unfinished = []; visible = k.0.visible }) = record { visible = ap symbols_of same ∙ k.1.visible; stack = f } in
    subst (IsScope new) (sym (ap (λ us. ended us k.0.visible) empty) ∙ k.2) is

-- ---- the innermost procedure of a name

pub record FindsTo (name : List ℕ) (ps : List Procedure) (k : ℕ) (found : Option ℕ) : Type 0 where
  pub rest : option_or (lookup name (symbols_of (drop k ps))) found ≡ lookup name (symbols_of ps)

module _ (name : List ℕ) (ps : List Procedure) where
  pub finds_none : FindsTo name ps 0 None
  finds_none = record { rest = or_none (lookup name (symbols_of ps)) }

  finds_more : (k : ℕ) (p : Procedure) (found next : Option ℕ) → k < length ps → p ≡ get_or ps k p → next ≡ option_or (if bytes_eq p.name name then Some p.item else None) found
      → FindsTo name ps k found → FindsTo name ps (k + 1) next
  finds_more k p found next lt is picks seen =
      let later : Option ℕ = lookup name (symbols_of (drop (k + 1) ps)) in
      record {
        rest =
            ap (option_or later) picks
            ∙ sym (or_assoc later (if bytes_eq p.name name then Some p.item else None) found)
            ∙ ap (λ l. option_or (lookup name (symbols_of l)) found) (sym (drop_item ps k p lt is))
            ∙ seen.rest;
      }

  pub finds_hit : (k : ℕ) (p : Procedure) (found : Option ℕ) → k < length ps → p ≡ get_or ps k p → bytes_eq p.name name ≡ true → FindsTo name ps k found → FindsTo name ps (k + 1) (Some p.item)
  finds_hit k p found lt is same seen = finds_more k p found (Some p.item) lt is (sym (ap (λ b. option_or (if b then Some p.item else None) found) same)) seen

  pub finds_miss : (k : ℕ) (p : Procedure) (found : Option ℕ) → k < length ps → p ≡ get_or ps k p → bytes_eq p.name name ≡ false → FindsTo name ps k found → FindsTo name ps (k + 1) found
  finds_miss k p found lt is other seen = finds_more k p found found lt is (sym (ap (λ b. option_or (if b then Some p.item else None) found) other)) seen

  pub finds_all : (k : ℕ) (found : Option ℕ) → length ps ≤ k → FindsTo name ps k found → found ≡ lookup name (symbols_of ps)
  finds_all k found le seen = ap (λ l. option_or (lookup name (symbols_of l)) found) (sym (drop_all k ps le)) ∙ seen.rest

-- ---- procedures of the main block

pub main_symbol : (k : kept_scope.Scope) (s : Scope) (name : List ℕ) (variables : List (List ℕ)) (item : ℕ) (later : List Symbol) → IsScope k s → length k.unfinished.items ≡ 1
    → procedure_symbol (PlProcedure name variables) item s.unfinished later ≡ record { name = name; item = item } ∷ later
main_symbol k s name variables item later h one = go s.unfinished (sym (stack_depth s.visible s.unfinished k.unfinished.items h.stack) ∙ one)
  where
    go : (us : List Unfinished) → length us ≡ 1 → procedure_symbol (PlProcedure name variables) item us later ≡ record { name = name; item = item } ∷ later
    go [] e = absurd (omega (arith, e))
    go (u ∷ []) e = refl
    go (u ∷ v ∷ us) e = absurd (omega (arith, e))

pub inner_symbol : (k : kept_scope.Scope) (s : Scope) (kind : Kind) (item : ℕ) (later : List Symbol) → IsScope k s → (length k.unfinished.items ≡ 1 → ⊥)
    → procedure_symbol kind item s.unfinished later ≡ later
inner_symbol k s kind item later h many = go kind s.unfinished (λ e. many (stack_depth s.visible s.unfinished k.unfinished.items h.stack ∙ e))
  where
    go : (kind : Kind) (us : List Unfinished) → (length us ≡ 1 → ⊥) → procedure_symbol kind item us later ≡ later
    go (PlProcedure name variables) [] e = refl
    go (PlProcedure name variables) (u ∷ []) e = absurd (e refl)
    go (PlProcedure name variables) (u ∷ v ∷ us) e = refl
    go _ us e = refl

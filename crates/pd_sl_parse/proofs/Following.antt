-- The walk of scopes finds the variables of the rule.
use Rattle.std.proofs.Common.{◌≡◌, ℕ, zero, suc, ◌+◌, ◌*◌, ◌<◌, ◌≤◌, Bool, true, false, List, [], ◌∷◌, Option, Some, None, refl, sym, ap, subst, ◌∙◌, ◌⊎◌, inl, inr, arith}
use Rattle.std.specs.Prelude.{cond, bytes_eq, is_some, if◌then◌else◌, not, nat_lt, nat_le, ◌&&◌, ◌||◌}
use Rattle.std.specs.Cmp.Lexicographic.{slice_cmp, nat_list_cmp_total}
use Rattle.std.specs.FinMap as maps
use Rattle.std.specs.Ordering.{nat_cmp, eq_by_cmp}
use Rattle.std.proofs.lemmas.Bool.{lt-ltb, le-ltb, le-leb, ltb-true, ltb-false, leb-true, cases_lt, and_parts, and_from, and_right, and_left, or_cases, or_left, or_right, not_from_true, not_from_false}
use Rattle.std.proofs.lemmas.Slice.Eq.{bytes_eq-Decides}
use Rattle.pd_sections.specs.declared.Token.{Token}
use Rattle.pd_tree.specs.declared.kind.Meaning.TheVariants.{Local, Nothing}
use Rattle.pd_sl_read.specs.declared.parts.Part.{Part}
use Rattle.pd_sl_read.specs.declared.parts.Shape.{Shape}
use Rattle.pd_sl_read.specs.declared.parts.Shape.TheVariants as shapes
use Rattle.pd_sl_read.specs.Places.{part}
use Rattle.pd_sl_parse.specs.declared.scope.Variable.{Variable}
use Rattle.pd_sl_parse.specs.Scopes.{Variables, Scoped, no_scope, text_at, latest, open_at, innermost, left, with_parameter, with_parameters, sooner, assigned_again, assigned_new, assigned, block_entered, entered_in, entered, assigned_meaning, read_meaning, meaning_in}
use Rattle.pd_sl_parse.specs.Locals.{is_function, is_block, is_assignment, parameters, block_end, is_named, variables_named, slot_named, assigns, is_local, is_inside, makes_variable, variables_made, slot_of, local, meaning_of}
use Rattle.pd_sl_parse.proofs.Naming.{tested}

-- the place of the latest node
abbrev pub start : List Part → ℕ
start [] = 0
start (q ∷ qs) = q.first

-- what begins at `j` and goes up to `e` goes on behind none of these nodes in which it begins
abbrev pub AllNested : List Part → ℕ → ℕ → Type 0
AllNested [] j e = Unit {0}
AllNested (q ∷ qs) j e = (j < q.end → e ≤ q.end) × AllNested qs j e

abbrev pub AssignsEnded : List Part → ℕ → Type 0
AssignsEnded [] j = Unit {0}
AssignsEnded (q ∷ qs) j = (is_assignment q.shape ≡ true → q.end ≤ j) × AssignsEnded qs j

-- how a node stands behind the earlier ones
pub record Stands (qs : List Part) (p : Part) : Type 0 where
  pub some : p.first < p.end
  pub order : start qs ≤ p.first
  pub nested : AllNested qs p.first p.end
  pub in_block : is_assignment p.shape ≡ true → p.end ≤ block_end qs p.first
  pub clear : is_block p.shape ≡ true → AssignsEnded qs p.first

open_open : (i j : ℕ) (l : List ℕ) → j ≤ i → open_at i (open_at j l) ≡ open_at i l
unfolding open_at
open_open i j [] le = refl
open_open i j (e ∷ l) le = go (open_open i j l le) (nat_lt j e) refl
  where
    go : open_at i (open_at j l) ≡ open_at i l → (t : Bool) → nat_lt j e ≡ t → open_at i (if t then e ∷ l else open_at j l) ≡ open_at i (e ∷ l)
    go more true h = refl
    go more false h =
        let past : e ≤ i = omega (arith, ltb-false j e h) in
        more ∙ sym (ap (λ b. if b then e ∷ l else open_at i l) (le-ltb i e past))

open_first : (i e : ℕ) (l : List ℕ) → innermost (open_at i (e ∷ l)) ≡ (if nat_lt i e then e else innermost (open_at i l))
unfolding open_at
open_first i e l = go (nat_lt i e)
  where
    go : (t : Bool) → innermost (if t then e ∷ l else open_at i l) ≡ (if t then e else innermost (open_at i l))
    go true = refl
    go false = refl

no_open : (i : ℕ) → innermost (open_at i []) ≡ 0
unfolding open_at
no_open i = refl

not_both : (t : Bool) → t ≡ false → t ≡ true → ⊥
not_both t f e = cc

-- the innermost block at a place is the innermost one up to its end, where no other begins
steady : (qs : List Part) (j i : ℕ) → j ≤ i → i < block_end qs j → block_end qs i ≡ block_end qs j
steady [] j i le lt = absurd (omega arith)
steady (q ∷ qs) j i le lt = go (steady qs j i le) (is_function q.shape) (is_block q.shape) (nat_lt j q.end) (nat_lt i q.end) refl refl lt
  where
    go : (i < block_end qs j → block_end qs i ≡ block_end qs j) → (f b tj ti : Bool) → nat_lt j q.end ≡ tj → nat_lt i q.end ≡ ti → i < (if f then 0 else if b && tj then q.end else block_end qs j)
        → (if f then 0 else if b && ti then q.end else block_end qs i) ≡ (if f then 0 else if b && tj then q.end else block_end qs j)
    go more true b tj ti ej ei h = refl
    go more false false tj ti ej ei h = more h
    go more false true true true ej ei h = refl
    go more false true true false ej ei h = absurd (omega (arith, ltb-false i q.end ei))
    go more false true false true ej ei h = absurd (omega (arith, ltb-false j q.end ej, ltb-true i q.end ei))
    go more false true false false ej ei h = more h

end_nests : (qs : List Part) (i j e : ℕ) → AllNested qs j e → j < block_end qs i → e ≤ block_end qs i
end_nests [] i j e h lt = absurd (omega arith)
end_nests (q ∷ qs) i j e h lt = go (end_nests qs i j e h.1) (is_function q.shape) (is_block q.shape && nat_lt i q.end) lt
  where
    go : (j < block_end qs i → e ≤ block_end qs i) → (f b : Bool) → j < (if f then 0 else if b then q.end else block_end qs i) → e ≤ (if f then 0 else if b then q.end else block_end qs i)
    go more true b l = absurd (omega arith)
    go more false true l = h.0 l
    go more false false l = more l

module _ (bytes : List ℕ) (tokens : List Token) where
  -- what the walk holds of a name, against what the rule says of it
  pub record Seen (name : List ℕ) (v : Variable) (qs : List Part) : Type 0 where
    pub nests : (j e : ℕ) → AllNested qs j e → j < v.until → e ≤ v.until
    pub ended : (j : ℕ) → AssignsEnded qs j → v.from ≤ j
    pub within : (i : ℕ) → start qs ≤ i → i < v.until → block_end qs i ≤ v.until
    pub same : (i : ℕ) → start qs ≤ i → i < v.from → i < v.until → block_end qs i ≡ v.until
    pub slot : (i : ℕ) → start qs ≤ i → i < v.until → slot_of bytes tokens name i qs ≡ Some v.slot
    pub here : (i : ℕ) → start qs ≤ i → v.from ≤ i → i < v.until → is_local bytes tokens name i qs ≡ true
    pub only : (i : ℕ) → start qs ≤ i → is_local bytes tokens name i qs ≡ true → (v.from ≤ i) × (i < v.until)
    pub inside : (i : ℕ) → start qs ≤ i → i < v.from → i < v.until → is_inside bytes tokens name i qs ≡ true
    pub inside_only : (i : ℕ) → start qs ≤ i → is_inside bytes tokens name i qs ≡ true → i < v.until

  pub record Unseen (name : List ℕ) (qs : List Part) : Type 0 where
    pub not_local : (i : ℕ) → start qs ≤ i → is_local bytes tokens name i qs ≡ false
    pub not_inside : (i : ℕ) → start qs ≤ i → is_inside bytes tokens name i qs ≡ false

  abbrev pub IsSeen : List ℕ → Option Variable → List Part → Type 0
  IsSeen name None qs = Unseen name qs
  IsSeen name (Some v) qs = Seen name v qs

  pub record Follows (qs : List Part) (s : Scoped) : Type 0 where
    pub blocks : (i : ℕ) → start qs ≤ i → innermost (open_at i s.blocks) ≡ block_end qs i
    pub slots : s.slots ≡ variables_made bytes tokens qs
    pub names : (name : List ℕ) → IsSeen name (latest name s.variables) qs

  end_same : (p : Part) (qs : List Part) → is_function p.shape ≡ false → is_block p.shape ≡ false → (i : ℕ) → block_end (p ∷ qs) i ≡ block_end qs i
  end_same p qs f b i = ap (λ t. if t then 0 else if is_block p.shape && nat_lt i p.end then p.end else block_end qs i) f ∙ ap (λ t. if t && nat_lt i p.end then p.end else block_end qs i) b

  local_same : (name : List ℕ) (p : Part) (qs : List Part) → is_function p.shape ≡ false → assigns bytes tokens name p ≡ false → (i : ℕ) → is_local bytes tokens name i (p ∷ qs) ≡ is_local bytes tokens name i qs
  local_same name p qs f a i =
      ap (λ t. if t then nat_lt i p.end && is_named bytes tokens (p.first + 3) (parameters p.shape) name else (assigns bytes tokens name p && nat_le p.end i && nat_lt i (block_end qs p.first)) || is_local bytes tokens name i qs) f
      ∙ ap (λ t. (t && nat_le p.end i && nat_lt i (block_end qs p.first)) || is_local bytes tokens name i qs) a

  inside_same : (name : List ℕ) (p : Part) (qs : List Part) → is_function p.shape ≡ false → assigns bytes tokens name p ≡ false → (i : ℕ) → is_inside bytes tokens name i (p ∷ qs) ≡ is_inside bytes tokens name i qs
  inside_same name p qs f a i =
      ap (λ t. if t then false else (assigns bytes tokens name p && nat_lt i p.end) || is_inside bytes tokens name i qs) f
      ∙ ap (λ t. (t && nat_lt i p.end) || is_inside bytes tokens name i qs) a

  slot_same : (name : List ℕ) (p : Part) (qs : List Part) → is_function p.shape ≡ false → assigns bytes tokens name p ≡ false → (i : ℕ) → slot_of bytes tokens name i (p ∷ qs) ≡ slot_of bytes tokens name i qs
  slot_same name p qs f a i =
      ap (λ t. if t then slot_named bytes tokens (p.first + 3) (parameters p.shape) name else if assigns bytes tokens name p && makes_variable bytes tokens p qs && nat_lt i (block_end qs p.first) then Some (variables_made bytes tokens qs) else slot_of bytes tokens name i qs) f
      ∙ ap (λ t. if t && makes_variable bytes tokens p qs && nat_lt i (block_end qs p.first) then Some (variables_made bytes tokens qs) else slot_of bytes tokens name i qs) a

  -- behind a node that assigns to another name
  carried : (name : List ℕ) (v : Variable) (p : Part) (qs : List Part) → is_function p.shape ≡ false → assigns bytes tokens name p ≡ false → start qs ≤ p.first
      → ((i : ℕ) → p.first ≤ i → i < v.until → block_end (p ∷ qs) i ≤ v.until) → ((i : ℕ) → p.first ≤ i → i < v.from → i < v.until → block_end (p ∷ qs) i ≡ v.until)
      → Seen name v qs → Seen name v (p ∷ qs)
  carried name v p qs f a order within same s = record {
    nests = λ j e h lt. s.nests j e h.1 lt;
    ended = λ j h. s.ended j h.1;
    within = within;
    same = same;
    slot = λ i g lt. slot_same name p qs f a i ∙ s.slot i (omega arith) lt;
    here = λ i g from lt. local_same name p qs f a i ∙ s.here i (omega arith) from lt;
    only = λ i g h. s.only i (omega arith) (sym (local_same name p qs f a i) ∙ h);
    inside = λ i g lt lt2. inside_same name p qs f a i ∙ s.inside i (omega arith) lt lt2;
    inside_only = λ i g h. s.inside_only i (omega arith) (sym (inside_same name p qs f a i) ∙ h);
  }

  passed : (name : List ℕ) (o : Option Variable) (p : Part) (qs : List Part) → is_function p.shape ≡ false → is_block p.shape ≡ false → assigns bytes tokens name p ≡ false → start qs ≤ p.first → IsSeen name o qs → IsSeen name o (p ∷ qs)
  passed name None p qs f b a order u = record {
    not_local = λ i g. local_same name p qs f a i ∙ u.not_local i (omega arith);
    not_inside = λ i g. inside_same name p qs f a i ∙ u.not_inside i (omega arith);
  }
  passed name (Some v) p qs f b a order s = carried name v p qs f a order
      (λ i g lt. omega (arith, end_same p qs f b i, s.within i (omega arith) lt))
      (λ i g lt lt2. end_same p qs f b i ∙ s.same i (omega arith) lt lt2) s

  -- a node that is no function, no block and no assignment
  pub follows_other : (sh : Shape) (a b : ℕ) (qs : List Part) (s : Scoped) → is_function sh ≡ false → is_block sh ≡ false → is_assignment sh ≡ false → Stands qs (part sh a b) → Follows qs s → Follows (part sh a b ∷ qs) s
  follows_other sh a b qs s f bl as' st h = record {
    blocks = λ i g. h.blocks i (omega (arith, st.order)) ∙ sym (end_same (part sh a b) qs f bl i);
    slots = h.slots ∙ sym (
        ap (λ t. if t then variables_named bytes tokens (a + 3) (parameters sh) else if makes_variable bytes tokens (part sh a b) qs then variables_made bytes tokens qs + 1 else variables_made bytes tokens qs) f
        ∙ ap (λ t. if t && not (is_local bytes tokens (text_at bytes tokens a) a qs) && not (is_inside bytes tokens (text_at bytes tokens a) a qs) then variables_made bytes tokens qs + 1 else variables_made bytes tokens qs) as');
    names = λ name. passed name (latest name s.variables) (part sh a b) qs f bl (ap (λ t. t && bytes_eq (text_at bytes tokens a) name) as') st.order (h.names name);
  }

  block_seen : (name : List ℕ) (o : Option Variable) (sh : Shape) (a b : ℕ) (qs : List Part) → is_function sh ≡ false → is_block sh ≡ true → is_assignment sh ≡ false → Stands qs (part sh a b) → IsSeen name o qs → IsSeen name o (part sh a b ∷ qs)
  block_seen name None sh a b qs f bl as' st u =
      let other : assigns bytes tokens name (part sh a b) ≡ false = ap (λ t. t && bytes_eq (text_at bytes tokens a) name) as' in
      record {
        not_local = λ i g. local_same name (part sh a b) qs f other i ∙ u.not_local i (omega (arith, st.order));
        not_inside = λ i g. inside_same name (part sh a b) qs f other i ∙ u.not_inside i (omega (arith, st.order));
      }
  block_seen name (Some v) sh a b qs f bl as' st s =
      carried name v (part sh a b) qs f (ap (λ t. t && bytes_eq (text_at bytes tokens a) name) as') st.order within
      (λ i g lt lt2. absurd (omega (arith, s.ended a (st.clear bl))))
      s
    where
      within : (i : ℕ) → a ≤ i → i < v.until → block_end (part sh a b ∷ qs) i ≤ v.until
      within i g lt =
          let e : block_end (part sh a b ∷ qs) i ≡ (if nat_lt i b then b else block_end qs i) =
          ap (λ t. if t then 0 else if is_block sh && nat_lt i b then b else block_end qs i) f ∙ ap (λ t. if t && nat_lt i b then b else block_end qs i) bl in
          let le : (if nat_lt i b then b else block_end qs i) ≤ v.until = go (nat_lt i b) in
          omega (arith, e, le)
        where
          go : (t : Bool) → (if t then b else block_end qs i) ≤ v.until
          go true = s.nests a b st.nested (omega arith)
          go false = s.within i (omega (arith, st.order)) lt

  pub follows_block : (sh : Shape) (a b : ℕ) (qs : List Part) (s : Scoped) → is_function sh ≡ false → is_block sh ≡ true → is_assignment sh ≡ false → Stands qs (part sh a b) → Follows qs s → Follows (part sh a b ∷ qs) (block_entered (part sh a b) s)
  follows_block sh a b qs s f bl as' st h = record {
    blocks = λ i g. open_first i b (open_at a s.blocks)
        ∙ ap (λ n. if nat_lt i b then b else n) (ap innermost (open_open i a s.blocks g) ∙ h.blocks i (omega (arith, st.order)))
        ∙ sym (ap (λ t. if t then 0 else if is_block sh && nat_lt i b then b else block_end qs i) f ∙ ap (λ t. if t && nat_lt i b then b else block_end qs i) bl);
    slots = h.slots ∙ sym (
        ap (λ t. if t then variables_named bytes tokens (a + 3) (parameters sh) else if makes_variable bytes tokens (part sh a b) qs then variables_made bytes tokens qs + 1 else variables_made bytes tokens qs) f
        ∙ ap (λ t. if t && not (is_local bytes tokens (text_at bytes tokens a) a qs) && not (is_inside bytes tokens (text_at bytes tokens a) a qs) then variables_made bytes tokens qs + 1 else variables_made bytes tokens qs) as');
    names = λ name. block_seen name (latest name s.variables) sh a b qs f bl as' st (h.names name);
  }

  -- a variable is put at its name
  put_seen : (vs : Variables) (name : List ℕ) (v : Variable) (qs : List Part) → Seen name v qs → ((x : List ℕ) → bytes_eq name x ≡ false → IsSeen x (latest x vs) qs) → (x : List ℕ) → IsSeen x (latest x (maps.insert vs name v)) qs
  put_seen vs name v qs h others x = subst (λ o. IsSeen x o qs) (sym (maps.get-insert nat_list_cmp_total vs name v x)) (go (eq_by_cmp (slice_cmp nat_cmp) x name) refl)
    where
      go : (t : Bool) → eq_by_cmp (slice_cmp nat_cmp) x name ≡ t → IsSeen x (cond t (Some v) (latest x vs)) qs
      go true e = subst (λ n. Seen n v qs) ((bytes_eq-Decides name x).0 (tested name x ∙ e)) h
      go false e = others x (tested name x ∙ e)

  -- or stays there
  kept_seen : (vs : Variables) (name : List ℕ) (v : Variable) (qs : List Part) → latest name vs ≡ Some v → Seen name v qs → ((x : List ℕ) → bytes_eq name x ≡ false → IsSeen x (latest x vs) qs) → (x : List ℕ) → IsSeen x (latest x vs) qs
  kept_seen vs name v qs is h others x = go (bytes_eq name x) refl
    where
      go : (t : Bool) → bytes_eq name x ≡ t → IsSeen x (latest x vs) qs
      go true e = subst (λ n. IsSeen n (latest n vs) qs) ((bytes_eq-Decides name x).0 e) (subst (λ o. IsSeen name o qs) (sym is) h)
      go false e = others x e

  itself : (name : List ℕ) → bytes_eq name name ≡ true
  itself name = (bytes_eq-Decides name name).1 refl

  module _ (a b : ℕ) (qs : List Part) where
    abbrev y : List ℕ
    y = text_at bytes tokens a

    abbrev p : Part
    p = part shapes.Assign a b

    -- what an assignment adds to the rule at its own name
    ends_here : (i : ℕ) → b ≤ i → i < block_end qs a → is_local bytes tokens y i (p ∷ qs) ≡ true
    ends_here i le lt = or_left _ _ (and_from _ _ (and_from _ _ (itself y) (le-leb b i le)) (lt-ltb i (block_end qs a) lt))

    still_local : (i : ℕ) → is_local bytes tokens y i qs ≡ true → is_local bytes tokens y i (p ∷ qs) ≡ true
    still_local i h = or_right (bytes_eq y y && nat_le b i && nat_lt i (block_end qs a)) _ h

    local_since : (i : ℕ) → is_local bytes tokens y i (p ∷ qs) ≡ true → ((b ≤ i) × (i < block_end qs a)) ⊎ (is_local bytes tokens y i qs ≡ true)
    local_since i h = go (or_cases (bytes_eq y y && nat_le b i && nat_lt i (block_end qs a)) (is_local bytes tokens y i qs) h)
      where
        go : ((bytes_eq y y && nat_le b i && nat_lt i (block_end qs a)) ≡ true) ⊎ (is_local bytes tokens y i qs ≡ true) → ((b ≤ i) × (i < block_end qs a)) ⊎ (is_local bytes tokens y i qs ≡ true)
        go (inl e) =
            let f = and_parts (bytes_eq y y && nat_le b i) (nat_lt i (block_end qs a)) e in
            inl (leb-true b i (and_parts (bytes_eq y y) (nat_le b i) f.0).1, ltb-true i (block_end qs a) f.1)
        go (inr e) = inr e

    goes_on : (i : ℕ) → i < b → is_inside bytes tokens y i (p ∷ qs) ≡ true
    goes_on i lt = or_left _ _ (and_from _ _ (itself y) (lt-ltb i b lt))

    still_inside : (i : ℕ) → is_inside bytes tokens y i qs ≡ true → is_inside bytes tokens y i (p ∷ qs) ≡ true
    still_inside i h = or_right (bytes_eq y y && nat_lt i b) _ h

    inside_since : (i : ℕ) → is_inside bytes tokens y i (p ∷ qs) ≡ true → (i < b) ⊎ (is_inside bytes tokens y i qs ≡ true)
    inside_since i h = go (or_cases (bytes_eq y y && nat_lt i b) (is_inside bytes tokens y i qs) h)
      where
        go : ((bytes_eq y y && nat_lt i b) ≡ true) ⊎ (is_inside bytes tokens y i qs ≡ true) → (i < b) ⊎ (is_inside bytes tokens y i qs ≡ true)
        go (inl e) = inl (ltb-true i b (and_parts (bytes_eq y y) (nat_lt i b) e).1)
        go (inr e) = inr e

    -- nothing of the name goes on here: the assignment makes a variable
    new_seen : (v : Variable) → Stands qs p → v.slot ≡ variables_made bytes tokens qs → v.from ≡ b → v.until ≡ block_end qs a → makes_variable bytes tokens p qs ≡ true
        → ((i : ℕ) → a ≤ i → is_local bytes tokens y i qs ≡ true → i < v.until) → ((i : ℕ) → a ≤ i → is_local bytes tokens y i qs ≡ true → ⊥) → ((i : ℕ) → a ≤ i → is_inside bytes tokens y i qs ≡ true → ⊥) → Seen y v (p ∷ qs)
    new_seen v st slot from until makes _ not_local not_inside = record {
      nests = λ j e h lt. omega (arith, until, end_nests qs a j e h.1 (omega (arith, until)));
      ended = λ j h. omega (arith, from, h.0 refl);
      within = λ i g lt. omega (arith, until, steady qs a i g (omega (arith, until)));
      same = λ i g lt lt2. steady qs a i g (omega (arith, until)) ∙ sym until;
      slot = λ i g lt. ap (λ t. if t then Some (variables_made bytes tokens qs) else slot_of bytes tokens y i qs) (and_from _ _ (and_from _ _ (itself y) makes) (lt-ltb i (block_end qs a) (omega (arith, until)))) ∙ ap (λ n. Some n) (sym slot);
      here = λ i g le lt. ends_here i (omega (arith, from)) (omega (arith, until));
      only = λ i g h. only i g (local_since i h);
      inside = λ i g lt lt2. goes_on i (omega (arith, from));
      inside_only = λ i g h. inside_only i g (inside_since i h);
    }
      where
        only : (i : ℕ) → a ≤ i → ((b ≤ i) × (i < block_end qs a)) ⊎ (is_local bytes tokens y i qs ≡ true) → (v.from ≤ i) × (i < v.until)
        only i g (inl h) = (omega (arith, from, h.0), omega (arith, until, h.1))
        only i g (inr h) = absurd (not_local i g h)

        inside_only : (i : ℕ) → a ≤ i → (i < b) ⊎ (is_inside bytes tokens y i qs ≡ true) → i < v.until
        inside_only i g (inl h) = omega (arith, until, st.in_block refl)
        inside_only i g (inr h) = absurd (not_inside i g h)

    -- the assignment goes to a variable that is there: it ends sooner than those before it
    sooner_seen : (v w : Variable) → Stands qs p → w.slot ≡ v.slot → w.from ≡ b → w.until ≡ v.until → makes_variable bytes tokens p qs ≡ false → a < v.until → b < v.from → Seen y v qs → Seen y w (p ∷ qs)
    sooner_seen v w st slot from until makes lt sooner s =
        let block : block_end qs a ≡ v.until = s.same a st.order (omega (arith, st.some)) lt in
        record {
          nests = λ j e h l. omega (arith, until, s.nests j e h.1 (omega (arith, until)));
          ended = λ j h. omega (arith, from, h.0 refl);
          within = λ i g l. omega (arith, until, s.within i (omega (arith, st.order)) (omega (arith, until)));
          same = λ i g l l2. s.same i (omega (arith, st.order)) (omega (arith, from)) (omega (arith, until)) ∙ sym until;
          slot = λ i g l. ap (λ t. if t then Some (variables_made bytes tokens qs) else slot_of bytes tokens y i qs) (and_left _ (nat_lt i (block_end qs a)) (and_right (bytes_eq y y) _ makes)) ∙ s.slot i (omega (arith, st.order)) (omega (arith, until)) ∙ ap (λ n. Some n) (sym slot);
          here = λ i g le l. ends_here i (omega (arith, from)) (omega (arith, until, block));
          only = λ i g h. only i g block (local_since i h);
          inside = λ i g l l2. goes_on i (omega (arith, from));
          inside_only = λ i g h. inside_only i g block (inside_since i h);
        }
      where
        only : (i : ℕ) → a ≤ i → block_end qs a ≡ v.until → ((b ≤ i) × (i < block_end qs a)) ⊎ (is_local bytes tokens y i qs ≡ true) → (w.from ≤ i) × (i < w.until)
        only i g e (inl h) = (omega (arith, from, h.0), omega (arith, until, e, h.1))
        only i g e (inr h) = let r = s.only i (omega (arith, st.order)) h in (omega (arith, from, r.0), omega (arith, until, r.1))

        inside_only : (i : ℕ) → a ≤ i → block_end qs a ≡ v.until → (i < b) ⊎ (is_inside bytes tokens y i qs ≡ true) → i < w.until
        inside_only i g e (inl h) = omega (arith, until, e, st.in_block refl)
        inside_only i g e (inr h) = omega (arith, until, s.inside_only i (omega (arith, st.order)) h)

    -- it ends no sooner
    later_seen : (v : Variable) → Stands qs p → makes_variable bytes tokens p qs ≡ false → a < v.until → v.from ≤ b → Seen y v qs → Seen y v (p ∷ qs)
    later_seen v st makes lt later s = record {
      nests = λ j e h l. s.nests j e h.1 l;
      ended = λ j h. s.ended j h.1;
      within = λ i g l. s.within i (omega (arith, st.order)) l;
      same = λ i g l l2. s.same i (omega (arith, st.order)) l l2;
      slot = λ i g l. ap (λ t. if t then Some (variables_made bytes tokens qs) else slot_of bytes tokens y i qs) (and_left _ (nat_lt i (block_end qs a)) (and_right (bytes_eq y y) _ makes)) ∙ s.slot i (omega (arith, st.order)) l;
      here = λ i g le l. still_local i (s.here i (omega (arith, st.order)) le l);
      only = λ i g h. only i g (local_since i h);
      inside = λ i g l l2. still_inside i (s.inside i (omega (arith, st.order)) l l2);
      inside_only = λ i g h. inside_only i g (inside_since i h);
    }
      where
        only : (i : ℕ) → a ≤ i → ((b ≤ i) × (i < block_end qs a)) ⊎ (is_local bytes tokens y i qs ≡ true) → (v.from ≤ i) × (i < v.until)
        only i g (inl h) = (omega (arith, h.0), omega (arith, h.1, s.within a st.order lt))
        only i g (inr h) = s.only i (omega (arith, st.order)) h

        inside_only : (i : ℕ) → a ≤ i → (i < b) ⊎ (is_inside bytes tokens y i qs ≡ true) → i < v.until
        inside_only i g (inl h) = omega (arith, h, st.in_block refl, s.within a st.order lt)
        inside_only i g (inr h) = s.inside_only i (omega (arith, st.order)) h

    other_names : (s : Scoped) → Stands qs p → Follows qs s → (x : List ℕ) → bytes_eq y x ≡ false → IsSeen x (latest x s.variables) (p ∷ qs)
    other_names s st h x apart = passed x (latest x s.variables) p qs refl refl apart st.order (h.names x)

    open_behind : (s : Scoped) → Stands qs p → Follows qs s → (i : ℕ) → a ≤ i → innermost (open_at i (open_at a s.blocks)) ≡ block_end qs i
    open_behind s st h i g = ap innermost (open_open i a s.blocks g) ∙ h.blocks i (omega (arith, st.order))

    made_new : is_local bytes tokens y a qs ≡ false → is_inside bytes tokens y a qs ≡ false → makes_variable bytes tokens p qs ≡ true
    made_new l i = and_from _ _ (not_from_false _ l) (not_from_false _ i)

    follows_new : (s : Scoped) → Stands qs p → Follows qs s → is_local bytes tokens y a qs ≡ false → is_inside bytes tokens y a qs ≡ false → ((i : ℕ) → a ≤ i → is_local bytes tokens y i qs ≡ true → ⊥) → ((i : ℕ) → a ≤ i → is_inside bytes tokens y i qs ≡ true → ⊥)
        → Follows (p ∷ qs) (assigned_new y p (left a s))
    follows_new s st h l n not_local not_inside =
        let makes = made_new l n in
        let v : Variable = record { slot = s.slots; from = b; until = innermost (open_at a s.blocks) } in
        record {
          blocks = open_behind s st h;
          slots = ap (λ m. m + 1) h.slots ∙ sym (ap (λ t. if t then variables_made bytes tokens qs + 1 else variables_made bytes tokens qs) makes);
          names = put_seen s.variables y v (p ∷ qs) (new_seen v st h.slots refl (h.blocks a st.order) makes (λ i g e. absurd (not_local i g e)) not_local not_inside) (other_names s st h);
        }

    made_none : (v : Variable) → Stands qs p → a < v.until → Seen y v qs → makes_variable bytes tokens p qs ≡ false
    made_none v st lt s = go (cases_lt a v.from)
      where
        go : (a < v.from) ⊎ (v.from ≤ a) → makes_variable bytes tokens p qs ≡ false
        go (inl h) = and_right (not (is_local bytes tokens y a qs)) _ (not_from_true _ (s.inside a st.order h lt))
        go (inr h) = and_left _ (not (is_inside bytes tokens y a qs)) (not_from_true _ (s.here a st.order h lt))

    follows_again : (s : Scoped) (v : Variable) → Stands qs p → Follows qs s → latest y s.variables ≡ Some v → a < v.until → Seen y v qs → Follows (p ∷ qs) (assigned_again y v p (left a s))
    follows_again s v st h is lt seen = go (nat_lt b v.from) refl
      where
        slots : s.slots ≡ variables_made bytes tokens (p ∷ qs)
        slots = h.slots ∙ sym (ap (λ t. if t then variables_made bytes tokens qs + 1 else variables_made bytes tokens qs) (made_none v st lt seen))

        go : (t : Bool) → nat_lt b v.from ≡ t → Follows (p ∷ qs) (if t then record { blocks = open_at a s.blocks; variables = maps.insert s.variables y (sooner v b); slots = s.slots } else left a s)
        go true e = record {
          blocks = open_behind s st h;
          slots = slots;
          names = put_seen s.variables y (sooner v b) (p ∷ qs) (sooner_seen v (sooner v b) st refl refl refl (made_none v st lt seen) lt (ltb-true b v.from e) seen) (other_names s st h);
        }
        go false e = record {
          blocks = open_behind s st h;
          slots = slots;
          names = kept_seen s.variables y v (p ∷ qs) is (later_seen v st (made_none v st lt seen) lt (ltb-false b v.from e) seen) (other_names s st h);
        }

    pub follows_assign : (s : Scoped) → Stands qs p → Follows qs s → Follows (p ∷ qs) (assigned (latest y s.variables) y p (left a s))
    follows_assign s st h = go (latest y s.variables) refl (h.names y)
      where
        go : (o : Option Variable) → latest y s.variables ≡ o → IsSeen y o qs → Follows (p ∷ qs) (assigned o y p (left a s))
        go None is u = follows_new s st h (u.not_local a st.order) (u.not_inside a st.order)
            (λ i g e. not_both _ (u.not_local i (omega (arith, st.order))) e) (λ i g e. not_both _ (u.not_inside i (omega (arith, st.order))) e)
        go (Some v) is seen = test (nat_lt a v.until) refl
          where
            gone : v.until ≤ a → (i : ℕ) → a ≤ i → is_local bytes tokens y i qs ≡ true → ⊥
            gone le i g e = omega (arith, (seen.only i (omega (arith, st.order)) e).1)

            gone_inside : v.until ≤ a → (i : ℕ) → a ≤ i → is_inside bytes tokens y i qs ≡ true → ⊥
            gone_inside le i g e = omega (arith, seen.inside_only i (omega (arith, st.order)) e)

            false_if : (t : Bool) → (t ≡ true → ⊥) → t ≡ false
            false_if true h = absurd (h refl)
            false_if false h = refl

            test : (t : Bool) → nat_lt a v.until ≡ t → Follows (p ∷ qs) (if t then assigned_again y v p (left a s) else assigned_new y p (left a s))
            test true e = follows_again s v st h is (ltb-true a v.until e) seen
            test false e =
                let le : v.until ≤ a = ltb-false a v.until e in
                follows_new s st h (false_if _ (gone le a (omega arith))) (false_if _ (gone_inside le a (omega arith))) (gone le) (gone_inside le)

  -- what a parameter with this slot is
  abbrev parameter : ℕ → Option ℕ → Option Variable
  parameter until None = None
  parameter until (Some k) = Some (record { slot = k; from = 0; until = until })

  record Named (until first n : ℕ) (r : Scoped) : Type 0 where
    blocks : r.blocks ≡ []
    slots : r.slots ≡ variables_named bytes tokens first n
    each : (x : List ℕ) → latest x r.variables ≡ parameter until (slot_named bytes tokens first n x)

  named_is : (first n : ℕ) (x : List ℕ) → is_some (slot_named bytes tokens first n x) ≡ is_named bytes tokens first n x
  named_is first zero x = refl
  named_is first (suc n) x = go (named_is first n x) (is_named bytes tokens first n x) (bytes_eq (text_at bytes tokens (first + 2 * n)) x) refl
    where
      go : is_some (slot_named bytes tokens first n x) ≡ is_named bytes tokens first n x → (t e : Bool) → is_named bytes tokens first n x ≡ t
          → is_some (if t then slot_named bytes tokens first n x else if e then Some (variables_named bytes tokens first n) else None) ≡ (t || e)
      go more true e h = more ∙ h
      go more false true h = refl
      go more false false h = refl

  some_parameter : (until : ℕ) (w : Option ℕ) (v : Variable) → parameter until w ≡ Some v → is_some w ≡ true
  some_parameter until None v e = absurd (cc)
  some_parameter until (Some k) v e = refl

  no_parameter : (until : ℕ) (w : Option ℕ) → parameter until w ≡ None → is_some w ≡ false
  no_parameter until None e = refl
  no_parameter until (Some k) e = absurd (cc)

  none_is : (w : Option ℕ) → is_some w ≡ false → None ≡ w
  none_is None e = refl
  none_is (Some k) e = absurd (cc)

  named_more : (until first n : ℕ) (r : Scoped) → Named until first n r → (o : Option Variable) → latest (text_at bytes tokens (first + 2 * n)) r.variables ≡ o → Named until first (suc n) (with_parameter o (text_at bytes tokens (first + 2 * n)) until r)
  named_more until first n r h (Some v) is =
      let x0 = text_at bytes tokens (first + 2 * n) in
      let there : is_named bytes tokens first n x0 ≡ true = sym (named_is first n x0) ∙ some_parameter until (slot_named bytes tokens first n x0) v (sym (h.each x0) ∙ is) in
      record {
        blocks = h.blocks;
        slots = h.slots ∙ sym (ap (λ t. if t then variables_named bytes tokens first n else variables_named bytes tokens first n + 1) there);
        each = λ x. h.each x ∙ ap (parameter until) (sym (go there x (is_named bytes tokens first n x) (bytes_eq x0 x) refl refl));
      }
    where
      go : is_named bytes tokens first n (text_at bytes tokens (first + 2 * n)) ≡ true → (x : List ℕ) (t e : Bool) → is_named bytes tokens first n x ≡ t → bytes_eq (text_at bytes tokens (first + 2 * n)) x ≡ e
          → (if t then slot_named bytes tokens first n x else if e then Some (variables_named bytes tokens first n) else None) ≡ slot_named bytes tokens first n x
      go there x true e named same = refl
      go there x false true named same = absurd (not_both _ named (ap (is_named bytes tokens first n) (sym ((bytes_eq-Decides _ x).0 same)) ∙ there))
      go there x false false named same = none_is _ (named_is first n x ∙ named)
  named_more until first n r h None is =
      let x0 = text_at bytes tokens (first + 2 * n) in
      let v : Variable = record { slot = r.slots; from = 0; until = until } in
      let new : is_named bytes tokens first n x0 ≡ false = sym (named_is first n x0) ∙ no_parameter until (slot_named bytes tokens first n x0) (sym (h.each x0) ∙ is) in
      record {
        blocks = h.blocks;
        slots = ap (λ m. m + 1) h.slots ∙ sym (ap (λ t. if t then variables_named bytes tokens first n else variables_named bytes tokens first n + 1) new);
        each = λ x. maps.get-insert nat_list_cmp_total r.variables x0 v x ∙ ap (λ t. cond t (Some v) (latest x r.variables)) (sym (tested x0 x)) ∙ go new x (bytes_eq x0 x) (is_named bytes tokens first n x) refl refl;
      }
    where
      go : is_named bytes tokens first n (text_at bytes tokens (first + 2 * n)) ≡ false → (x : List ℕ) (e t : Bool) → bytes_eq (text_at bytes tokens (first + 2 * n)) x ≡ e → is_named bytes tokens first n x ≡ t
          → cond e (Some (record { slot = r.slots; from = 0; until = until })) (latest x r.variables) ≡ parameter until (if t then slot_named bytes tokens first n x else if e then Some (variables_named bytes tokens first n) else None)
      go new x true true same named = absurd (not_both _ (ap (is_named bytes tokens first n) (sym ((bytes_eq-Decides _ x).0 same)) ∙ new) named)
      go new x true false same named = ap (λ k. Some (record { slot = k; from = 0; until = until })) h.slots
      go new x false true same named = h.each x
      go new x false false same named = h.each x ∙ ap (parameter until) (sym (none_is _ (named_is first n x ∙ named)))

  parameters_named : (until first n : ℕ) → Named until first n (with_parameters bytes tokens first until n no_scope)
  parameters_named until first zero = record { blocks = refl; slots = refl; each = λ x. maps.get-empty (slice_cmp nat_cmp) x }
  parameters_named until first (suc n) =
      let r = with_parameters bytes tokens first until n no_scope in
      named_more until first n r (parameters_named until first n) (latest (text_at bytes tokens (first + 2 * n)) r.variables) refl

  parameter_seen : (n a b : ℕ) (qs : List Part) (x : List ℕ) (w : Option ℕ) → slot_named bytes tokens (a + 3) n x ≡ w → IsSeen x (parameter b w) (part (shapes.Function n) a b ∷ qs)
  parameter_seen n a b qs x None e =
      let none : is_named bytes tokens (a + 3) n x ≡ false = sym (named_is (a + 3) n x) ∙ ap is_some e in
      record { not_local = λ i g. and_right (nat_lt i b) _ none; not_inside = λ i g. refl }
  parameter_seen n a b qs x (Some k) e =
      let there : is_named bytes tokens (a + 3) n x ≡ true = sym (named_is (a + 3) n x) ∙ ap is_some e in
      record {
        nests = λ j d h lt. h.0 lt;
        ended = λ j h. omega arith;
        within = λ i g lt. omega arith;
        same = λ i g lt lt2. absurd (omega arith);
        slot = λ i g lt. e;
        here = λ i g from lt. and_from _ _ (lt-ltb i b lt) there;
        only = λ i g h. (omega arith, ltb-true i b (and_parts (nat_lt i b) _ h).0);
        inside = λ i g lt lt2. absurd (omega arith);
        inside_only = λ i g h. absurd (not_both _ refl h);
      }

  follows_function : (n a b : ℕ) (qs : List Part) → Follows (part (shapes.Function n) a b ∷ qs) (with_parameters bytes tokens (a + 3) b n no_scope)
  follows_function n a b qs =
      let h = parameters_named b (a + 3) n in
      record {
        blocks = λ i g. ap (λ l. innermost (open_at i l)) h.blocks ∙ no_open i;
        slots = h.slots;
        names = λ x. subst (λ o. IsSeen x o (part (shapes.Function n) a b ∷ qs)) (sym (h.each x)) (parameter_seen n a b qs x (slot_named bytes tokens (a + 3) n x) refl);
      }

  pub follows_none : Follows [] no_scope
  follows_none = record {
    blocks = λ i g. no_open i;
    slots = refl;
    names = λ x. subst (λ o. IsSeen x o []) (sym (maps.get-empty (slice_cmp nat_cmp) x)) (record { not_local = λ i g. refl; not_inside = λ i g. refl });
  }

  -- behind one node more
  pub follows : (qs : List Part) (p : Part) (s : Scoped) → Stands qs p → Follows qs s → Follows (p ∷ qs) (entered bytes tokens p s)
  follows qs p s st h = go p.shape p.first p.end st
    where
      go : (sh : Shape) (a b : ℕ) → Stands qs (part sh a b) → Follows (part sh a b ∷ qs) (entered_in sh bytes tokens (part sh a b) s)
      go (shapes.Function n) a b st = follows_function n a b qs
      go shapes.Body a b st = follows_block shapes.Body a b qs s refl refl refl st h
      go shapes.Block a b st = follows_block shapes.Block a b qs s refl refl refl st h
      go shapes.Assign a b st = follows_assign a b qs s st h
      go sh a b st = follows_other sh a b qs s refl refl refl st h

  read_is : (a : ℕ) (qs : List Part) (o : Option Variable) → start qs ≤ a → IsSeen (text_at bytes tokens a) o qs
      → read_meaning a o ≡ (if is_local bytes tokens (text_at bytes tokens a) a qs then local (slot_of bytes tokens (text_at bytes tokens a) a qs) else Nothing)
  read_is a qs None order u = sym (ap (λ t. if t then local (slot_of bytes tokens (text_at bytes tokens a) a qs) else Nothing) (u.not_local a order))
  read_is a qs (Some v) order s = go (is_local bytes tokens (text_at bytes tokens a) a qs) refl
    where
      go : (t : Bool) → is_local bytes tokens (text_at bytes tokens a) a qs ≡ t → (if nat_le v.from a && nat_lt a v.until then Local 0 v.slot else Nothing) ≡ (if t then local (slot_of bytes tokens (text_at bytes tokens a) a qs) else Nothing)
      go true e =
          let r = s.only a order e in
          ap (λ t. if t then Local 0 v.slot else Nothing) (and_from _ _ (le-leb v.from a r.0) (lt-ltb a v.until r.1)) ∙ sym (ap local (s.slot a order r.1))
      go false e = other (nat_le v.from a && nat_lt a v.until) refl
        where
          other : (t : Bool) → (nat_le v.from a && nat_lt a v.until) ≡ t → (if t then Local 0 v.slot else Nothing) ≡ Nothing
          other true h =
              let r = and_parts (nat_le v.from a) (nat_lt a v.until) h in
              absurd (not_both _ e (s.here a order (leb-true v.from a r.0) (ltb-true a v.until r.1)))
          other false h = refl

  assigned_is : (a b : ℕ) (qs : List Part) (o : Option Variable) → a < b → IsSeen (text_at bytes tokens a) o (part shapes.Assign a b ∷ qs)
      → assigned_meaning o ≡ local (slot_of bytes tokens (text_at bytes tokens a) a (part shapes.Assign a b ∷ qs))
  assigned_is a b qs None lt u = absurd (not_both _ (u.not_inside a (omega arith)) (goes_on a b qs a lt))
  assigned_is a b qs (Some v) lt s = sym (ap local (s.slot a (omega arith) (s.inside_only a (omega arith) (goes_on a b qs a lt))))

  -- the walk gives the meaning of the rule
  pub meaning_is : (qs : List Part) (p : Part) (s : Scoped) → Stands qs p → Follows qs s → meaning_in p.shape bytes tokens p (entered bytes tokens p s) ≡ meaning_of bytes tokens p.shape p qs
  meaning_is qs p s st h = go p.shape p.first p.end st (follows qs p s st h)
    where
      go : (sh : Shape) (a b : ℕ) → Stands qs (part sh a b) → Follows (part sh a b ∷ qs) (entered_in sh bytes tokens (part sh a b) s) → meaning_in sh bytes tokens (part sh a b) (entered_in sh bytes tokens (part sh a b) s) ≡ meaning_of bytes tokens sh (part sh a b) qs
      go shapes.Assign a b st f = assigned_is a b qs _ st.some (f.names (text_at bytes tokens a))
      go shapes.Name a b st f = read_is a qs _ st.order (h.names (text_at bytes tokens a))
      go sh a b st f = refl

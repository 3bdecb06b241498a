-- What tables find: as symbols are added, for each source, and for exports and contexts.
use Rattle.std.proofs.Common.{◌≡◌, ℕ, zero, suc, ◌+◌, ◌<◌, ◌≤◌, Bool, true, false, cond, List, [], ◌∷◌, ◌++◌, length, get_or, drop, Option, Some, None, Result, Ok, Err, String, BTreeMap, refl, sym, ap, ◌∙◌, subst, arith, length-append, append_assoc, append-nil, is_some}
use Rattle.std.specs.Prelude.{if◌then◌else◌, codes}
use Rattle.std.specs.Option.{option_or, ok_or}
use Rattle.std.specs.BTreeMap.{IsEmpty, get_by_text}
use Rattle.std.specs.Map.{update}
use Rattle.std.specs.Str.{bytes_eq}
use Rattle.std.proofs.lemmas.List.{drop_all}
use Rattle.pd_plan.specs.declared.plan.Language.{Language}
use Rattle.pd_plan.specs.declared.plan.Language.TheVariants.{Sl, Pl0}
use Rattle.pd_plan.specs.declared.plan.SourceSpec.{SourceSpec}
use Rattle.pd_plan.specs.declared.plan.ExportSpec.{ExportSpec}
use Rattle.pd_plan.specs.declared.plan.ContextSpec.{ContextSpec}
use Rattle.pd_tree.specs.declared.addition.Addition.{Addition}
use Rattle.pd_tree.specs.declared.kind.Kind.{Kind}
use Rattle.pd_tree.specs.declared.kind.Kind.TheVariants.{SlFunction, PlProcedure}
use Rattle.pd_tree.specs.Kinds.{is_root}
use Rattle.pd_tree.specs.Linked.{joined}
use Rattle.pd_load.specs.declared.refusal.LoadRefusal.{LoadRefusal}
use Rattle.pd_load.specs.declared.refusal.LoadCause.TheVariants.{NoSuchItem, DoubledExport, NoSuchEntry}
use Rattle.pd_load.specs.Names.{Symbol, lookup, next_item, item_behind, function_symbol, functions, sl_found, sl_all_found, Unfinished, Scope, no_scope, passed, pl0_found, pl0_all_found, procedure_symbol, procedures, Interface, interface_of, found_in, entry_named, entry_in}
use Rattle.pd_load.specs.Linked.{interfaces, interface_at, all_found, and_then, exported_item, exports_from, entry_item, entries_from}
use Rattle.pd_load.specs.Tables.{IsTable, Gains, IsInterface, AreTables}
use Rattle.pd_load.specs.Scopes.{IsScope}
use Rattle.pd_load.specs.declared.names.Callables.{Callables}
use Rattle.pd_load.specs.declared.scope.Scope as kept_scope
use Rattle.pd_load.proofs.Lists.{drop_item, or_assoc, or_none}

-- ---- symbols

pub lookup_push : (x : List ℕ) (ss : List Symbol) (s : Symbol) → lookup x (ss ++ s ∷ []) ≡ option_or (lookup x (s ∷ [])) (lookup x ss)
lookup_push x [] s = sym (or_none (lookup x (s ∷ [])))
lookup_push x (t ∷ ss) s =
    ap (λ o. option_or o (lookup x (t ∷ []))) (lookup_push x ss s) ∙ or_assoc (lookup x (s ∷ [])) (lookup x ss) (lookup x (t ∷ []))

-- a function found behind a node hides that of the node
symbol_split : (x : List ℕ) (kind : Kind) (item : ℕ) (later : List Symbol) (o : Option ℕ)
    → option_or (lookup x (function_symbol kind item later)) o ≡ option_or (lookup x later) (option_or (lookup x (function_symbol kind item [])) o)
symbol_split x (SlFunction name parameters) item later o = or_assoc (lookup x later) (lookup x (record { name = name; item = item } ∷ [])) o
symbol_split x _ item later o = refl

-- a procedure found behind a node hides that of the node
procedure_split : (x : List ℕ) (kind : Kind) (item : ℕ) (us : List Unfinished) (later : List Symbol) (o : Option ℕ)
    → option_or (lookup x (procedure_symbol kind item us later)) o ≡ option_or (lookup x later) (option_or (lookup x (procedure_symbol kind item us [])) o)
procedure_split x (PlProcedure name variables) item [] later o = refl
procedure_split x (PlProcedure name variables) item (u ∷ []) later o = or_assoc (lookup x later) (lookup x (record { name = name; item = item } ∷ [])) o
procedure_split x (PlProcedure name variables) item (u ∷ v ∷ us) later o = refl
procedure_split x _ item us later o = refl

next_small : (b : Bool) (item : ℕ) → cond b (item + 1) item ≤ item + 1
next_small true item = omega arith
next_small false item = omega arith

pub behind_small : (item : ℕ) (t : List Addition) → item_behind item t ≤ item + length t
behind_small item [] = omega arith
behind_small item (a ∷ rest) = omega (arith, behind_small (next_item a.kind item) rest, next_small (is_root a.kind) item)

picked : (b : Bool) (item : ℕ) (o : Option ℕ) → cond b (Some item) o ≡ option_or (if b then Some item else None) o
picked true item o = refl
picked false item o = refl

-- ---- a table for each source

pub table_at : (tables : List Callables) (all : List Interface) (k : ℕ) (c : Callables) → AreTables tables all → k < length tables
    → c ≡ get_or tables k c → IsInterface c (interface_at all k)
table_at [] all k c are lt is = absurd (omega arith)
table_at (u ∷ tables) [] k c are lt is = absurd are
table_at (u ∷ tables) (i ∷ all) zero c are lt is = subst (λ v. IsInterface v i) (sym is) are.0
table_at (u ∷ tables) (i ∷ all) (suc k) c are lt is = table_at tables all k c are.1 (omega arith) is

pub record TablesTo (specs : List SourceSpec) (trees : List (List Addition)) (k first : ℕ) (tables : List Callables) : Type 0 where
  pub rest : (more : List Callables) → AreTables more (interfaces first (drop k specs) (drop k trees)) → AreTables (tables ++ more) (interfaces 1 specs trees)
  pub small : first + length (joined (drop k trees)) ≤ 1 + length (joined trees)
  pub counted : length tables ≡ k

pub tables_none : (specs : List SourceSpec) (trees : List (List Addition)) → TablesTo specs trees 0 1 []
tables_none specs trees = record { rest = λ more are. are; small = omega arith; counted = refl }

pub tables_more : (specs : List SourceSpec) (trees : List (List Addition)) (k first next : ℕ) (tables : List Callables) (s : SourceSpec) (t : List Addition) (table : Callables)
    → k < length specs → s ≡ get_or specs k s → k < length trees → t ≡ get_or trees k t
    → TablesTo specs trees k first tables → IsInterface table (interface_of s.language first t) → next ≡ item_behind first t
    → TablesTo specs trees (k + 1) next (tables ++ table ∷ [])
tables_more specs trees k first next tables s t table lt is tree_lt tree_is seen found behind =
    let e = drop_item specs k s lt is in
    let f = drop_item trees k t tree_lt tree_is in
    let later : List Interface = interfaces next (drop (k + 1) specs) (drop (k + 1) trees) in
    let whole : interfaces first (drop k specs) (drop k trees) ≡ interface_of s.language first t ∷ later =
    ap (λ l. interfaces first l (drop k trees)) e ∙ ap (interfaces first (s ∷ drop (k + 1) specs)) f
    ∙ ap (λ i. interface_of s.language first t ∷ interfaces i (drop (k + 1) specs) (drop (k + 1) trees)) (sym behind) in
    let counted : length (joined (drop k trees)) ≡ length t + length (joined (drop (k + 1) trees)) = ap (λ l. length (joined l)) f ∙ length-append t (joined (drop (k + 1) trees)) in
    record {
      rest = λ more are.
          subst (λ l. AreTables l (interfaces 1 specs trees)) (sym (append_assoc tables (table ∷ []) more))
          (seen.rest (table ∷ more) (subst (AreTables (table ∷ more)) (sym whole) (found, are)));
      small = omega (arith, counted, behind, behind_small first t, seen.small);
      counted = omega (arith, length-append tables (table ∷ []), seen.counted);
    }

pub tables_all : (specs : List SourceSpec) (trees : List (List Addition)) (k first : ℕ) (tables : List Callables) → length specs ≤ k
    → TablesTo specs trees k first tables → AreTables tables (interfaces 1 specs trees)
tables_all specs trees k first tables le seen =
    subst (λ l. AreTables l (interfaces 1 specs trees)) (append-nil tables)
    (seen.rest [] (subst (λ l. AreTables [] (interfaces first l (drop k trees))) (sym (drop_all k specs le)) tt))

-- ---- the item that a context calls

entry_shown : (c : Callables) (i : Interface) (x : List ℕ) (o : Option ℕ) → IsInterface c i → c.main ≡ o → entry_named o i.symbols x ≡ entry_in i x
entry_shown c i x o h is = ap (λ p. entry_named p i.symbols x) (sym is ∙ h.main)

pub entry_none : (c : Callables) (i : Interface) (x : List ℕ) → IsInterface c i → c.main ≡ None → get_by_text c.symbols x ≡ entry_in i x
entry_none c i x h none = h.symbols.finds x ∙ entry_shown c i x None h none

pub entry_main : (c : Callables) (i : Interface) (x : List ℕ) (m : ℕ) → IsInterface c i → c.main ≡ Some m → bytes_eq x (codes "main") ≡ true → Some m ≡ entry_in i x
entry_main c i x m h some named = sym (ap (λ b. if b then Some m else lookup x i.symbols) named) ∙ entry_shown c i x (Some m) h some

pub entry_other : (c : Callables) (i : Interface) (x : List ℕ) (m : ℕ) → IsInterface c i → c.main ≡ Some m → bytes_eq x (codes "main") ≡ false → get_by_text c.symbols x ≡ entry_in i x
entry_other c i x m h some named =
    h.symbols.finds x ∙ sym (ap (λ b. if b then Some m else lookup x i.symbols) named) ∙ entry_shown c i x (Some m) h some

pub entry_answered : (all : List Interface) (number : ℕ) (c : ContextSpec) (o : Option ℕ) → o ≡ entry_in (interface_at all c.source) c.entry
    → ok_or o (record { source = c.source; cause = NoSuchEntry number }) ≡ entry_item all number c
entry_answered all number c o is = ap (λ p. ok_or p (record { source = c.source; cause = NoSuchEntry number })) is

-- the contexts' entries are found up to number k
pub record EntriesTo (tables : List Callables) (contexts : List ContextSpec) (k : ℕ) (entries : List ℕ) : Type 0 where
  pub upto : (all : List Interface) → AreTables tables all → entries_from all 0 [] contexts ≡ entries_from all k entries (drop k contexts)

module _ (tables : List Callables) (contexts : List ContextSpec) where
  pub entries_none : EntriesTo tables contexts 0 []
  entries_none = record { upto = λ all are. refl }

  module _ (k : ℕ) (entries : List ℕ) (c : ContextSpec) (lt : k < length contexts) (is : c ≡ get_or contexts k c) (seen : EntriesTo tables contexts k entries)
      (answer : Result ℕ LoadRefusal) (answered : (all : List Interface) → AreTables tables all → answer ≡ entry_item all k c) where
    following : List Interface → ℕ → Result (List ℕ) LoadRefusal
    following all i = entries_from all (k + 1) (entries ++ i ∷ []) (drop (k + 1) contexts)

    entered : (all : List Interface) → AreTables tables all → entries_from all 0 [] contexts ≡ and_then answer (following all)
    unfolding following
    entered all are =
        seen.upto all are ∙ ap (entries_from all k entries) (drop_item contexts k c lt is) ∙ ap (λ r. and_then r (following all)) (sym (answered all are))

    pub entries_more : (i : ℕ) → answer ≡ Ok i → EntriesTo tables contexts (k + 1) (entries ++ i ∷ [])
    unfolding following
    entries_more i ok = record { upto = λ all are. entered all are ∙ ap (λ r. and_then r (following all)) ok }

    pub entries_refused : (refusal : LoadRefusal) → answer ≡ Err refusal → (all : List Interface) → AreTables tables all → entries_from all 0 [] contexts ≡ Err refusal
    entries_refused refusal err all are = entered all are ∙ ap (λ r. and_then r (following all)) err

  pub entries_all : (k : ℕ) (entries : List ℕ) → length contexts ≤ k → EntriesTo tables contexts k entries
      → (all : List Interface) → AreTables tables all → entries_from all 0 [] contexts ≡ Ok entries
  entries_all k entries le seen all are = seen.upto all are ∙ ap (entries_from all k entries) (drop_all k contexts le)

none_some : {X : Type 0} {x : X} → ◌≡◌ {A = Option X} None (Some x) → ⊥
none_some h = cc

some_same : {X : Type 0} {x y : X} → ◌≡◌ {A = Option X} (Some x) (Some y) → x ≡ y
some_same h = cc

module _ {Y : Type 0} where
  get_empty : (m : BTreeMap (String Y) ℕ) → IsEmpty m → (x : List ℕ) → get_by_text m x ≡ None
  get_empty m empty x = rw empty refl

  pub gains_one : (name : List ℕ) (item : ℕ) (old new : BTreeMap (String Y) ℕ)
      → ((x : List ℕ) → get_by_text new x ≡ update bytes_eq (get_by_text old) name (Some item) x) → Gains old new (record { name = name; item = item } ∷ [])
  gains_one name item old new sets = record { finds = λ x. sets x ∙ picked (bytes_eq name x) item (get_by_text old x) }

  pub table_push : (old new : BTreeMap (String Y) ℕ) (ss : List Symbol) (s : Symbol) → IsTable old ss → Gains old new (s ∷ []) → IsTable new (ss ++ s ∷ [])
  table_push old new ss s table gains = record {
    finds = λ x. gains.finds x ∙ ap (option_or (lookup x (s ∷ []))) (table.finds x) ∙ sym (lookup_push x ss s);
  }

  pub table_none : (m : BTreeMap (String Y) ℕ) → IsEmpty m → IsTable m []
  table_none m empty = record { finds = get_empty m empty }

  -- ---- the functions of a source, behind its first k nodes

  pub record FunctionsTo (tree : List Addition) (first k item : ℕ) (table : BTreeMap (String Y) ℕ) : Type 0 where
    pub finds : (x : List ℕ) → option_or (lookup x (functions item (drop k tree))) (get_by_text table x) ≡ lookup x (functions first tree)
    pub behind : item_behind item (drop k tree) ≡ item_behind first tree
    pub small : item ≤ first + k

  pub functions_none : (tree : List Addition) (first : ℕ) (m : BTreeMap (String Y) ℕ) → IsEmpty m → FunctionsTo tree first 0 first m
  functions_none tree first m empty = record {
    finds = λ x. ap (option_or (lookup x (functions first tree))) (get_empty m empty x) ∙ or_none (lookup x (functions first tree));
    behind = refl;
    small = omega arith;
  }

  pub functions_more : (tree : List Addition) (first k item item' : ℕ) (old new : BTreeMap (String Y) ℕ) (a : Addition) → k < length tree → a ≡ get_or tree k a
      → FunctionsTo tree first k item old → Gains old new (function_symbol a.kind item []) → item' ≡ next_item a.kind item → FunctionsTo tree first (k + 1) item' new
  functions_more tree first k item item' old new a lt is seen gains next =
      let e = drop_item tree k a lt is in
      let later : List Symbol = functions (next_item a.kind item) (drop (k + 1) tree) in
      record {
        finds = λ x.
            ap (λ i. option_or (lookup x (functions i (drop (k + 1) tree))) (get_by_text new x)) next
            ∙ ap (option_or (lookup x later)) (gains.finds x)
            ∙ sym (symbol_split x a.kind item later (get_by_text old x))
            ∙ ap (λ l. option_or (lookup x (functions item l)) (get_by_text old x)) (sym e)
            ∙ seen.finds x;
        behind = ap (λ i. item_behind i (drop (k + 1) tree)) next ∙ ap (item_behind item) (sym e) ∙ seen.behind;
        small = omega (arith, next_small (is_root a.kind) item, seen.small, next);
      }

  pub functions_all : (tree : List Addition) (first k item : ℕ) (table : BTreeMap (String Y) ℕ) → length tree ≤ k → FunctionsTo tree first k item table
      → IsTable table (functions first tree) × (item ≡ item_behind first tree)
  functions_all tree first k item table le seen =
      let e = sym (drop_all k tree le) in
      (record { finds = λ x. ap (λ l. option_or (lookup x (functions item l)) (get_by_text table x)) e ∙ seen.finds x }, ap (item_behind item) e ∙ seen.behind)

  -- ---- exports and contexts

  module _ (all : List Interface) (number : ℕ) (symbols : List Symbol) (e : ExportSpec) (earlier table : BTreeMap (String Y) ℕ) (before : IsTable earlier symbols) where
    pub export_doubled : is_some (get_by_text earlier e.name) ≡ true → Err (record { source = e.source; cause = DoubledExport number }) ≡ exported_item all number symbols e
    export_doubled h =
        sym (ap (λ b. if b then Err (record { source = e.source; cause = DoubledExport number }) else ok_or (lookup e.item (interface_at all e.source).symbols) (record { source = e.source; cause = NoSuchItem number }))
        (ap is_some (sym (before.finds e.name)) ∙ h))

    pub export_answered : IsTable table (interface_at all e.source).symbols → is_some (get_by_text earlier e.name) ≡ false → (o : Option ℕ) → get_by_text table e.item ≡ o
        → ok_or o (record { source = e.source; cause = NoSuchItem number }) ≡ exported_item all number symbols e
    export_answered found h o is =
        ap (λ p. ok_or p (record { source = e.source; cause = NoSuchItem number })) (sym is ∙ found.finds e.item)
        ∙ sym (ap (λ b. if b then Err (record { source = e.source; cause = DoubledExport number }) else ok_or (lookup e.item (interface_at all e.source).symbols) (record { source = e.source; cause = NoSuchItem number }))
        (ap is_some (sym (before.finds e.name)) ∙ h))

  -- the exports are found up to number k
  pub record ExportsTo (tables : List Callables) (exports : List ExportSpec) (k : ℕ) (table : BTreeMap (String Y) ℕ) : Type 0 where
    pub upto : (all : List Interface) → AreTables tables all → (symbols : List Symbol) × IsTable table symbols × (exports_from all 0 [] exports ≡ exports_from all k symbols (drop k exports))

  module _ (tables : List Callables) (exports : List ExportSpec) where
    pub exports_none : (m : BTreeMap (String Y) ℕ) → IsEmpty m → ExportsTo tables exports 0 m
    exports_none m empty = record { upto = λ all are. ([], table_none m empty, refl) }

    module _ (k : ℕ) (table : BTreeMap (String Y) ℕ) (e : ExportSpec) (lt : k < length exports) (is : e ≡ get_or exports k e) (seen : ExportsTo tables exports k table)
        (answer : Result ℕ LoadRefusal)
        (answered : (all : List Interface) → AreTables tables all → (symbols : List Symbol) → IsTable table symbols → answer ≡ exported_item all k symbols e) where
      next : (all : List Interface) (symbols : List Symbol) → ℕ → Result (List Symbol) LoadRefusal
      next all symbols i = exports_from all (k + 1) (symbols ++ record { name = e.name; item = i } ∷ []) (drop (k + 1) exports)

      stepped : (all : List Interface) (are : AreTables tables all) → exports_from all 0 [] exports ≡ and_then answer (next all (seen.upto all are).0)
      unfolding next
      stepped all are =
          let s = seen.upto all are in
          s.2 ∙ ap (exports_from all k s.0) (drop_item exports k e lt is) ∙ ap (λ r. and_then r (next all s.0)) (sym (answered all are s.0 s.1))

      pub exports_more : (i : ℕ) (new : BTreeMap (String Y) ℕ) → answer ≡ Ok i → Gains table new (record { name = e.name; item = i } ∷ []) → ExportsTo tables exports (k + 1) new
      unfolding next
      exports_more i new ok gains = record {
        upto = λ all are.
            let s = seen.upto all are in
            (s.0 ++ record { name = e.name; item = i } ∷ [], table_push table new s.0 (record { name = e.name; item = i }) s.1 gains, stepped all are ∙ ap (λ r. and_then r (next all s.0)) ok);
      }

      pub exports_refused : (refusal : LoadRefusal) → answer ≡ Err refusal → (all : List Interface) → AreTables tables all → exports_from all 0 [] exports ≡ Err refusal
      exports_refused refusal err all are = stepped all are ∙ ap (λ r. and_then r (next all (seen.upto all are).0)) err

    pub exports_all : (k : ℕ) (table : BTreeMap (String Y) ℕ) → length exports ≤ k → ExportsTo tables exports k table
        → (all : List Interface) → AreTables tables all → (symbols : List Symbol) × IsTable table symbols × (exports_from all 0 [] exports ≡ Ok symbols)
    exports_all k table le seen all are =
        let s = seen.upto all are in
        (s.0, s.1, s.2 ∙ ap (exports_from all k s.0) (drop_all k exports le))

  -- ---- what names mean

  -- an SL source's nodes up to number k
  pub record SlTo (own exports : BTreeMap (String Y) ℕ) (tree : List Addition) (k : ℕ) (old found : List (Option ℕ)) : Type 0 where
    pub upto : (mine : List Symbol) → IsTable own mine → (shared : List Symbol) → IsTable exports shared
        → found ++ sl_all_found mine shared (drop k tree) ≡ old ++ sl_all_found mine shared tree

  module _ (own exports : BTreeMap (String Y) ℕ) (tree : List Addition) (old : List (Option ℕ)) where
    pub sl_none : SlTo own exports tree 0 old old
    sl_none = record { upto = λ mine h shared g. refl }

    pub sl_more : (k : ℕ) (found : List (Option ℕ)) (a : Addition) (o : Option ℕ) → k < length tree → a ≡ get_or tree k a → SlTo own exports tree k old found
        → ((mine : List Symbol) → IsTable own mine → (shared : List Symbol) → IsTable exports shared → o ≡ sl_found mine shared a.kind a.meaning)
        → SlTo own exports tree (k + 1) old (found ++ o ∷ [])
    sl_more k found a o lt is seen means = record {
      upto = λ mine h shared g.
          append_assoc found (o ∷ []) (sl_all_found mine shared (drop (k + 1) tree))
          ∙ ap (λ p. found ++ p ∷ sl_all_found mine shared (drop (k + 1) tree)) (means mine h shared g)
          ∙ ap (λ l. found ++ sl_all_found mine shared l) (sym (drop_item tree k a lt is))
          ∙ seen.upto mine h shared g;
    }

    pub sl_all : (k : ℕ) (found : List (Option ℕ)) → length tree ≤ k → SlTo own exports tree k old found
        → (mine : List Symbol) → IsTable own mine → (shared : List Symbol) → IsTable exports shared → found ≡ old ++ sl_all_found mine shared tree
    sl_all k found le seen mine h shared g =
        sym (append-nil found) ∙ ap (λ l. found ++ sl_all_found mine shared l) (sym (drop_all k tree le)) ∙ seen.upto mine h shared g

  -- a PL/0 source's procedures of the main block, behind its first k nodes

  pub record ProceduresTo (tree : List Addition) (first k item : ℕ) (table : BTreeMap (String Y) ℕ) (kept : kept_scope.Scope) : Type 0 where
    pub scope : Scope
    pub follows : IsScope kept scope
    pub finds : (x : List ℕ) → option_or (lookup x (procedures item scope (drop k tree))) (get_by_text table x) ≡ lookup x (procedures first no_scope tree)
    pub behind : item_behind item (drop k tree) ≡ item_behind first tree
    pub small : item ≤ first + k

  pub procedures_none : (tree : List Addition) (first : ℕ) (m : BTreeMap (String Y) ℕ) (kept : kept_scope.Scope) → IsEmpty m → IsScope kept no_scope → ProceduresTo tree first 0 first m kept
  procedures_none tree first m kept empty follows = record {
    scope = no_scope;
    follows = follows;
    finds = λ x. ap (option_or (lookup x (procedures first no_scope tree))) (get_empty m empty x) ∙ or_none (lookup x (procedures first no_scope tree));
    behind = refl;
    small = omega arith;
  }

  pub procedures_more : (tree : List Addition) (first k item item' : ℕ) (old new : BTreeMap (String Y) ℕ) (before after : kept_scope.Scope) (a : Addition) → k < length tree → a ≡ get_or tree k a
      → ProceduresTo tree first k item old before → ((s : Scope) → IsScope before s → Gains old new (procedure_symbol a.kind item s.unfinished []))
      → ((s : Scope) → IsScope before s → IsScope after (passed item s a)) → item' ≡ next_item a.kind item → ProceduresTo tree first (k + 1) item' new after
  procedures_more tree first k item item' old new before after a lt is seen gains passes next =
      let e = drop_item tree k a lt is in
      let s = seen.scope in
      let later : List Symbol = procedures (next_item a.kind item) (passed item s a) (drop (k + 1) tree) in
      record {
        scope = passed item s a;
        follows = passes s seen.follows;
        finds = λ x.
            ap (λ i. option_or (lookup x (procedures i (passed item s a) (drop (k + 1) tree))) (get_by_text new x)) next
            ∙ ap (option_or (lookup x later)) ((gains s seen.follows).finds x)
            ∙ sym (procedure_split x a.kind item s.unfinished later (get_by_text old x))
            ∙ ap (λ l. option_or (lookup x (procedures item s l)) (get_by_text old x)) (sym e)
            ∙ seen.finds x;
        behind = ap (λ i. item_behind i (drop (k + 1) tree)) next ∙ ap (item_behind item) (sym e) ∙ seen.behind;
        small = omega (arith, next_small (is_root a.kind) item, seen.small, next);
      }

  pub procedures_all : (tree : List Addition) (first k item : ℕ) (table : BTreeMap (String Y) ℕ) (kept : kept_scope.Scope) → length tree ≤ k → ProceduresTo tree first k item table kept
      → IsTable table (procedures first no_scope tree) × (item ≡ item_behind first tree)
  procedures_all tree first k item table kept le seen =
      let e = sym (drop_all k tree le) in
      (record { finds = λ x. ap (λ l. option_or (lookup x (procedures item seen.scope l)) (get_by_text table x)) e ∙ seen.finds x }, ap (item_behind item) e ∙ seen.behind)

  -- a PL/0 source's nodes up to number k
  pub record Pl0To (exports : BTreeMap (String Y) ℕ) (tree : List Addition) (first k item : ℕ) (old found : List (Option ℕ)) (kept : kept_scope.Scope) : Type 0 where
    pub scope : Scope
    pub follows : IsScope kept scope
    pub upto : (shared : List Symbol) → IsTable exports shared → found ++ pl0_all_found shared item scope (drop k tree) ≡ old ++ pl0_all_found shared first no_scope tree
    pub small : item ≤ first + k

  module _ (exports : BTreeMap (String Y) ℕ) (tree : List Addition) (first : ℕ) (old : List (Option ℕ)) where
    pub pl0_none : (kept : kept_scope.Scope) → IsScope kept no_scope → Pl0To exports tree first 0 first old old kept
    pl0_none kept follows = record { scope = no_scope; follows = follows; upto = λ shared g. refl; small = omega arith }

    pub pl0_more : (k item item' : ℕ) (found : List (Option ℕ)) (before after : kept_scope.Scope) (a : Addition) (o : Option ℕ) → k < length tree → a ≡ get_or tree k a
        → Pl0To exports tree first k item old found before
        → ((s : Scope) → IsScope before s → (shared : List Symbol) → IsTable exports shared → o ≡ pl0_found s.visible shared a.kind)
        → ((s : Scope) → IsScope before s → IsScope after (passed item s a)) → item' ≡ next_item a.kind item → Pl0To exports tree first (k + 1) item' old (found ++ o ∷ []) after
    pl0_more k item item' found before after a o lt is seen means passes next =
        let s = seen.scope in
        record {
          scope = passed item s a;
          follows = passes s seen.follows;
          upto = λ shared g.
              let rest : ℕ → List (Option ℕ) = λ i. pl0_all_found shared i (passed item s a) (drop (k + 1) tree) in
              append_assoc found (o ∷ []) (rest item')
              ∙ ap (λ i. found ++ o ∷ rest i) next
              ∙ ap (λ p. found ++ p ∷ rest (next_item a.kind item)) (means s seen.follows shared g)
              ∙ ap (λ l. found ++ pl0_all_found shared item s l) (sym (drop_item tree k a lt is))
              ∙ seen.upto shared g;
          small = omega (arith, next_small (is_root a.kind) item, seen.small, next);
        }

    pub pl0_all : (k item : ℕ) (found : List (Option ℕ)) (kept : kept_scope.Scope) → length tree ≤ k → Pl0To exports tree first k item old found kept
        → (shared : List Symbol) → IsTable exports shared → found ≡ old ++ pl0_all_found shared first no_scope tree
    pl0_all k item found kept le seen shared g =
        sym (append-nil found) ∙ ap (λ l. found ++ pl0_all_found shared item seen.scope l) (sym (drop_all k tree le)) ∙ seen.upto shared g

  -- a source with a main block is one of PL/0
  module _ (own : Callables) (exports : BTreeMap (String Y) ℕ) (tree : List Addition) (old new : List (Option ℕ)) where
    pub found_sl : own.main ≡ None
        → ((mine : List Symbol) → IsTable own.symbols mine → (shared : List Symbol) → IsTable exports shared → new ≡ old ++ sl_all_found mine shared tree)
        → (language : Language) (first : ℕ) → IsInterface own (interface_of language first tree) → (shared : List Symbol) → IsTable exports shared → new ≡ old ++ found_in language shared first tree
    found_sl none adds Sl first h shared g = adds (functions first tree) h.symbols shared g
    found_sl none adds Pl0 first h shared g = absurd (none_some (sym none ∙ h.main))

    pub found_pl0 : (main : ℕ) → own.main ≡ Some main
        → ((shared : List Symbol) → IsTable exports shared → new ≡ old ++ pl0_all_found shared main no_scope tree)
        → (language : Language) (first : ℕ) → IsInterface own (interface_of language first tree) → (shared : List Symbol) → IsTable exports shared → new ≡ old ++ found_in language shared first tree
    found_pl0 main some adds Sl first h shared g = absurd (none_some (sym h.main ∙ some))
    found_pl0 main some adds Pl0 first h shared g = adds shared g ∙ ap (λ i. old ++ pl0_all_found shared i no_scope tree) (some_same (sym some ∙ h.main))

  -- the sources up to number k
  pub record FoundTo (specs : List SourceSpec) (trees : List (List Addition)) (tables : List Callables) (exports : BTreeMap (String Y) ℕ) (k : ℕ) (found : List (Option ℕ)) : Type 0 where
    pub first : ℕ
    pub tables_left : AreTables (drop k tables) (interfaces first (drop k specs) (drop k trees))
    pub small : first + length (joined (drop k trees)) ≤ 1 + length (joined trees)
    pub upto : (shared : List Symbol) → IsTable exports shared → found ++ all_found shared first (drop k specs) (drop k trees) ≡ all_found shared 1 specs trees

  module _ (specs : List SourceSpec) (trees : List (List Addition)) (tables : List Callables) (exports : BTreeMap (String Y) ℕ) where
    pub found_none : AreTables tables (interfaces 1 specs trees) → FoundTo specs trees tables exports 0 []
    found_none are = record { first = 1; tables_left = are; small = omega arith; upto = λ shared g. refl }

    -- the number of a main block
    main_first : (language : Language) (first : ℕ) (t : List Addition) (table : Callables) (main : ℕ) → IsInterface table (interface_of language first t) → table.main ≡ Some main → main ≡ first
    main_first Sl first t table main h some = absurd (none_some (sym h.main ∙ some))
    main_first Pl0 first t table main h some = some_same (sym some ∙ h.main)

    pub main_small : (k : ℕ) (found : List (Option ℕ)) (s : SourceSpec) (t : List Addition) (table : Callables)
        → k < length specs → s ≡ get_or specs k s → k < length trees → t ≡ get_or trees k t → k < length tables → table ≡ get_or tables k table
        → FoundTo specs trees tables exports k found → (main : ℕ) → table.main ≡ Some main → main + length t ≤ 1 + length (joined trees)
    main_small k found s t table lt is tree_lt tree_is table_lt table_is seen main some =
        let e = drop_item specs k s lt is in
        let f = drop_item trees k t tree_lt tree_is in
        let g = drop_item tables k table table_lt table_is in
        let later : List Interface = interfaces (item_behind seen.first t) (drop (k + 1) specs) (drop (k + 1) trees) in
        let whole : interfaces seen.first (drop k specs) (drop k trees) ≡ interface_of s.language seen.first t ∷ later =
        ap (λ l. interfaces seen.first l (drop k trees)) e ∙ ap (interfaces seen.first (s ∷ drop (k + 1) specs)) f in
        let are : AreTables (table ∷ drop (k + 1) tables) (interface_of s.language seen.first t ∷ later) =
        subst (λ l. AreTables l (interface_of s.language seen.first t ∷ later)) g (subst (AreTables (drop k tables)) whole seen.tables_left) in
        omega (arith, ap (λ l. length (joined l)) f, length-append t (joined (drop (k + 1) trees)), seen.small, main_first s.language seen.first t table main are.0 some)

    pub found_more : (k : ℕ) (found new : List (Option ℕ)) (s : SourceSpec) (t : List Addition) (table : Callables)
        → k < length specs → s ≡ get_or specs k s → k < length trees → t ≡ get_or trees k t → k < length tables → table ≡ get_or tables k table
        → FoundTo specs trees tables exports k found
        → ((language : Language) (first : ℕ) → IsInterface table (interface_of language first t) → (shared : List Symbol) → IsTable exports shared → new ≡ found ++ found_in language shared first t)
        → FoundTo specs trees tables exports (k + 1) new
    found_more k found new s t table lt is tree_lt tree_is table_lt table_is seen adds =
        let e = drop_item specs k s lt is in
        let f = drop_item trees k t tree_lt tree_is in
        let g = drop_item tables k table table_lt table_is in
        let later : List Interface = interfaces (item_behind seen.first t) (drop (k + 1) specs) (drop (k + 1) trees) in
        let whole : interfaces seen.first (drop k specs) (drop k trees) ≡ interface_of s.language seen.first t ∷ later =
        ap (λ l. interfaces seen.first l (drop k trees)) e ∙ ap (interfaces seen.first (s ∷ drop (k + 1) specs)) f in
        let are : AreTables (table ∷ drop (k + 1) tables) (interface_of s.language seen.first t ∷ later) =
        subst (λ l. AreTables l (interface_of s.language seen.first t ∷ later)) g (subst (AreTables (drop k tables)) whole seen.tables_left) in
        record {
          first = item_behind seen.first t;
          tables_left = are.1;
          small = omega (arith, ap (λ l. length (joined l)) f, length-append t (joined (drop (k + 1) trees)), behind_small seen.first t, seen.small);
          upto = λ shared h.
              let rest : List (Option ℕ) = all_found shared (item_behind seen.first t) (drop (k + 1) specs) (drop (k + 1) trees) in
              ap (λ l. l ++ rest) (adds s.language seen.first are.0 shared h)
              ∙ append_assoc found (found_in s.language shared seen.first t) rest
              ∙ ap (λ l. found ++ l) (sym (ap (λ l. all_found shared seen.first l (drop k trees)) e ∙ ap (all_found shared seen.first (s ∷ drop (k + 1) specs)) f))
              ∙ seen.upto shared h;
        }

    pub found_all : (k : ℕ) (found : List (Option ℕ)) → length specs ≤ k → FoundTo specs trees tables exports k found
        → (shared : List Symbol) → IsTable exports shared → found ≡ all_found shared 1 specs trees
    found_all k found le seen shared h =
        sym (append-nil found) ∙ ap (λ l. found ++ all_found shared seen.first l (drop k trees)) (sym (drop_all k specs le)) ∙ seen.upto shared h

-- What loading hands to linking: as many items as nodes, and each an item that there is.
use Rattle.std.proofs.Common.{◌≡◌, ℕ, zero, suc, ◌+◌, ◌<◌, ◌≤◌, Bool, true, false, cond, List, [], ◌∷◌, ◌++◌, length, Option, Some, None, Result, Ok, Err, refl, sym, ap, subst, arith, length-append, is_some}
use Rattle.std.specs.Prelude.{if◌then◌else◌, bytes_eq, codes}
use Rattle.std.specs.Option.{option_or, ok_or}
use Rattle.pd_sections.specs.declared.Token.{Token}
use Rattle.pd_sections.specs.Written.{Written}
use Rattle.pd_plan.specs.declared.plan.Language.{Language}
use Rattle.pd_plan.specs.declared.plan.Language.TheVariants.{Sl, Pl0}
use Rattle.pd_plan.specs.declared.plan.SourceSpec.{SourceSpec}
use Rattle.pd_plan.specs.declared.plan.ExportSpec.{ExportSpec}
use Rattle.pd_plan.specs.declared.plan.ContextSpec.{ContextSpec}
use Rattle.pd_tree.specs.declared.addition.Addition.{Addition}
use Rattle.pd_tree.specs.declared.kind.Kind.{Kind}
use Rattle.pd_tree.specs.declared.kind.Kind.TheVariants.{SlFunction, SlName, PlProcedure, PlCall}
use Rattle.pd_tree.specs.declared.kind.Meaning.{Meaning}
use Rattle.pd_tree.specs.declared.kind.Meaning.TheVariants.{Nothing}
use Rattle.pd_tree.specs.Kinds.{is_root, root_name_of}
use Rattle.pd_tree.specs.Linked.{joined, items_from, items_of}
use Rattle.pd_turn.specs.declared.Node.{Node}
use Rattle.pd_turn.specs.Turned.{pres}
use Rattle.pd_sl_read.specs.declared.parts.Part.{Part}
use Rattle.pd_sl_read.specs.declared.parts.Shape.{Shape}
use Rattle.pd_sl_read.specs.declared.parts.Shape.TheVariants as shapes
use Rattle.pd_sl_read.specs.Places.{roses}
use Rattle.pd_sl_parse.specs.Scopes.{text_at}
use Rattle.pd_sl_parse.specs.Locals.{local, is_local, slot_of, meaning_of}
use Rattle.pd_sl_parse.specs.Additions.{AreAdditionsOf}
use Rattle.pd_pl0_read.specs.Tokens as pl0
use Rattle.pd_link.specs.Linking.{AllFound, IsUnlinked, AllUnlinked, AllBelow}
use Rattle.pd_load.specs.declared.refusal.LoadRefusal.{LoadRefusal}
use Rattle.pd_load.specs.declared.refusal.LoadCause.TheVariants.{NoSuchItem, DoubledExport, NoSuchEntry}
use Rattle.pd_load.specs.Names.{Symbol, lookup, next_item, item_behind, function_symbol, functions, sl_item, sl_found, sl_all_found, Unfinished, Scope, no_scope, declared, part_came, ended, passed, pl0_found, pl0_all_found, procedure_symbol, procedures, Interface, interface_of, found_in, entry_named, entry_in}
use Rattle.pd_load.specs.Linked.{interfaces, interface_at, all_found, and_then, exported_item, exports_from, entry_item, entries_from}
use Rattle.pd_load.specs.Loading.{IsTree, AreTrees}
use Rattle.pd_load.proofs.Unlinked.{BeginsWithItem, main_first, pl0_unlinked}

-- ---- how many items there are

item_counted : (n item : ℕ) (a : Addition) (rest : List Addition) (b : Bool) → ((m : ℕ) → cond b (item + 1) item + length (items_from m rest) ≡ item_behind (cond b (item + 1) item) rest)
    → item + length (cond b (record { name = root_name_of a.kind; root = Some n } ∷ items_from (n + 1) rest) (items_from (n + 1) rest)) ≡ item_behind (cond b (item + 1) item) rest
item_counted n item a rest true h = omega (arith, h (n + 1))
item_counted n item a rest false h = h (n + 1)

items_counted : (n item : ℕ) (all : List Addition) → item + length (items_from n all) ≡ item_behind item all
items_counted n item [] = omega arith
items_counted n item (a ∷ rest) = item_counted n item a rest (is_root a.kind) (λ m. items_counted m (next_item a.kind item) rest)

pub all_items : (all : List Addition) → length (items_of all) ≡ item_behind 1 all
all_items all = omega (arith, items_counted 0 1 all)

pub behind_append : (item : ℕ) (t u : List Addition) → item_behind item (t ++ u) ≡ item_behind (item_behind item t) u
behind_append item [] u = refl
behind_append item (a ∷ t) u = behind_append (next_item a.kind item) t u

grown_one : (b : Bool) (item : ℕ) → item ≤ cond b (item + 1) item
grown_one true item = omega arith
grown_one false item = omega arith

pub behind_grows : (item : ℕ) (t : List Addition) → item ≤ item_behind item t
behind_grows item [] = omega arith
behind_grows item (a ∷ rest) = omega (arith, behind_grows (next_item a.kind item) rest, grown_one (is_root a.kind) item)

-- ---- what is found is an item below n

abbrev pub IsBelow : ℕ → Option ℕ → Type 0
IsBelow n None = Unit {0}
IsBelow n (Some i) = i < n

abbrev pub SymbolsBelow : ℕ → List Symbol → Type 0
SymbolsBelow n [] = Unit {0}
SymbolsBelow n (s ∷ ss) = (s.item < n) × SymbolsBelow n ss

or_below : (n : ℕ) (a b : Option ℕ) → IsBelow n a → IsBelow n b → IsBelow n (option_or a b)
or_below n None b h g = g
or_below n (Some i) b h g = h

one_below : (n i : ℕ) (b : Bool) → i < n → IsBelow n (if b then Some i else None)
one_below n i true h = h
one_below n i false h = tt

pub lookup_below : (n : ℕ) (x : List ℕ) (ss : List Symbol) → SymbolsBelow n ss → IsBelow n (lookup x ss)
lookup_below n x [] h = tt
lookup_below n x (s ∷ ss) h = or_below n (lookup x ss) (if bytes_eq s.name x then Some s.item else None) (lookup_below n x ss h.1) (one_below n s.item (bytes_eq s.name x) h.0)

symbols_push : (n : ℕ) (ss : List Symbol) (s : Symbol) → SymbolsBelow n ss → s.item < n → SymbolsBelow n (ss ++ s ∷ [])
symbols_push n [] s h lt = (lt, tt)
symbols_push n (t ∷ ss) s h lt = (h.0, symbols_push n ss s h.1 lt)

function_below : (n : ℕ) (kind : Kind) (item : ℕ) (later : List Symbol) → next_item kind item ≤ n → SymbolsBelow n later → SymbolsBelow n (function_symbol kind item later)
function_below n (SlFunction name parameters) item later le h = (omega arith, h)
function_below n _ item later le h = h

pub functions_below : (n item : ℕ) (tree : List Addition) → item_behind item tree ≤ n → SymbolsBelow n (functions item tree)
functions_below n item [] le = tt
functions_below n item (a ∷ rest) le =
    function_below n a.kind item (functions (next_item a.kind item) rest) (omega (arith, behind_grows (next_item a.kind item) rest)) (functions_below n (next_item a.kind item) rest le)

symbol_below : (n : ℕ) (kind : Kind) (item : ℕ) (us : List Unfinished) (later : List Symbol) → next_item kind item ≤ n → SymbolsBelow n later → SymbolsBelow n (procedure_symbol kind item us later)
symbol_below n (PlProcedure name variables) item [] later le h = h
symbol_below n (PlProcedure name variables) item (u ∷ []) later le h = (omega arith, h)
symbol_below n (PlProcedure name variables) item (u ∷ v ∷ us) later le h = h
symbol_below n _ item us later le h = h

procedures_below : (n item : ℕ) (s : Scope) (tree : List Addition) → item_behind item tree ≤ n → SymbolsBelow n (procedures item s tree)
procedures_below n item s [] le = tt
procedures_below n item s (a ∷ rest) le =
    symbol_below n a.kind item s.unfinished (procedures (next_item a.kind item) (passed item s a) rest) (omega (arith, behind_grows (next_item a.kind item) rest))
    (procedures_below n (next_item a.kind item) (passed item s a) rest le)

-- ---- interfaces

-- a PL/0 source begins with its main block
abbrev pub HasMain : Language → List Addition → Type 0
HasMain Sl tree = Unit {0}
HasMain Pl0 tree = BeginsWithItem tree

abbrev pub AllMain : List SourceSpec → List (List Addition) → Type 0
AllMain (s ∷ specs) (t ∷ trees) = HasMain s.language t × AllMain specs trees
AllMain _ _ = Unit {0}

main_below : (n item : ℕ) (tree : List Addition) → BeginsWithItem tree → item_behind item tree ≤ n → item < n
main_below n item [] main le = absurd main
main_below n item (a ∷ rest) main le =
    let next : next_item a.kind item ≡ item + 1 = ap (λ b. cond b (item + 1) item) main in
    omega (arith, behind_grows (next_item a.kind item) rest, next)

abbrev pub InterfacesBelow : ℕ → List Interface → Type 0
InterfacesBelow n [] = Unit {0}
InterfacesBelow n (i ∷ all) = SymbolsBelow n i.symbols × IsBelow n i.main × InterfacesBelow n all

one_interface : (n item : ℕ) (language : Language) (tree : List Addition) → HasMain language tree → item_behind item tree ≤ n
    → SymbolsBelow n (interface_of language item tree).symbols × IsBelow n (interface_of language item tree).main
one_interface n item Sl tree main le = (functions_below n item tree le, tt)
one_interface n item Pl0 tree main le = (procedures_below n item no_scope tree le, main_below n item tree main le)

first_within : (n item : ℕ) (t : List Addition) (ts : List (List Addition)) → item_behind item (joined (t ∷ ts)) ≤ n → item_behind item t ≤ n
first_within n item t ts le = omega (arith, behind_append item t (joined ts), behind_grows (item_behind item t) (joined ts))

rest_within : (n item : ℕ) (t : List Addition) (ts : List (List Addition)) → item_behind item (joined (t ∷ ts)) ≤ n → item_behind (item_behind item t) (joined ts) ≤ n
rest_within n item t ts le = omega (arith, behind_append item t (joined ts))

pub interfaces_below : (n item : ℕ) (specs : List SourceSpec) (trees : List (List Addition)) → AllMain specs trees → item_behind item (joined trees) ≤ n
    → InterfacesBelow n (interfaces item specs trees)
interfaces_below n item [] trees main le = tt
interfaces_below n item (s ∷ specs) [] main le = tt
interfaces_below n item (s ∷ specs) (t ∷ trees) main le =
    let i = one_interface n item s.language t main.0 (first_within n item t trees le) in
    (i.0, i.1, interfaces_below n (item_behind item t) specs trees main.1 (rest_within n item t trees le))

interface_below : (n : ℕ) (all : List Interface) (k : ℕ) → InterfacesBelow n all → SymbolsBelow n (interface_at all k).symbols × IsBelow n (interface_at all k).main
interface_below n [] k h = (tt, tt)
interface_below n (i ∷ all) zero h = (h.0, h.1)
interface_below n (i ∷ all) (suc k) h = interface_below n all k h.2

-- ---- exports and entries

abbrev ResultBelow : ℕ → Result ℕ LoadRefusal → Type 0
ResultBelow n (Ok i) = i < n
ResultBelow n (Err refusal) = Unit {0}

ok_below : (n : ℕ) (o : Option ℕ) (refusal : LoadRefusal) → IsBelow n o → ResultBelow n (ok_or o refusal)
ok_below n None refusal h = tt
ok_below n (Some i) refusal h = h

unless_below : (n : ℕ) (b : Bool) (refusal : LoadRefusal) (r : Result ℕ LoadRefusal) → ResultBelow n r → ResultBelow n (if b then Err refusal else r)
unless_below n true refusal r h = tt
unless_below n false refusal r h = h

export_below : (n : ℕ) (all : List Interface) (k : ℕ) (earlier : List Symbol) (e : ExportSpec) → InterfacesBelow n all → ResultBelow n (exported_item all k earlier e)
export_below n all k earlier e h =
    let missing : LoadRefusal = record { source = e.source; cause = NoSuchItem k } in
    unless_below n (is_some (lookup e.name earlier)) (record { source = e.source; cause = DoubledExport k }) (ok_or (lookup e.item (interface_at all e.source).symbols) missing)
    (ok_below n (lookup e.item (interface_at all e.source).symbols) missing (lookup_below n e.item (interface_at all e.source).symbols (interface_below n all e.source h).0))

ok_same : {X : Type 0} {x y : X} → ◌≡◌ {A = Result X LoadRefusal} (Ok x) (Ok y) → x ≡ y
ok_same h = cc

ok_err : {X : Type 0} {x : X} {r : LoadRefusal} → ◌≡◌ {A = Result X LoadRefusal} (Err r) (Ok x) → ⊥
ok_err h = cc

-- an `Ok` comes of two
both_ok : {X Y : Type 0} (r : Result X LoadRefusal) (next : X → Result Y LoadRefusal) (y : Y) → and_then r next ≡ Ok y → (x : X) × (r ≡ Ok x) × (next x ≡ Ok y)
both_ok (Ok x) next y h = (x, refl, h)
both_ok (Err r) next y h = absurd (ok_err h)

pub exports_below : (n : ℕ) (all : List Interface) (k : ℕ) (earlier : List Symbol) (es : List ExportSpec) (symbols : List Symbol) → InterfacesBelow n all → SymbolsBelow n earlier
    → exports_from all k earlier es ≡ Ok symbols → SymbolsBelow n symbols
exports_below n all k earlier [] symbols h below is = subst (SymbolsBelow n) (ok_same is) below
exports_below n all k earlier (e ∷ es) symbols h below is =
    let two = both_ok (exported_item all k earlier e) (λ i. exports_from all (k + 1) (earlier ++ record { name = e.name; item = i } ∷ []) es) symbols is in
    let lt : two.0 < n = subst (ResultBelow n) two.1 (export_below n all k earlier e h) in
    exports_below n all (k + 1) (earlier ++ record { name = e.name; item = two.0 } ∷ []) es symbols h (symbols_push n earlier (record { name = e.name; item = two.0 }) below lt) two.2

named_below : (n : ℕ) (main : Option ℕ) (symbols : List Symbol) (x : List ℕ) → SymbolsBelow n symbols → IsBelow n main → IsBelow n (entry_named main symbols x)
named_below n None symbols x h g = lookup_below n x symbols h
named_below n (Some m) symbols x h g = go (bytes_eq x (codes "main"))
  where
    go : (b : Bool) → IsBelow n (if b then Some m else lookup x symbols)
    go true = g
    go false = lookup_below n x symbols h

entry_below : (n : ℕ) (all : List Interface) (k : ℕ) (c : ContextSpec) → InterfacesBelow n all → ResultBelow n (entry_item all k c)
entry_below n all k c h =
    let i = interface_below n all c.source h in
    let symbols = (interface_at all c.source).symbols in
    ok_below n (entry_in (interface_at all c.source) c.entry) (record { source = c.source; cause = NoSuchEntry k })
    (named_below n (interface_at all c.source).main symbols c.entry i.0 i.1)

below_push : (n : ℕ) (is : List ℕ) (i : ℕ) → AllBelow n is → i < n → AllBelow n (is ++ i ∷ [])
below_push n [] i h lt = (lt, tt)
below_push n (j ∷ is) i h lt = (h.0, below_push n is i h.1 lt)

pub entries_below : (n : ℕ) (all : List Interface) (k : ℕ) (earlier : List ℕ) (cs : List ContextSpec) (entries : List ℕ) → InterfacesBelow n all → AllBelow n earlier
    → entries_from all k earlier cs ≡ Ok entries → AllBelow n entries
entries_below n all k earlier [] entries h below is = subst (AllBelow n) (ok_same is) below
entries_below n all k earlier (c ∷ cs) entries h below is =
    let two = both_ok (entry_item all k c) (λ i. entries_from all (k + 1) (earlier ++ i ∷ []) cs) entries is in
    let lt : two.0 < n = subst (ResultBelow n) two.1 (entry_below n all k c h) in
    entries_below n all (k + 1) (earlier ++ two.0 ∷ []) cs entries h (below_push n earlier two.0 below lt) two.2

-- ---- the items of names

found_cons : (n : ℕ) (o : Option ℕ) (found : List (Option ℕ)) → IsBelow n o → AllFound n found → AllFound n (o ∷ found)
found_cons n None found h all = all
found_cons n (Some i) found h all = (h, all)

found_append : (n : ℕ) (a b : List (Option ℕ)) → AllFound n a → AllFound n b → AllFound n (a ++ b)
found_append n [] b h g = g
found_append n (None ∷ a) b h g = found_append n a b h g
found_append n (Some i ∷ a) b h g = (h.0, found_append n a b h.1 g)

sl_item_below : (n : ℕ) (own shared : List Symbol) (x : List ℕ) → 0 < n → SymbolsBelow n own → SymbolsBelow n shared → IsBelow n (sl_item own shared x)
sl_item_below n own shared x some h g =
    or_below n (lookup x own) (if bytes_eq x (codes "println") then Some 0 else lookup x shared) (lookup_below n x own h)
    (builtin (bytes_eq x (codes "println")))
  where
    builtin : (b : Bool) → IsBelow n (if b then Some 0 else lookup x shared)
    builtin true = some
    builtin false = lookup_below n x shared g

sl_found_below : (n : ℕ) (own shared : List Symbol) (kind : Kind) (meaning : Meaning) → 0 < n → SymbolsBelow n own → SymbolsBelow n shared → IsBelow n (sl_found own shared kind meaning)
sl_found_below n own shared (SlName x) Nothing some h g = sl_item_below n own shared x some h g
sl_found_below n own shared _ _ some h g = tt

sl_all_below : (n : ℕ) (own shared : List Symbol) (tree : List Addition) → 0 < n → SymbolsBelow n own → SymbolsBelow n shared → AllFound n (sl_all_found own shared tree)
sl_all_below n own shared [] some h g = tt
sl_all_below n own shared (a ∷ tree) some h g =
    found_cons n (sl_found own shared a.kind a.meaning) (sl_all_found own shared tree) (sl_found_below n own shared a.kind a.meaning some h g) (sl_all_below n own shared tree some h g)

-- ---- the procedures in scope

abbrev UnfinishedBelow : ℕ → List Unfinished → Type 0
UnfinishedBelow n [] = Unit {0}
UnfinishedBelow n (u ∷ us) = SymbolsBelow n u.visible × UnfinishedBelow n us

abbrev ScopeBelow : ℕ → Scope → Type 0
ScopeBelow n s = SymbolsBelow n s.visible × UnfinishedBelow n s.unfinished

declared_below : (n : ℕ) (kind : Kind) (item : ℕ) (us : List Unfinished) (visible : List Symbol) → next_item kind item ≤ n → SymbolsBelow n visible → SymbolsBelow n (declared kind item us visible)
declared_below n (PlProcedure name variables) item [] visible le h = h
declared_below n (PlProcedure name variables) item (u ∷ us) visible le h = symbols_push n visible (record { name = name; item = item }) h (omega arith)
declared_below n _ item us visible le h = h

part_below : (n : ℕ) (us : List Unfinished) → UnfinishedBelow n us → UnfinishedBelow n (part_came us)
part_below n [] h = tt
part_below n (u ∷ us) h = h

ended_below : (n : ℕ) (us : List Unfinished) (visible : List Symbol) → UnfinishedBelow n us → SymbolsBelow n visible → ScopeBelow n (ended us visible)
ended_below n [] visible h g = (g, tt)
ended_below n (u ∷ us) visible h g = go u.left (ended_below n us u.visible h.1 h.0)
  where
    go : (left : ℕ) → ScopeBelow n (ended us u.visible) → ScopeBelow n (ended (record { left = left; visible = u.visible } ∷ us) visible)
    go zero below = below
    go (suc left) below = (g, h)

passed_below : (n item : ℕ) (s : Scope) (a : Addition) → next_item a.kind item ≤ n → ScopeBelow n s → ScopeBelow n (passed item s a)
passed_below n item s a le h =
    let visible = declared a.kind item s.unfinished s.visible in
    let below = declared_below n a.kind item s.unfinished s.visible le h.0 in
    ended_below n (record { left = a.children; visible = visible } ∷ part_came s.unfinished) visible (below, part_below n s.unfinished h.1) below

pl0_found_below : (n : ℕ) (visible shared : List Symbol) (kind : Kind) → SymbolsBelow n visible → SymbolsBelow n shared → IsBelow n (pl0_found visible shared kind)
pl0_found_below n visible shared (PlCall x) h g = or_below n (lookup x visible) (lookup x shared) (lookup_below n x visible h) (lookup_below n x shared g)
pl0_found_below n visible shared _ h g = tt

pl0_all_below : (n : ℕ) (shared : List Symbol) (item : ℕ) (s : Scope) (tree : List Addition) → item_behind item tree ≤ n → ScopeBelow n s → SymbolsBelow n shared
    → AllFound n (pl0_all_found shared item s tree)
pl0_all_below n shared item s [] le h g = tt
pl0_all_below n shared item s (a ∷ rest) le h g =
    found_cons n (pl0_found s.visible shared a.kind) (pl0_all_found shared (next_item a.kind item) (passed item s a) rest) (pl0_found_below n s.visible shared a.kind h.0 g)
    (pl0_all_below n shared (next_item a.kind item) (passed item s a) rest le (passed_below n item s a (omega (arith, behind_grows (next_item a.kind item) rest)) h) g)

one_found : (n : ℕ) (shared : List Symbol) (item : ℕ) (language : Language) (tree : List Addition) → 0 < n → SymbolsBelow n shared → item_behind item tree ≤ n
    → AllFound n (found_in language shared item tree)
one_found n shared item Sl tree some g le = sl_all_below n (functions item tree) shared tree some (functions_below n item tree le) g
one_found n shared item Pl0 tree some g le = pl0_all_below n shared item no_scope tree le (tt, tt) g

pub found_below : (n : ℕ) (shared : List Symbol) (item : ℕ) (specs : List SourceSpec) (trees : List (List Addition)) → 0 < n → SymbolsBelow n shared
    → item_behind item (joined trees) ≤ n → AllFound n (all_found shared item specs trees)
found_below n shared item [] trees some g le = tt
found_below n shared item (s ∷ specs) [] some g le = tt
found_below n shared item (s ∷ specs) (t ∷ trees) some g le =
    found_append n (found_in s.language shared item t) (all_found shared (item_behind item t) specs trees)
    (one_found n shared item s.language t some g (first_within n item t trees le))
    (found_below n shared (item_behind item t) specs trees some g (rest_within n item t trees le))

-- ---- one for each node

sl_counted : (own shared : List Symbol) (tree : List Addition) → length (sl_all_found own shared tree) ≡ length tree
sl_counted own shared [] = refl
sl_counted own shared (a ∷ tree) = ap suc (sl_counted own shared tree)

pl0_all_counted : (shared : List Symbol) (item : ℕ) (s : Scope) (tree : List Addition) → length (pl0_all_found shared item s tree) ≡ length tree
pl0_all_counted shared item s [] = refl
pl0_all_counted shared item s (a ∷ tree) = ap suc (pl0_all_counted shared (next_item a.kind item) (passed item s a) tree)

one_counted : (shared : List Symbol) (item : ℕ) (language : Language) (tree : List Addition) → length (found_in language shared item tree) ≡ length tree
one_counted shared item Sl tree = sl_counted (functions item tree) shared tree
one_counted shared item Pl0 tree = pl0_all_counted shared item no_scope tree

pub found_counted : (shared : List Symbol) (item : ℕ) (specs : List SourceSpec) (trees : List (List Addition)) → length trees ≡ length specs
    → length (all_found shared item specs trees) ≡ length (joined trees)
found_counted shared item [] [] h = refl
found_counted shared item [] (t ∷ trees) h = absurd (omega arith)
found_counted shared item (s ∷ specs) [] h = absurd (omega arith)
found_counted shared item (s ∷ specs) (t ∷ trees) h =
    omega (
      arith,
      length-append (found_in s.language shared item t) (all_found shared (item_behind item t) specs trees),
      length-append t (joined trees),
      one_counted shared item s.language t,
      found_counted shared (item_behind item t) specs trees (omega arith),
    )

-- ---- no name means an item before

local_unlinked : (o : Option ℕ) → IsUnlinked (local o)
local_unlinked None = tt
local_unlinked (Some slot) = tt

read_unlinked : (b : Bool) (o : Option ℕ) → IsUnlinked (if b then local o else Nothing)
read_unlinked true o = local_unlinked o
read_unlinked false o = tt

meaning_unlinked : (bytes : List ℕ) (tokens : List Token) (shape : Shape) (p : Part) (earlier : List Part) → IsUnlinked (meaning_of bytes tokens shape p earlier)
meaning_unlinked bytes tokens shapes.Assign p earlier = local_unlinked (slot_of bytes tokens (text_at bytes tokens p.first) p.first (p ∷ earlier))
meaning_unlinked bytes tokens shapes.Name p earlier =
    read_unlinked (is_local bytes tokens (text_at bytes tokens p.first) p.first earlier) (slot_of bytes tokens (text_at bytes tokens p.first) p.first earlier)
meaning_unlinked bytes tokens _ p earlier = tt

additions_unlinked : (bytes : List ℕ) (tokens : List Token) (source : ℕ) (earlier : List Part) (nodes : List (Node Part)) (tree : List Addition)
    → AreAdditionsOf bytes tokens source earlier nodes tree → AllUnlinked tree
additions_unlinked bytes tokens source earlier [] [] h = tt
additions_unlinked bytes tokens source earlier [] (a ∷ tree) h = absurd h
additions_unlinked bytes tokens source earlier (x ∷ nodes) [] h = absurd h
additions_unlinked bytes tokens source earlier (x ∷ nodes) (a ∷ tree) h =
    (subst IsUnlinked (sym h.0.means) (meaning_unlinked bytes tokens x.what.shape x.what earlier), additions_unlinked bytes tokens source (x.what ∷ earlier) nodes tree h.1)

tree_unlinked : (language : Language) (room number : ℕ) (bytes : List ℕ) (tree : List Addition) → IsTree language room number bytes tree → AllUnlinked tree
tree_unlinked Pl0 room number bytes tree h = pl0_unlinked bytes h.0 number h.2.0 tree h.2.2
tree_unlinked Sl room number bytes tree h = additions_unlinked bytes h.0 number [] (pres (roses 0 h.2.0)) tree h.2.2

unlinked_append : (a b : List Addition) → AllUnlinked a → AllUnlinked b → AllUnlinked (a ++ b)
unlinked_append [] b h g = g
unlinked_append (x ∷ a) b h g = (h.0, unlinked_append a b h.1 g)

pub trees_unlinked : (number room : ℕ) (specs : List SourceSpec) (sources : List Written) (trees : List (List Addition)) → AreTrees number room specs sources trees
    → AllUnlinked (joined trees)
trees_unlinked number room [] [] [] h = tt
trees_unlinked number room (s ∷ specs) (w ∷ sources) (t ∷ trees) h =
    unlinked_append t (joined trees) (tree_unlinked s.language room number w.bytes t h.0) (trees_unlinked (number + 1) _ specs sources trees h.1)
trees_unlinked number room [] [] (t ∷ trees) h = absurd h
trees_unlinked number room [] (w ∷ sources) trees h = absurd h
trees_unlinked number room (s ∷ specs) [] trees h = absurd h
trees_unlinked number room (s ∷ specs) (w ∷ sources) [] h = absurd h

-- ---- main blocks

one_main : (language : Language) (room number : ℕ) (bytes : List ℕ) (tree : List Addition) → IsTree language room number bytes tree → HasMain language tree
one_main Sl room number bytes tree h = tt
one_main Pl0 room number bytes tree h = main_first bytes h.0 number (pl0.words_of bytes h.0) h.2.0 tree h.2.1.spelled h.2.2

pub trees_main : (number room : ℕ) (specs : List SourceSpec) (sources : List Written) (trees : List (List Addition)) → AreTrees number room specs sources trees → AllMain specs trees
trees_main number room [] [] [] h = tt
trees_main number room (s ∷ specs) (w ∷ sources) (t ∷ trees) h = (one_main s.language room number w.bytes t h.0, trees_main (number + 1) _ specs sources trees h.1)
trees_main number room [] [] (t ∷ trees) h = absurd h
trees_main number room [] (w ∷ sources) trees h = absurd h
trees_main number room (s ∷ specs) [] trees h = absurd h
trees_main number room (s ∷ specs) (w ∷ sources) [] h = absurd h

-- One row word of a node's load.
use Rattle.std.proofs.Common.{◌≡◌, ◌≢◌, ℕ, suc, ◌+◌, ◌/◌, ◌%◌, ◌<◌, ◌≤◌, List, [], ◌∷◌, ◌++◌, Option, Some, Bool, true, false, if◌then◌else◌, ◌==◌, sym, refl, ap, ◌∙◌, subst, arith, eq-eqb, ne_eqb, length, slice_set, get_or, get_or-set_other}
use Rattle.std.specs.Prelude.{slice_index}
use Rattle.std.proofs.lemmas.Grind.{common_steps, get_or-set_at}
use Rattle.std.specs.Int.{bit_at}
use Rattle.std.proofs.lemmas.Nat.Bits.{bit_at-zero}
use Rattle.pd_plan.specs.declared.table.MatchTable.{MatchTable}
use Rattle.pd_board.specs.declared.chain.Chain.{Chain}
use Rattle.pd_board.specs.Chain.{has}
use Rattle.pd_board.specs.Answers.{known_after_load}
use Rattle.pd_board.specs.Standing.{in_row}
use Rattle.pd_board.proofs.ChainLemmas.{by_eq}
use Rattle.pd_core.specs.declared.view.View.{View}
use Rattle.pd_core.specs.declared.view.Loaded.{Loaded}
use Rattle.pd_core.specs.Layout.{Layout, width}
use Rattle.pd_core.specs.Kinds.{after, load_node, load_row}
use Rattle.pd_core.specs.Words.{bit_of}
use Rattle.pd_core.specs.Views.{HasRow, with_row}
use Rattle.pd_shared.specs.declared.token.Token.{Token}
use Rattle.pd_shared.specs.Book.{book_of, known_at}
use Rattle.pd_shared.specs.Tied.{IsTied}
use Rattle.pd_shared.specs.Took.{Took, IsRowKnown}
use Rattle.pd_shared.specs.Steps.{LoadedIf, LoadedTo}
use Rattle.pd_shared.specs.Loading.{last_word, bit_loaded, IsLast, IsLoading}

bit_is : (w i : ℕ) → (bit_of w i == 1) ≡ (bit_at w i == 1)
unfolding bit_of
bit_is w i = refl

word_more : (r k v w : ℕ) (xs : List (ℕ × ℕ)) → last_word r w (xs ++ (k, v) ∷ []) ≡ (if r == k then v else last_word r w xs)
word_more r k v w [] = refl
word_more r k v w (x ∷ xs) = word_more r k v (if r == x.0 then x.1 else w) xs

which_bit : (t : Bool) (v w i : ℕ) → (bit_of (if t then v else w) i == 1) ≡ (if t then bit_at v i == 1 else bit_of w i == 1)
which_bit true v w i = bit_is v i
which_bit false v w i = refl

bit_more : (r w : ℕ) (l : Loaded) (b : ℕ) → bit_loaded (with_row r w (Some l)) b ≡ (if b / 64 == r then bit_at w (b % 64) == 1 else bit_loaded (Some l) b)
bit_more r w l b = ap (λ (x : ℕ). bit_of x (b % 64) == 1) (word_more (b / 64) r w 0 l.rows) ∙ which_bit (b / 64 == r) w (last_word (b / 64) 0 l.rows) (b % 64)

no_bits : (i : ℕ) → (bit_of 0 i == 1) ≡ false
unfolding bit_of
no_bits i = ap (λ (x : ℕ). x == 1) (bit_at-zero i)

-- where no row word was loaded, no bit is
pub none_loaded : (n summary b : ℕ) → bit_loaded (Some (record { node = n; summary = summary; rows = [] })) b ≡ false
none_loaded n summary b = no_bits (b % 64)

pub has_row : (n summary r : ℕ) (v : View) → IsLast n summary v → bit_of summary r ≡ 1 → HasRow v.loaded n r
has_row n summary r v l set = (l.0, l.1, l.2, ap (λ (s : ℕ). bit_of s r) l.3 ∙ set)

one_more : (k : ℕ) → suc k ≡ k + 1
one_more k = omega arith

pub loading_with : (p : Layout) (table : MatchTable) (n summary r word : ℕ) (start now next : Token) (chain more : Chain) → IsLoading p table n summary r start now chain → next.pass.id ≡ now.pass.id → IsTied p next.pass.view (book_of next) → IsRowKnown table n r word now.known.items next.known.items → ((b : ℕ) → b / 64 ≡ r → (bit_of word (b % 64) == 1) ≡ true → in_row table b n ≡ true)
    → next.pass.view.loaded ≡ with_row r word now.pass.view.loaded
    → next.pass.view ≡ record now.pass.view { loaded = next.pass.view.loaded; found_disposed = next.pass.view.found_disposed; steps = next.pass.view.steps; last = next.pass.view.last }
    → next ≡ record now { pass = next.pass; known = next.known } → ((b : ℕ) → has more b ≡ (if b / 64 == r then bit_at word (b % 64) == 1 else has chain b)) → r < width p → (bit_of summary r == 1) ≡ true → Took p (load_row n r) now.pass.view word next.pass.view → IsLoading p table n summary (r + 1) start next more
loading_with p table n summary r word start now next chain more l id tied row_known matching loaded view rest set lt has_it took = record {
  id = id ∙ l.id;
  tied = tied;
  last = (record l.last.0 { rows = _ }, loaded ∙ ap (with_row r word) l.last.1, l.last.2, l.last.3);
  matching = λ b h. by_eq (b / 64) r
      (λ (e : b / 64 ≡ r). matching b e (bit_is word (b % 64) ∙ (sym (here b e) ∙ h)))
      (λ (ne : b / 64 ≢ r). l.matching b (sym (other b ne) ∙ h));
  bits = λ b. set b ∙ (ap (λ (x : Bool). if b / 64 == r then bit_at word (b % 64) == 1 else x) (l.bits b ∙ ap (λ (o : Option Loaded). bit_loaded o b) l.last.1)
      ∙ (sym (bit_more r word l.last.0 b) ∙ sym (ap (λ (o : Option Loaded). bit_loaded o b) (loaded ∙ ap (with_row r word) l.last.1))));
  ahead = λ b h. other b (λ e. omega arith) ∙ l.ahead b (omega arith);
  known = λ b h. by_eq (b / 64) r
      (λ (e : b / 64 ≡ r). row_known b ∙ (ap (λ (t : Bool). if t then known_after_load (in_row table b n) (bit_of word (b % 64) == 1) (known_at now.known.items b) else known_at now.known.items b) (eq-eqb (b / 64) r e)
      ∙ (λ i. known_after_load (in_row table b n) ((bit_is word (b % 64) ∙ sym (here b e)) i) (l.known_ahead b (omega arith) i))))
      (λ (ne : b / 64 ≢ r). kept b ne ∙ (l.known b (less (b / 64) r ne h) ∙ ap (λ (t : Bool). known_after_load (in_row table b n) t (known_at start.known.items b)) (sym (other b ne))));
  known_ahead = λ b h. kept b (λ e. omega arith) ∙ l.known_ahead b (omega arith);
  low = omega arith;
  loads = subst (λ (k : ℕ). LoadedTo p n summary k (after p (load_node n) summary start.pass.view) next.pass.view) (one_more r) (now.pass.view, l.loads, subst (λ (t : Bool). LoadedIf t p n r now.pass.view next.pass.view) (sym has_it) (word, took));
  view = view ∙ ap (λ (v : View). record v { loaded = next.pass.view.loaded; found_disposed = next.pass.view.found_disposed; steps = next.pass.view.steps; last = next.pass.view.last }) l.view ∙ ap (λ (xs : List ℕ). record start.pass.view { loads = xs; loaded = next.pass.view.loaded; found_disposed = next.pass.view.found_disposed; steps = next.pass.view.steps; last = next.pass.view.last }) (sym (ap (λ (v : View). v.loads) view));
  all_loads = ap (λ (t : Token). t.all_loads) rest ∙ l.all_loads;
  rest = rest ∙ ap (λ (t : Token). record t { pass = next.pass; known = next.known }) l.rest ∙ ap (λ (k : ℕ). record start { pass = next.pass; known = next.known; all_loads = k }) (sym (ap (λ (t : Token). t.all_loads) rest));
}
  where
    here : (b : ℕ) → b / 64 ≡ r → has more b ≡ (bit_at word (b % 64) == 1)
    here b e = set b ∙ ap (λ (t : Bool). if t then bit_at word (b % 64) == 1 else has chain b) (eq-eqb (b / 64) r e)

    other : (b : ℕ) → b / 64 ≢ r → has more b ≡ has chain b
    other b ne = set b ∙ ap (λ (t : Bool). if t then bit_at word (b % 64) == 1 else has chain b) (ne_eqb (b / 64) r ne)

    kept : (b : ℕ) → b / 64 ≢ r → known_at next.known.items b ≡ known_at now.known.items b
    kept b ne = row_known b ∙ ap (λ (t : Bool). if t then known_after_load (in_row table b n) (bit_of word (b % 64) == 1) (known_at now.known.items b) else known_at now.known.items b) (ne_eqb (b / 64) r ne)

    less : (k m : ℕ) → k ≢ m → k < m + 1 → k < m
    less k m ne h = grind arith

pub loading_without : (p : Layout) (table : MatchTable) (n summary r : ℕ) (start now : Token) (chain : Chain) → IsLoading p table n summary r start now chain → ((b : ℕ) → b / 64 ≡ r → known_after_load (in_row table b n) false (known_at start.known.items b) ≡ known_at start.known.items b) → r < width p → (bit_of summary r == 1) ≡ false → IsLoading p table n summary (r + 1) start now chain
loading_without p table n summary r start now chain l stays lt none = record {
  id = l.id;
  tied = l.tied;
  last = l.last;
  matching = l.matching;
  bits = l.bits;
  ahead = λ b h. l.ahead b (omega arith);
  known = λ b h. by_eq (b / 64) r
      (λ (e : b / 64 ≡ r). l.known_ahead b (omega arith) ∙ (sym (stays b e) ∙ ap (λ (t : Bool). known_after_load (in_row table b n) t (known_at start.known.items b)) (sym (l.ahead b (omega arith)))))
      (λ (ne : b / 64 ≢ r). l.known b (less (b / 64) r ne h));
  known_ahead = λ b h. l.known_ahead b (omega arith);
  low = omega arith;
  loads = subst (λ (k : ℕ). LoadedTo p n summary k (after p (load_node n) summary start.pass.view) now.pass.view) (one_more r) (now.pass.view, l.loads, subst (λ (t : Bool). LoadedIf t p n r now.pass.view now.pass.view) (sym none) refl);
  view = l.view;
  all_loads = l.all_loads;
  rest = l.rest;
}
  where
    less : (k m : ℕ) → k ≢ m → k < m + 1 → k < m
    less k m ne h = grind arith

-- ---- how often each node was loaded

pub loads_more : (ls : List ℕ) (n x m : ℕ) → n < length ls → x ≡ slice_index ls n → slice_index (slice_set ls n (x + 1)) m ≡ slice_index ls m + (if m == n then 1 else 0)
loads_more ls n x m within is = by_eq m n
    (λ (e : m ≡ n). get_or-set_at ls n m (x + 1) 0 e within ∙ (ap (λ (k : ℕ). k + 1) (is ∙ ap (slice_index ls) (sym e)) ∙ sym (ap (λ (t : Bool). slice_index ls m + (if t then 1 else 0)) (eq-eqb m n e))))
    (λ (ne : m ≢ n). get_or-set_other ls n m (x + 1) 0 ne ∙ (omega arith ∙ sym (ap (λ (t : Bool). slice_index ls m + (if t then 1 else 0)) (ne_eqb m n ne))))

pub loads_low : (ls : List ℕ) (n x all : ℕ) → n < length ls → x ≡ slice_index ls n → ((m : ℕ) → slice_index ls m ≤ all) → (m : ℕ) → slice_index (slice_set ls n (x + 1)) m ≤ all + 1
loads_low ls n x all within is low m = by_eq m n
    (λ (e : m ≡ n). let here = get_or-set_at ls n m (x + 1) 0 e within in let was = low n in omega arith)
    (λ (ne : m ≢ n). let here = get_or-set_other ls n m (x + 1) 0 ne in let was = low m in omega arith)

pub number_read : (ls : List ℕ) (n x : ℕ) → n < length ls → x ≡ get_or ls n x → x ≡ slice_index ls n
number_read ls n x within e = grind (arith, common_steps)

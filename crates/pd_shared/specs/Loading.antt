-- Definition: `last_word` and `bit_loaded`; the rest is for proofs.
-- What the row words of a load say of the bindings, and how far a load has come.
use Rattle.std.specs.Prelude.{◌≡◌, ℕ, ◌+◌, ◌/◌, ◌%◌, ◌<◌, ◌≤◌, ◌==◌, Bool, true, false, if◌then◌else◌, List, [], ◌∷◌, Option, Some, None}
use Rattle.pd_plan.specs.declared.table.MatchTable.{MatchTable}
use Rattle.pd_board.specs.declared.chain.Chain.{Chain}
use Rattle.pd_board.specs.Chain.{has}
use Rattle.pd_board.specs.Answers.{known_after_load}
use Rattle.pd_board.specs.Standing.{in_row}
use Rattle.pd_core.specs.declared.view.View.{View}
use Rattle.pd_core.specs.declared.view.Loaded.{Loaded}
use Rattle.pd_core.specs.Layout.{Layout, width}
use Rattle.pd_core.specs.Kinds.{after, load_node}
use Rattle.pd_core.specs.Words.{bit_of}
use Rattle.pd_shared.specs.declared.token.Token.{Token}
use Rattle.pd_shared.specs.Book.{book_of, known_at}
use Rattle.pd_shared.specs.Tied.{IsTied}
use Rattle.pd_shared.specs.Steps.{LoadedTo}

-- of these rows and their words the last word of row r, and w where there is none
abbrev pub last_word : ℕ → ℕ → List (ℕ × ℕ) → ℕ
last_word r w [] = w
last_word r w (x ∷ xs) = last_word r (if r == x.0 then x.1 else w) xs

-- whether the word of its row that was loaded has the binding's bit; it hasn't where that row wasn't loaded
abbrev pub bit_loaded : Option Loaded → ℕ → Bool
bit_loaded None b = false
bit_loaded (Some l) b = bit_of (last_word (b / 64) 0 l.rows) (b % 64) == 1

-- the node n was loaded last, with this summary
abbrev pub IsLast : ℕ → ℕ → View → Type 0
IsLast n summary v = (l : Loaded) × (v.loaded ≡ Some l) × (l.node ≡ n) × (l.summary ≡ summary)

-- the row words below r are done, from the token at the start
pub record IsLoading (p : Layout) (table : MatchTable) (n summary r : ℕ) (start now : Token) (chain : Chain) : Type 0 where
  pub id : now.pass.id ≡ start.pass.id
  pub tied : IsTied p now.pass.view (book_of now)
  pub last : IsLast n summary now.pass.view
  pub matching : (b : ℕ) → has chain b ≡ true → in_row table b n ≡ true
  pub bits : (b : ℕ) → has chain b ≡ bit_loaded now.pass.view.loaded b
  pub ahead : (b : ℕ) → r ≤ b / 64 → has chain b ≡ false
  pub known : (b : ℕ) → b / 64 < r → known_at now.known.items b ≡ known_after_load (in_row table b n) (has chain b) (known_at start.known.items b)
  pub known_ahead : (b : ℕ) → r ≤ b / 64 → known_at now.known.items b ≡ known_at start.known.items b
  pub low : r ≤ width p
  pub loads : LoadedTo p n summary r (after p (load_node n) summary start.pass.view) now.pass.view
  pub view : now.pass.view ≡ record start.pass.view { loads = now.pass.view.loads; loaded = now.pass.view.loaded; found_disposed = now.pass.view.found_disposed; steps = now.pass.view.steps; last = now.pass.view.last }
  pub all_loads : now.all_loads ≡ start.all_loads + 1
  pub rest : now ≡ record start { pass = now.pass; known = now.known; all_loads = now.all_loads }

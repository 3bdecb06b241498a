-- Definition: files that a command reads: which bytes they have, which are too long, and which one it comes to.
use Rattle.std.specs.Prelude.{◌≡◌, ◌≤◌, ◌<◌, ◌⊎◌, ℕ, ◌+◌, List, [], ◌∷◌, ◌++◌, length, take, Option, Some, IfSome}
use Rattle.std.specs.List.{Contains}
use Rattle.pd_outside.specs.Files.{Given}
use Rattle.pd_sections.specs.Written.{Written}
use Rattle.pd_plan.specs.declared.plan.SourceSpec.{SourceSpec}

-- the most bytes of a plan or source
abbrev pub most_bytes : ℕ
most_bytes = 1048576

-- ---- the bytes of a file

-- which bytes a file has: a relation of names and bytes
abbrev pub Files : Type 1
Files = List ℕ → List ℕ → Type 0

-- the content of each file by its name, where the library tells that
abbrev pub Held : Type 0
Held = Option (List ℕ → Option (List ℕ))

-- these are the bytes of the file, where the library tells what it holds
abbrev pub IsContent : Held → Files
IsContent held file bytes = IfSome held (λ content. content file ≡ Some bytes)

-- the list has grown at its end
abbrev pub IsGrown : List Given → List Given → Type 0
IsGrown before after = (these : List Given) × (after ≡ before ++ these)

-- it has grown by some answers, of which this is one
abbrev pub IsAdded : List Given → List Given → Given → Type 0
IsAdded before after answer = (these : List Given) × (after ≡ before ++ these) × Contains these answer

-- the file was read, and has these bytes: they are what the library holds, where it tells that; and between `before` and `after`, asked
-- for one byte more than a plan or source may have, it gave them, or as many of them as were asked for
pub record IsRead (held : Held) (before after : List Given) (file bytes : List ℕ) : Type 0 where
  pub content : IsContent held file bytes
  pub answer : IsAdded before after (record { name = file; limit = most_bytes + 1; bytes = take (most_bytes + 1) bytes })

-- the same, between two moments of a library that holds and has given this
abbrev pub read_between : {Library : Type 0} → (Library → Held) → (Library → List Given) → Library → Library → Files
read_between held given old new = IsRead (held old) (given old) (given new)

-- ---- short and long files

-- the file has these bytes, and no more than a plan or source may have
pub record IsShort (files : Files) (file bytes : List ℕ) : Type 0 where
  pub has : files file bytes
  pub short : length bytes ≤ most_bytes

-- the file has more bytes than that
pub record IsLong (files : Files) (file : List ℕ) : Type 0 where
  pub bytes : List ℕ
  pub has : files file bytes
  pub long : most_bytes < length bytes

-- these are the sources, each with its name and the bytes of its file
abbrev pub AreSources : Files → List SourceSpec → List Written → Type 0
AreSources files [] [] = Unit {0}
AreSources files (s ∷ ss) (w ∷ ws) = (w.name ≡ s.name) × IsShort files s.name w.bytes × AreSources files ss ws
AreSources files _ _ = ⊥

-- the file is that of one of these sources, and those before it are short enough
abbrev pub IsReachedAmong : Files → List SourceSpec → List ℕ → Type 0
IsReachedAmong files [] file = ⊥
IsReachedAmong files (s ∷ ss) file = (s.name ≡ file) ⊎ ((bytes : List ℕ) × IsShort files s.name bytes × IsReachedAmong files ss file)

-- the file can't be read: the faults of the library have risen from `before` to `after`, and the last one is at this file
pub record IsFault (before after : ℕ) (last : Option (List ℕ)) (file : List ℕ) : Type 0 where
  pub risen : before < after
  pub at_file : last ≡ Some file

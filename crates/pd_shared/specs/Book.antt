-- Definition, which public contracts cite.
-- What a token keeps in memory, beside the view of its pass.
use Rattle.std.specs.Prelude.{ℕ, Bool, List, slice_index_or}
use Rattle.pd_board.specs.declared.answers.Known.{Known}
use Rattle.pd_board.specs.declared.answers.Known.TheVariants as knowns
use Rattle.pd_shared.specs.declared.token.Reads.{Reads}
use Rattle.pd_shared.specs.declared.token.Token.{Token}
use Rattle.pd_board.specs.Journal.{Entries}

-- a word that was never read
abbrev pub unread : Reads
unread = record { loads = 0; last = 0 }

-- what is known of each binding; its entries; how often each node was loaded, and all together, and how many bits were cleared; whether it has
-- ended; and the reads of each session's word and of the word of ended contexts
pub record Book : Type 0 where
  pub known : List Known
  pub entries : Entries
  pub loads : List ℕ
  pub all_loads : ℕ
  pub cleared : ℕ
  pub ended : Bool
  pub sessions : List Reads
  pub ends : Reads

-- what the token keeps in memory
abbrev pub book_of : Token → Book
book_of t = record { known = t.known.items; entries = t.journal; loads = t.loads.items; all_loads = t.all_loads; cleared = t.cleared; ended = t.ended; sessions = t.sessions.items; ends = t.ends }

-- what is known of binding b; nothing of one that isn't in the list
abbrev pub known_at : List Known → ℕ → Known
known_at known b = slice_index_or known b knowns.Fresh

-- how often the word of session s was read, and what was read last
abbrev pub reads_at : List Reads → ℕ → Reads
reads_at sessions s = slice_index_or sessions s unread

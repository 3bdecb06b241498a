-- Definition, which public contracts cite.
-- What a split leaves, and what a retired seat leaves to the one that takes it in.
use Rattle.std.specs.Prelude.{◌≡◌, ℕ, ◌+◌, ◌-◌, ◌<◌, ◌≤◌, ◌^◌, min, max, false, List, [], ◌∷◌, vec_len}
use Rattle.std.specs.List.{All}
use Rattle.pd_core.specs.declared.view.Deeds.{Deeds}
use Rattle.pd_core.specs.Layout.{Layout}
use Rattle.pd_core.specs.Views.{halved, newcomer, joined, handed_share}
use Rattle.pd_core.specs.Talks.{handed_answers, answer_share}
use Rattle.pd_shared.specs.declared.token.Token.{Token}
use Rattle.pd_shared.specs.declared.sights.Sights.{Sights}
use Rattle.pd_shared.specs.Sitting.{Sitting, standing_of}
use Rattle.pd_shared.specs.Book.{known_at, reads_at}
use Rattle.pd_shared.specs.Tied.{AreDeeds, KnowsGone}
use Rattle.pd_shared.specs.Merged.{later}

-- ---- a split

-- the old seat hands on shares, keeps all else, and is not alone any more
pub record HasHanded (old new : Sitting) : Type 0 where
  pub hub : new.hub ≡ old.hub
  pub view : new.token.pass.view ≡ halved old.token.pass.view
  -- it counts one share of the seats less
  pub seats : new.token.seats ≡ old.token.seats - 1
  pub stands : standing_of new ≡ record (standing_of old) {
    alone = false;
    draw_share = old.token.pass.view.draw_share - handed_share;
    answer_share = (standing_of new).answer_share;
    end_share = old.token.pass.view.talk.end_granted - 1;
  }
  pub answers : (s : ℕ) → s < old.hub.layout.sessions → (standing_of new).answer_share s ≡ (standing_of old).answer_share s - handed_answers

-- the new one is of the same board, knows what the old one knows, has what that handed it, and did nothing
pub record IsNewcomer (old new : Sitting) : Type 0 where
  pub hub : new.hub ≡ old.hub
  pub table : new.table ≡ old.table
  pub view : new.token.pass.view ≡ newcomer old.token.pass.view
  pub seats : new.token.seats ≡ 1
  pub alone : (standing_of new).alone ≡ false
  pub known : (b : ℕ) → (standing_of new).known b ≡ (standing_of old).known b
  pub shares : ((standing_of new).draw_share ≡ handed_share) × ((s : ℕ) → (standing_of new).answer_share s ≡ handed_answers) × ((standing_of new).end_share ≡ 1)
  pub replies : (standing_of new).replies ≡ []
  pub sights : ((standing_of new).sights ≡ []) × ((standing_of new).sight_loads ≡ [])
  pub passes : (standing_of new).passes ≡ []
  pub numbers : (t : ℕ) → (standing_of new).numbers t ≡ []
  pub ended : (standing_of new).ended ≡ false
  pub loads : ((n : ℕ) → (standing_of new).loads n ≡ 0) × ((standing_of new).all_loads ≡ 0)
  pub answer_reads : (t : ℕ) → ((standing_of new).answer_loads t ≡ 0) × ((standing_of new).last_answers t ≡ 0)
  pub end_reads : ((standing_of new).end_loads ≡ 0) × ((standing_of new).last_ends ≡ 0)
  pub cleared : (standing_of new).cleared ≡ 0
  pub due : (b : ℕ) → ((standing_of new).held b ≡ false) × ((standing_of new).due b ≡ false)

-- ---- a retired seat

-- it leaves its entries, its loads of nodes and its reads
pub record Leaves (t : Token) (s : Sights) : Type 0 where
  pub journal : s.journal ≡ t.journal
  pub loads : s.loads.items ≡ t.loads.items
  pub sessions : s.sessions.items ≡ t.sessions.items
  pub ends : s.ends ≡ t.ends

-- it has a number of loads for each node of the board, and what was read of each session
abbrev pub IsOver : Layout → Sights → Type 0
IsOver p s = (vec_len s.loads ≡ p.nodes) × (vec_len s.sessions ≡ p.sessions)

-- the other one has its own entries, shares of both, and the later of what both know and read
pub record TakesIn (old : Sitting) (t : Token) (new : Sitting) : Type 0 where
  pub hub : new.hub ≡ old.hub
  pub view : new.token.pass.view ≡ joined old.token.pass.view t.pass.view
  -- it counts the shares of the seats of both, as far as 64 bits go
  pub seats : new.token.seats ≡ min (old.token.seats + t.seats) (2 ^ 64 - 1)
  pub known : (b : ℕ) → (standing_of new).known b ≡ later ((standing_of old).known b) (known_at t.known.items b)
  pub last_answers : (s : ℕ) → (standing_of new).last_answers s ≡ max ((standing_of old).last_answers s) (reads_at t.sessions.items s).last
  pub answers : (s : ℕ) → s < old.hub.layout.sessions → (standing_of new).answer_share s ≡ (standing_of old).answer_share s + answer_share s t.pass.view.talk
  pub stands : standing_of new ≡ record (standing_of old) {
    alone = false;
    known = (standing_of new).known;
    draw_share = old.token.pass.view.draw_share + t.pass.view.draw_share;
    answer_share = (standing_of new).answer_share;
    end_share = old.token.pass.view.talk.end_granted + t.pass.view.talk.end_granted;
    last_answers = (standing_of new).last_answers;
    last_ends = max old.token.ends.last t.ends.last;
  }

-- each of the retired seats did what it left
abbrev pub DidLeave : List Sights → List Deeds → Type 0
DidLeave [] [] = Unit {0}
DidLeave (s ∷ ss) (d ∷ ds) = AreDeeds d s.journal × DidLeave ss ds
DidLeave _ _ = ⊥

-- the token knows as disposed what the answers of the seat that left these sights say is disposed, and read no less than that seat
pub record Learned (t : Token) (s : Sights) : Type 0 where
  pub gone : KnowsGone t.known.items s.journal.replies
  pub answers : (k : ℕ) → (reads_at s.sessions.items k).last ≤ (reads_at t.sessions.items k).last
  pub ends : s.ends.last ≤ t.ends.last

-- and so of each of the retired seats
abbrev pub HasLearned : Token → List Sights → Type 0
HasLearned t left = All (Learned t) left

-- What a split and a retired seat leave.
use Rattle.std.specs.declared.vec.Vec.{Vec}
use Rattle.std.specs.declared.alloc.Global.{Global}
use Rattle.std.proofs.Common.{◌≡◌, ℕ, zero, suc, ◌+◌, ◌-◌, ◌<◌, ◌≤◌, ◌^◌, max, min, List, [], ◌∷◌, ◌++◌, map, length, replicate, Bool, true, false, ◌&&◌, eqb, sym, refl, ap, ◌∙◌, subst, arith, ne_eqb, get_or}
use Rattle.std.specs.Prelude.{slice_index, slice_index_or}
use Rattle.std.proofs.lemmas.List.Elements.{All-append, All-cons}
use native.Mathlib.Nat.{le-max_left, le-max_right, le_trans}
use Rattle.std.specs.List.{filter_map}
use Rattle.pd_board.proofs.ChainLemmas.{by_lt}
use Rattle.pd_board.specs.declared.answers.Known.{Known}
use Rattle.pd_board.specs.declared.answers.Known.TheVariants as knowns
use Rattle.pd_board.specs.Standing.{Standing, IsNew}
use Rattle.pd_core.specs.declared.view.View.{View}
use Rattle.pd_core.specs.declared.view.Deeds.{Deeds}
use Rattle.pd_core.specs.declared.view.Talk.{Talk}
use Rattle.pd_core.specs.Layout.{Layout}
use Rattle.pd_core.specs.Counts.{total}
use Rattle.pd_core.specs.Talks.{spent, readings, end_readings, answer_share, handed_answers, halved_talk, first_talk, new_talk}
use Rattle.pd_core.specs.Views.{first_view, halved, newcomer, joined, handed_share}
use Rattle.atomic_table.specs.Seated.{TableId}
use Rattle.pd_shared.specs.declared.token.Reads.{Reads}
use Rattle.pd_shared.specs.declared.token.Token.{Token}
use Rattle.pd_shared.specs.declared.sights.Sights.{Sights}
use Rattle.pd_board.specs.Journal.{Entries}
use Rattle.pd_shared.specs.Book.{Book, known_at, reads_at, unread}
use Rattle.pd_shared.specs.First.{IsFirst}
use Rattle.pd_shared.specs.Tied.{none_taken, is_alone, AreDeeds, AreReads, KnowsGone, IsTied, sight_of, before_of}
use Rattle.pd_shared.specs.Held.{IsHeld}
use Rattle.pd_shared.specs.Merged.{later, with_last, IsMerged}
use Rattle.pd_shared.specs.Sitting.{Sitting, standing_of, number_for}
use Rattle.pd_shared.specs.Left.{HasHanded, IsNewcomer, Leaves, TakesIn, DidLeave, Learned, HasLearned}
use Rattle.pd_shared.proofs.FirstLemmas.{each_same}
use Rattle.pd_shared.proofs.HeldLemmas.{joined_taken}
use Rattle.pd_shared.proofs.MergeLemmas.{share_joined}

-- ---- a split

not_both : (s t : Bool) → (t ≡ true → s ≡ false) → (s && t) ≡ false
not_both s true h = ap (λ (x : Bool). x && true) (h refl)
not_both true false h = refl
not_both false false h = refl

pub halved_alone : (p : Layout) (v : View) (seats : ℕ) (counts : List ℕ) → 2 ≤ v.seat_share → IsHeld p v seats counts → is_alone (halved v) ≡ false
halved_alone p v seats counts some h = not_both (eqb (v.seat_share - 1) (2 ^ 32)) (none_taken v.taken) (λ none. let own = h.own_share none in ne_eqb (v.seat_share - 1) (2 ^ 32) (λ e. absurd (omega (arith, own.0, own.1))))

spent_halved : (s : ℕ) (t : Talk) → spent s (halved_talk t) ≡ spent s t
unfolding spent
spent_halved s t = refl

reads_halved : (p : Layout) (t : Talk) (ended : Bool) (words : List Reads) (ends : Reads) → ((s : ℕ) → s < p.sessions → handed_answers ≤ answer_share s t) → AreReads p t ended words ends → AreReads p (halved_talk t) ended words ends
unfolding readings end_readings
reads_halved p t ended words ends may r = record { ended_is = r.ended_is; sessions_are = r.sessions_are; within = λ s lt. let some = may s lt in let same = spent_halved s t in omega arith; loads = r.loads; last = r.last; end_loads = r.end_loads; last_end = r.last_end }

pub tied_halved : (p : Layout) (v : View) (k : Book) → ((s : ℕ) → s < p.sessions → handed_answers ≤ answer_share s v.talk) → is_alone (halved v) ≡ false → IsTied p v k → IsTied p (halved v) k
tied_halved p v k may not_alone t = record {
  idle = t.idle;
  known_is = t.known_is;
  deeds = t.deeds;
  reads = reads_halved p v.talk k.ended k.sessions k.ends may t.reads;
  all_loads = t.all_loads;
  cleared = t.cleared;
  alone = λ a b gone. absurd (let q : false ≡ true = sym not_alone ∙ a in cc);
  gone = t.gone;
  loads = t.loads;
}

pub has_handed : (old : Sitting) (id : TableId) (v : View) (seats : ℕ) → v ≡ halved old.token.pass.view → seats ≡ old.token.seats - 1 → is_alone (halved old.token.pass.view) ≡ false → HasHanded old (record old { token = record old.token { pass = record { id = id; view = v }; seats = seats } })
has_handed old id v seats e count not_alone = subst (λ (y : View). HasHanded old (record old { token = record old.token { pass = record { id = id; view = y }; seats = seats } })) (sym e) (record {
  hub = refl;
  view = refl;
  seats = count;
  stands = λ i. record (standing_of old) {
    alone = not_alone i;
    draw_share = old.token.pass.view.draw_share - handed_share;
    answer_share = λ s. answer_share s (halved_talk old.token.pass.view.talk);
    end_share = old.token.pass.view.talk.end_granted - 1;
  };
  answers = λ s lt. omega (arith, spent_halved s old.token.pass.view.talk);
})

new_share : (s : ℕ) → answer_share s new_talk ≡ handed_answers
unfolding spent total
new_share s = refl

pub first_share : (s : ℕ) → answer_share s first_talk ≡ 2 ^ 32 - 1
unfolding spent total
first_share s = refl

pub newcomer_is : (old new : Sitting) (n m k : ℕ) → new.hub ≡ old.hub → new.table ≡ old.table → new.token.pass.view ≡ newcomer old.token.pass.view → new.token.seats ≡ 1 → new.token.known.items ≡ old.token.known.items → IsFirst (replicate n 0) (replicate m 0) (replicate k unread) new.token → IsNewcomer old new
newcomer_is old new n m k hub table view seats known f =
    let read_now : (s : ℕ) → reads_at new.token.sessions.items s ≡ unread = λ s. ap (λ ws. reads_at ws s) f.sessions ∙ each_same k s unread in
    record {
      hub = hub;
      table = table;
      view = view;
      seats = seats;
      alone = ap (λ (y : View). is_alone y) view;
      known = λ b. ap (λ ks. known_at ks b) known;
      shares = (ap (λ (y : View). y.draw_share) view, λ s. ap (λ (y : View). answer_share s y.talk) view ∙ new_share s, ap (λ (y : View). y.talk.end_granted) view);
      replies = ap (λ (e : Entries). e.replies) f.journal;
      sights = (ap (λ (e : Entries). e.sights) f.journal, ap (λ (e : Entries). e.sight_loads) f.journal);
      passes = ap (λ (e : Entries). e.passes) f.journal;
      numbers = λ t. ap (λ (y : View). filter_map (number_for t) y.talk.numbers) view;
      ended = f.ended;
      loads = (λ j. ap (λ xs. slice_index xs j) f.loads ∙ each_same m j 0, f.all_loads);
      answer_reads = λ t. (ap (λ (r : Reads). r.loads) (read_now t), ap (λ (r : Reads). r.last) (read_now t));
      end_reads = (ap (λ (r : Reads). r.loads) f.ends, ap (λ (r : Reads). r.last) f.ends);
      cleared = f.cleared;
      due = λ b. (f.held b, f.due b);
    }

-- the first seat of a board
pub new_stands : (s : Sitting) (n m k : ℕ) → s.token.pass.view ≡ first_view → s.token.known.items ≡ replicate n knowns.Fresh → IsFirst (replicate n 0) (replicate m 0) (replicate k unread) s.token → IsNew s.table s.hub.layout.nodes s.hub.layout.sessions s.hub.layout.contexts (standing_of s)
new_stands s n m k view known f =
    let read_now : (t : ℕ) → reads_at s.token.sessions.items t ≡ unread = λ t. ap (λ ws. reads_at ws t) f.sessions ∙ each_same k t unread in
    record {
      table_is = refl;
      nodes_is = refl;
      sessions_is = refl;
      contexts_is = refl;
      alone = ap (λ (y : View). is_alone y) view;
      replies = ap (λ (e : Entries). e.replies) f.journal;
      sights = ap (λ (e : Entries). e.sights) f.journal;
      sight_loads = ap (λ (e : Entries). e.sight_loads) f.journal;
      passes = ap (λ (e : Entries). e.passes) f.journal;
      known = λ b. ap (λ ks. known_at ks b) known ∙ each_same n b knowns.Fresh;
      numbers = λ t. ap (λ (y : View). filter_map (number_for t) y.talk.numbers) view;
      draw_share = ap (λ (y : View). y.draw_share) view;
      answer_share = λ t. ap (λ (y : View). answer_share t y.talk) view ∙ first_share t;
      end_share = ap (λ (y : View). y.talk.end_granted) view;
      ended = f.ended;
      loads = λ j. ap (λ xs. slice_index xs j) f.loads ∙ each_same m j 0;
      all_loads = f.all_loads;
      answer_loads = λ t. ap (λ (r : Reads). r.loads) (read_now t);
      last_answers = λ t. ap (λ (r : Reads). r.last) (read_now t);
      end_loads = ap (λ (r : Reads). r.loads) f.ends;
      last_ends = ap (λ (r : Reads). r.last) f.ends;
      cleared = f.cleared;
      last_node = f.last_node;
      held = f.held;
      due = f.due;
    }

-- ---- a retired seat

pub even_lists : (d : Deeds) (e : Entries) → AreDeeds d e → length e.sight_loads ≡ length e.sights
even_lists d e a = ap length a.befores ∙ (len before_of d.sights ∙ sym (ap length a.sights ∙ len sight_of d.sights))
  where
    len : {A B : Type 0} (f : A → B) (xs : List A) → length (map f xs) ≡ length xs
    len f [] = refl
    len f (x ∷ xs) = ap suc (len f xs)

pub takes_in : (old : Sitting) (other : Token) (id : TableId) (v : View) (seats : ℕ) (known_list : Vec Known Global) (counts : Vec ℕ Global) (sessions : Vec Reads Global) (ends : Reads) → v ≡ joined old.token.pass.view other.pass.view → seats ≡ min (old.token.seats + other.seats) (2 ^ 64 - 1)
    → IsMerged later knowns.Fresh (length old.token.known.items) old.token.known.items other.known.items known_list.items → length other.known.items ≡ length old.token.known.items
    → IsMerged with_last unread (length old.token.sessions.items) old.token.sessions.items other.sessions.items sessions.items → length other.sessions.items ≡ length old.token.sessions.items → ends ≡ with_last old.token.ends other.ends
    → ((s : ℕ) → s < old.hub.layout.sessions → spent s old.token.pass.view.talk ≤ old.token.pass.view.talk.granted) → ((s : ℕ) → s < old.hub.layout.sessions → spent s other.pass.view.talk ≤ other.pass.view.talk.granted) → TakesIn old other (record old { token = record old.token { pass = record { id = id; view = v }; seats = seats; known = known_list; counts = counts; sessions = sessions; ends = ends } })
takes_in old other id v seats known_list counts sessions ends e count m ml n nl is mine theirs =
    let read : (s : ℕ) → reads_at sessions.items s ≡ with_last (reads_at old.token.sessions.items s) (reads_at other.sessions.items s) = λ s. by_lt s (length old.token.sessions.items)
    (λ (lt : s < length old.token.sessions.items). n.below s lt)
    (λ (past : length old.token.sessions.items ≤ s). n.above s past ∙ (past_all old.token.sessions.items s unread past ∙ (λ i. with_last (sym (past_all old.token.sessions.items s unread past) i) (sym (past_all other.sessions.items s unread (omega (arith, nl))) i)))) in
    subst (λ (y : View × Reads). TakesIn old other (record old { token = record old.token { pass = record { id = id; view = y.0 }; seats = seats; known = known_list; counts = counts; sessions = sessions; ends = y.1 } })) (λ i. (sym e i, sym is i)) (record {
      hub = refl;
      view = refl;
      seats = count;
      known = λ b. by_lt b (length old.token.known.items)
          (λ (lt : b < length old.token.known.items). m.below b lt)
          (λ (past : length old.token.known.items ≤ b). m.above b past ∙ (past_all old.token.known.items b knowns.Fresh past ∙ (λ i. later (sym (past_all old.token.known.items b knowns.Fresh past) i) (sym (past_all other.known.items b knowns.Fresh (omega (arith, ml))) i))));
      last_answers = λ s. ap (λ (r : Reads). r.last) (read s);
      answers = λ s lt. share_joined s old.token.pass.view.talk other.pass.view.talk (mine s lt) (theirs s lt);
      stands = λ i. record (standing_of old) {
        alone = none_left i;
        known = λ b. known_at known_list.items b;
        draw_share = old.token.pass.view.draw_share + other.pass.view.draw_share;
        answer_share = λ s. answer_share s (joined old.token.pass.view other.pass.view).talk;
        end_share = old.token.pass.view.talk.end_granted + other.pass.view.talk.end_granted;
        answer_loads = λ s. (read s i).loads;
        last_answers = λ s. (reads_at sessions.items s).last;
        last_ends = max old.token.ends.last other.ends.last;
      };
    })
  where
    past_all : {A : Type 0} (xs : List A) (k : ℕ) (d : A) → length xs ≤ k → get_or xs k d ≡ d
    past_all [] k d h = refl
    past_all (x ∷ xs) zero d h = absurd (omega arith)
    past_all (x ∷ xs) (suc k) d h = past_all xs k d (omega arith)

    none_left : is_alone (joined old.token.pass.view other.pass.view) ≡ false
    none_left = not_both (eqb (joined old.token.pass.view other.pass.view).seat_share (2 ^ 32)) (none_taken (joined old.token.pass.view other.pass.view).taken) (λ none. absurd (let q : false ≡ true = sym (joined_taken old.token.pass.view other.pass.view) ∙ none in cc))

pub did_leave : (left others : List Sights) (ds es : List Deeds) (s : Sights) (d : Deeds) → DidLeave left ds → AreDeeds d s.journal → DidLeave others es → DidLeave (left ++ s ∷ others) (ds ++ d ∷ es)
did_leave [] others [] es s d h here there = (here, there)
did_leave [] others (x ∷ ds) es s d h here there = absurd h
did_leave (x ∷ left) others [] es s d h here there = absurd h
did_leave (x ∷ left) others (y ∷ ds) es s d h here there = (h.0, did_leave left others ds es s d h.1 here there)

-- ---- what the one that takes it in learns

later_disposed : (k : Known) → later k knowns.Disposed ≡ knowns.Disposed
later_disposed knowns.Fresh = refl
later_disposed knowns.Attached = refl
later_disposed knowns.Disposed = refl

module _ (old : Sitting) (t : Token) (new : Sitting) (took : TakesIn old t new) where
  last_ends : new.token.ends.last ≡ max old.token.ends.last t.ends.last
  last_ends = ap (λ (s : Standing). s.last_ends) took.stands

  -- of a seat from which this one had learned
  still_learned : (s : Sights) → Learned old.token s → Learned new.token s
  still_learned s h = record {
    gone = λ b e. took.known b ∙ ap (λ (k : Known). later k (known_at t.known.items b)) (h.gone b e);
    answers = λ k. le_trans (h.answers k) (subst (λ (n : ℕ). (reads_at old.token.sessions.items k).last ≤ n) (sym (took.last_answers k)) (le-max_left (reads_at old.token.sessions.items k).last (reads_at t.sessions.items k).last));
    ends = le_trans h.ends (subst (λ (n : ℕ). old.token.ends.last ≤ n) (sym last_ends) (le-max_left old.token.ends.last t.ends.last));
  }

  -- and of one from which the other had
  also_learned : (s : Sights) → Learned t s → Learned new.token s
  also_learned s h = record {
    gone = λ b e. took.known b ∙ (ap (λ (k : Known). later (known_at old.token.known.items b) k) (h.gone b e) ∙ later_disposed (known_at old.token.known.items b));
    answers = λ k. le_trans (h.answers k) (subst (λ (n : ℕ). (reads_at t.sessions.items k).last ≤ n) (sym (took.last_answers k)) (le-max_right (reads_at old.token.sessions.items k).last (reads_at t.sessions.items k).last));
    ends = le_trans h.ends (subst (λ (n : ℕ). t.ends.last ≤ n) (sym last_ends) (le-max_right old.token.ends.last t.ends.last));
  }

  pub has_learned : (s : Sights) → Leaves t s → KnowsGone t.known.items t.journal.replies → (left others : List Sights) → HasLearned old.token left → HasLearned t others → HasLearned new.token (left ++ s ∷ others)
  has_learned s leaves tried left others mine theirs = All-append (Learned new.token) left (s ∷ others)
      (λ k d lt. still_learned (slice_index_or left k d) (mine k d lt))
      (All-cons (Learned new.token) s others (also_learned s own) (λ k d lt. also_learned (slice_index_or others k d) (theirs k d lt)))
    where
      own : Learned t s
      own = record {
        gone = subst (λ (e : Entries). KnowsGone t.known.items e.replies) (sym leaves.journal) tried;
        answers = λ k. subst (λ (rs : List Reads). (reads_at rs k).last ≤ (reads_at t.sessions.items k).last) (sym leaves.sessions) (omega arith);
        ends = subst (λ (r : Reads). r.last ≤ t.ends.last) (sym leaves.ends) (omega arith);
      }

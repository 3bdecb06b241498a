-- A token that did nothing.
use Rattle.std.proofs.Common.{◌≡◌, ℕ, zero, suc, ◌-◌, ◌<◌, ◌≤◌, ◌^◌, List, [], length, replicate, get_or, true, false, sym, refl, ap, ◌∙◌, subst, arith}
use Rattle.std.specs.Prelude.{slice_index}
use Rattle.pd_board.specs.declared.answers.Known.TheVariants as knowns
use Rattle.pd_core.specs.declared.view.View.{View}
use Rattle.pd_core.specs.Layout.{Layout, bindings}
use Rattle.pd_core.specs.Counts.{total, first_is}
use Rattle.pd_core.specs.Talks.{silent, spent}
use Rattle.pd_core.specs.Views.{fresh, known, known_in, known_of, first_view, spent_view, newcomer, no_deeds}
use Rattle.pd_core.proofs.Parts.{ordered_none}
use Rattle.pd_core.proofs.Sums.{total-none, times-none}
use Rattle.pd_board.specs.Journal.{Entries}
use Rattle.pd_shared.specs.declared.token.Reads.{Reads}
use Rattle.pd_shared.specs.declared.token.Token.{Token}
use Rattle.pd_shared.specs.Book.{book_of, known_at, reads_at, unread}
use Rattle.pd_shared.specs.Tied.{told, is_alone, IsKnown, AreDeeds, IsTied}
use Rattle.pd_board.specs.Order.{has_gone}
use Rattle.pd_shared.specs.Held.{IsHeld}
use Rattle.pd_shared.proofs.HeldLemmas.{held_first}
use Rattle.pd_shared.specs.First.{IsFirst}

pub each_same : {A : Type 0} (n b : ℕ) (x : A) → get_or (replicate n x) b x ≡ x
each_same zero b x = refl
each_same (suc n) zero x = refl
each_same (suc n) (suc b) x = each_same n b x

long : {A : Type 0} (n : ℕ) (x : A) → length (replicate n x) ≡ n
long zero x = refl
long (suc n) x = ap suc (long n x)

known_none : (b : ℕ) → known first_view b ≡ fresh
unfolding known_in
known_none b = λ i. known_of (times-none b i) (times-none b i)

never_some : (n : ℕ) → n ≡ 0 → 0 < n → ⊥
never_some n e h = omega arith

never_spent : (s granted ends : ℕ) → spent s (record silent { granted = granted; end_granted = ends }) ≡ 0
unfolding spent total
never_spent s granted ends = refl

-- a view of one that did nothing, with its shares and what it knows
abbrev blank_view : ℕ → ℕ → ℕ → ℕ → List ℕ → List ℕ → View
blank_view share draws granted ends on gone = record spent_view { seat_share = share; draw_share = draws; talk = record silent { granted = granted; end_granted = ends }; found_attached = on; found_disposed = gone }

tied_blank : (p : Layout) (t : Token) (share draws granted ends : ℕ) (on gone : List ℕ) → IsFirst (replicate (bindings p) 0) (replicate p.nodes 0) (replicate p.sessions unread) t → IsKnown p (blank_view share draws granted ends on gone) t.known.items
    → (is_alone (blank_view share draws granted ends on gone) ≡ true → (b : ℕ) → known_at t.known.items b ≡ knowns.Disposed → ⊥) → IsTied p (blank_view share draws granted ends on gone) (book_of t)
tied_blank p t share draws granted ends on gone f known_is never =
    let read_now : (s : ℕ) → reads_at t.sessions.items s ≡ unread = λ s. ap (λ ws. reads_at ws s) f.sessions ∙ each_same p.sessions s unread in
    record {
      idle = refl;
      known_is = known_is;
      deeds = subst (λ (e : Entries). AreDeeds no_deeds e) (sym f.journal) (record { sights = refl; befores = refl; made = refl; firsts = refl; late = refl; counts = refl; toggles = refl; order = λ b j y lt. absurd (omega arith); timed = (0, ordered_none 0) });
      reads = record {
        ended_is = sym f.ended;
        sessions_are = ap length f.sessions ∙ long p.sessions unread;
        within = λ s lt. omega (arith, never_spent s granted ends);
        loads = λ s lt. total-none (first_is s) ∙ sym (ap (λ (r : Reads). r.loads) (read_now s));
        last = λ s lt h. absurd (never_some (reads_at t.sessions.items s).last (ap (λ (r : Reads). r.last) (read_now s)) h);
        end_loads = sym (ap (λ (r : Reads). r.loads) f.ends);
        last_end = λ h. absurd (never_some t.ends.last (ap (λ (r : Reads). r.last) f.ends) h);
      };
      all_loads = sym f.all_loads;
      cleared = sym f.cleared;
      alone = λ a b e. absurd (never a b e);
      gone = λ b h. absurd (let q : false ≡ true = sym (ap (λ (e : Entries). has_gone b e.replies) f.journal) ∙ h in cc);
      loads = (ap length f.loads ∙ long p.nodes 0, λ n. let none : slice_index t.loads.items n ≡ 0 = ap (λ xs. slice_index xs n) f.loads ∙ each_same p.nodes n 0 in omega arith);
    }

held_blank : (p : Layout) (t : Token) (v : View) → IsFirst (replicate (bindings p) 0) (replicate p.nodes 0) (replicate p.sessions unread) t → v.deeds ≡ no_deeds → v.taken ≡ [] → v.seat_share ≡ t.seats → t.seats ≤ 2 ^ 32 → IsHeld p v t.seats t.counts.items
held_blank p t v f deeds taken share few = held_first p v t.seats t.counts.items deeds taken share few (ap length f.counts ∙ long (bindings p) 0) (λ b. ap (λ xs. slice_index xs b) f.counts ∙ each_same (bindings p) b 0)

-- the first of a board
pub tied_first : (p : Layout) (t : Token) → IsFirst (replicate (bindings p) 0) (replicate p.nodes 0) (replicate p.sessions unread) t → t.known.items ≡ replicate (bindings p) knowns.Fresh → t.seats ≡ 2 ^ 32 → t.pass.view ≡ first_view → IsTied p t.pass.view (book_of t) × IsHeld p t.pass.view t.seats t.counts.items
tied_first p t f known_new seats v =
    let known_now : (b : ℕ) → known_at t.known.items b ≡ knowns.Fresh = λ b. ap (λ ks. known_at ks b) known_new ∙ each_same (bindings p) b knowns.Fresh in
    subst (λ (y : View). IsTied p y (book_of t) × IsHeld p y t.seats t.counts.items) (sym v) (
      tied_blank p t (2 ^ 32) (2 ^ 60) (2 ^ 32 - 1) (2 ^ 32 - 1) [] [] f (ap length known_new ∙ long (bindings p) knowns.Fresh, λ b lt. known_now b ∙ ap told (sym (known_none b)))
          (λ a b e. let q : knowns.Fresh ≡ knowns.Disposed = sym (known_now b) ∙ e in cc),
      held_blank p t first_view f refl refl (sym seats) (omega (arith, seats)),
    )

-- the one that a split makes
pub tied_newcomer : (p : Layout) (t : Token) (v : View) → IsFirst (replicate (bindings p) 0) (replicate p.nodes 0) (replicate p.sessions unread) t → IsKnown p v t.known.items → t.seats ≡ 1 → t.pass.view ≡ newcomer v → IsTied p t.pass.view (book_of t) × IsHeld p t.pass.view t.seats t.counts.items
tied_newcomer p t v f known_is seats e =
    subst (λ (y : View). IsTied p y (book_of t) × IsHeld p y t.seats t.counts.items) (sym e) (
      tied_blank p t 1 (2 ^ 38) (2 ^ 26) 1 v.found_attached v.found_disposed f known_is (λ a b q. absurd (cc)),
      held_blank p t (newcomer v) f refl refl (sym seats) (omega (arith, seats)),
    )

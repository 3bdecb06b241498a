-- Entries are counted one by one.
use Rattle.std.proofs.Common.{◌≡◌, ℕ, zero, suc, ◌+◌, ◌-◌, ◌<◌, ◌≤◌, ◌^◌, Bool, true, false, cond, List, [], ◌∷◌, ◌++◌, length, None, Some, refl, sym, ap, subst, ◌∙◌, arith, ⊎_elim}
use Rattle.std.specs.Prelude.{nat_lt, ◌==◌, slice_index, slice_index_or, slice_set}
use Rattle.std.specs.Ordering.{nat_cmp, is_eq}
use Rattle.std.specs.declared.cmp.Ordering.TheVariants.{Less, Equal, Greater}
use Rattle.std.specs.BTreeMap.{get, Updates}
use Rattle.std.proofs.lemmas.Bool.{cases_Bool}
use Rattle.std.proofs.lemmas.Bool.Decides.{nat_tests}
use Rattle.pd_machine.specs.declared.event.EventKind.{EventKind}
use Rattle.pd_machine.specs.declared.event.EventKind.TheVariants.{Enter, Return, Leave}
use Rattle.pd_running.specs.Running.{is_enter, Mark}
use Rattle.pd_running.specs.Laws.{but_last}
use Rattle.pd_paths.specs.declared.PathCount.{PathCount}
use Rattle.pd_paths.specs.declared.counter.Counter.{Counter}
use Rattle.pd_paths.specs.Tally.{weigh, amount, IsAdditive, number, path_after, next_after, begun_by, tallied, AreRising}
use Rattle.pd_paths.specs.Counting.{slot, no_path, path_at, raised, IsKept, inner_of, IsKeptBy, IsFirst, HasRoom, HasCount, IsCountedTo, IsBegunAt, IsStanding, IsUnderWay, HasPassed}
use Rattle.pd_paths.proofs.Numbers.{amount_raised, amount_push, part_of, rising_from, rising_bound, owns_all, counts_few}
use Rattle.pd_paths.proofs.Keeping.{length_push, length_raised, path_raised, kept_raised, kept_push, pushed_path}

-- ---- one path is changed

pub at_any : {A : Type 0} (xs : List A) (i : ℕ) (d e : A) → i < length xs → slice_index_or xs i d ≡ slice_index_or xs i e
at_any [] i d e h = absurd (omega (arith, h))
at_any (x ∷ xs) zero d e h = refl
at_any (x ∷ xs) (suc i) d e h = at_any xs i d e (omega (arith, h))

pub path_is : (xs : List PathCount) (i : ℕ) (x : PathCount) → i < length xs → x ≡ slice_index_or xs i x → x.path ≡ path_at xs i
path_is xs i x h e = ap (λ y. y.path) (e ∙ at_any xs i x no_path h)

-- its numbers are part of the amounts
pub part_at : (f : PathCount → ℕ) → f no_path ≡ 0 → (xs : List PathCount) (i : ℕ) (x : PathCount) → i < length xs → x ≡ slice_index_or xs i x → f x ≤ amount f (λ q. true) xs
part_at f none xs i x h e =
    let same : f x ≡ f (slice_index_or xs i no_path) = ap f (e ∙ at_any xs i x no_path h) in
    let part = part_of f none xs i in
    omega (arith, same, part)

pub raised_own : (xs : List PathCount) (i own : ℕ) (x : PathCount) → i < length xs → x ≡ slice_index_or xs i x → slice_set xs i (record { path = x.path; count = x.count; own = x.own + own }) ≡ raised i 0 own xs
raised_own [] i own x h e = absurd (omega (arith, h))
raised_own (y ∷ ys) zero own x h e =
    ap (λ (z : PathCount). record { path = z.path; count = z.count; own = z.own + own } ∷ ys) e ∙ ap (λ k. record { path = y.path; count = k; own = y.own + own } ∷ ys) (zero_more y.count)
  where
    zero_more : (k : ℕ) → k ≡ k + 0
    zero_more k = omega arith
raised_own (y ∷ ys) (suc i) own x h e = ap (λ zs. y ∷ zs) (raised_own ys i own x (omega (arith, h)) e)

pub raised_count : (xs : List PathCount) (i count : ℕ) (x : PathCount) → i < length xs → x ≡ slice_index_or xs i x → slice_set xs i (record { path = x.path; count = x.count + count; own = x.own }) ≡ raised i count 0 xs
raised_count [] i count x h e = absurd (omega (arith, h))
raised_count (y ∷ ys) zero count x h e =
    ap (λ (z : PathCount). record { path = z.path; count = z.count + count; own = z.own } ∷ ys) e ∙ ap (λ k. record { path = y.path; count = y.count + count; own = k } ∷ ys) (zero_more y.own)
  where
    zero_more : (k : ℕ) → k ≡ k + 0
    zero_more k = omega arith
raised_count (y ∷ ys) (suc i) count x h e = ap (λ zs. y ∷ zs) (raised_count ys i count x (omega (arith, h)) e)

-- ---- what the calls leave

same_kept : (xs : List PathCount) (i c o : ℕ) (old new : Counter) → IsKeptBy old → new.paths.items ≡ raised i c o old.paths.items → new.outer ≡ old.outer → new.inner ≡ old.inner → IsKept new.paths.items new.outer.items (inner_of new)
same_kept xs i c o old new h paths outer inner =
    subst (λ ps. IsKept ps new.outer.items (inner_of new)) (sym paths)
    (subst (λ (os : _). IsKept (raised i c o old.paths.items) os.items (inner_of new)) (sym outer)
    (subst (λ m. IsKept (raised i c o old.paths.items) old.outer.items (λ k. get nat_cmp m k)) (sym inner)
    (kept_raised i c o old.paths.items old.outer.items (inner_of old) h.0)))

pub counted_to : (end : ℕ) (old new : Counter) → HasRoom end old → new.paths.items ≡ raised old.at 0 (end - old.next) old.paths.items → new.outer ≡ old.outer → new.inner ≡ old.inner → new.at ≡ old.at → new.next ≡ end → IsCountedTo end old new
counted_to end old new h paths outer inner at next =
    let long : length new.paths.items ≡ length old.paths.items = ap length paths ∙ length_raised old.at 0 (end - old.next) old.paths.items in
    let within = h.kept.1 in
    record {
      kept = (same_kept old.paths.items old.at 0 (end - old.next) old new h.kept paths outer inner, omega (arith, at, within, long));
      path = ap (path_at new.paths.items) at ∙ ap (λ ps. path_at ps old.at) paths ∙ path_raised old.at 0 (end - old.next) old.paths.items old.at;
      next = next;
      amounts = λ w test additive. ap (amount (number w) test) paths ∙ amount_raised w additive test 0 (end - old.next) old.at old.paths.items within;
    }

-- a path that is there begins once more
pub begun_old : (node i : ℕ) (old new : Counter) → IsKeptBy old → node < 2 ^ 32 → inner_of old (slot old.at node) ≡ Some i → new.paths.items ≡ raised i 1 0 old.paths.items → new.outer ≡ old.outer → new.inner ≡ old.inner → new.at ≡ i → new.next ≡ old.next → IsBegunAt node old new
begun_old node i old new h small e paths outer inner at next =
    let s = h.0.sound old.at node i small e in
    let long : length new.paths.items ≡ length old.paths.items = ap length paths ∙ length_raised i 1 0 old.paths.items in
    let within = s.1 in
    record {
      kept = (same_kept old.paths.items i 1 0 old new h paths outer inner, omega (arith, at, within, long));
      path = ap (path_at new.paths.items) at ∙ ap (λ ps. path_at ps i) paths ∙ path_raised i 1 0 old.paths.items i ∙ s.2;
      next = next;
      amounts = λ w test additive. ap (amount (number w) test) paths ∙ amount_raised w additive test 1 0 i old.paths.items within ∙ ap (λ q. amount (number w) test old.paths.items + weigh (test q) (w 1 0)) s.2;
    }

not_equal : (k q : ℕ) → (q ≡ k → ⊥) → is_eq (nat_cmp k q) ≡ false
not_equal k q h = by (nat_lt k q) (k == q) apart
  where
    apart : (k == q) ≡ false
    apart = ⊎_elim (λ (e : (k == q) ≡ true). absurd (h (same e))) (λ (e : (k == q) ≡ false). e) (cases_Bool (k == q))
      where
        same : (k == q) ≡ true → q ≡ k
        same e = grind (arith, nat_tests, e)

    by : (b e : Bool) → e ≡ false → is_eq (cond b Less (cond e Equal Greater)) ≡ false
    by true e f = refl
    by false true f = cc
    by false false f = refl

-- a path that is new begins
pub begun_new : (node : ℕ) (x : PathCount) (key id : ℕ) (old new : Counter) → IsKeptBy old → node < 2 ^ 32 → inner_of old (slot old.at node) ≡ None → x.path ≡ path_at old.paths.items old.at ++ node ∷ [] → x.count ≡ 1 → x.own ≡ 0
    → new.paths.items ≡ old.paths.items ++ x ∷ [] → new.outer.items ≡ old.outer.items ++ old.at ∷ [] → key ≡ slot old.at node → id ≡ length old.paths.items → Updates nat_cmp old.inner new.inner key (Some id) → new.at ≡ id → new.next ≡ old.next → IsBegunAt node old new
begun_new node x key id old new h small none is count own paths outer same_key same_id inner at next =
    let some : nat_lt 0 x.count ≡ true = ap (nat_lt 0) count in
    let ps = old.paths.items in
    let here : inner_of new (slot old.at node) ≡ Some (length ps) = ap (inner_of new) (sym same_key) ∙ inner.1 ∙ ap Some same_id in
    let apart : (q : ℕ) → (q ≡ slot old.at node → ⊥) → inner_of new q ≡ inner_of old q = λ q f. inner.2 q (not_equal key q (λ e. f (e ∙ same_key))) in
    let kept = kept_push ps old.outer.items (inner_of old) (inner_of new) h.0 x old.at node h.1 small is some none here apart in
    let long : length new.paths.items ≡ suc (length ps) = ap length paths ∙ length_push ps x in
    record {
      kept = (subst (λ qs. IsKept qs new.outer.items (inner_of new)) (sym paths) (subst (λ os. IsKept (ps ++ x ∷ []) os (inner_of new)) (sym outer) kept), omega (arith, at, same_id, long));
      path = ap (path_at new.paths.items) (at ∙ same_id) ∙ ap (λ qs. path_at qs (length ps)) paths
          ∙ pushed_path ps old.outer.items (inner_of old) (inner_of new) h.0 x old.at node h.1 small is some none here apart;
      next = next;
      amounts = λ w test additive. ap (amount (number w) test) paths ∙ amount_push (number w) test ps x
          ∙ ap (λ q. amount (number w) test ps + weigh (test q) (w x.count x.own)) is
          ∙ ap (λ k. amount (number w) test ps + weigh (test (path_at ps old.at ++ node ∷ [])) (w k x.own)) count
          ∙ ap (λ k. amount (number w) test ps + weigh (test (path_at ps old.at ++ node ∷ [])) (w 1 k)) own;
    }

-- nothing is counted at first
pub first_counter : (new : Counter) (x : PathCount) → new.paths.items ≡ x ∷ [] → x.path ≡ [] → x.count ≡ 0 → x.own ≡ 0 → new.outer.items ≡ 0 ∷ [] → ((k : ℕ) → inner_of new k ≡ None) → new.at ≡ 0 → new.next ≡ 0 → IsFirst new
first_counter new x paths path count own outer inner at next = record {
  kept = (subst (λ ps. IsKept ps new.outer.items (inner_of new)) (sym paths) (subst (λ os. IsKept (x ∷ []) os (inner_of new)) (sym outer) kept), long);
  at = ap (path_at new.paths.items) at ∙ ap (λ ps. path_at ps 0) paths ∙ path;
  next = next;
  amounts = λ w test additive. ap (amount (number w) test) paths ∙ nothing w test additive;
}
  where
    long : new.at < length new.paths.items
    long = let e = ap length paths in omega (arith, at, e)

    one : (i : ℕ) → i < 1 → i ≡ 0
    one i h = omega (arith, h)

    path_of : (i : ℕ) → i < 1 → path_at (x ∷ []) i ≡ []
    path_of i h = ap (path_at (x ∷ [])) (one i h) ∙ path

    no_key : (k i : ℕ) → inner_of new k ≡ Some i → ⊥
    no_key k i h = let e = inner k in cc

    no_more : (q : List ℕ) (n : ℕ) → [] ≡ q ++ n ∷ [] → ⊥
    no_more [] n h = cc
    no_more (y ∷ ys) n h = cc

    kept : IsKept (x ∷ []) (0 ∷ []) (inner_of new)
    kept = record {
      long = refl;
      begun = (path, refl, refl);
      up = λ i h. subst (λ j. (slice_index (0 ∷ []) j < 1) × (path_at (x ∷ []) (slice_index (0 ∷ []) j) ≡ but_last (path_at (x ∷ []) j))) (sym (one i h)) (omega arith, path ∙ ap but_last (sym path));
      sound = λ a n i h e. absurd (no_key (slot a n) i e);
      whole = λ a n i h l m e. absurd (no_more (path_at (x ∷ []) a) n (sym (path_of i m) ∙ e));
      once = λ i j h l e. one i h ∙ sym (one j l);
    }

    weighed : (b : Bool) (k : ℕ) → k ≡ 0 → weigh b k + 0 ≡ 0
    weighed true k e = omega (arith, e)
    weighed false k e = refl

    nothing : (w : ℕ → ℕ → ℕ) (test : List ℕ → Bool) → IsAdditive w → amount (number w) test (x ∷ []) ≡ 0
    nothing w test additive =
        let zero_is : w 0 0 ≡ 0 = (let h : w 0 0 ≡ w 0 0 + w 0 0 = additive 0 0 0 0 in omega (arith, h)) in
        weighed (test x.path) (w x.count x.own) (ap (λ k. w k x.own) count ∙ ap (w 0) own ∙ zero_is)

pub started : (events : ℕ) (all : List Mark) (c : Counter) → IsFirst c → AreRising 0 events all → IsStanding events all all c
started events all c f h = record {
  kept = f.kept;
  whole = h;
  rising = subst (λ n. AreRising n events all) (sym f.next) h;
  amounts = λ w test additive. step w test additive;
}
  where
    step : (w : ℕ → ℕ → ℕ) (test : List ℕ → Bool) → IsAdditive w → amount (number w) test c.paths.items + tallied w test events (path_at c.paths.items c.at) c.next all ≡ tallied w test events [] 0 all
    step w test additive =
        let none = f.amounts w test additive in
        let same : tallied w test events (path_at c.paths.items c.at) c.next all ≡ tallied w test events [] 0 all =
        ap (λ q. tallied w test events q c.next all) f.at ∙ ap (λ n. tallied w test events [] n all) f.next in
        omega (arith, none, same)

-- ---- an entry

pub not_enter : (k : EventKind) → (k ≡ Enter → ⊥) → is_enter k ≡ false
not_enter Enter h = absurd (h refl)
not_enter (Return a) h = refl
not_enter (Leave c) h = refl

-- what an entry and those after it add
abbrev added_by : (ℕ → ℕ → ℕ) → (List ℕ → Bool) → ℕ → Bool → List ℕ → ℕ → Mark → List Mark → ℕ
added_by w test events b path next m ms =
    weigh (test path) (w 0 (next_after b m.number - next))
    + (begun_by w test b (path_after b path m.node) + tallied w test events (path_after b path m.node) (next_after b m.number) ms)

pub passed_enter : (m : Mark) (old mid new : Counter) → is_enter m.kind ≡ true → IsCountedTo m.number old mid → IsBegunAt m.node mid new → HasPassed m old new
passed_enter m old mid new k t b events all rest s = record {
  kept = b.kept;
  whole = s.whole;
  rising = subst (λ n. AreRising n events rest) (sym (b.next ∙ t.next)) (rising_from m.number (suc m.number) events rest (omega arith) s.rising.1);
  amounts = λ w test additive. step w test additive;
}
  where
    step : (w : ℕ → ℕ → ℕ) (test : List ℕ → Bool) → IsAdditive w → amount (number w) test new.paths.items + tallied w test events (path_at new.paths.items new.at) new.next rest ≡ tallied w test events [] 0 all
    step w test additive =
        let path = path_at old.paths.items old.at in
        let longer : path_at new.paths.items new.at ≡ path ++ m.node ∷ [] = b.path ∙ ap (λ q. q ++ m.node ∷ []) t.path in
        let one = t.amounts w test additive in
        let two = b.amounts w test additive in
        let was = s.amounts w test additive in
        let opened : tallied w test events path old.next (m ∷ rest) ≡ weigh (test path) (w 0 (m.number - old.next)) + (weigh (test (path ++ m.node ∷ [])) (w 1 0) + tallied w test events (path ++ m.node ∷ []) m.number rest) =
        ap (λ b. added_by w test events b path old.next m rest) k in
        let then : tallied w test events (path_at new.paths.items new.at) new.next rest ≡ tallied w test events (path ++ m.node ∷ []) m.number rest =
        ap (λ q. tallied w test events q new.next rest) longer ∙ ap (λ n. tallied w test events (path ++ m.node ∷ []) n rest) (b.next ∙ t.next) in
        let same : weigh (test (path_at mid.paths.items mid.at ++ m.node ∷ [])) (w 1 0) ≡ weigh (test (path ++ m.node ∷ [])) (w 1 0) = ap (λ q. weigh (test (q ++ m.node ∷ [])) (w 1 0)) t.path in
        omega (arith, one, two, was, opened, then, same)

pub passed_end : (m : Mark) (end : ℕ) (old mid new : Counter) → is_enter m.kind ≡ false → end ≡ suc m.number → IsCountedTo end old mid → new ≡ record mid { at = slice_index mid.outer.items mid.at } → HasPassed m old new
passed_end m end old mid new k e t is = subst (λ c. HasPassed m old c) (sym is) passed
  where
    passed : HasPassed m old (record mid { at = slice_index mid.outer.items mid.at })
    passed events all rest s =
        let up = t.kept.0.up mid.at t.kept.1 in
        record {
          kept = (t.kept.0, up.0);
          whole = s.whole;
          rising = subst (λ n. AreRising n events rest) (sym (t.next ∙ e)) s.rising.1;
          amounts = λ w test additive. step w test additive up.1;
        }
      where
        step : (w : ℕ → ℕ → ℕ) (test : List ℕ → Bool) → IsAdditive w → path_at mid.paths.items (slice_index mid.outer.items mid.at) ≡ but_last (path_at mid.paths.items mid.at)
            → amount (number w) test mid.paths.items + tallied w test events (path_at mid.paths.items (slice_index mid.outer.items mid.at)) mid.next rest ≡ tallied w test events [] 0 all
        step w test additive up =
            let path = path_at old.paths.items old.at in
            let shorter : path_at mid.paths.items (slice_index mid.outer.items mid.at) ≡ but_last path = up ∙ ap but_last t.path in
            let one = t.amounts w test additive in
            let was = s.amounts w test additive in
            let opened : tallied w test events path old.next (m ∷ rest) ≡ weigh (test path) (w 0 (suc m.number - old.next)) + (0 + tallied w test events (but_last path) (suc m.number) rest) =
            ap (λ b. added_by w test events b path old.next m rest) k in
            let then : tallied w test events (path_at mid.paths.items (slice_index mid.outer.items mid.at)) mid.next rest ≡ tallied w test events (but_last path) (suc m.number) rest =
            ap (λ q. tallied w test events q mid.next rest) shorter ∙ ap (λ n. tallied w test events (but_last path) n rest) (t.next ∙ e) in
            let gap : weigh (test path) (w 0 (end - old.next)) ≡ weigh (test path) (w 0 (suc m.number - old.next)) = ap (λ j. weigh (test path) (w 0 (j - old.next))) e in
            omega (arith, one, was, opened, then, gap)

-- ---- the numbers fit

-- the events that are counted are those below `next`
pub owned : (events : ℕ) (all rest : List Mark) (c : Counter) → IsStanding events all rest c → amount (λ x. x.own) (λ q. true) c.paths.items + (events - c.next) ≡ events
owned events all rest c s =
    let was = s.amounts (λ c o. o) (λ q. true) (λ a b c d. refl) in
    let left = owns_all events (path_at c.paths.items c.at) c.next rest s.rising in
    let full = owns_all events [] 0 all s.whole in
    omega (arith, was, left, full)

pub room_to : (end events : ℕ) (all rest : List Mark) (c : Counter) → events < 2 ^ 32 → IsStanding events all rest c → c.next ≤ end → end ≤ events → HasRoom end c
room_to end events all rest c few s l h = let own = owned events all rest c s in record { kept = s.kept; before = l; owns = omega (arith, own, l, h, few) }

pub room_next : (m : Mark) (c : Counter) (end : ℕ) → IsUnderWay m c → m.number ≤ end → end ≤ suc m.number → HasRoom end c
room_next m c end u low high =
    let s = u.standing in
    let first = s.rising.0 in
    let bound = rising_bound (suc m.number) u.events u.rest s.rising.1 in
    room_to end u.events u.all (m ∷ u.rest) c u.few s (omega (arith, first, low)) (omega (arith, bound, high))

pub event_fits : (m : Mark) (c : Counter) → IsUnderWay m c → m.number + 1 < 2 ^ 32
event_fits m c u =
    let bound = rising_bound (suc m.number) u.events u.rest u.standing.rising.1 in
    let few = u.few in
    omega (arith, bound, few)

-- one more activation can be counted at an Enter
pub count_fits : (m : Mark) (old mid : Counter) (end : ℕ) → is_enter m.kind ≡ true → IsUnderWay m old → IsCountedTo end old mid → HasCount mid
count_fits m old mid end k u t =
    let s = u.standing in
    let path = path_at old.paths.items old.at in
    let one = t.amounts (λ c o. c) (λ q. true) (λ a b c d. refl) in
    let was = s.amounts (λ c o. c) (λ q. true) (λ a b c d. refl) in
    let opened : tallied (λ c o. c) (λ q. true) u.events path old.next (m ∷ u.rest) ≡ 0 + (1 + tallied (λ c o. c) (λ q. true) u.events (path ++ m.node ∷ []) m.number u.rest) =
    ap (λ b. added_by (λ c o. c) (λ q. true) u.events b path old.next m u.rest) k in
    let few = counts_few u.events [] 0 u.all in
    let bound = rising_bound 0 u.events u.all s.whole in
    let small = u.few in
    omega (arith, one, was, opened, few, bound, small)

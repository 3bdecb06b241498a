-- In the report of a plan's run no two entries of a binding have one place.
use Rattle.std.proofs.Common.{◌≡◌, ℕ, zero, suc, ◌+◌, ◌<◌, ◌≤◌, ◌==◌, ◌&&◌, Bool, true, false, cond, List, [], ◌∷◌, ◌++◌, map, filter, length, refl, ap, arith, count_by, ◌∙◌, if◌then◌else◌, slice_index_or, None, inl, inr}
use Rattle.std.specs.Prelude.{flat_map}
use Rattle.std.specs.List.{filter_map, cons_option, range_with_len}
use Rattle.std.specs.Option.{option_map}
use Rattle.std.proofs.lemmas.Bool.{cases_lt, cases_Bool}
use Rattle.std.proofs.lemmas.List.{get_or_past}
use Rattle.std.proofs.lemmas.List.Sums.{sum_by-cons, sum_by-append}
use Rattle.std.proofs.lemmas.List.Elements.{filter_map-append}
use Rattle.pd_tree.specs.Program.{Program}
use Rattle.pd_machine.specs.Events.{Told}
use Rattle.pd_machine.specs.declared.event.Event.{Event}
use Rattle.pd_plan.specs.declared.plan.Plan.{Plan}
use Rattle.pd_log.specs.declared.Entry.{Entry}
use Rattle.pd_board.specs.declared.answers.Drawn.{Drawn}
use Rattle.pd_board.specs.declared.answers.Drawn.TheVariants.{On, Missed, Off}
use Rattle.pd_board.specs.declared.answers.Sight.{Sight}
use Rattle.pd_board.specs.Answers.{number_of, number_in}
use Rattle.pd_board.specs.Kept.{numbers_of, place_of}
use Rattle.pd_suspend.specs.Laws.{AreNumbered}
use Rattle.pd_suspend.specs.declared.context.ContextRecord.{ContextRecord}
use Rattle.pd_suspend.specs.declared.suspension.Suspension.{Suspension}
use Rattle.pd_record.specs.Logs.{is_of, answer_at, is_subject, entry_of, delivery, log_of}
use Rattle.pd_shared.specs.declared.sights.Sights.{Sights}
use Rattle.pd_run.specs.declared.report.Report.{Report}
use Rattle.pd_run.specs.Part.{Part}
use Rattle.pd_run.specs.Run.{events_of, AreContexts, parts_of, IsRunBy}
use Rattle.pd_run.proofs.Ordered.{events_numbered}
use Rattle.pd_report.specs.Logs.{entries_of, PlacesAreApart}

-- how many entries have the place, and how often a number stands in a list
abbrev having : ℕ → List Entry → ℕ
having x es = count_by (λ (e : Entry). e.place == x) es

abbrev times : ℕ → List ℕ → ℕ
times x ns = count_by (λ n. n == x) ns

having_more : (x : ℕ) (e : Entry) (es : List Entry) → having x (e ∷ es) ≡ (if e.place == x then 1 else 0) + having x es
having_more x e es = sum_by-cons (λ (e : Entry). if e.place == x then 1 else 0) e es

having_both : (x : ℕ) (es fs : List Entry) → having x (es ++ fs) ≡ having x es + having x fs
having_both x es fs = sum_by-append (λ (e : Entry). if e.place == x then 1 else 0) es fs

times_more : (x n : ℕ) (ns : List ℕ) → times x (n ∷ ns) ≡ (if n == x then 1 else 0) + times x ns
times_more x n ns = sum_by-cons (λ m. if m == x then 1 else 0) n ns

times_both : (x : ℕ) (ns ms : List ℕ) → times x (ns ++ ms) ≡ times x ns + times x ms
times_both x ns ms = sum_by-append (λ m. if m == x then 1 else 0) ns ms

-- ---- one context

-- 1 where the draw gave this place
abbrev gave : ℕ → Drawn → ℕ
gave x (On p) = if p == x then 1 else 0
gave x _ = 0

-- how often it was given at events of these numbers
abbrev given_at : List Sight → ℕ → ℕ → List ℕ → ℕ
given_at seen b x [] = 0
given_at seen b x (n ∷ ns) = gave x (answer_at seen n b) + given_at seen b x ns

one_entry : (c : ℕ) (e : Event) (x : ℕ) (d : Drawn) (es : List Entry) → having x (cons_option (option_map (entry_of c e) (place_of d)) es) ≤ gave x d + having x es
one_entry c e x (On p) es = let more = having_more x (entry_of c e p) es in omega (arith, more)
one_entry c e x (Missed p) es = omega arith
one_entry c e x Off es = omega arith

one_event : (c : ℕ) (seen : List Sight) (b x : ℕ) (is : Bool) (t : Told) (ts : List Told) (rest : ℕ) → having x (filter_map (delivery c seen b) ts) ≤ rest
    → having x (filter_map (delivery c seen b) (cond is (t ∷ ts) ts)) ≤ gave x (answer_at seen t.event.number b) + rest
one_event c seen b x true t ts rest h = let one = one_entry c t.event x (answer_at seen t.event.number b) (filter_map (delivery c seen b) ts) in omega (arith, one, h)
one_event c seen b x false t ts rest h = omega (arith, h)

log_is_given : (c : ℕ) (q : Told → Bool) (seen : List Sight) (b x : ℕ) (ts : List Told) → having x (filter_map (delivery c seen b) (filter q ts)) ≤ given_at seen b x (map (λ (t : Told). t.event.number) ts)
log_is_given c q seen b x [] = omega arith
log_is_given c q seen b x (t ∷ ts) = one_event c seen b x (q t) t (filter q ts) (given_at seen b x (map (λ (t : Told). t.event.number) ts)) (log_is_given c q seen b x ts)

-- how much a sight gives at an event, and at events of these numbers
abbrev own : Sight → ℕ → ℕ → ℕ → ℕ
own s b x n = if is_of n b s then gave x s.drawn else 0

abbrev own_at : Sight → ℕ → ℕ → List ℕ → ℕ
own_at s b x [] = 0
own_at s b x (n ∷ ns) = own s b x n + own_at s b x ns

either : (x : ℕ) (is : Bool) (d e : Drawn) → gave x (if is then d else e) ≤ (if is then gave x d else 0) + gave x e
either x true d e = omega arith
either x false d e = omega arith

none_given : (b x : ℕ) (ns : List ℕ) → given_at [] b x ns ≡ 0
none_given b x [] = refl
none_given b x (n ∷ ns) = let rest = none_given b x ns in omega (arith, rest)

split : (s : Sight) (ss : List Sight) (b x : ℕ) (ns : List ℕ) → given_at (s ∷ ss) b x ns ≤ own_at s b x ns + given_at ss b x ns
split s ss b x [] = omega arith
split s ss b x (n ∷ ns) = let one = either x (is_of n b s) s.drawn (answer_at ss n b) in let rest = split s ss b x ns in omega (arith, one, rest)

other_event : (s : Sight) (b x n : ℕ) → (s.event == n) ≡ false → own s b x n ≡ 0
other_event s b x n other = ap (λ is. if is && (s.binding == b) then gave x s.drawn else 0) other

this_event : (s : Sight) (b x n : ℕ) → (s.event == n) ≡ true → own s b x n ≡ (if s.binding == b then gave x s.drawn else 0)
this_event s b x n same = ap (λ is. if is && (s.binding == b) then gave x s.drawn else 0) same

none_before : (s : Sight) (b x a k : ℕ) → s.event < a → own_at s b x (range_with_len a k) ≡ 0
none_before s b x a zero before = refl
none_before s b x a (suc k) before =
    let other : (s.event == a) ≡ false = grind (arith, before) in
    let one = other_event s b x a other in let rest = none_before s b x (a + 1) k (omega (arith, before)) in omega (arith, one, rest)

at_most_once : (s : Sight) (b x a k : ℕ) → own_at s b x (range_with_len a k) ≤ (if s.binding == b then gave x s.drawn else 0)
at_most_once s b x a zero = omega arith
at_most_once s b x a (suc k) = elim (cases_Bool (s.event == a)) [
  | inl same ↦ let here : s.event ≡ a = grind (arith, same) in
      let one = this_event s b x a same in let rest = none_before s b x (a + 1) k (omega (arith, here)) in omega (arith, one, rest)
  | inr other ↦ let one = other_event s b x a other in let rest = at_most_once s b x (a + 1) k in omega (arith, one, rest)
]

one_number : (x : ℕ) (is : Bool) (d : Drawn) (ns : List ℕ) → (if is then gave x d else 0) + times x ns ≤ times x (cons_option (if is then number_of d else None) ns)
one_number x true (On p) ns = let more = times_more x p ns in omega (arith, more)
one_number x true (Missed p) ns = let more = times_more x p ns in omega (arith, more)
one_number x true Off ns = omega arith
one_number x false d ns = omega arith

given_is_taken : (seen : List Sight) (b x k : ℕ) → given_at seen b x (range_with_len 0 k) ≤ times x (numbers_of b seen)
given_is_taken [] b x k = let none = none_given b x (range_with_len 0 k) in omega (arith, none)
given_is_taken (s ∷ ss) b x k =
    let parts = split s ss b x (range_with_len 0 k) in
    let first = at_most_once s b x 0 k in
    let rest = given_is_taken ss b x k in
    let all = one_number x (s.binding == b) s.drawn (numbers_of b ss) in
    omega (arith, parts, first, rest, all)

log_is_taken : (c : ℕ) (plan : Plan) (p : Program) (seen : List Sight) (events : List Told) (b x : ℕ) → AreNumbered events
    → having x (log_of c plan p seen events b) ≤ times x (numbers_of b seen)
log_is_taken c plan p seen events b x numbered =
    let log = log_is_given c (is_subject plan p seen b) seen b x events in
    let same = ap (given_at seen b x) numbered in
    let taken = given_is_taken seen b x (length events) in
    omega (arith, log, same, taken)

-- ---- all contexts

all_taken : (given : ℕ → Suspension → Type 0) (plan : Plan) (p : Program) (b x c : ℕ) (rs : List ContextRecord) (ss : List Sights) → b < length plan.bindings
    → AreContexts given plan p c rs ss
    → having x (entries_of b rs) ≤ times x (numbers_of b (flat_map (λ (y : Part). y.seen) (parts_of plan p c rs)))
all_taken given plan p b x c [] [] below are = omega arith
all_taken given plan p b x c [] (s ∷ ss) below are = absurd are
all_taken given plan p b x c (r ∷ rs) [] below are = absurd are
all_taken given plan p b x c (r ∷ rs) (s ∷ ss) below are =
    let log = ap (having x) ((are.0).logs b below).log in
    let one = log_is_taken c plan p r.seen (events_of plan p c r) b x (events_numbered plan p c r) in
    let rest = all_taken given plan p b x (suc c) rs ss below are.1 in
    let more = having_both x (slice_index_or r.logs b []) (entries_of b rs) in
    let flat = ap (times x) (filter_map-append (number_in b) r.seen (flat_map (λ (y : Part). y.seen) (parts_of plan p (suc c) rs))) in
    let both = times_both x (numbers_of b r.seen) (numbers_of b (flat_map (λ (y : Part). y.seen) (parts_of plan p (suc c) rs))) in
    omega (arith, log, one, rest, more, flat, both)

none_past : (given : ℕ → Suspension → Type 0) (plan : Plan) (p : Program) (b x c : ℕ) (rs : List ContextRecord) (ss : List Sights) → length plan.bindings ≤ b
    → AreContexts given plan p c rs ss → having x (entries_of b rs) ≡ 0
none_past given plan p b x c [] [] past are = refl
none_past given plan p b x c [] (s ∷ ss) past are = absurd are
none_past given plan p b x c (r ∷ rs) [] past are = absurd are
none_past given plan p b x c (r ∷ rs) (s ∷ ss) past are =
    let log = ap (having x) (get_or_past r.logs b [] (omega (arith, past, (are.0).count))) in
    let rest = none_past given plan p b x (suc c) rs ss past are.1 in
    let more = having_both x (slice_index_or r.logs b []) (entries_of b rs) in
    omega (arith, log, rest, more)

once : (x n : ℕ) (is : Bool) → n ≡ (if is then 1 else 0) → n ≤ 1
once x n true h = omega (arith, h)
once x n false h = omega (arith, h)

pub places_come_apart : (given : ℕ → Suspension → Type 0) (plan : Plan) (p : Program) (r : Report) → IsRunBy given plan p r → PlacesAreApart r
places_come_apart given plan p r run b = elim (cases_lt b (length plan.bindings)) [
  | inl below ↦ λ x.
      let taken = all_taken given plan p b x 0 r.contexts r.sights below run.contexts in
      let few = once x _ _ ((run.lives b below).numbers x) in
      omega (arith, taken, few)
  | inr past ↦ λ x. let none = none_past given plan p b x 0 r.contexts r.sights past run.contexts in omega (arith, none)
]

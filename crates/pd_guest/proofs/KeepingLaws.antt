-- An event begins and is over.
use Rattle.std.proofs.Common.{◌≡◌, ℕ, ◌<◌, ◌≤◌, ◌+◌, ◌*◌, ◌^◌, Bool, true, false, ◌&&◌, ◌||◌, List, [], ◌∷◌, ◌++◌, length, map, refl, sym, ap, ◌∙◌, subst, ⊎_elim, arith}
use Rattle.std.specs.Prelude.{nat_lt, nat_le, ◌==◌, filter, if◌then◌else◌, drop, reverse}
use Rattle.std.specs.List.{All, list_all, list_any}
use Rattle.std.proofs.lemmas.Bool.{and_parts, and_from, and_left, and_right, or_left, eqb-true, cases_Bool, cond-true, cond-false, ltb-true, leb-true, le-leb, lt-leb, ne_eqb, cases_lt}
use Rattle.std.proofs.lemmas.List.{get_or_past, map_push, drop-map, reverse-append}
use Rattle.std.proofs.lemmas.List.Elements.{All-weaker, All-push}
use Rattle.pd_tree.specs.Program.{Program}
use Rattle.pd_machine.specs.Events.{Told}
use Rattle.pd_machine.specs.declared.event.Event.{Event}
use Rattle.pd_machine.specs.declared.event.EventKind.{EventKind}
use Rattle.pd_machine.specs.declared.event.EventKind.TheVariants.{Enter, Return, Leave}
use Rattle.pd_order.specs.Order.{Fits, IsEndOf, open_after, open_with}
use Rattle.pd_order.proofs.Lists.{open_push}
use Rattle.pd_plan.specs.declared.plan.Plan.{Plan}
use Rattle.pd_plan.specs.declared.table.MatchTable.{MatchTable}
use Rattle.pd_board.specs.declared.answers.Known.{Known}
use Rattle.pd_board.specs.declared.answers.Sight.{Sight}
use Rattle.pd_board.specs.declared.answers.ActResult.{ActResult}
use Rattle.pd_board.specs.Standing.{Standing, in_row}
use Rattle.pd_record.specs.Logs.{answer_at, is_on, is_met_by}
use Rattle.pd_suspend.specs.Steps.{is_enter}
use Rattle.pd_record.specs.Life.{rises}
use Rattle.pd_record.specs.Serving.{IsCurrent, ons_at, is_in}
use Rattle.std.proofs.Math.Bool.{and-true}
use Rattle.pd_record.proofs.Lists.{list_all-weaker, list_all-filter}
use Rattle.pd_record.proofs.Matching.{rows_are}
use Rattle.pd_record.proofs.ServingLaws.{serving-quiet, serving-enter, serving-end, serving-over, serving-along}
use Rattle.pd_record.proofs.SeenLaws.{seen_below, enters-more}
use Rattle.pd_record.proofs.OnLaws.{ons-none, ons-rise, ons-below, ons-any, on_has_number}
use Rattle.pd_guest.specs.declared.deliver.Deliveries.{Deliveries}
use Rattle.pd_guest.specs.declared.serving.Opened.{Opened}
use Rattle.pd_guest.specs.Moment.{At, is_observed, observers_at}
use Rattle.pd_guest.specs.Offering.{left_from, left_for, IsAmple, IsSpent, IsOffering}
use Rattle.pd_guest.specs.Finishing.{IsFit, IsUsed, IsFinishing}
use Rattle.pd_guest.specs.Keeping.{IsRoomed, IsRoomedFor, IsOpened, IsKeptAt}
use Rattle.pd_guest.proofs.DeliveringLaws.{replies-same}

-- ---- small facts

false_true : false ≡ true → ⊥
false_true e = cc

-- at least 0, and above n
from_zero : (ns : List ℕ) → list_all (nat_le 0) ns ≡ true
from_zero [] = refl
from_zero (n ∷ ns) = and_from _ _ (le-leb 0 n (omega arith)) (from_zero ns)

above_next : (n : ℕ) (ns : List ℕ) → list_all (nat_lt n) ns ≡ true → list_all (nat_le (n + 1)) ns ≡ true
above_next n ns h = list_all-weaker (nat_lt n) (nat_le (n + 1)) (λ m k. le-leb (n + 1) m (omega (arith, ltb-true n m k))) ns h

all_left : (x : Bool) (c : ℕ) → (x && nat_le 0 c) ≡ x
all_left x c = ap (λ y. x && y) (le-leb 0 c (omega arith)) ∙ and-true x

none_left : (x : Bool) (c : ℕ) → (x ≡ true → c < 4096) → (x && nat_le 4096 c) ≡ false
none_left true c h = lt-leb 4096 c (h refl)
none_left false c h = refl

-- a binding with a node is one of the table
stands_within : (table : MatchTable) (b n : ℕ) → in_row table b n ≡ true → b < length table.rows
stands_within table b n h =
    ⊎_elim
    (λ (within : b < length table.rows). within)
    (λ (past : length table.rows ≤ b). absurd (false_true (sym (ap (λ xs. list_any (λ m. m == n) xs) (get_or_past table.rows b [] past)) ∙ h)))
    (cases_lt b (length table.rows))

-- a list that rises below a number isn't longer
rising_length : (low count : ℕ) (ns : List ℕ) → low ≤ count → rises ns ≡ true → list_all (nat_le low) ns ≡ true → list_all (λ b. nat_lt b count) ns ≡ true → low + length ns ≤ count
rising_length low count [] fits h k l = omega (arith, fits)
rising_length low count (n ∷ ns) fits h k l =
    let hs = and_parts (list_all (nat_lt n) ns) (rises ns) h in
    let ks = and_parts (nat_le low n) (list_all (nat_le low) ns) k in
    let ls = and_parts (nat_lt n count) (list_all (λ b. nat_lt b count) ns) l in
    let below : n < count = ltb-true n count ls.0 in
    let from : low ≤ n = leb-true low n ks.0 in
    let rest : (n + 1) + length ns ≤ count = rising_length (n + 1) count ns (omega (arith, below)) hs.1 (above_next n ns hs.0) ls.1 in
    omega (arith, rest, from)

-- ---- observers

in_more : (x : Bool) (f : ℕ → Bool) (n : ℕ) (ns : List ℕ) (b : ℕ) → f n ≡ x → is_in (filter f ns) b ≡ (f b && is_in ns b)
    → is_in (if x then n ∷ filter f ns else filter f ns) b ≡ (f b && is_in (n ∷ ns) b)
in_more true f n ns b h rest =
    ⊎_elim
    (λ (same : (n == b) ≡ true).
    or_left _ _ same ∙ sym (and_from _ _ (ap f (sym (eqb-true n b same)) ∙ h) (or_left _ _ same)))
    (λ (apart : (n == b) ≡ false).
    ap (λ y. y || is_in (filter f ns) b) apart ∙ rest ∙ sym (ap (λ y. f b && (y || is_in ns b)) apart))
    (cases_Bool (n == b))
in_more false f n ns b h rest =
    ⊎_elim
    (λ (same : (n == b) ≡ true).
    let off : f b ≡ false = ap f (sym (eqb-true n b same)) ∙ h in
    rest ∙ and_left (f b) (is_in ns b) off ∙ sym (and_left (f b) (is_in (n ∷ ns) b) off))
    (λ (apart : (n == b) ≡ false).
    rest ∙ sym (ap (λ y. f b && (y || is_in ns b)) apart))
    (cases_Bool (n == b))

in_filter : (f : ℕ → Bool) (ns : List ℕ) (b : ℕ) → is_in (filter f ns) b ≡ (f b && is_in ns b)
in_filter f [] b = sym (and_right (f b) false refl)
in_filter f (n ∷ ns) b = in_more (f n) f n ns b refl (in_filter f ns b)

rising_filter : (f : ℕ → Bool) (ns : List ℕ) → rises ns ≡ true → rises (filter f ns) ≡ true
rising_filter f [] h = refl
rising_filter f (n ∷ ns) h =
    let parts = and_parts (list_all (nat_lt n) ns) (rises ns) h in
    let rest : rises (filter f ns) ≡ true = rising_filter f ns parts.1 in
    elim (f n) as (λ x. rises (if x then n ∷ filter f ns else filter f ns) ≡ true) [
      | true ↦ and_from _ _ (list_all-filter (nat_lt n) f ns parts.0) rest
      | false ↦ rest
    ]

-- ---- the open activations

fits_end : (kind : EventKind) (e : Event) (live : List Event) → is_enter kind ≡ false → Fits kind e live → IsEndOf e live
fits_end Enter e live h f = cc
fits_end (Return a) e live h f = f
fits_end (Leave c) e live h f = f

pub fits_enter : (kind : EventKind) (e : Event) (live : List Event) → is_enter kind ≡ true → Fits kind e live → e.opened ≡ e.number
fits_enter Enter e live h f = f
fits_enter (Return a) e live h f = cc
fits_enter (Leave c) e live h f = cc

enter_opens : (kind : EventKind) (e : Event) (live : List Event) → is_enter kind ≡ true → open_with kind e live ≡ e ∷ live
enter_opens Enter e live h = refl
enter_opens (Return a) e live h = cc
enter_opens (Leave c) e live h = cc

end_closes : (kind : EventKind) (e : Event) (live : List Event) → is_enter kind ≡ false → open_with kind e live ≡ drop 1 live
end_closes Enter e live h = cc
end_closes (Return a) e live h = refl
end_closes (Leave c) e live h = refl

numbers_pushed : (opens : List Opened) (o : Opened) → reverse (map (λ x. x.event) (opens ++ o ∷ [])) ≡ o.event ∷ reverse (map (λ x. x.event) opens)
numbers_pushed opens o = ap reverse (map_push (λ (x : Opened). x.event) opens o) ∙ reverse-append (map (λ x. x.event) opens) (o.event ∷ [])

innermost : (e : Event) (live : List Event) (m : ℕ) (ms : List ℕ) → map (λ x. x.number) live ≡ m ∷ ms → IsEndOf e live → e.opened ≡ m
innermost e [] m ms h f = absurd f
innermost e (o ∷ live) m ms h f = let same : o.number ≡ m = cc in f.0 ∙ same

-- an end closes the last of those that are kept
pub end_is_last : (ts : List Told) (e : Event) (opens rest : List Opened) (o : Opened) → map (λ x. x.number) (open_after [] ts) ≡ reverse (map (λ x. x.event) opens)
    → opens ≡ rest ++ o ∷ [] → is_enter e.kind ≡ false → Fits e.kind e (open_after [] ts) → e.opened ≡ o.event
end_is_last ts e opens rest o same split end fits =
    innermost e (open_after [] ts) o.event (reverse (map (λ x. x.event) rest)) (same ∙ ap (λ xs. reverse (map (λ x. x.event) xs)) split ∙ numbers_pushed rest o)
    (fits_end e.kind e (open_after [] ts) end fits)

none_open : (e : Event) (live : List Event) → map (λ x. x.number) live ≡ [] → IsEndOf e live → ⊥
none_open e [] h f = f
none_open e (o ∷ live) h f = cc

-- there is one
pub end_has_one : (ts : List Told) (e : Event) (opens : List Opened) → map (λ x. x.number) (open_after [] ts) ≡ reverse (map (λ x. x.event) opens)
    → is_enter e.kind ≡ false → Fits e.kind e (open_after [] ts) → opens ≡ [] → ⊥
end_has_one ts e opens same end fits none =
    none_open e (open_after [] ts) (same ∙ ap (λ xs. reverse (map (λ x. x.event) xs)) none) (fits_end e.kind e (open_after [] ts) end fits)

-- ---- an Enter begins

pub ample : (m : At) (start : ℕ → Known) (n : ℕ) (ts : List Told) (done : List (ℕ × ActResult)) (has : ℕ → Bool) (steps : ℕ) (s new : Standing) (opens : List Opened) (kept : Deliveries)
    → IsKeptAt m.plan m.program start n ts done s opens kept → n < 2 ^ 25 → m.told.event.node < s.nodes → steps ≡ 2 * length kept.logs.items → IsRoomed m.told.event.node has steps s new → IsAmple m has new kept
ample m start n ts done has steps s new opens kept i few node steps_are r =
    let table : new.table ≡ s.table = r.loaded.table in
    let same : length new.table.rows ≡ length s.table.rows = ap (λ x. length x.rows) table in
    record {
      node_in = omega (arith, node, ap (λ x. x.nodes) r.steady);
      is_open = ap (λ x. x.ended) r.steady ∙ i.is_open;
      table = table ∙ i.table;
      rows = omega (arith, same, i.rows);
      count = i.count ∙ sym same;
      matching = λ c h. ap (λ t. in_row t c m.told.event.node) table ∙ r.matching c h;
      within = λ c h. omega (arith, same, stands_within s.table c m.told.event.node (r.matching c h));
      held = r.held;
      due = r.due;
      last_node = r.last_node;
      spare = omega (arith, same, steps_are, i.count, r.spare);
      share = omega (arith, i.share, few, r.share);
      cleared = omega (arith, i.cleared, few, r.cleared);
    }

at_number : (m : At) (start : ℕ → Known) (n : ℕ) (ts : List Told) (done : List (ℕ × ActResult)) (s : Standing) (opens : List Opened) (kept : Deliveries) → m.told.event.number ≡ n → IsKeptAt m.plan m.program start n ts done s opens kept → IsKeptAt m.plan m.program start m.told.event.number ts done s opens kept
at_number m start n ts done s opens kept number i = subst (λ k. IsKeptAt m.plan m.program start k ts done s opens kept) (sym number) i

pub offering-begins : (m : At) (start : ℕ → Known) (n : ℕ) (ts : List Told) (done : List (ℕ × ActResult)) (has : ℕ → Bool) (steps : ℕ) (s new : Standing) (opens : List Opened) (kept : Deliveries)
    → IsKeptAt m.plan m.program start n ts done s opens kept → m.told.event.number ≡ n → is_enter m.told.event.kind ≡ true → IsRoomed m.told.event.node has steps s new
    → IsOffering m start ts done has 0 new kept []
offering-begins m start n ts done has steps s new opens kept k number enter r =
    let e = m.told.event in
    let i : IsKeptAt m.plan m.program start e.number ts done s opens kept = at_number m start n ts done s opens kept number k in
    record {
      serving = serving-along m.plan m.program kept.context start ts m.told done (λ b. has b && is_met_by m.plan m.program b m.told) (left_for m has 0) new kept.logs.items
          (λ c. ap (λ x. x && is_met_by m.plan m.program c m.told) (all_left (has c) c))
          (serving-enter m.plan m.program kept.context start ts m.told done has s new kept.logs.items enter
          (λ b. ap (λ t. in_row t b e.node) i.table ∙ rows_are m.plan m.program b e.node) r.loaded i.current);
      stood = replies-same done s new r.replies i.stood;
      seen = i.seen ∙ sym r.loaded.sights;
      on_is = sym (ap (λ ss. observers_at m.plan ss e.number) r.loaded.sights
          ∙ ap (filter (is_observed m.plan)) (ons-none s.sights e.number (seen_below m.plan m.program ts e.number s.sights s.sight_loads s.passes s.loads i.current.below i.current.seen)));
      bound = ap (λ x. list_all (λ w. nat_lt w.binding (length x.rows)) new.sights) r.loaded.table
          ∙ ap (λ ss. list_all (λ w. nat_lt w.binding (length s.table.rows)) ss) r.loaded.sights ∙ i.bound;
    }

-- ---- an Enter is over

-- those that are open stay as they are
opened_later : (plan : Plan) (n k : ℕ) (old new : List Sight) (opens : List Opened) → n < k → ((x : ℕ) → (n == x) ≡ false → ons_at new x ≡ ons_at old x) → All (IsOpened plan old n) opens → All (IsOpened plan new k) opens
opened_later plan n k old new opens h same i =
    All-weaker (IsOpened plan old n) (IsOpened plan new k)
    (λ o x. record { before = omega (arith, x.before, h); on_is = x.on_is ∙ ap (filter (is_observed plan)) (sym (same o.event (ne_eqb n o.event (λ e. omega (arith, x.before, e))))) })
    opens i

pub kept-enter : (m : At) (start : ℕ → Known) (n : ℕ) (ts : List Told) (done : List (ℕ × ActResult)) (has : ℕ → Bool) (steps : ℕ) (s mid new : Standing) (opens : List Opened) (o : Opened) (kept after : Deliveries)
    → IsKeptAt m.plan m.program start n ts done s opens kept → m.told.event.number ≡ n → m.told.event.opened ≡ n → n < 2 ^ 25 → is_enter m.told.event.kind ≡ true → IsRoomed m.told.event.node has steps s mid
    → IsAmple m has mid kept → o.event ≡ m.told.event.number
    → IsSpent has m.told.event.number 4096 mid new kept after → IsOffering m start ts done has 4096 new after o.on
    → IsKeptAt m.plan m.program start (n + 1) (ts ++ m.told ∷ []) done new (opens ++ o ∷ []) after
kept-enter m start n ts done has steps s mid new opens o kept after k number opened few enter r room event spent met =
    let e = m.told.event in
    let none : (c : ℕ) → left_from has 4096 c ≡ false = λ c. none_left (has c) c (λ h. omega (arith, room.within c h, room.rows)) in
    let table : new.table ≡ s.table = ap (λ x. x.table) spent.steady ∙ r.loaded.table in
    let same : length new.table.rows ≡ length s.table.rows = ap (λ x. length x.rows) table in
    let current : IsCurrent m.plan m.program after.context start (n + 1) (ts ++ m.told ∷ []) done new after.logs.items =
    serving-over m.plan m.program after.context start ts m.told done (left_for m has 4096) new after.logs.items (n + 1) (λ c. and_left (left_from has 4096 c) _ (none c)) (omega (arith, number)) (omega (arith, opened)) met.serving in
    record {
      current = current;
      stood = met.stood;
      table = table ∙ k.table;
      nodes = ap (λ x. x.nodes) spent.steady ∙ ap (λ x. x.nodes) r.steady ∙ k.nodes;
      seen = met.seen;
      count = spent.count ∙ k.count ∙ sym same;
      rows = omega (arith, same, k.rows);
      bound = met.bound;
      open_are = ap (map (λ x. x.number)) (open_push [] ts m.told ∙ enter_opens e.kind e (open_after [] ts) enter)
          ∙ ap (λ ns. e.number ∷ ns) k.open_are
          ∙ ap (λ y. y ∷ reverse (map (λ x. x.event) opens)) (sym event)
          ∙ sym (numbers_pushed opens o);
      opened = All-push (IsOpened m.plan new.sights (n + 1)) opens o
          (opened_later m.plan n (n + 1) s.sights new.sights opens (omega arith)
          (λ x h. spent.ons x (ap (λ y. y == x) number ∙ h) ∙ ap (λ ss. ons_at ss x) r.loaded.sights) k.opened)
          (record { before = omega (arith, event, number); on_is = met.on_is ∙ ap (λ y. observers_at m.plan new.sights y) (sym event) });
      few = omega (arith, few);
      share = omega (arith, k.share, r.share, spent.share);
      cleared = omega (arith, k.cleared, r.cleared, spent.cleared);
      loads = omega (arith, current.all, enters-more ts m.told, cond-true {A = ℕ} (is_enter e.kind) 1 0 enter, k.current.all, k.loads);
      nothing_due = λ c. spent.due c ∙ none c;
      is_open = ap (λ x. x.ended) spent.steady ∙ ap (λ x. x.ended) r.steady ∙ k.is_open;
    }

-- ---- an end begins

pub fit-begins : (plan : Plan) (p : Program) (start : ℕ → Known) (n : ℕ) (ts : List Told) (done : List (ℕ × ActResult)) (steps : ℕ) (s new : Standing) (opens : List Opened) (o : Opened) (kept : Deliveries)
    → IsKeptAt plan p start n ts done s opens kept → n < 2 ^ 25 → IsOpened plan s.sights n o → steps ≡ 2 * length kept.logs.items → IsRoomedFor steps s new → IsFit o.on new kept
fit-begins plan p start n ts done steps s new opens o kept i few held steps_are r =
    let same : length new.table.rows ≡ length s.table.rows = ap (λ x. length x.rows) r.quiet.table in
    let rising : rises o.on ≡ true = ap rises held.on_is ∙ rising_filter (is_observed plan) (ons_at s.sights o.event) (ons-rise s.sights o.event i.current.seen.order) in
    let below : list_all (λ b. nat_lt b (length s.table.rows)) o.on ≡ true =
    ap (λ bs. list_all (λ b. nat_lt b (length s.table.rows)) bs) held.on_is
    ∙ list_all-filter (λ b. nat_lt b (length s.table.rows)) (is_observed plan) (ons_at s.sights o.event) (ons-below o.event (length s.table.rows) s.sights i.bound) in
    let short : 0 + length o.on ≤ length s.table.rows = rising_length 0 (length s.table.rows) o.on (omega arith) rising (from_zero o.on) below in
    record {
      is_open = ap (λ x. x.ended) r.steady ∙ i.is_open;
      count = i.count ∙ sym same;
      rising = rising;
      below = ap (λ k. list_all (λ b. nat_lt b k) o.on) same ∙ below;
      known = λ c h f.
          let both : (is_observed plan c && is_in (ons_at s.sights o.event) c) ≡ true =
          sym (in_filter (is_observed plan) (ons_at s.sights o.event) c) ∙ ap (λ bs. is_in bs c) (sym held.on_is) ∙ h in
          on_has_number s.sights o.event c (sym (ons-any s.sights o.event c i.current.seen.order) ∙ (and_parts (is_observed plan c) _ both).1)
          ((i.current.served c).none (sym (ap (λ g. g c) r.quiet.known) ∙ f));
      nothing_due = λ c. ap (λ g. g c) r.due ∙ i.nothing_due c;
      spare = omega (arith, short, steps_are, i.count, r.spare);
      share = omega (arith, short, i.rows, i.share, few, r.share);
    }

pub finishing-begins : (m : At) (start : ℕ → Known) (n : ℕ) (ts : List Told) (done : List (ℕ × ActResult)) (steps : ℕ) (s new : Standing) (opens : List Opened) (o : Opened) (kept : Deliveries)
    → IsKeptAt m.plan m.program start n ts done s opens kept → m.told.event.number ≡ n → m.told.event.opened ≡ o.event → IsOpened m.plan s.sights n o → is_enter m.told.event.kind ≡ false → IsRoomedFor steps s new
    → IsFinishing m start ts done o.on new kept
finishing-begins m start n ts done steps s new opens o kept k number opened held end r =
    let e = m.told.event in
    let i : IsKeptAt m.plan m.program start e.number ts done s opens kept = at_number m start n ts done s opens kept number k in
    let left : ℕ → Bool = λ b. is_observed m.plan b && is_on (answer_at s.sights e.opened b) in
    record {
      serving = serving-along m.plan m.program kept.context start ts m.told done left (is_in o.on) new kept.logs.items
          (λ b. ap (λ bs. is_in bs b) held.on_is ∙ in_filter (is_observed m.plan) (ons_at s.sights o.event) b
          ∙ ap (λ x. is_observed m.plan b && x) (ons-any s.sights o.event b i.current.seen.order ∙ ap (λ y. is_on (answer_at s.sights y b)) (sym opened)))
          (serving-quiet m.plan m.program kept.context start ts m.told done left s new kept.logs.items
          (serving-end m.plan m.program kept.context start ts m.told done s kept.logs.items end (omega (arith, opened, held.before, number)) i.current) r.quiet);
      stood = replies-same done s new r.replies i.stood;
      seen = i.seen ∙ sym r.quiet.sights;
      bound = ap (λ x. list_all (λ w. nat_lt w.binding (length x.rows)) new.sights) r.quiet.table
          ∙ ap (λ ss. list_all (λ w. nat_lt w.binding (length s.table.rows)) ss) r.quiet.sights ∙ i.bound;
    }

-- ---- an end is over

pub kept-leave : (m : At) (start : ℕ → Known) (n : ℕ) (ts : List Told) (done : List (ℕ × ActResult)) (steps : ℕ) (s mid new : Standing) (opens rest : List Opened) (o : Opened) (kept after : Deliveries)
    → IsKeptAt m.plan m.program start n ts done s opens kept → m.told.event.number ≡ n → m.told.event.opened ≡ o.event → n < 2 ^ 25 → is_enter m.told.event.kind ≡ false → opens ≡ rest ++ o ∷ [] → All (IsOpened m.plan s.sights n) rest → IsOpened m.plan s.sights n o
    → IsRoomedFor steps s mid → IsFit o.on mid kept → IsFit [] new after
    → IsUsed m.told.event.number (length o.on) mid new kept after → IsFinishing m start ts done [] new after
    → IsKeptAt m.plan m.program start (n + 1) (ts ++ m.told ∷ []) done new rest after
kept-leave m start n ts done steps s mid new opens rest o kept after k number opened few end split others held r fit over used finish =
    let e = m.told.event in
    let table : new.table ≡ s.table = ap (λ x. x.table) used.steady ∙ r.quiet.table in
    let same : length new.table.rows ≡ length s.table.rows = ap (λ x. length x.rows) table in
    let middle : length mid.table.rows ≡ length s.table.rows = ap (λ x. length x.rows) r.quiet.table in
    let short : 0 + length o.on ≤ length mid.table.rows = rising_length 0 (length mid.table.rows) o.on (omega arith) fit.rising (from_zero o.on) fit.below in
    let current : IsCurrent m.plan m.program after.context start (n + 1) (ts ++ m.told ∷ []) done new after.logs.items =
    serving-over m.plan m.program after.context start ts m.told done (is_in []) new after.logs.items (n + 1) (λ b. refl) (omega (arith, number)) (omega (arith, opened, held.before)) finish.serving in
    record {
      current = current;
      stood = finish.stood;
      table = table ∙ k.table;
      nodes = ap (λ x. x.nodes) used.steady ∙ ap (λ x. x.nodes) r.steady ∙ k.nodes;
      seen = finish.seen;
      count = used.logs ∙ k.count ∙ sym same;
      rows = omega (arith, same, k.rows);
      bound = finish.bound;
      open_are = ap (map (λ x. x.number)) (open_push [] ts m.told ∙ end_closes e.kind e (open_after [] ts) end)
          ∙ sym (drop-map (λ (x : Event). x.number) 1 (open_after [] ts))
          ∙ ap (drop 1) (k.open_are ∙ ap (λ xs. reverse (map (λ x. x.event) xs)) split ∙ numbers_pushed rest o);
      opened = opened_later m.plan n (n + 1) s.sights new.sights rest (omega arith)
          (λ x h. used.ons x (ap (λ y. y == x) number ∙ h) ∙ ap (λ ss. ons_at ss x) r.quiet.sights) others;
      few = omega (arith, few);
      share = omega (arith, k.share, r.share, used.share, short, middle, k.rows);
      cleared = omega (arith, k.cleared, r.cleared, used.cleared);
      loads = omega (arith, current.all, enters-more ts m.told, cond-false {A = ℕ} (is_enter e.kind) 1 0 end, k.current.all, k.loads);
      nothing_due = over.nothing_due;
      is_open = over.is_open;
    }

-- What several splits hand on.
use Rattle.std.proofs.Common.{◌≡◌, ℕ, zero, suc, ◌+◌, ◌<◌, List, [], ◌∷◌, ◌++◌, map, subst, refl, sym, ap, ◌∙◌, arith}
use Rattle.pd_core.specs.declared.view.View.{View}
use Rattle.pd_core.specs.Tokens.{Hub}
use Rattle.pd_core.specs.Views.{spent_view, handed_share}
use Rattle.pd_core.specs.Talks.{new_talk}
use Rattle.pd_core.specs.Runs.{MaySplit}
use Rattle.pd_board.specs.Standing.{Standing}
use Rattle.pd_shared.specs.Sitting.{Sitting, standing_of}
use Rattle.pd_shared.specs.Left.{HasHanded, IsNewcomer}
use Rattle.std.proofs.lemmas.List.{map-append}
use Rattle.std.proofs.lemmas.List.Elements.{All-append}
use Rattle.pd_seats.specs.Shares.{HasFor, HasHandedOn, AreNewcomers}

pub none_handed : (s : Sitting) → HasHandedOn 0 s s
none_handed s = record {
  hub = refl;
  found = (refl, refl);
  taken = refl;
  numbers = refl;
  given = refl;
  seats = omega arith;
  draws = omega arith;
  answers = λ t h. omega arith;
  ends = omega arith;
  stands = refl;
}

pub may_split : (n k : ℕ) (first s : Sitting) → HasFor n first → k < n → HasHandedOn k first s → MaySplit s.hub.layout s.token.pass.view
may_split n k first s has below on = (
  omega (arith, has.seats, on.seats),
  omega (arith, has.draws, on.draws),
  λ t h. let within : t < first.hub.layout.sessions = omega (arith, ap (λ (x : Hub). x.layout.sessions) on.hub, h) in omega (arith, has.answers t within, on.answers t within),
  omega (arith, has.ends, on.ends),
)

pub one_more : (n k : ℕ) (first s new : Sitting) → HasFor n first → k < n → HasHandedOn k first s → HasHanded s new → HasHandedOn (k + 1) first new
one_more n k first s new has below on handed =
    let f : Standing → Standing = λ x. record x { alone = (standing_of new).alone; draw_share = (standing_of new).draw_share; answer_share = (standing_of new).answer_share; end_share = (standing_of new).end_share } in
    record {
      hub = handed.hub ∙ on.hub;
      found = (ap (λ (v : View). v.found_attached) handed.view ∙ on.found.0, ap (λ (v : View). v.found_disposed) handed.view ∙ on.found.1);
      taken = ap (λ (v : View). v.taken) handed.view ∙ on.taken;
      numbers = ap (λ (v : View). v.talk.numbers) handed.view ∙ on.numbers;
      given = ap (λ (v : View). v.talk.handed) handed.view ∙ on.given;
      seats = omega (arith, ap (λ (v : View). v.seat_share) handed.view, on.seats, has.seats);
      draws = omega (arith, ap (λ x. x.draw_share) handed.stands, on.draws, has.draws);
      answers = λ t h. let within : t < s.hub.layout.sessions = omega (arith, ap (λ (x : Hub). x.layout.sessions) on.hub, h) in omega (arith, handed.answers t within, on.answers t h, has.answers t h);
      ends = omega (arith, ap (λ x. x.end_share) handed.stands, on.ends, has.ends);
      stands = ap f handed.stands ∙ ap f on.stands;
    }

pub came_from : (k : ℕ) (first s new : Sitting) → HasHandedOn k first s → IsNewcomer s new → IsNewcomer first new
came_from k first s new on came =
    let N : List ℕ → List ℕ → View = λ a d. record spent_view { seat_share = 1; draw_share = handed_share; talk = new_talk; found_attached = a; found_disposed = d } in
    record {
      hub = came.hub ∙ on.hub;
      table = came.table ∙ ap (λ x. x.table) on.stands;
      view = came.view ∙ (ap (λ a. N a s.token.pass.view.found_disposed) on.found.0 ∙ ap (λ d. N first.token.pass.view.found_attached d) on.found.1);
      seats = came.seats;
      alone = came.alone;
      known = λ b. came.known b ∙ ap (λ x. x.known b) on.stands;
      shares = came.shares;
      replies = came.replies;
      sights = came.sights;
      passes = came.passes;
      numbers = came.numbers;
      ended = came.ended;
      loads = came.loads;
      answer_reads = came.answer_reads;
      end_reads = came.end_reads;
      cleared = came.cleared;
      due = came.due;
    }

pub one_new : (first new : Sitting) → IsNewcomer first new → AreNewcomers first (new ∷ [])
one_new first new came zero d below = came
one_new first new came (suc k) d below = absurd (omega arith)

pub new_more : {P : Type 0} (seat : P → Sitting) (first : Sitting) (ps now : List P) (p : P) → now ≡ ps ++ p ∷ [] → AreNewcomers first (map seat ps) → IsNewcomer first (seat p) → AreNewcomers first (map seat now)
new_more seat first ps now p is was came =
    subst (AreNewcomers first) (sym (ap (map seat) is ∙ map-append seat ps (p ∷ [])))
    (All-append (λ s. IsNewcomer first s) (map seat ps) (seat p ∷ []) was (one_new first (seat p) came))

pub own_more : {P O : Type 0} (own : P → O) (ps now : List P) (os : List O) (p : P) → now ≡ ps ++ p ∷ [] → map own ps ≡ os → map own now ≡ os ++ own p ∷ []
own_more own ps now os p is was = ap (map own) is ∙ (map-append own ps (p ∷ []) ∙ ap (λ x. x ++ own p ∷ []) was)

pub map_same : {A : Type 0} (xs : List A) → map (λ x. x) xs ≡ xs
map_same [] = refl
map_same (x ∷ xs) = ap (λ ys. x ∷ ys) (map_same xs)

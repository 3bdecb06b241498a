-- Lists of events with one more, and frames that change.
use Rattle.std.proofs.Common.{◌≡◌, ℕ, zero, suc, ◌+◌, ◌-◌, List, [], ◌∷◌, ◌++◌, length, map, refl, ap, subst, arith}
use Rattle.std.specs.Prelude.{drop, Option, None, Some}
use Rattle.std.specs.List.{All}
use Rattle.std.proofs.lemmas.List.Elements.{All-cons, All-head, All-tail, All-push, All-pop, All-take}
use Rattle.pd_values.specs.declared.value.Value.{Value}
use Rattle.pd_machine.specs.declared.event.Event.{Event}
use Rattle.pd_machine.specs.declared.run.Frame.{Frame}
use Rattle.pd_machine.specs.declared.run.Home.{Home}
use Rattle.pd_machine.specs.declared.run.Home.TheVariants.{InFrame, InMain}
use Rattle.pd_machine.specs.Events.{Scene, Told, change_at, set_home, standing, push_frame, pop_frame}
use Rattle.pd_machine.proofs.Changed.{length_of_changed}
use Rattle.pd_order.specs.Order.{open_with, open_after, IsEndOf, IsNext, IsNextAt, AreInOrder, AreInOrderFrom}
use Rattle.pd_order.specs.Standing.{FrameIs, place_of}

-- ---- one more event

pub open_push : (live : List Event) (ts : List Told) (t : Told) → open_after live (ts ++ t ∷ []) ≡ open_with t.event.kind t.event (open_after live ts)
open_push live [] t = refl
open_push live (x ∷ ts) t = open_push (open_with x.event.kind x.event live) ts t

order_more : (n : ℕ) (live : List Event) (ts : List Told) (t : Told) → AreInOrderFrom n live ts → IsNextAt (n + length ts) (open_after live ts) t.event → AreInOrderFrom n live (ts ++ t ∷ [])
order_more n live [] t h k =
    let e : n + length {A = Told} [] ≡ n = omega arith in
    (subst (λ m. IsNextAt m live t.event) e k, tt)
order_more n live (x ∷ ts) t h k =
    let rest = open_with x.event.kind x.event live in
    let e : n + length (x ∷ ts) ≡ suc n + length ts = omega arith in
    (h.0, order_more (suc n) rest ts t h.1 (subst (λ m. IsNextAt m (open_after rest ts) t.event) e k))

order_last : (n : ℕ) (live : List Event) (ts : List Told) (t : Told) → AreInOrderFrom n live (ts ++ t ∷ []) → IsNextAt (n + length ts) (open_after live ts) t.event
order_last n live [] t h =
    let e : n ≡ n + length {A = Told} [] = omega arith in
    subst (λ m. IsNextAt m live t.event) e h.0
order_last n live (x ∷ ts) t h =
    let rest = open_with x.event.kind x.event live in
    let e : suc n + length ts ≡ n + length (x ∷ ts) = omega arith in
    subst (λ m. IsNextAt m (open_after rest ts) t.event) e (order_last (suc n) rest ts t h.1)

-- events in order, and the next one
pub order_push : (ts : List Told) (t : Told) → AreInOrder ts → IsNext ts t.event → AreInOrder (ts ++ t ∷ [])
order_push ts t h k =
    let e : length ts ≡ 0 + length ts = omega arith in
    order_more 0 [] ts t h (subst (λ m. IsNextAt m (open_after [] ts) t.event) e k)

-- the last of events in order may be the next one after the others
pub last_is_next : (ts : List Told) (t : Told) → AreInOrder (ts ++ t ∷ []) → IsNext ts t.event
last_is_next ts t h =
    let e : 0 + length ts ≡ length ts = omega arith in
    subst (λ m. IsNextAt m (open_after [] ts) t.event) e (order_last 0 [] ts t h)

-- what waits on top is the innermost that is open
pub ends_innermost : (e : Event) (waits : List (ℕ × ℕ)) (live : List Event) → (e.node, e.opened) ∷ waits ≡ map place_of live → IsEndOf e live × (waits ≡ map place_of (drop 1 live))
ends_innermost e waits [] h = absurd (cc)
ends_innermost e waits (o ∷ live) h =
    let top : (e.node, e.opened) ≡ place_of o = cc in
    let rest : waits ≡ map place_of live = cc in
    ((ap (λ x. x.1) top, ap (λ x. x.0) top), rest)

-- ---- the last of all

pub all_last : {X : Type 0} (Q : X → Type 0) (xs : List X) (x : X) → All Q (xs ++ x ∷ []) → Q x
all_last Q xs x h = (All-pop Q (xs ++ x ∷ []) xs (Some x) refl h).1

-- ---- frames

all_changed : {X : Type 0} (Q : X → Type 0) (xs : List X) (i : ℕ) (f : X → X) → ((x : X) → Q x → Q (f x)) → All Q xs → All Q (change_at xs i f)
all_changed Q [] i f k h = h
all_changed Q (x ∷ xs) zero f k h = All-cons Q (f x) xs (k x (All-head Q x xs h)) (All-tail Q x xs h)
all_changed Q (x ∷ xs) (suc i) f k h = All-cons Q x (change_at xs i f) (All-head Q x xs h) (all_changed Q xs i f k (All-tail Q x xs h))

-- a variable is written in a frame, and their number stays
pub length_written : (c : Scene) (x : Option Home) (slot : ℕ) (a : Value) → length (set_home c x slot a).frames ≡ length c.frames
length_written c None slot a = refl
length_written c (Some (InFrame k)) slot a = length_of_changed c.frames k _
length_written c (Some (InMain m)) slot a = refl

module _ (P : ℕ → Type 0) where
  pub all_written : (c : Scene) (x : Option Home) (slot : ℕ) (a : Value) → All (FrameIs P) c.frames → All (FrameIs P) (set_home c x slot a).frames
  all_written c None slot a h = h
  all_written c (Some (InFrame k)) slot a h = all_changed (FrameIs P) c.frames k _ (λ f g. g) h
  all_written c (Some (InMain m)) slot a h = h

  pub all_standing : (n : ℕ) (c : Scene) → P n → All (FrameIs P) c.frames → All (FrameIs P) (standing n c).frames
  all_standing n c at h = all_changed (FrameIs P) c.frames (length c.frames - 1) _ (λ f g. (g.0, at)) h

  pub all_pushed : (f : Frame) (c : Scene) → FrameIs P f → All (FrameIs P) c.frames → All (FrameIs P) (push_frame f c).frames
  all_pushed f c g h = All-push (FrameIs P) c.frames f h g

  pub all_popped : (c : Scene) → All (FrameIs P) c.frames → All (FrameIs P) (pop_frame c).frames
  all_popped c h = All-take (FrameIs P) (length c.frames - 1) c.frames h

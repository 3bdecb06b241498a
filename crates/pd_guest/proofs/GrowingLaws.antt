-- What the serving of an event adds to what was seen, and to the board's answers.
use Rattle.std.proofs.Common.{◌≡◌, ℕ, Bool, true, false, ◌&&◌, List, [], ◌∷◌, ◌++◌, map, refl, sym, ap, ◌∙◌, subst, None, Some}
use Rattle.std.specs.Prelude.{◌==◌, if◌then◌else◌}
use Rattle.std.specs.List.{list_all, filter_map}
use Rattle.std.proofs.lemmas.Bool.{and_parts, and_from, eq-eqb}
use Rattle.std.proofs.lemmas.List.{append-nil, append_assoc, map-append}
use Rattle.std.proofs.lemmas.List.Elements.{filter_map-append}
use Rattle.pd_plan.specs.declared.plan.Plan.{Plan}
use Rattle.pd_board.specs.declared.answers.ActResult.{ActResult}
use Rattle.pd_board.specs.declared.answers.ActResult.TheVariants as results
use Rattle.pd_board.specs.declared.answers.Dispose.{Dispose}
use Rattle.pd_board.specs.declared.answers.Drawn.{Drawn}
use Rattle.pd_board.specs.declared.answers.Sight.{Sight}
use Rattle.pd_board.specs.Standing.{Standing}
use Rattle.pd_record.specs.Acts.{uses_up}
use Rattle.pd_record.specs.Replies.{used_up_by, Owed, of_hit, AreFor}
use Rattle.pd_guest.specs.declared.deliver.Deliveries.{Deliveries}
use Rattle.pd_guest.specs.Moment.{At}
use Rattle.pd_guest.specs.Delivering.{IsTaken, spent_by}
use Rattle.pd_guest.specs.Offering.{IsOffered}
use Rattle.pd_guest.specs.Offering as offered
use Rattle.pd_guest.specs.Finishing.{IsFinished}
use Rattle.pd_guest.specs.Finishing as finished
use Rattle.pd_guest.specs.Growing.{IsMore}
use Rattle.pd_guest.proofs.OfferingLaws.{no_acts}

-- ---- answers, one after another

pub replies-both : (ds es : List Owed) (rs us : List ActResult) → AreFor ds rs → AreFor es us → AreFor (ds ++ es) (rs ++ us)
replies-both [] es [] us h k = k
replies-both [] es (r ∷ rs) us h k = absurd h
replies-both (d ∷ ds) es [] us h k = absurd h
replies-both (d ∷ ds) es (r ∷ rs) us h k = (h.0, replies-both ds es rs us h.1 k)

all_both : (n : ℕ) (xs ys : List Sight) → list_all (λ x. x.event == n) xs ≡ true → list_all (λ x. x.event == n) ys ≡ true → list_all (λ x. x.event == n) (xs ++ ys) ≡ true
all_both n [] ys h k = k
all_both n (x ∷ xs) ys h k = let parts = and_parts (x.event == n) (list_all (λ y. y.event == n) xs) h in and_from _ _ parts.0 (all_both n xs ys parts.1 k)

-- ---- nothing more, and more after more

pub more-none : (plan : Plan) (n : ℕ) (old new : Standing) → new.sights ≡ old.sights → new.replies ≡ old.replies → IsMore plan n old new
more-none plan n old new sights replies = record {
  news = [];
  sights = sights ∙ sym (append-nil old.sights);
  now = refl;
  more = [];
  replies = replies ∙ sym (append-nil old.replies);
  replied = tt;
}

pub more-after : (plan : Plan) (n : ℕ) (old mid new : Standing) → IsMore plan n old mid → IsMore plan n mid new → IsMore plan n old new
more-after plan n old mid new a b = record {
  news = a.news ++ b.news;
  sights = b.sights ∙ ap (λ x. x ++ b.news) a.sights ∙ append_assoc old.sights a.news b.news;
  now = all_both n a.news b.news a.now b.now;
  more = a.more ++ b.more;
  replies = b.replies ∙ ap (λ x. x ++ b.more) a.replies ∙ append_assoc old.replies a.more b.more;
  replied = subst (λ ds. AreFor ds (a.more ++ b.more))
      (sym (ap (map of_hit) (filter_map-append (used_up_by plan n) a.news b.news) ∙ map-append of_hit (filter_map (used_up_by plan n) a.news) (filter_map (used_up_by plan n) b.news)))
      (replies-both (map of_hit (filter_map (used_up_by plan n) a.news)) (map of_hit (filter_map (used_up_by plan n) b.news)) a.more b.more a.replied b.replied);
}

-- ---- a draw

spent_replied : (plan : Plan) (n b : ℕ) (d : Drawn) (r : Dispose) (is : Bool) → uses_up plan b d ≡ is
    → AreFor (map of_hit (filter_map (used_up_by plan n) ((record { event = n; binding = b; drawn = d }) ∷ []))) (spent_by is b r)
spent_replied plan n b d r true h =
    subst (λ (o : Bool). AreFor (map of_hit (filter_map (λ (s : Sight). if o then Some s.binding else None) ((record { event = n; binding = b; drawn = d }) ∷ []))) (results.Disposed b r ∷ []))
    (sym (and_from (n == n) (uses_up plan b d) (eq-eqb n n refl) h)) (eq-eqb b b refl, tt)
spent_replied plan n b d r false h =
    subst (λ (o : Bool). AreFor (map of_hit (filter_map (λ (s : Sight). if o then Some s.binding else None) ((record { event = n; binding = b; drawn = d }) ∷ []))) [])
    (sym (no_right (n == n) (uses_up plan b d) h)) tt
  where
    no_right : (x y : Bool) → y ≡ false → (x && y) ≡ false
    no_right true y h = h
    no_right false y h = refl

pub more-taken : (plan : Plan) (n b : ℕ) (d : Drawn) (old new : Standing) → IsTaken plan n b d old new → IsMore plan n old new
more-taken plan n b d old new t = record {
  news = (record { event = n; binding = b; drawn = d }) ∷ [];
  sights = (t.drawn [] (no_acts old)).sights;
  now = and_from _ _ (eq-eqb n n refl) refl;
  more = spent_by (uses_up plan b d) b t.disposal;
  replies = t.replies;
  replied = spent_replied plan n b d t.disposal (uses_up plan b d) refl;
}

pub more-offered : (m : At) (b : ℕ) (old new : Standing) (before after : Deliveries) (on given : List ℕ) → IsOffered m b old new before after on given → IsMore m.plan m.told.event.number old new
more-offered m b old new before after on given (offered.drawn d true_there x k) = more-taken m.plan m.told.event.number b d old new x.taken
more-offered m b old new before after on given (offered.refused false_there x same k) = more-none m.plan m.told.event.number old new x.refused.sights x.replies
more-offered m b old new before after on given (offered.swept x same k) = more-none m.plan m.told.event.number old new x.quiet.sights x.replies

pub more-finished : (m : At) (b : ℕ) (old new : Standing) (before after : Deliveries) → IsFinished m b old new before after → IsMore m.plan m.told.event.number old new
more-finished m b old new before after (finished.drawn d x) = more-taken m.plan m.told.event.number b d old new x.taken
more-finished m b old new before after (finished.passed x same) = more-none m.plan m.told.event.number old new x.passed.sights x.replies

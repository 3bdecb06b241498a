-- From the greatest count of a toggle on, each number has the same toggles up to it.
use Rattle.std.proofs.Common.{◌≡◌, ℕ, ◌+◌, ◌≤◌, ◌==◌, ◌&&◌, List, [], ◌∷◌, Bool, true, false, if◌then◌else◌, Some, None, sym, refl, ◌∙◌, arith}
use Rattle.std.specs.Prelude.{nat_le, count_by as how_many}
use Rattle.std.specs.Option.{ForSome}
use Rattle.std.proofs.lemmas.Bool.{le-leb}
use Rattle.std.proofs.lemmas.List.Elements.{All-head, All-tail}
use Rattle.pd_board.specs.declared.answers.ActResult.{ActResult}
use Rattle.pd_board.specs.declared.answers.ActResult.TheVariants as acts
use Rattle.pd_board.specs.declared.answers.Toggle.TheVariants as toggles
use Rattle.pd_board.specs.Answers.{toggle_count, TogglesUpTo}
use Rattle.pd_board.specs.Kept.{disables_upto, enables_upto}
use Rattle.pd_core.specs.Counts.{total, one_if}
use Rattle.pd_shared.proofs.AllLemmas.{count_total}

module _ (b m n : ℕ) (le : m ≤ n) where
  abbrev Low : ActResult → Type 0
  Low r = ForSome (toggle_count b r) (λ c. c ≤ m)

  same_test : (k : ℕ) (test : Bool) → ForSome (if test then Some k else None) (λ c. c ≤ m) → (test && nat_le k n) ≡ (test && nat_le k m)
  same_test k true h = let low = h k refl in le-leb k n (omega (arith, low, le)) ∙ sym (le-leb k m low)
  same_test k false h = refl

  disable_same : (r : ActResult) → Low r → disables_upto b n r ≡ disables_upto b m r
  disable_same (acts.Disabled c (toggles.At k)) h = same_test k (c == b) h
  disable_same (acts.Disabled c toggles.Already) h = refl
  disable_same (acts.Disabled c toggles.Gone) h = refl
  disable_same (acts.Enabled c t) h = refl
  disable_same (acts.Attached c a) h = refl
  disable_same (acts.Disposed c a) h = refl

  enable_same : (r : ActResult) → Low r → enables_upto b n r ≡ enables_upto b m r
  enable_same (acts.Enabled c (toggles.At k)) h = same_test k (c == b) h
  enable_same (acts.Enabled c toggles.Already) h = refl
  enable_same (acts.Enabled c toggles.Gone) h = refl
  enable_same (acts.Disabled c t) h = refl
  enable_same (acts.Attached c a) h = refl
  enable_same (acts.Disposed c a) h = refl

  totals : (f g : ActResult → Bool) → ((r : ActResult) → Low r → f r ≡ g r) → (rs : List ActResult) → TogglesUpTo b m rs → total (λ r. one_if (f r)) rs ≡ total (λ r. one_if (g r)) rs
  unfolding total
  totals f g one [] low = refl
  totals f g one (r ∷ rs) low = λ i. one_if (one r (All-head Low r rs low) i) + totals f g one rs (All-tail Low r rs low) i

pub disables_settled : (b m n : ℕ) (rs : List ActResult) → m ≤ n → TogglesUpTo b m rs → how_many (disables_upto b n) rs ≡ how_many (disables_upto b m) rs
disables_settled b m n rs le low = sym (count_total (disables_upto b n) rs) ∙ (totals b m n le (disables_upto b n) (disables_upto b m) (disable_same b m n le) rs low ∙ count_total (disables_upto b m) rs)

pub enables_settled : (b m n : ℕ) (rs : List ActResult) → m ≤ n → TogglesUpTo b m rs → how_many (enables_upto b n) rs ≡ how_many (enables_upto b m) rs
enables_settled b m n rs le low = sym (count_total (enables_upto b n) rs) ∙ (totals b m n le (enables_upto b n) (enables_upto b m) (enable_same b m n le) rs low ∙ count_total (enables_upto b m) rs)

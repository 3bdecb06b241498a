-- A text to which six pieces were added.
use Rattle.std.proofs.Common.{◌≡◌, ℕ, List, ◌++◌, append_assoc, ◌∙◌}

pub six_pieces : (old a b c d e f t u v w x y : List ℕ) → t ≡ old ++ a → u ≡ t ++ b → v ≡ u ++ c → w ≡ v ++ d → x ≡ w ++ e → y ≡ x ++ f
    → y ≡ old ++ (((((a ++ b) ++ c) ++ d) ++ e) ++ f)
six_pieces old a b c d e f t u v w x y one two three four five six =
    let whole : y ≡ ((((((old ++ a) ++ b) ++ c) ++ d) ++ e) ++ f) = cc in
    whole ∙ simp append_assoc

-- The names of constants and of variables, one by one.
use Rattle.std.proofs.Common.{◌≡◌, ℕ, ◌+◌, ◌*◌, ◌<◌, List, [], ◌∷◌, ◌++◌, length, get_or, ap, ◌∙◌, length-append, arith}
use Rattle.std.proofs.lemmas.List.{get_or_push}
use Rattle.std.proofs.Math.ListN.{get_or-append}
use borrow.Author.Count.{below_more}
use Rattle.pd_sections.specs.declared.Token.{Token}
use Rattle.pd_pl0_parse.specs.Texts.{text_at}
use Rattle.pd_pl0_parse.specs.Additions.{IsText, AreNames}

text_more : (bytes a b : List ℕ) → a ≡ b → IsText bytes b → IsText bytes a
text_more bytes a b e h u = e ∙ h u

pub names_more : (bytes : List ℕ) (tokens : List Token) (first step n : ℕ) (names : List (List ℕ)) (name : List ℕ) → AreNames bytes tokens first step n names → IsText (text_at bytes tokens (first + step * n)) name → AreNames bytes tokens first step (n + 1) (names ++ name ∷ [])
names_more bytes tokens first step n names name h t = record {
  many = length-append names (name ∷ []) ∙ ap (λ m. m + 1) h.many;
  each = below_more (λ k. IsText (text_at bytes tokens (first + step * k)) (get_or (names ++ name ∷ []) k [])) n
      (λ k lt. let within : k < length names = omega (arith, h.many) in text_more (text_at bytes tokens (first + step * k)) _ (get_or names k []) (get_or-append names (name ∷ []) [] k within) (h.each k lt))
      (text_more (text_at bytes tokens (first + step * n)) _ name (get_or_push names name [] n h.many) t);
}

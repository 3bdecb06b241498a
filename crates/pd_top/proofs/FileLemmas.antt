-- The bytes that were fetched, and the files of the sources so far.
use Rattle.std.proofs.Common.{◌≡◌, ◌<◌, ◌≤◌, ◌+◌, ◌∙◌, ℕ, suc, zero, List, [], ◌∷◌, ◌++◌, length, take, refl, ap, sym, subst, arith, inl, inr, Option, None, Some, get_or}
use Rattle.std.specs.Prelude.{IfSome, unwrap_or}
use Rattle.std.specs.Option.{option_map}
use Rattle.std.proofs.lemmas.List.{take_all, length-take}
use Rattle.pd_outside.specs.Files.{Given}
use Rattle.pd_sections.specs.Written.{Written}
use Rattle.pd_plan.specs.declared.plan.SourceSpec.{SourceSpec}
use Rattle.pd_top.specs.Files.{Files, Held, most_bytes, IsContent, IsAdded, IsRead, IsShort, IsLong, AreSources, IsReachedAmong}
use Rattle.pd_top.proofs.GivenLemmas.{one_added}

-- ---- what was fetched

-- the first bytes that were asked for
abbrev pub IsFetched : Held → List ℕ → List ℕ → Type 0
IsFetched held file bytes = IfSome held (λ f. option_map (take 1048577) (f file) ≡ Some bytes)

inside : (w bytes : List ℕ) → Some (take 1048577 w) ≡ Some bytes → take 1048577 w ≡ bytes
inside w bytes e = ap (λ o. unwrap_or o bytes) e

-- all of a short file was fetched
whole : (o : Option (List ℕ)) (bytes : List ℕ) → option_map (take 1048577) o ≡ Some bytes → length bytes ≤ 1048576 → o ≡ Some bytes
whole None bytes e short = cc
whole (Some w) bytes e short =
    let front : take 1048577 w ≡ bytes = inside w bytes e in
    let long : length (take 1048577 w) ≡ length bytes = ap length front in
    ap Some (sym (take_all 1048577 w (grind (arith, long, short, length-take 1048577 w))) ∙ front)

content_of : (held : Held) (file bytes : List ℕ) → IsFetched held file bytes → length bytes ≤ 1048576 → IsContent held file bytes
content_of None file bytes e short = tt
content_of (Some f) file bytes e short = whole (f file) bytes e short

-- the answer that was given is the one that a file with these bytes has
answer_of : (a b : List Given) (file given bytes : List ℕ) → take 1048577 bytes ≡ given → b ≡ a ++ record { name = file; limit = 1048577; bytes = given } ∷ []
    → IsAdded a b (record { name = file; limit = most_bytes + 1; bytes = take (most_bytes + 1) bytes })
answer_of a b file given bytes front is =
    one_added a b (record { name = file; limit = most_bytes + 1; bytes = take (most_bytes + 1) bytes })
    (is ∙ ap (λ g. a ++ record { name = file; limit = 1048577; bytes = g } ∷ []) (sym front))

pub short_of : (held : Held) (a b : List Given) (file bytes : List ℕ) → IsFetched held file bytes → b ≡ a ++ record { name = file; limit = 1048577; bytes = bytes } ∷ []
    → length bytes ≤ 1048576 → IsShort (IsRead held a b) file bytes
short_of held a b file bytes e is short = record {
  has = record {
    content = content_of held file bytes e short;
    answer = answer_of a b file bytes bytes (take_all 1048577 bytes (omega (arith, short))) is;
  };
  short = short;
}

-- a file of which more was fetched is too long
long_file : (f : List ℕ → Option (List ℕ)) (a b : List Given) (file bytes : List ℕ) (o : Option (List ℕ)) → f file ≡ o → option_map (take 1048577) o ≡ Some bytes
    → b ≡ a ++ record { name = file; limit = 1048577; bytes = bytes } ∷ [] → 1048576 < length bytes → IsLong (IsRead (Some f) a b) file
long_file f a b file bytes None found e is long = cc
long_file f a b file bytes (Some w) found e is long =
    let front : take 1048577 w ≡ bytes = inside w bytes e in
    let many : length (take 1048577 w) ≡ length bytes = ap length front in
    record { bytes = w; has = record { content = found; answer = answer_of a b file bytes w front is }; long = grind (arith, many, long, length-take 1048577 w) }

pub long_of : (held : Held) (a b : List Given) (file bytes : List ℕ) → IsFetched held file bytes → b ≡ a ++ record { name = file; limit = 1048577; bytes = bytes } ∷ []
    → length bytes ≤ 1048577 → 1048576 < length bytes → IsLong (IsRead held a b) file
long_of None a b file bytes e is most long =
    record { bytes = bytes; has = record { content = tt; answer = answer_of a b file bytes bytes (take_all 1048577 bytes most) is }; long = long }
long_of (Some f) a b file bytes e is most long = long_file f a b file bytes (f file) refl e is long

-- ---- the sources so far

-- one more source
sources_next : (files : Files) (ss : List SourceSpec) (ws : List Written) (i : ℕ) (s : SourceSpec) (w : Written) → AreSources files (take i ss) ws
    → i < length ss → s ≡ get_or ss i s → w.name ≡ s.name → IsShort files s.name w.bytes → AreSources files (take (suc i) ss) (ws ++ w ∷ [])
sources_next files [] ws i s w are within there name short = absurd (omega (arith, within))
sources_next files (x ∷ ss) [] zero s w are within there name short =
    (subst (λ (y : SourceSpec). w.name ≡ y.name) there name, subst (λ (y : SourceSpec). IsShort files y.name w.bytes) there short, tt)
sources_next files (x ∷ ss) (v ∷ ws) zero s w are within there name short = absurd are
sources_next files (x ∷ ss) [] (suc i) s w are within there name short = absurd are
sources_next files (x ∷ ss) (v ∷ ws) (suc i) s w are within there name short =
    (are.0, are.1, sources_next files ss ws i s w are.2 (omega (arith, within)) there name short)

pub sources_more : (files : Files) (ss : List SourceSpec) (ws : List Written) (i : ℕ) (s : SourceSpec) (w : Written) → AreSources files (take i ss) ws
    → i < length ss → s ≡ get_or ss i s → w.name ≡ s.name → IsShort files s.name w.bytes → AreSources files (take (i + 1) ss) (ws ++ w ∷ [])
sources_more files ss ws i s w are within there name short =
    let next : suc i ≡ i + 1 = omega arith in subst (λ n. AreSources files (take n ss) (ws ++ w ∷ [])) next (sources_next files ss ws i s w are within there name short)

-- the source behind those that are read is reached
pub reached_next : (files : Files) (ss : List SourceSpec) (ws : List Written) (i : ℕ) (s : SourceSpec) (file : List ℕ) → AreSources files (take i ss) ws
    → i < length ss → s ≡ get_or ss i s → file ≡ s.name → IsReachedAmong files ss file
reached_next files [] ws i s file are within there is = absurd (omega (arith, within))
reached_next files (x ∷ ss) ws zero s file are within there is = inl (ap (λ (y : SourceSpec). y.name) (sym there) ∙ sym is)
reached_next files (x ∷ ss) [] (suc i) s file are within there is = absurd are
reached_next files (x ∷ ss) (v ∷ ws) (suc i) s file are within there is =
    inr (v.bytes, are.1, reached_next files ss ws i s file are.2 (omega (arith, within)) there is)

pub sources_counted : (files : Files) (ss : List SourceSpec) (ws : List Written) → AreSources files ss ws → length ws ≡ length ss
sources_counted files [] [] are = refl
sources_counted files [] (w ∷ ws) are = absurd are
sources_counted files (s ∷ ss) [] are = absurd are
sources_counted files (s ∷ ss) (w ∷ ws) are = ap suc (sources_counted files ss ws are.2)

use Rattle.std.proofs.Common.{◌+◌, ◌<◌, drop, subst, sym, Vec, Global}
use Rattle.pd_sections.specs.declared.Token.{Token}
use Rattle.pd_sections.specs.declared.Rule.TheVariants.{BadByte}
use Rattle.pd_sections.specs.declared.Piece.TheVariants.{Fault}
use Rattle.pd_sections.specs.Lexing.{IsLongest, IsRefused, Splits, StartsNoPiece, FaultWithin}
use Rattle.pd_sections.proofs.Leading.{Leads, past_a_blank, past_a_token, ends_there, at_a_fault, at_no_piece}
use Rattle.pd_sections.proofs.split.Goals as goal
use Rattle.pd_sections.proofs.split.Goals.{in-Blank, in-Word+in_ok-push-in-Word}

pub returns-in_default-clause-refused : goal.returns-in_default-clause-refused
returns-in_default-clause-refused g c =
    let bytes = c.bytes-bytes.result.now in
    let none = subst (λ xs. StartsNoPiece g.L.Lexicon.piece_of xs) c.split_at.ensures.back c.in_default.ensures.none in
    subst (λ xs. IsRefused g.L.Lexicon.piece_of xs (record { rule = BadByte; at = c.loop-at.at })) c.bytes-bytes.ensures.value
    (at_no_piece g.L.Lexicon.piece_of bytes c.loop-at.at c.loop-at.tokens.items c.loop-at.invariant c.loop-at-test.true none)

pub returns-in-Fault-clause-refused : goal.returns-in-Fault-clause-refused
returns-in-Fault-clause-refused g c =
    let bytes = c.bytes-bytes.result.now in
    let fault = Fault c.in-Fault.rule c.in-Fault.behind in
    let some = subst (λ xs. IsLongest g.L.Lexicon.piece_of xs c.in-Some.piece c.in-Some.len) c.split_at.ensures.back c.in-Some.ensures.some in
    let is_fault = subst (λ p. IsLongest g.L.Lexicon.piece_of (drop c.loop-at.at bytes) p c.in-Some.len) c.in-Fault.is some in
    let within : c.in-Fault.behind < c.in-Some.len = subst (λ p. FaultWithin p c.in-Some.len) c.in-Fault.is c.in-Some.ensures.fault in
    subst (λ xs. IsRefused g.L.Lexicon.piece_of xs (record { rule = c.in-Fault.rule; at = c.loop-at.at + c.in-Fault.behind })) c.bytes-bytes.ensures.value
    (at_a_fault g.L.Lexicon.piece_of bytes c.loop-at.at c.in-Some.len c.in-Fault.behind c.in-Fault.rule c.loop-at.tokens.items c.loop-at.invariant is_fault within)

pub loop-at-preserved : goal.loop-at-preserved
loop-at-preserved g c =
    let f = g.L.Lexicon.piece_of in
    let bytes = c.bytes-bytes.result.now in
    let at = c.loop-at.at in
    let len = c.in-Some.len in
    let some = subst (λ xs. IsLongest f xs c.in-Some.piece len) c.split_at.ensures.back c.in-Some.ensures.some in
    elim c.match-piece.branch [
      | in-Blank w ↦
          let blank = subst (λ p. IsLongest f (drop at bytes) p len) w.in-Blank.is some in
          subst (λ (v : Vec Token Global). Leads f bytes (at + len) v.items) (sym w.tokens-is) (past_a_blank f bytes at len c.loop-at.tokens.items c.loop-at.invariant blank)
      | in-Word+in_ok-push-in-Word w ↦
          let word = subst (λ p. IsLongest f (drop at bytes) p len) w.in-Word.is some in
          subst (λ (v : Vec Token Global). Leads f bytes (at + len) v.items) (sym w.tokens-is)
          (subst (λ ts. Leads f bytes (at + len) ts) (sym w.in_ok-push-in-Word.ensures.items)
          (past_a_token f bytes at len w.in-Word.kind c.loop-at.tokens.items c.loop-at.invariant word))
    ]

pub returns-clause-tokens : goal.returns-clause-tokens
returns-clause-tokens g c =
    subst (λ xs. Splits g.L.Lexicon.piece_of xs c.of.result) c.bytes-bytes.ensures.value
    (subst (λ ts. Splits g.L.Lexicon.piece_of c.bytes-bytes.result.now ts) (sym c.of.ensures)
    (ends_there g.L.Lexicon.piece_of c.bytes-bytes.result.now c.loop-at.at c.loop-at.tokens.items c.loop-at.invariant c.loop-at-test.false))
